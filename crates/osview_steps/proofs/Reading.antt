-- What is kept of a run is what the activations read in its meaning.
use Rattle.std.proofs.Common.{◌≡◌, ◌∙◌, ℕ, ℤ, true, List, [], None, Option, Some, length, get_or, map, refl, sym, ap}
use Rattle.std.specs.Prelude.{slice_get}
use Rattle.std.specs.Option.{option_map, option_map_or}
use Rattle.std.proofs.lemmas.List.{length-map}
use Rattle.std.proofs.lemmas.Option.{same_Some, slice_get_within}
use Rattle.epoch_run_bodies.proofs.Counts.{length-reads}
use Rattle.flow_core_laws.specs.Element.{element}
use Rattle.flow_core_laws.specs.Outcome.{State, ends_of, outcome_at, outcome_of}
use Rattle.flow_core_laws.specs.Plans.{plan_element, plan_meaning, plan_reads}
use Rattle.flow_core_laws.specs.Poisoning.{least_root, poisoning, values_of}
use Rattle.flow_core_laws.specs.Round.{gathered, inputs_in}
use Rattle.flow_core_laws.specs.StandsFor.{StandsFor}
use Rattle.flow_core_laws.specs.Streams.{own_number, stream_element, stream_meaning, stream_reads}
use Rattle.flow_core_laws.specs.declared.activation.Activation.{Activation}
use Rattle.flow_core_laws.specs.declared.elem.Elem.{Elem}
use Rattle.flow_core_laws.specs.declared.elem.Elem.TheVariants.{Value}
use Rattle.flow_core_laws.specs.declared.outcome.Outcome.{Outcome}
use Rattle.flow_core_laws.specs.declared.plan.Plan.{Plan}
use Rattle.flow_core_laws.specs.declared.task_end.TaskEnd.{TaskEnd}
use Rattle.flow_core_laws.specs.declared.task_end.TaskEnd.TheVariants.{Poisoned}
use Rattle.flow_core_laws.proofs.Elements.{element_kept, number_at_own}
use Rattle.flow_core_laws.proofs.Gathering.{length-gathered}
use Rattle.flow_core_laws.proofs.OneMore.{length-values}
use Rattle.flow_core_laws.proofs.Roots.{others_are_values}
use Rattle.flow_core_laws.proofs.Rounds.{outcome_at-meaning}
use Rattle.flow_core_laws.proofs.There.{end_of}
use Rattle.os_code.specs.Tasks.{input_count}
use Rattle.osview_outcomes.specs.Outcomes.{AreOutcomesOf, HasInputs}
use Rattle.osview_outcomes.specs.declared.kept.Outcomes.{Outcomes}
use Rattle.osview_steps.specs.Steps.{did_run, has_run}
use Rattle.osview_steps.specs.Taking.{end_at, inputs_at}

-- one whose body ran has an outcome, which isn't poisoned
pub outcome_of_run : (o : Option Outcome) → has_run (option_map (λ (q : Outcome). q.end) o) ≡ true → (q : Outcome) × (o ≡ Some q) × (did_run q.end ≡ true)
outcome_of_run None h = absurd (cc)
outcome_of_run (Some q) h = (q, refl, h)

-- what isn't poisoned reads no poison
no_root : (body : ℕ → List ℤ → Outcome) (a : ℕ) (es : List Elem) → did_run (poisoning body a es).end ≡ true → least_root es ≡ None
no_root body a es ran = by_root (least_root es) refl ran
  where
    by_root : (root : Option ℕ) → least_root es ≡ root → did_run (option_map_or (λ (r : ℕ). outcome_of (Poisoned r) []) root (body a (values_of es))).end ≡ true → least_root es ≡ None
    by_root None is h = is
    by_root (Some r) is h = absurd (cc)

module _ (activations : List Activation) (input : List ℕ) (plan : Plan) (outcomes : Outcomes) (body : ℕ → List ℤ → Outcome) (stands : StandsFor plan activations input)
    (same : plan_meaning plan body ≡ stream_meaning activations input body) (are : AreOutcomesOf outcomes (plan_meaning plan body)) (has : HasInputs outcomes plan (plan_meaning plan body)) where
  -- the ends are those of the meaning
  pub ends_are : outcomes.ends.items ≡ ends_of (stream_meaning activations input body)
  ends_are = are.ends ∙ ap ends_of same

  -- an activation whose body ran has an outcome
  pub has_outcome : (a : ℕ) → has_run (end_at outcomes a) ≡ true → (o : Outcome) × (outcome_at (stream_meaning activations input body) a ≡ Some o) × (did_run o.end ≡ true)
  has_outcome a ran = outcome_of_run (outcome_at (stream_meaning activations input body) a)
      (ap has_run (sym (ap (λ (es : List (Option TaskEnd)). get_or es a None) ends_are ∙ end_of (stream_meaning activations input body) a)) ∙ ran)

  -- and read values
  pub read_at : (a : ℕ) (x : Activation) → slice_get activations a ≡ Some x → has_run (end_at outcomes a) ≡ true
      → (inputs_in stream_element (stream_reads activations input) (stream_meaning activations input body) a ≡ Some (map Value (inputs_at outcomes a)))
      × (length (inputs_at outcomes a) ≡ input_count x)
  read_at a x x_is ran =
      let meaning = stream_meaning activations input body in
      let lt = slice_get_within activations a x x_is in
      let (o, o_is, did) = has_outcome a ran in
      let reads = has.inputs a o (ap (λ (s : State). outcome_at s a) same ∙ o_is) in
      let es = reads.elements in
      let there : inputs_in stream_element (stream_reads activations input) meaning a ≡ Some es =
      ap (λ (rs : List _). gathered (map (stream_element meaning) rs)) (sym (stands.cells_are_window_elements a lt))
      ∙ ap (λ (n : ℕ → ℕ). gathered (map (element n meaning) (plan_reads plan a))) (sym (number_at_own plan activations input stands))
      ∙ ap (λ (s : State). gathered (map (plan_element plan s) (plan_reads plan a))) (sym same)
      ∙ reads.are_there in
      let fixed = outcome_at-meaning stream_element (element_kept own_number) (stream_reads activations input) (poisoning body) (length activations) a lt in
      let o_same : Some o ≡ Some (poisoning body a es) = sym o_is ∙ fixed ∙ ap (option_map (poisoning body a)) there in
      let o_poisoning : o ≡ poisoning body a es = same_Some o (poisoning body a es) o_same in
      let none : least_root es ≡ None = no_root body a es (ap (λ (q : Outcome). did_run q.end) (sym o_poisoning) ∙ did) in (
        there ∙ ap (λ (xs : List Elem). Some xs) (others_are_values es none) ∙ ap (λ (vs : List ℤ). Some (map Value vs)) (sym reads.values_are),
        ap length reads.values_are ∙ length-values es none ∙ length-gathered (map (stream_element meaning) (stream_reads activations input a)) es there
            ∙ length-map (stream_reads activations input a) (stream_element meaning) ∙ length-reads activations input a x x_is,
      )
