-- A sound plan with its meaning is fit.
use Rattle.std.proofs.Common.{◌≡◌, ℕ, ◌<◌, ℤ, List, Option, Some, None, map, length, refl, sym, ap, ◌∙◌, ◌≢◌, []}
use Rattle.std.specs.Prelude.{◌≤◌, ⊤, IsSome, is_some}
use Rattle.std.specs.Option.{option_map, option_map_or}
use Rattle.std.proofs.lemmas.List.{length-map}
use Rattle.std.proofs.lemmas.List.FromFn.{length-range_with_len}
use Rattle.std.proofs.lemmas.Option.{same_Some}
use Rattle.flow_core_laws.specs.Outcome.{outcome_at, State, outcome_of}
use Rattle.flow_core_laws.specs.Round.{inputs_in}
use Rattle.flow_core_laws.proofs.Rounds.{outcome_at-meaning}
use Rattle.flow_core_laws.proofs.Gathering.{length-gathered}
use Rattle.flow_core_laws.proofs.Roots.{others_are_values}
use Rattle.flow_core_laws.specs.declared.elem.Elem.TheVariants.{Value}
use Rattle.flow_core_laws.specs.declared.outcome.Outcome.{Outcome}
use Rattle.flow_core_laws.specs.declared.task_end.TaskEnd.TheVariants.{Done, Trapped, Poisoned}
use Rattle.flow_core_laws.specs.Plans.{plan_element, frame_at, cells_of, cell_source, plan_reads, plan_meaning, number_at}
use Rattle.flow_core_laws.specs.IsSound.{IsSound}
use Rattle.flow_core_laws.specs.Serves.{Serves}
use Rattle.flow_core_laws.proofs.Elements.{element_kept}
use Rattle.flow_core_laws.specs.declared.elem.Elem.{Elem}
use Rattle.flow_core_laws.specs.Poisoning.{poisoning, values_of, least_root}
use Rattle.flow_core_concurrent.specs.declared.known.Known.{Known}
use Rattle.flow_core_concurrent.specs.Laws.{IsFit, IsMeant}

-- an outcome of the meaning is what the body gives for as many inputs as the frame has
pub meant_outcome : (known : Known) (outcome : ℕ → List ℤ → Outcome) (f : ℕ) (o : Outcome) → IsMeant known outcome → f < length known.plan.frames → outcome_at known.meaning f ≡ Some o → (inputs : List Elem) × (inputs_in (plan_element known.plan) (plan_reads known.plan) (plan_meaning known.plan outcome) f ≡ Some inputs) × (o ≡ poisoning outcome f inputs)
meant_outcome known outcome f o meant lt h = by (inputs_in (plan_element known.plan) (plan_reads known.plan) m f) refl
  where
    m : State
    m = plan_meaning known.plan outcome

    fixed : outcome_at m f ≡ option_map (poisoning outcome f) (inputs_in (plan_element known.plan) (plan_reads known.plan) m f)
    fixed = outcome_at-meaning (plan_element known.plan) (element_kept (number_at known.plan)) (plan_reads known.plan) (poisoning outcome) (length known.plan.frames) f lt

    here : outcome_at m f ≡ Some o
    here = ap (λ s. outcome_at s f) (sym meant) ∙ h

    by : (inputs : Option (List Elem)) → inputs_in (plan_element known.plan) (plan_reads known.plan) m f ≡ inputs → (vs : List Elem) × (inputs_in (plan_element known.plan) (plan_reads known.plan) m f ≡ Some vs) × (o ≡ poisoning outcome f vs)
    by None e = let z : None ≡ Some o = sym (fixed ∙ ap (option_map (poisoning outcome f)) e) ∙ here in absurd (cc)
    by (Some vs) e = (vs, e, same_Some o (poisoning outcome f vs) (sym here ∙ fixed ∙ ap (option_map (poisoning outcome f)) e))

-- where all inputs of a frame are there in the meaning, it has an outcome there
pub full_meant : (known : Known) (outcome : ℕ → List ℤ → Outcome) → IsMeant known outcome → (f : ℕ) (inputs : List Elem) → f < length known.plan.frames → inputs_in (plan_element known.plan) (plan_reads known.plan) known.meaning f ≡ Some inputs → IsSome (outcome_at known.meaning f)
full_meant known outcome meant f inputs lt h =
    let there : inputs_in (plan_element known.plan) (plan_reads known.plan) (plan_meaning known.plan outcome) f ≡ Some inputs = ap (λ m. inputs_in (plan_element known.plan) (plan_reads known.plan) m f) (sym meant) ∙ h in
    ap is_some (ap (λ m. outcome_at m f) meant ∙ outcome_at-meaning (plan_element known.plan) (element_kept (number_at known.plan)) (plan_reads known.plan) (poisoning outcome) (length known.plan.frames) f lt ∙ ap (option_map (poisoning outcome f)) there)

-- an outcome that isn't poisoned is the body's own, for as many values as there are inputs
own_outcome : (outcome : ℕ → List ℤ → Outcome) (f : ℕ) (o : Outcome) (inputs : List Elem) → o ≡ poisoning outcome f inputs → ((root : ℕ) → o.end ≢ Poisoned root) → (o ≡ outcome f (values_of inputs)) × (length (values_of inputs) ≡ length inputs)
own_outcome outcome f o inputs is unpoisoned = by (least_root inputs) refl
  where
    is_by : (root : Option ℕ) → least_root inputs ≡ root → o ≡ option_map_or (λ (r : ℕ). outcome_of (Poisoned r) []) root (outcome f (values_of inputs))
    is_by root e = is ∙ ap (λ (q : Option ℕ). option_map_or (λ (r : ℕ). outcome_of (Poisoned r) []) q (outcome f (values_of inputs))) e

    by : (root : Option ℕ) → least_root inputs ≡ root → (o ≡ outcome f (values_of inputs)) × (length (values_of inputs) ≡ length inputs)
    by (Some r) e = absurd (unpoisoned r (ap (λ (o : Outcome). o.end) (is_by (Some r) e)))
    by None e = (is_by None e, sym (ap length (others_are_values inputs e) ∙ length-map (values_of inputs) Value))

pub fits : (known : Known) (outcome : ℕ → List ℤ → Outcome) → IsSound known.plan → Serves known.plan outcome (λ f inputs outputs. ⊤) → IsMeant known outcome → IsFit known
fits known outcome sound serves meant = record {
  plan_is_sound = sound;
  full_has_outcome = full_meant known outcome meant;
  done_has_outputs = λ f o lt h done. has f o lt done (meant_outcome known outcome f o meant lt h);
  traps_have_codes = λ f o code line lt h trapped. codes f o code line lt trapped (meant_outcome known outcome f o meant lt h);
}
  where
    as_many : (f : ℕ) (inputs : List Elem) → inputs_in (plan_element known.plan) (plan_reads known.plan) (plan_meaning known.plan outcome) f ≡ Some inputs → length inputs ≡ (frame_at known.plan f).inputs
    as_many f inputs there =
        length-gathered (map (plan_element known.plan (plan_meaning known.plan outcome)) (plan_reads known.plan f)) inputs there
        ∙ length-map (plan_reads known.plan f) (plan_element known.plan (plan_meaning known.plan outcome))
        ∙ length-map (cells_of known.plan f) (cell_source known.plan)
        ∙ length-range_with_len (frame_at known.plan f).cell (frame_at known.plan f).inputs

    has : (f : ℕ) (o : Outcome) → f < length known.plan.frames → o.end ≡ Done → (inputs : List Elem) × (inputs_in (plan_element known.plan) (plan_reads known.plan) (plan_meaning known.plan outcome) f ≡ Some inputs) × (o ≡ poisoning outcome f inputs) → length o.outputs ≡ (frame_at known.plan f).outputs
    has f o lt done (inputs, there, is) =
        let (own, many) = own_outcome outcome f o inputs is (λ root e. let z : Done ≡ Poisoned root = sym done ∙ e in cc) in
        ap (λ (o : Outcome). length o.outputs) own ∙ serves.fills_outputs f (values_of inputs) lt (many ∙ as_many f inputs there) (sym (ap (λ (o : Outcome). o.end) own) ∙ done)

    codes : (f : ℕ) (o : Outcome) (code line : ℕ) → f < length known.plan.frames → o.end ≡ Trapped code line → (inputs : List Elem) × (inputs_in (plan_element known.plan) (plan_reads known.plan) (plan_meaning known.plan outcome) f ≡ Some inputs) × (o ≡ poisoning outcome f inputs) → (1 ≤ code) × (code ≤ 8)
    codes f o code line lt trapped (inputs, there, is) =
        let (own, many) = own_outcome outcome f o inputs is (λ root e. let z : Trapped code line ≡ Poisoned root = sym trapped ∙ e in cc) in
        serves.traps_have_codes f (values_of inputs) code line lt (many ∙ as_many f inputs there) (sym (ap (λ (o : Outcome). o.end) own) ∙ trapped)
