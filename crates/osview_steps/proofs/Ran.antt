-- What was measured.
use Rattle.std.proofs.Common.{◌≡◌, ◌∙◌, ◌⊎◌, inl, inr, ℕ, ℤ, ◌<◌, ◌≤◌, true, false, List, [], ◌∷◌, None, Option, Some, length, get_or, subst, sym, ap, arith}
use Rattle.std.specs.Prelude.{Contains, IsSome, is_some, slice_get}
use Rattle.std.proofs.lemmas.Bool.{cases_lt}
use Rattle.std.proofs.lemmas.List.{get_or-map, get_or_past, length-map}
use Rattle.std.proofs.lemmas.Option.{slice_get-get_or, slice_get_within}
use Rattle.flow_core_laws.specs.Element.{Source, fed}
use Rattle.flow_core_laws.specs.Outcome.{State, outcome_at}
use Rattle.flow_core_laws.specs.Plans.{plan_meaning, plan_reads}
use Rattle.flow_core_laws.specs.StandsFor.{StandsFor}
use Rattle.flow_core_laws.specs.Streams.{stream_meaning, stream_reads}
use Rattle.flow_core_laws.specs.declared.activation.Activation.{Activation}
use Rattle.flow_core_laws.specs.declared.outcome.Outcome.{Outcome}
use Rattle.flow_core_laws.specs.declared.plan.Plan.{Plan}
use Rattle.flow_core_laws.specs.declared.task_end.TaskEnd.{TaskEnd}
use Rattle.os_code.specs.declared.parts.Parts.{Parts}
use Rattle.osview_chains.specs.Chains.{IsChain, IsChainFrom, IsLongest}
use Rattle.osview_outcomes.specs.Outcomes.{AreOutcomesOf, HasInputs}
use Rattle.osview_outcomes.specs.declared.kept.Outcomes.{Outcomes}
use Rattle.osview_steps.specs.Steps.{AreRuns, has_run, steps_if, steps_of_runs}
use Rattle.osview_steps.specs.Taking.{HaveRun, Took, end_at, inputs_at}
use Rattle.osview_steps.specs.declared.runs.Taken.{Taken}
use Rattle.osview_steps.specs.declared.runs.TaskRun.{TaskRun}
use Rattle.osview_steps.proofs.Reading.{ends_are, has_outcome, read_at}

-- what stands for a run where there is none
abbrev pub no_run : TaskRun
no_run = record { task = 0; took = None }

abbrev no_activation : Activation
no_activation = record { site = 0; captured = []; claims = [] }

-- chains are the same where those that ran read the same
same_chain : (reads others : ℕ → List Source) (steps : List (Option ℕ)) → ((a : ℕ) → IsSome (get_or steps a None) → reads a ≡ others a)
    → (a : ℕ) (rest : List ℕ) → IsChainFrom reads steps a rest → IsChainFrom others steps a rest
same_chain reads others steps same a [] c = c
same_chain reads others steps same a (b ∷ rest) (ran, waits, c) = (
  ran,
  record { place = waits.place; is_read = subst (λ (sources : List Source). Contains sources (fed b waits.place)) (same a ran) waits.is_read },
  same_chain reads others steps same b rest c,
)

same_chains : (reads others : ℕ → List Source) (steps : List (Option ℕ)) → ((a : ℕ) → IsSome (get_or steps a None) → reads a ≡ others a)
    → (chain : List ℕ) → IsChain reads steps chain → IsChain others steps chain
same_chains reads others steps same [] c = tt
same_chains reads others steps same (a ∷ rest) c = same_chain reads others steps same a rest c

same_longest : (reads others : ℕ → List Source) (steps : List (Option ℕ)) (n : ℕ) → ((a : ℕ) → IsSome (get_or steps a None) → reads a ≡ others a)
    → IsLongest reads steps n → IsLongest others steps n
same_longest reads others steps n same longest = record {
  chain = longest.chain;
  is_chain = same_chains reads others steps same longest.chain longest.is_chain;
  takes = longest.takes;
  none_longer = λ other c. longest.none_longer other (same_chains others reads steps (λ a ran. sym (same a ran)) other c);
}

-- one with steps is one of the list
in_steps : (steps : List (Option ℕ)) (a : ℕ) → IsSome (get_or steps a None) → a < length steps
in_steps steps a ran = by_place (cases_lt a (length steps))
  where
    by_place : (a < length steps) ⊎ (length steps ≤ a) → a < length steps
    by_place (inl lt) = lt
    by_place (inr past) = let e : false ≡ true = sym (ap is_some (get_or_past steps a None past)) ∙ ran in absurd (cc)

module _ (code : Parts) (activations : List Activation) (input : List ℕ) (budget : ℕ) (plan : Plan) (outcomes : Outcomes) (body : ℕ → List ℤ → Outcome)
    (stands : StandsFor plan activations input) (same : plan_meaning plan body ≡ stream_meaning activations input body)
    (are : AreOutcomesOf outcomes (plan_meaning plan body)) (has : HasInputs outcomes plan (plan_meaning plan body)) (runs : List TaskRun)
    (many : length runs ≡ length activations) (have : HaveRun code activations budget outcomes runs) where
  -- the activation of a run
  activation_of : (a : ℕ) (r : TaskRun) → slice_get runs a ≡ Some r → (x : Activation) × (slice_get activations a ≡ Some x)
  activation_of a r r_is =
      let lt = slice_get_within runs a r r_is in
      (get_or activations a no_activation, slice_get-get_or activations a no_activation (omega (arith, lt, many)))

  pub are_runs : AreRuns code activations input budget (stream_meaning activations input body) runs
  are_runs = record {
    as_many = many;
    of_tasks = have.of_tasks;
    ran = λ a x r taken x_is r_is took_is.
        let (ran, ends, turns) = subst (Took code x (inputs_at outcomes a) budget (end_at outcomes a)) took_is (have.took a x r x_is r_is) in
        record {
          inputs = inputs_at outcomes a;
          are_read = (read_at activations input plan outcomes body stands same are has a x x_is ran).0;
          ends = ends;
          turns = turns;
        };
    never_ran = λ a r r_is none.
        let (x, x_is) = activation_of a r r_is in
        ap (λ (es : List (Option TaskEnd)). has_run (get_or es a None)) (sym (ends_are activations input plan outcomes body stands same are has))
        ∙ subst (Took code x (inputs_at outcomes a) budget (end_at outcomes a)) none (have.took a x r x_is r_is);
  }

  -- one with steps has an outcome
  pub has_outcome_of : (a : ℕ) → IsSome (get_or (steps_of_runs runs) a None) → (o : Outcome) × (outcome_at (plan_meaning plan body) a ≡ Some o)
  has_outcome_of a ran =
      let lt = in_steps (steps_of_runs runs) a ran in
      let size = length-map runs (λ (r : TaskRun). steps_if r.took) in
      let r : TaskRun = get_or runs a no_run in
      let r_is : slice_get runs a ≡ Some r = slice_get-get_or runs a no_run (omega (arith, lt, size)) in
      let steps_is : get_or (steps_of_runs runs) a None ≡ steps_if r.took = get_or-map (λ (q : TaskRun). steps_if q.took) runs a no_run None (omega (arith, lt, size)) in
      let (x, x_is) = activation_of a r r_is in
      let (o, o_is, did) = has_outcome activations input plan outcomes body stands same are has a
      (by_took x a r.took (ap is_some (sym steps_is) ∙ ran) (have.took a x r x_is r_is)) in
      (o, ap (λ (s : State). outcome_at s a) same ∙ o_is)
    where
      by_took : (x : Activation) (a : ℕ) (s : Option Taken) → is_some (steps_if s) ≡ true → Took code x (inputs_at outcomes a) budget (end_at outcomes a) s → has_run (end_at outcomes a) ≡ true
      by_took x a None some took = absurd (cc)
      by_took x a (Some taken) some took = took.0

  pub longest_of : (longest : ℕ) → IsLongest (plan_reads plan) (steps_of_runs runs) longest → IsLongest (stream_reads activations input) (steps_of_runs runs) longest
  longest_of longest = same_longest (plan_reads plan) (stream_reads activations input) (steps_of_runs runs) longest (λ a ran.
      let lt = in_steps (steps_of_runs runs) a ran in
      let size = length-map runs (λ (r : TaskRun). steps_if r.took) in
      stands.cells_are_window_elements a (omega (arith, lt, size, many)))
