use Rattle.std.proofs.Common.{◌≡◌, ◌∙◌, ◌<◌, ℕ, List, None, Option, ap, arith, length, get_or, subst, sym}
use Rattle.std.specs.Prelude.{IsSome}
use Rattle.epoch_run_bodies.specs.Frames.{frame_outcome}
use Rattle.flow_core_laws.specs.Plans.{plan_reads}
use Rattle.os_code.specs.Codes.{parts_of}
use Rattle.osview_chains.specs.Chains.{IsLongest}
use Rattle.osview_outcomes.specs.Order.{IsInOrder}
use Rattle.osview_steps.specs.Steps.{steps_of_runs}
use Rattle.osview_steps.proofs.Ran.{are_runs, has_outcome_of, longest_of}
use Rattle.osview_steps.proofs.Reading.{read_at}
use Rattle.osview_steps.proofs.measuring.measure.Goals as goal

pub outcomes-requires-clause-served : goal.outcomes-requires-clause-served
outcomes-requires-clause-served c = λ _.
    c.bodies_serve.ensures.plans (parts_of c.args.code.now) c.args.activations.now c.args.input.now c.args.budget c.in_ok-plan.plan c.args.code.now.valid c.requires.fit c.requires.budget
    (c.in_ok-plan.ensures.stands_for c.args.activations.now c.requires.laid)

pub all_runs-requires-clause-inputs : goal.all_runs-requires-clause-inputs
all_runs-requires-clause-inputs c = λ a x x_is ran.
    let activations = c.args.activations.now in
    let input = c.args.input.now in
    let body = frame_outcome (parts_of c.args.code.now) activations c.args.budget in
    let plan = c.in_ok-plan.plan in
    let stands = c.in_ok-plan.ensures.stands_for activations c.requires.laid in
    let same = c.plan_meaning.ensures.meaning plan activations input body stands in
    (read_at activations input plan c.in_ok-kept.kept body stands same c.in_ok-kept.ensures.outcomes c.in_ok-kept.ensures.inputs a x x_is ran).1

pub all_runs-requires-clause-outputs : goal.all_runs-requires-clause-outputs
all_runs-requires-clause-outputs c = λ a x x_is. (c.in_ok-plan.ensures.stands_for c.args.activations.now c.requires.laid).outputs_are_written a x x_is

pub all_runs-requires-clause-few : goal.all_runs-requires-clause-few
all_runs-requires-clause-few c =
    let few = c.in_ok-plan.ensures.sound.frames_are_few in
    let same = (c.in_ok-plan.ensures.stands_for c.args.activations.now c.requires.laid).frames_are_activations in
    omega (arith, few, same)

pub longest_chain-requires-clause-order : goal.longest_chain-requires-clause-order
longest_chain-requires-clause-order c =
    subst (IsInOrder (plan_reads c.in_ok-plan.plan) (length c.in_ok-plan.plan.frames)) (sym c.deref.ensures.value) c.in_ok-kept.ensures.order.in_order

pub longest_chain-requires-clause-listed : goal.longest_chain-requires-clause-listed
longest_chain-requires-clause-listed c = λ f ran.
    let code = parts_of c.args.code.now in
    let activations = c.args.activations.now in
    let input = c.args.input.now in
    let body = frame_outcome code activations c.args.budget in
    let plan = c.in_ok-plan.plan in
    let stands = c.in_ok-plan.ensures.stands_for activations c.requires.laid in
    let same = c.plan_meaning.ensures.meaning plan activations input body stands in
    let steps_are = c.as_slice-2.ensures ∙ c.in_ok-steps.ensures ∙ ap steps_of_runs c.as_slice.ensures in
    let (o, o_is) = has_outcome_of code activations input c.args.budget plan c.in_ok-kept.kept body stands same c.in_ok-kept.ensures.outcomes c.in_ok-kept.ensures.inputs
    c.in_ok-runs.runs c.in_ok-runs.ensures.many c.in_ok-runs.ensures.exact f (subst (λ (steps : List (Option ℕ)). IsSome (get_or steps f None)) steps_are ran) in
    subst (λ (order : List ℕ). (k : ℕ) × (k < length order) × (get_or order k 0 ≡ f)) (sym c.deref.ensures.value) (c.in_ok-kept.ensures.order.has_all f o o_is)

pub returns-clause-runs : goal.returns-clause-runs
returns-clause-runs c =
    let code = parts_of c.args.code.now in
    let activations = c.args.activations.now in
    let input = c.args.input.now in
    let body = frame_outcome code activations c.args.budget in
    let plan = c.in_ok-plan.plan in
    let stands = c.in_ok-plan.ensures.stands_for activations c.requires.laid in
    let same = c.plan_meaning.ensures.meaning plan activations input body stands in
    are_runs code activations input c.args.budget plan c.in_ok-kept.kept body stands same c.in_ok-kept.ensures.outcomes c.in_ok-kept.ensures.inputs
    c.in_ok-runs.runs c.in_ok-runs.ensures.many c.in_ok-runs.ensures.exact

pub returns-clause-longest : goal.returns-clause-longest
returns-clause-longest c =
    let code = parts_of c.args.code.now in
    let activations = c.args.activations.now in
    let input = c.args.input.now in
    let body = frame_outcome code activations c.args.budget in
    let plan = c.in_ok-plan.plan in
    let stands = c.in_ok-plan.ensures.stands_for activations c.requires.laid in
    let same = c.plan_meaning.ensures.meaning plan activations input body stands in
    let steps_are = c.as_slice-2.ensures ∙ c.in_ok-steps.ensures ∙ ap steps_of_runs c.as_slice.ensures in
    longest_of code activations input c.args.budget plan c.in_ok-kept.kept body stands same c.in_ok-kept.ensures.outcomes c.in_ok-kept.ensures.inputs
    c.in_ok-runs.runs c.in_ok-runs.ensures.many c.in_ok-runs.ensures.exact c.in_ok-longest.longest
    (subst (λ (steps : List (Option ℕ)). IsLongest (plan_reads plan) steps c.in_ok-longest.longest) steps_are c.in_ok-longest.ensures)

pub returns-clause-few : goal.returns-clause-few
returns-clause-few c =
    let few = c.in_ok-plan.ensures.sound.frames_are_few in
    let same = (c.in_ok-plan.ensures.stands_for c.args.activations.now c.requires.laid).frames_are_activations in
    let many = c.in_ok-runs.ensures.many in
    omega (arith, few, same, many)
