use Rattle.std.proofs.Common.{◌≡◌, ℕ, ◌-◌, ◌≤◌, ◌++◌, length, take, drop, replicate, List, ℤ, pos, refl, sym, ap, ◌∙◌, arith, length-append, length-drop}
use Rattle.std.proofs.lemmas.List.{length-replicate, length-take-le}
use Rattle.flow_core_laws.specs.declared.claim.Claim.{Claim}
use Rattle.os_code.specs.Codes.{parts_of}
use Rattle.task_vm.specs.Ending.{end_of, all_bytes_from}
use Rattle.task_vm.specs.Space.{Space}
use Rattle.task_vm.proofs.Ending.{ending}
use Rattle.task_vm.proofs.Starting.{captured, slots-fit, slots-ready}
use Rattle.task_vm.proofs.task.run_task.Goals as goal

-- what a room holds once it reaches so far
held : (before after : List ℤ) (count : ℕ) → after ≡ before ++ replicate (count - length before) (pos 0) → count ≤ length after
held before after count is =
    let size = ap length is in
    let sum = length-append before (replicate (count - length before) (pos 0)) in
    let more = length-replicate (count - length before) (pos 0) in
    omega (arith, size, sum, more)

-- a loan keeps the number of items
kept : (lent items : List ℤ) → length (take (length items) (lent ++ drop (length lent) items)) ≡ length items
kept lent items =
    length-take-le (length items) (lent ++ drop (length lent) items)
    (let sum = length-append lent (drop (length lent) items) in let rest = length-drop (length lent) items in omega (arith, sum, rest))

pub fill_frame-requires-clause-few : goal.fill_frame-requires-clause-few
fill_frame-requires-clause-few c =
    let fits = captured (parts_of c.args.code.now) c.args.code.now.valid c.args.activation.now c.requires.fits c.args.inputs.now c.args.budget c.entry_of-entry.result.unit c.entry_of-entry.ensures.unit in
    let n = fits.0 in
    let m = fits.1 in
    let e = ap length c.as_slice.ensures in
    omega (arith, n, m, e)

pub reach-requires : goal.reach-requires
reach-requires c =
    let few = slots-fit (parts_of c.args.code.now) c.args.code.now.valid c.args.activation.now c.requires.fits c.args.inputs.now c.args.budget c.entry_of-entry.result.unit c.entry_of-entry.ensures.unit c.args.scratch.now c.requires.made in
    let view = ap (λ (s : Space). s.slots) c.scratch.view_is in
    omega (arith, few, view)

pub fill_frame-requires-clause-inside : goal.fill_frame-requires-clause-inside
fill_frame-requires-clause-inside c =
    let reach = held c.scratch.inside.slots.items c.reach.new.slots.items c.entry_of-entry.result.unit.slots c.reach.ensures.items in
    let size = ap length c.as_mut_slice.ensures.value in
    omega (arith, reach, size)

pub run-stopped-requires-clause-slots : goal.run-stopped-requires-clause-slots
run-stopped-requires-clause-slots c =
    let fits = captured (parts_of c.args.code.now) c.args.code.now.valid c.args.activation.now c.requires.fits c.args.inputs.now c.args.budget c.entry_of-entry.result.unit c.entry_of-entry.ensures.unit in
    let reach = held c.scratch.inside.slots.items c.reach.new.slots.items c.entry_of-entry.result.unit.slots c.reach.ensures.items in
    slots-ready (length c.reach.new.slots.items) c.entry_of-entry.result.unit.slots c.entry_of-entry.result.unit.args c.as_slice.result.now c.args.activation.now.captured c.fill_frame.new.slots
    c.reach.new.slots.items _ _ c.as_slice.ensures fits.0 fits.1 reach c.fill_frame.ensures refl

pub run-stopped-requires-clause-most : goal.run-stopped-requires-clause-most
run-stopped-requires-clause-most c =
    let view = ap (λ (s : Space). s.slots) c.scratch.view_is in
    let same = kept c.fill_frame.new.slots c.reach.new.slots.items in
    c.slots_need.ensures.least _ (λ chain is. let few = c.requires.made.slots chain is in omega (arith, few, view, same, c.reach.ensures.room))

pub returns-clause-made_again : goal.returns-clause-made_again
returns-clause-made_again c =
    let view = ap (λ (s : Space). s.slots) c.scratch.view_is in
    let stack = ap (λ (s : Space). s.stack) c.scratch.view_is in
    let calls = ap (λ (s : Space). s.calls) c.scratch.view_is in
    let same = kept c.fill_frame.new.slots c.reach.new.slots.items in
    record {
      stack = λ chain is. let few = c.requires.made.stack chain is in omega (arith, few, stack);
      slots = λ chain is. let few = c.requires.made.slots chain is in omega (arith, few, view, same, c.reach.ensures.room, c.run-stopped.ensures.slots);
      calls = λ chain is. let few = c.requires.made.calls chain is in omega (arith, few, calls);
    }

pub returns-clause-end : goal.returns-clause-end
returns-clause-end c =
    let all = ending (parts_of c.args.code.now) c.args.code.now.valid c.args.activation.now c.requires.fits c.args.inputs.now c.args.budget c.entry_of-entry.result.unit c.entry_of-entry.result.line
    c.entry_of-entry.ensures.unit c.entry_of-entry.ensures.line c.run-stopped.result.halt c.run-stopped.result.steps c.run-stopped.result.turns c.run-stopped.new.outputs c.run-stopped.ensures.stops in
    c.end_at.ensures ∙ ap (λ (claims : List Claim). end_of c.run-stopped.result.halt (all_bytes_from claims c.run-stopped.new.outputs) c.entry_of-entry.result.line) c.as_slice-2.ensures ∙ all.end_is

pub returns-clause-outputs : goal.returns-clause-outputs
returns-clause-outputs c = λ done.
    let all = ending (parts_of c.args.code.now) c.args.code.now.valid c.args.activation.now c.requires.fits c.args.inputs.now c.args.budget c.entry_of-entry.result.unit c.entry_of-entry.result.line
    c.entry_of-entry.ensures.unit c.entry_of-entry.ensures.line c.run-stopped.result.halt c.run-stopped.result.steps c.run-stopped.result.turns c.run-stopped.new.outputs c.run-stopped.ensures.stops in
    all.outputs (sym (c.end_at.ensures ∙ ap (λ (claims : List Claim). end_of c.run-stopped.result.halt (all_bytes_from claims c.run-stopped.new.outputs) c.entry_of-entry.result.line) c.as_slice-2.ensures) ∙ done)

pub returns-clause-steps : goal.returns-clause-steps
returns-clause-steps c =
    let all = ending (parts_of c.args.code.now) c.args.code.now.valid c.args.activation.now c.requires.fits c.args.inputs.now c.args.budget c.entry_of-entry.result.unit c.entry_of-entry.result.line
    c.entry_of-entry.ensures.unit c.entry_of-entry.ensures.line c.run-stopped.result.halt c.run-stopped.result.steps c.run-stopped.result.turns c.run-stopped.new.outputs c.run-stopped.ensures.stops in
    all.ends

pub returns-clause-few_steps : goal.returns-clause-few_steps
returns-clause-few_steps c =
    let all = ending (parts_of c.args.code.now) c.args.code.now.valid c.args.activation.now c.requires.fits c.args.inputs.now c.args.budget c.entry_of-entry.result.unit c.entry_of-entry.result.line
    c.entry_of-entry.ensures.unit c.entry_of-entry.ensures.line c.run-stopped.result.halt c.run-stopped.result.steps c.run-stopped.result.turns c.run-stopped.new.outputs c.run-stopped.ensures.stops in
    all.few_steps

pub overflow_sub-scratch : goal.overflow_sub-scratch
overflow_sub-scratch c =
    let all = ending (parts_of c.args.code.now) c.args.code.now.valid c.args.activation.now c.requires.fits c.args.inputs.now c.args.budget c.entry_of-entry.result.unit c.entry_of-entry.result.line
    c.entry_of-entry.ensures.unit c.entry_of-entry.ensures.line c.run-stopped.result.halt c.run-stopped.result.steps c.run-stopped.result.turns c.run-stopped.new.outputs c.run-stopped.ensures.stops in
    all.few_turns

pub returns-clause-turns : goal.returns-clause-turns
returns-clause-turns c =
    let all = ending (parts_of c.args.code.now) c.args.code.now.valid c.args.activation.now c.requires.fits c.args.inputs.now c.args.budget c.entry_of-entry.result.unit c.entry_of-entry.result.line
    c.entry_of-entry.ensures.unit c.entry_of-entry.ensures.line c.run-stopped.result.halt c.run-stopped.result.steps c.run-stopped.result.turns c.run-stopped.new.outputs c.run-stopped.ensures.stops in
    all.takes
