use Rattle.std.proofs.Common.{length, subst, sym, take}
use Rattle.epoch_run_batches.specs.Outcome.{AreAllMeant}
use Rattle.epoch_run_stretch.specs.Gathered.{HoldAll}
use Rattle.epoch_run_stretch.proofs.Meaning.{cleared_holds, holds_meant}
use Rattle.epoch_run_stretch.proofs.stretch.run_stretch.Goals as goal

pub run_batches_of-requires-clause-before : goal.run_batches_of-requires-clause-before
run_batches_of-requires-clause-before g c κs within =
    let run = g.J.Meaning.run in
    holds_meant run (length c.args.ends.now) c.args.ends.now (record c.args.streams.now { elements = c.clear_input.new.elements })
    (cleared_holds _ run.input run.body c.args.ends.now c.args.streams.now.elements c.clear_input.new.elements c.args.streams.now.firsts c.clear_input.ensures c.requires.held)
    c.clear_input.ensures.input

pub returns-clause-all : goal.returns-clause-all
returns-clause-all g c = λ all.
    let run = g.J.Meaning.run in
    let held =
    cleared_holds (take (length c.args.ends.now) run.activations) run.input run.body c.args.ends.now c.args.streams.now.elements c.clear_input.new.elements c.args.streams.now.firsts c.clear_input.ensures c.requires.held in
    let firsts = c.as_slice-2.ensures in
    let after = c.in_ok-all.ensures.held all run c.requires.workload.is_of (subst (AreAllMeant run) (sym c.as_slice.ensures) c.in_ok-outcomes.ensures)
    (subst (HoldAll (take (length c.args.ends.now) run.activations) run.input run.body c.args.ends.now c.clear_input.new.elements) (sym firsts) held) in
    subst (HoldAll run.activations run.input run.body c.gather.new.ends c.gather.new.elements) firsts after
