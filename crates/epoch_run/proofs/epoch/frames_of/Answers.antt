use Rattle.std.proofs.Common.{◌<◌, All, List, length, subst, sym, ℕ}
use Rattle.epoch_run_ready.specs.Newest.{WaitBefore, WaitFrom}
use Rattle.flow_core_epochs.proofs.Carried.{has_all}
use Rattle.flow_core_epochs.proofs.Frames.{open_each}
use Rattle.flow_core_epochs.specs.Epoch.{LeaveOutWaiting, open_in}
use Rattle.os_code.specs.Codes.{parts_of}
use Rattle.stream_match_layouts.specs.Spans.{frame_count}
use Rattle.epoch_run.specs.Bodies.{all_of}
use Rattle.epoch_run.specs.Held.{listed}
use Rattle.epoch_run.proofs.StillWaiting.{none_may_run, wait_before}
use Rattle.epoch_run.proofs.epoch.frames_of.Goals as goal

pub ready_since-requires-clause-readers : goal.ready_since-requires-clause-readers
ready_since-requires-clause-readers c =
    let es = c.args.held.now.ends.ends in
    let n : ℕ = frame_count c.args.layout.now in
    subst (λ (xs : List ℕ). All (λ a. a < n) xs) (sym c.requires.readers)
    (has_all (λ a. a < n) (open_in es n) (λ a h. let (f, at) = h in (open_each es n f a at).0))

pub returns-then-wait : goal.returns-then-wait
returns-then-wait c =
    let o = c.requires.open in
    let b = c.args.bodies.now in
    let code = parts_of b.code.now in
    let activations = all_of b in
    let es = c.args.held.now.ends.ends in
    subst (LeaveOutWaiting activations c.args.input.now es) (sym c.new.ensures)
    (none_may_run code activations c.args.input.now b.budgets.task (listed c.args.held.now) c.later_activations_change_nothing.ensures o.stands
    (c.bodies_serve.ensures.parts code activations b.budgets.task b.code.now.valid o.fit o.small)
    (subst (WaitFrom activations c.args.input.now es) c.len.ensures (c.in_ok-wait.ensures c.if-wait.true activations c.args.input.now es o.laid (sym o.over) (sym c.len.ensures) c.requires.readers)))

pub returns : goal.returns
returns c =
    let o = c.requires.open in
    let b = c.args.bodies.now in
    let code = parts_of b.code.now in
    let activations = all_of b in
    let input = c.args.input.now in
    let es = c.args.held.now.ends.ends in
    let before : WaitBefore activations input es (length es) =
    wait_before code activations input b.budgets.task (listed c.args.held.now) c.later_activations_change_nothing.ensures o.stands
    (c.bodies_serve.ensures.parts code activations b.budgets.task b.code.now.valid o.fit o.small) in
    c.in_ok-frames.ensures activations input es o.laid (sym o.over) c.requires.readers (sym c.len-2.ensures)
    (subst (WaitBefore activations input es) (sym c.len-2.ensures) before)
