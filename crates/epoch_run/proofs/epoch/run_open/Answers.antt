use Rattle.std.proofs.Common.{◌∙◌, List, Option, ap, subst, sym}
use Rattle.flow_core_epochs.specs.Epoch.{LeaveOutWaiting, open_in}
use Rattle.flow_core_laws.specs.declared.task_end.TaskEnd.{TaskEnd}
use Rattle.os_code.specs.Codes.{parts_of}
use Rattle.stream_match_layouts.specs.Spans.{frame_count}
use Rattle.epoch_run.specs.Bodies.{HaveOpen, all_of}
use Rattle.epoch_run.specs.declared.held.Held.{Held}
use Rattle.epoch_run.proofs.Step.{held_fewer, open_listed}
use Rattle.epoch_run.proofs.epoch.run_open.Goals as goal

pub open_activations-requires-clause-listed : goal.open_activations-requires-clause-listed
open_activations-requires-clause-listed g c = c.requires.open.stands.meant.are_open

pub open_activations-requires-clause-more : goal.open_activations-requires-clause-more
open_activations-requires-clause-more g c =
    let b = c.args.bodies.now in
    let o = c.requires.open in
    held_fewer c.args.layout.now (parts_of b.code.now) (all_of b) c.args.input.now b.budgets.task c.args.held.now o.stands o.laid

pub frames_of-requires-clause-open : goal.frames_of-requires-clause-open
frames_of-requires-clause-open g c =
    let b = c.args.bodies.now in
    open_listed b.code.now (all_of b) b.budgets.task c.args.layout.now c.args.input.now c.args.held.now c.open_activations.new.held c.in_ok-readers.ensures.same c.requires.open

pub frames_of-requires-clause-readers : goal.frames_of-requires-clause-readers
frames_of-requires-clause-readers g c =
    c.as_slice.ensures ∙ c.in_ok-readers.ensures.readers
    ∙ ap (λ (es : List (Option TaskEnd)). open_in es (frame_count c.args.layout.now)) (sym (ap (λ (h : Held). h.ends.ends) c.in_ok-readers.ensures.same))

pub run_these-requires-clause-open : goal.run_these-requires-clause-open
run_these-requires-clause-open g c κs within =
    let b = c.args.bodies.now in
    open_listed b.code.now (all_of b) b.budgets.task c.args.layout.now c.args.input.now c.args.held.now c.open_activations.new.held c.in_ok-readers.ensures.same c.requires.open

pub run_these-requires-clause-there : goal.run_these-requires-clause-there
run_these-requires-clause-there g c κs within =
    subst (λ (es : List (Option TaskEnd)). HaveOpen c.args.bodies.now es) (sym (ap (λ (h : Held). h.ends.ends) c.in_ok-readers.ensures.same)) c.requires.there

pub run_these-requires-clause-readers : goal.run_these-requires-clause-readers
run_these-requires-clause-readers g c κs within =
    c.in_ok-readers.ensures.readers
    ∙ ap (λ (es : List (Option TaskEnd)). open_in es (frame_count c.args.layout.now)) (sym (ap (λ (h : Held). h.ends.ends) c.in_ok-readers.ensures.same))

pub run_these-requires-clause-frames : goal.run_these-requires-clause-frames
run_these-requires-clause-frames g c κs within =
    subst (LeaveOutWaiting (all_of c.args.bodies.now) c.args.input.now c.open_activations.new.held.ends.ends) (sym c.as_slice-2.ensures) c.in_ok-frames.ensures
