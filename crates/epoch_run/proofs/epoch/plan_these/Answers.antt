use Rattle.std.proofs.Common.{List, map, subst, sym}
use Rattle.std.specs.List.{flat_map}
use Rattle.flow_core_epochs.specs.Epoch.{IsOutside, StandsForEpoch}
use Rattle.os_code.specs.Codes.{parts_of}
use Rattle.stream_match.specs.Kept.{IsKeptOutside, kept_of}
use Rattle.stream_match.specs.Stretch.{stretch_places}
use Rattle.stream_match.specs.declared.kept.Kept.{Kept}
use Rattle.epoch_run.specs.Bodies.{all_of}
use Rattle.epoch_run.specs.Held.{listed}
use Rattle.epoch_run.proofs.Step.{frames_are, kept_outside, outside, readers_exist}
use Rattle.epoch_run.proofs.epoch.plan_these.Goals as goal

pub build_ready-requires-clause-input : goal.build_ready-requires-clause-input
build_ready-requires-clause-input c = sym c.requires.open.over

pub build_ready-requires-clause-readers : goal.build_ready-requires-clause-readers
build_ready-requires-clause-readers c =
    let o = c.requires.open in
    readers_exist c.args.layout.now o.whole (parts_of c.args.bodies.now.code.now) (all_of c.args.bodies.now) c.args.input.now c.args.bodies.now.budgets.task
    (listed c.args.held.now) o.stands o.laid o.lawful c.args.readers.now c.args.frames.now c.requires.readers c.requires.frames

pub build_ready-requires-clause-frames : goal.build_ready-requires-clause-frames
build_ready-requires-clause-frames c =
    let o = c.requires.open in
    frames_are c.args.layout.now o.whole (parts_of c.args.bodies.now.code.now) (all_of c.args.bodies.now) c.args.input.now c.args.bodies.now.budgets.task
    (listed c.args.held.now) o.stands o.laid o.lawful c.args.readers.now c.args.frames.now c.requires.readers c.requires.frames

pub build_ready-requires-clause-kept : goal.build_ready-requires-clause-kept
build_ready-requires-clause-kept c =
    let o = c.requires.open in
    subst (λ (ks : List Kept). IsKeptOutside c.args.layout.now c.args.frames.now (map kept_of ks)) (sym c.as_slice.ensures.value)
    (kept_outside c.args.layout.now o.whole (parts_of c.args.bodies.now.code.now) (all_of c.args.bodies.now) c.args.input.now c.args.bodies.now.budgets.task
    (listed c.args.held.now) o.stands o.laid o.lawful c.args.readers.now c.args.frames.now c.requires.readers c.requires.frames c.later_activations_change_nothing.ensures c.run_in_epochs.ensures.begins)

pub returns-clause-stands : goal.returns-clause-stands
returns-clause-stands c =
    let o = c.requires.open in
    let activations = all_of c.args.bodies.now in
    let beside = outside c.args.layout.now o.whole (parts_of c.args.bodies.now.code.now) activations c.args.input.now c.args.bodies.now.budgets.task
    (listed c.args.held.now) o.stands o.laid o.lawful c.args.readers.now c.args.frames.now c.requires.readers c.requires.frames c.later_activations_change_nothing.ensures c.run_in_epochs.ensures.begins in
    subst (λ (ks : List Kept). StandsForEpoch c.in_ok-epoch.epoch.plan activations c.args.input.now c.args.readers.now c.args.frames.now (map kept_of ks) (flat_map stretch_places c.in_ok-epoch.epoch.leaves))
    c.as_slice.ensures.value
    (c.in_ok-epoch.ensures.stands_for activations o.laid
    (subst (λ (ks : List Kept). IsOutside activations c.args.frames.now (map kept_of ks)) (sym c.as_slice.ensures.value) beside))
