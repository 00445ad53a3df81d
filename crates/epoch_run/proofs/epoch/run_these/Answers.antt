use Rattle.std.proofs.Common.{◌+◌, ◌^◌, ◌<◌, All, List, map, subst, sym, ℕ}
use Rattle.std.specs.List.{flat_map}
use Rattle.flow_core_epochs.specs.Epoch.{StandsForEpoch}
use Rattle.os_code.specs.Codes.{parts_of}
use Rattle.stream_match.specs.Kept.{kept_of}
use Rattle.stream_match.specs.Stretch.{stretch_places}
use Rattle.stream_match.specs.declared.stretch.Stretch.{Stretch}
use Rattle.epoch_run.specs.Bodies.{all_of}
use Rattle.epoch_run.specs.Held.{listed}
use Rattle.epoch_run.proofs.Step.{ends_fit, fewer, frames_are, held_after, kept_there, places_there, served, shorter, values_fit}
use Rattle.epoch_run.proofs.epoch.run_these.Goals as goal

pub run_frames-requires-clause-served : goal.run_frames-requires-clause-served
run_frames-requires-clause-served g c κs within =
    let o = c.requires.open in
    served c.args.layout.now o.whole (parts_of c.args.bodies.now.code.now) (all_of c.args.bodies.now) c.args.input.now c.args.bodies.now.budgets.task
    (listed c.args.held.now) o.stands o.laid o.lawful c.args.readers c.args.frames.now c.requires.readers c.requires.frames
    c.later_activations_change_nothing.ensures c.run_in_epochs.ensures.begins c.in_ok-epoch.epoch.plan (flat_map stretch_places c.in_ok-epoch.epoch.leaves) (subst (λ (rs : List ℕ). StandsForEpoch c.in_ok-epoch.epoch.plan (all_of c.args.bodies.now) c.args.input.now rs c.args.frames.now (map kept_of c.args.held.now.kept.items) (flat_map stretch_places c.in_ok-epoch.epoch.leaves)) c.as_slice.ensures c.in_ok-epoch.ensures.stands)
    c.args.bodies.now c.requires.there
    (c.bodies_serve.ensures.parts (parts_of c.args.bodies.now.code.now) (all_of c.args.bodies.now) c.args.bodies.now.budgets.task c.args.bodies.now.code.now.valid o.fit o.small)

pub take-requires-clause-frames : goal.take-requires-clause-frames
take-requires-clause-frames g c =
    let o = c.requires.open in
    frames_are c.args.layout.now o.whole (parts_of c.args.bodies.now.code.now) (all_of c.args.bodies.now) c.args.input.now c.args.bodies.now.budgets.task
    (listed c.args.held.now) o.stands o.laid o.lawful c.args.readers c.args.frames.now c.requires.readers c.requires.frames

pub take-requires-clause-ends_fit : goal.take-requires-clause-ends_fit
take-requires-clause-ends_fit g c =
    let o = c.requires.open in
    let stands = subst (λ (ss : List Stretch). StandsForEpoch c.in_ok-epoch.epoch.plan (all_of c.args.bodies.now) c.args.input.now c.args.readers c.args.frames.now (map kept_of c.args.held.now.kept.items) (flat_map stretch_places ss)) (sym c.as_slice-2.ensures) (subst (λ (rs : List ℕ). StandsForEpoch c.in_ok-epoch.epoch.plan (all_of c.args.bodies.now) c.args.input.now rs c.args.frames.now (map kept_of c.args.held.now.kept.items) (flat_map stretch_places c.in_ok-epoch.epoch.leaves)) c.as_slice.ensures c.in_ok-epoch.ensures.stands) in
    ends_fit c.args.layout.now o.whole (parts_of c.args.bodies.now.code.now) (all_of c.args.bodies.now) c.args.input.now c.args.bodies.now.budgets.task
    (listed c.args.held.now) o.stands o.laid o.lawful c.args.readers c.args.frames.now c.requires.readers c.requires.frames
    c.later_activations_change_nothing.ensures c.run_in_epochs.ensures.begins c.in_ok-epoch.epoch.plan (flat_map stretch_places c.as_slice-2.result.now) stands c.run_in_epochs.ensures.ends c.in_ok-ends.ends c.in_ok-ends.ensures.ends c.in_ok-ends.ensures.output

pub take-requires-clause-values_fit : goal.take-requires-clause-values_fit
take-requires-clause-values_fit g c =
    let o = c.requires.open in
    let stands = subst (λ (ss : List Stretch). StandsForEpoch c.in_ok-epoch.epoch.plan (all_of c.args.bodies.now) c.args.input.now c.args.readers c.args.frames.now (map kept_of c.args.held.now.kept.items) (flat_map stretch_places ss)) (sym c.as_slice-2.ensures) (subst (λ (rs : List ℕ). StandsForEpoch c.in_ok-epoch.epoch.plan (all_of c.args.bodies.now) c.args.input.now rs c.args.frames.now (map kept_of c.args.held.now.kept.items) (flat_map stretch_places c.in_ok-epoch.epoch.leaves)) c.as_slice.ensures c.in_ok-epoch.ensures.stands) in
    values_fit c.args.layout.now o.whole (parts_of c.args.bodies.now.code.now) (all_of c.args.bodies.now) c.args.input.now c.args.bodies.now.budgets.task
    (listed c.args.held.now) o.stands o.laid o.lawful c.args.readers c.args.frames.now c.requires.readers c.requires.frames
    c.later_activations_change_nothing.ensures c.run_in_epochs.ensures.begins c.in_ok-epoch.epoch.plan (flat_map stretch_places c.as_slice-2.result.now) stands c.run_in_epochs.ensures.ends c.in_ok-ends.ends c.in_ok-ends.ensures.ends c.in_ok-ends.ensures.output

pub take-requires-clause-more : goal.take-requires-clause-more
take-requires-clause-more g c =
    let o = c.requires.open in
    fewer c.args.layout.now o.whole (parts_of c.args.bodies.now.code.now) (all_of c.args.bodies.now) c.args.input.now c.args.bodies.now.budgets.task
    (listed c.args.held.now) o.stands o.laid o.lawful c.args.readers c.args.frames.now c.requires.readers c.requires.frames

pub take-requires-clause-longer : goal.take-requires-clause-longer
take-requires-clause-longer g c =
    let o = c.requires.open in
    shorter c.args.layout.now o.whole (parts_of c.args.bodies.now.code.now) (all_of c.args.bodies.now) c.args.input.now c.args.bodies.now.budgets.task
    (listed c.args.held.now) o.stands o.laid o.lawful c.args.readers c.args.frames.now c.requires.readers c.requires.frames

pub take-requires-clause-kept_exist : goal.take-requires-clause-kept_exist
take-requires-clause-kept_exist g c =
    let o = c.requires.open in
    kept_there c.args.layout.now o.whole (parts_of c.args.bodies.now.code.now) (all_of c.args.bodies.now) c.args.input.now c.args.bodies.now.budgets.task
    (listed c.args.held.now) o.stands o.laid o.lawful c.args.readers c.args.frames.now c.requires.readers c.requires.frames
    c.later_activations_change_nothing.ensures c.run_in_epochs.ensures.begins

pub take-requires-clause-small : goal.take-requires-clause-small
take-requires-clause-small g c = subst (All (λ (s : Stretch). s.first + s.count < 2 ^ 64)) (sym c.as_slice-2.ensures) c.in_ok-epoch.ensures.small

pub take-requires-clause-places_exist : goal.take-requires-clause-places_exist
take-requires-clause-places_exist g c =
    let o = c.requires.open in
    let stands = subst (λ (ss : List Stretch). StandsForEpoch c.in_ok-epoch.epoch.plan (all_of c.args.bodies.now) c.args.input.now c.args.readers c.args.frames.now (map kept_of c.args.held.now.kept.items) (flat_map stretch_places ss)) (sym c.as_slice-2.ensures) (subst (λ (rs : List ℕ). StandsForEpoch c.in_ok-epoch.epoch.plan (all_of c.args.bodies.now) c.args.input.now rs c.args.frames.now (map kept_of c.args.held.now.kept.items) (flat_map stretch_places c.in_ok-epoch.epoch.leaves)) c.as_slice.ensures c.in_ok-epoch.ensures.stands) in
    places_there c.args.layout.now o.whole (parts_of c.args.bodies.now.code.now) (all_of c.args.bodies.now) c.args.input.now c.args.bodies.now.budgets.task
    (listed c.args.held.now) o.stands o.laid o.lawful c.args.readers c.args.frames.now c.requires.readers c.requires.frames
    c.later_activations_change_nothing.ensures c.run_in_epochs.ensures.begins c.in_ok-epoch.epoch.plan (flat_map stretch_places c.as_slice-2.result.now) stands

pub returns : goal.returns
returns g c =
    let o = c.requires.open in
    let stands = subst (λ (ss : List Stretch). StandsForEpoch c.in_ok-epoch.epoch.plan (all_of c.args.bodies.now) c.args.input.now c.args.readers c.args.frames.now (map kept_of c.args.held.now.kept.items) (flat_map stretch_places ss)) (sym c.as_slice-2.ensures) (subst (λ (rs : List ℕ). StandsForEpoch c.in_ok-epoch.epoch.plan (all_of c.args.bodies.now) c.args.input.now rs c.args.frames.now (map kept_of c.args.held.now.kept.items) (flat_map stretch_places c.in_ok-epoch.epoch.leaves)) c.as_slice.ensures c.in_ok-epoch.ensures.stands) in
    held_after c.args.layout.now o.whole (parts_of c.args.bodies.now.code.now) (all_of c.args.bodies.now) c.args.input.now c.args.bodies.now.budgets.task
    (listed c.args.held.now) o.stands o.laid o.lawful c.args.readers c.args.frames.now c.requires.readers c.requires.frames
    c.later_activations_change_nothing.ensures c.run_in_epochs.ensures.begins c.in_ok-epoch.epoch.plan (flat_map stretch_places c.as_slice-2.result.now) stands c.run_in_epochs.ensures.ends c.in_ok-ends.ends c.in_ok-ends.ensures.ends c.in_ok-ends.ensures.output
    c.take.new.self c.in_ok-take.ensures.ends c.in_ok-take.ensures.output (c.in_ok-take.ensures.kept (all_of c.args.bodies.now) o.laid) c.in_ok-take.ensures.without_end
