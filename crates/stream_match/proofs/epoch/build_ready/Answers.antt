use Rattle.std.proofs.Common.{◌∙◌, ◌++◌, length, map, refl, sym, subst, ap}
use Rattle.std.specs.List.{flat_map, range_with_len}
use Rattle.flow_core_epochs.specs.Epoch.{read_from, value_kept}
use Rattle.flow_core_epochs.proofs.Epochs.{adds_up}
use Rattle.flow_core_epochs.proofs.Opening.{has_epoch}
use Rattle.stream_match.specs.EpochPlan.{WrittenOutside, epoch_weave}
use Rattle.stream_match.specs.Kept.{kept_of}
use Rattle.stream_match.specs.Stretch.{stretch_places}
use Rattle.stream_match.proofs.EpochWeave.{can_weave}
use Rattle.stream_match.proofs.WovenSound.{woven_sound}
use Rattle.stream_match.proofs.EpochStands.{epoch_stands}
use Rattle.stream_match.proofs.EpochTop.{stands_same, outside_same}
use Rattle.stream_match.proofs.epoch.build_ready.Goals as goal

pub plan_of-requires-clause-outside : goal.plan_of-requires-clause-outside
plan_of-requires-clause-outside c =
    let frames = c.args.frames.now in
    let k = c.requires.kept in (
      k.activations,
      k.is_of,
      subst (λ ks. WrittenOutside k.activations frames (map kept_of ks)) (sym c.as_slice.ensures.value) (outside_same k.activations frames c.args.kept.now c.in_ok-kept.kept.items c.in_ok-kept.ensures.permutation k.outside.written_outside),
    )

pub returns-clause-sound : goal.returns-clause-sound
returns-clause-sound c =
    let layout = c.args.layout.now in
    let frames = c.args.frames.now in
    let input = c.args.input.now in
    let k = c.requires.kept in
    let sorted = c.as_slice.result.now in
    let cursors = map (read_from k.activations c.args.readers.now) (range_with_len 0 (length layout.writers)) in
    let outside = subst (λ ks. WrittenOutside k.activations frames (map kept_of ks)) (sym c.as_slice.ensures.value) (outside_same k.activations frames c.args.kept.now c.in_ok-kept.kept.items c.in_ok-kept.ensures.permutation k.outside.written_outside) in
    woven_sound layout (epoch_weave layout input frames (map kept_of sorted) cursors) (can_weave layout c.requires.layout k.activations k.is_of input frames (map kept_of sorted) cursors c.requires.frames outside) c.in_ok-epoch.epoch.plan (c.in_ok-epoch.ensures.plan k.activations k.is_of).woven

pub returns-clause-stands_for : goal.returns-clause-stands_for
returns-clause-stands_for c = λ activations is_of is_outside.
    let layout = c.args.layout.now in
    let frames = c.args.frames.now in
    let input = c.args.input.now in
    let sorted = c.as_slice.result.now in
    let cursors = map (read_from activations c.args.readers.now) (range_with_len 0 (length layout.writers)) in
    let outside = subst (λ ks. WrittenOutside activations frames (map kept_of ks)) (sym c.as_slice.ensures.value) (outside_same activations frames c.args.kept.now c.in_ok-kept.kept.items c.in_ok-kept.ensures.permutation is_outside.written_outside) in
    stands_same c.in_ok-epoch.epoch.plan activations input c.args.readers.now frames (map kept_of sorted) (map kept_of c.args.kept.now) (flat_map stretch_places c.in_ok-epoch.epoch.leaves)
    (λ p. ap (λ ks. value_kept (map kept_of ks) p) c.as_slice.ensures.value ∙ c.in_ok-kept.ensures.same is_outside.places_differ p)
    (epoch_stands layout c.requires.layout activations is_of input c.args.readers.now frames (map kept_of sorted) cursors c.requires.frames outside refl c.in_ok-epoch.epoch.plan (flat_map stretch_places c.in_ok-epoch.epoch.leaves) (c.in_ok-epoch.ensures.plan activations is_of))

pub returns-clause-adds_up : goal.returns-clause-adds_up
returns-clause-adds_up c = λ before new body state is_of part are_open chosen has_kept is_outside.
    let frames = c.args.frames.now in
    let input = c.args.input.now in
    let kept = map kept_of c.args.kept.now in
    let plan = c.in_ok-epoch.epoch.plan in
    let places = flat_map stretch_places c.in_ok-epoch.epoch.leaves in
    adds_up before new input body state c.args.readers.now frames kept plan places
    (has_epoch before new input body state c.args.readers.now frames kept plan places
    (record { state_is_part = part; readers_are_open = are_open; frames_are_chosen = chosen; has_kept = has_kept; plan_stands = returns-clause-stands_for c (before ++ new) is_of is_outside }))
