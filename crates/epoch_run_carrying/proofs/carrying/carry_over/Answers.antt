use Rattle.std.proofs.Common.{length, map, ap, ◌∙◌}
use Rattle.std.specs.List.{flat_map}
use Rattle.stream_match.specs.Kept.{kept_of}
use Rattle.stream_match.specs.Stretch.{stretch_places}
use Rattle.epoch_run_carrying.specs.Carrying.{carried_by}
use Rattle.epoch_run_carrying.proofs.Filtering.{carried_by_cursors}
use Rattle.epoch_run_carrying.proofs.carrying.carry_over.Goals as goal

pub returns : goal.returns
returns c = λ activations of.
    let places = flat_map stretch_places c.args.leaves.now in
    c.in_ok-carry.ensures
    ∙ ap (λ cursors. carried_by cursors (map kept_of c.args.kept.now.items) places c.args.values.now) c.as_slice.ensures.value
    ∙ carried_by_cursors activations c.args.open_frames.now c.in_ok-cursors.cursors.items (length c.args.layout.now.writers) c.args.kept.now.items places c.args.values.now (c.in_ok-cursors.ensures activations of) c.requires.kept_exist c.requires.places_exist
