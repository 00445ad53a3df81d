use Rattle.std.proofs.Common.{◌∙◌, List, ap, map, subst, sym}
use Rattle.std.specs.List.{flat_map}
use Rattle.flow_core_laws.specs.declared.place.Place.{Place}
use Rattle.flow_core_epochs.specs.Epoch.{StandsForEpoch}
use Rattle.flow_core_epochs.proofs.Choosing.{chosen_all}
use Rattle.stream_match.specs.Kept.{kept_of}
use Rattle.stream_match.specs.Stretch.{stretch_places}
use Rattle.stream_match.proofs.epoch.build_epoch.Goals as goal

pub returns-clause-stands_for : goal.returns-clause-stands_for
returns-clause-stands_for c = λ activations is_of is_outside.
    let frames = c.args.frames.now in
    subst (λ (places : List Place). StandsForEpoch c.in_ok-ready.ready.plan activations c.args.input.now frames frames (map kept_of c.args.kept.now) places)
    (sym (c.in_ok-places.ensures ∙ ap (flat_map stretch_places) c.as_slice.ensures))
    (c.in_ok-ready.ensures.stands_for activations is_of is_outside)

pub returns-clause-adds_up : goal.returns-clause-adds_up
returns-clause-adds_up c = λ before new body state is_of part are_open has_kept is_outside.
    c.in_ok-ready.ensures.adds_up before new body state is_of part are_open (chosen_all before new c.args.input.now body state c.args.frames.now are_open) has_kept is_outside
