use Rattle.std.proofs.Common.{◌≡◌, take}
use Rattle.std.specs.List.{flat_map}
use Rattle.stream_match.specs.Stretch.{stretch_places}
use Rattle.stream_match.proofs.places.places_in.Given as goal

abbrev pub invariant-loop-stretch : goal.invariant-loop-stretch
invariant-loop-stretch l = l.places ≡ flat_map stretch_places (take l.stretch-index l.stretches)
