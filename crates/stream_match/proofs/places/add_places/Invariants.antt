use Rattle.std.proofs.Common.{◌≡◌, ◌++◌}
use Rattle.flow_core_laws.specs.Place.{places_from}
use Rattle.stream_match.proofs.places.add_places.Given as goal

abbrev pub invariant-loop-offset : goal.invariant-loop-offset
invariant-loop-offset l = l.places ≡ l.initial.places ++ places_from l.stretch.stream l.stretch.first l.offset
