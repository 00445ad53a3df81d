use Rattle.std.proofs.Common.{◌≡◌, ◌++◌, drop, map, take}
use Rattle.lowering_draft.specs.Draft.{with_places}
use Rattle.lowering_draft.specs.Emission.Units.{place_in}
use Rattle.lowering_draft.proofs.labels.resolve_all.Given as goal

abbrev pub invariant-loop-at : goal.invariant-loop-at
invariant-loop-at l = l.instrs ≡ map (with_places (place_in l.places)) (take l.at l.fn.instrs) ++ drop l.at l.fn.instrs
