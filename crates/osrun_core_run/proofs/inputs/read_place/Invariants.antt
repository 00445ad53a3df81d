use Rattle.std.proofs.Common.{◌≡◌, drop, slice_get}
use Rattle.std.specs.List.{flat_map}
use Rattle.collector.specs.Walking.{read_places}
use Rattle.osrun_core_run.proofs.inputs.read_place.Given as goal

-- the element is the one of what is left of its number among those that the spans from here on read
abbrev pub invariant-loop-span : goal.invariant-loop-span
invariant-loop-span l = slice_get (flat_map read_places l.spans) l.number ≡ slice_get (flat_map read_places (drop l.span-index l.spans)) l.left
