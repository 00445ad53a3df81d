use Rattle.std.proofs.Common.{◌+◌, ◌*◌, length}
use Rattle.os_object_validity.specs.Tables.{IsExplored, unknown}
use Rattle.os_object_validity.proofs.heights.heights_fit.Given as goal

abbrev pub invariant-loop-next : goal.invariant-loop-next
invariant-loop-next l = IsExplored l.parts l.heights.items l.waiting.items (λ place. ⊥)

abbrev pub decreases-loop-next : goal.decreases-loop-next
decreases-loop-next l = 2 * unknown l.heights.items + length l.waiting.items
