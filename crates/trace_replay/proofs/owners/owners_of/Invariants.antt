use Rattle.std.proofs.Common.{◌≡◌, length}
use Rattle.trace_replay.specs.Owners.{OwnBefore}
use Rattle.trace_replay.proofs.owners.owners_of.Given as goal

abbrev pub invariant-loop-list : goal.invariant-loop-list
invariant-loop-list l = OwnBefore l.lists l.list 0 l.owners.items × (length l.owners.items ≡ l.frames)
