use Rattle.std.proofs.Common.{◌≡◌, length}
use Rattle.trace_replay.specs.Owners.{OwnBefore}
use Rattle.trace_replay.proofs.owners.own.Given as goal

abbrev pub invariant-loop-place : goal.invariant-loop-place
invariant-loop-place l = OwnBefore l.lists l.list l.place l.owners × (length l.owners ≡ length l.fn.owners)
