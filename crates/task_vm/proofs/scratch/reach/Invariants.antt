use Rattle.std.proofs.Common.{◌≡◌, ◌+◌, ◌++◌, replicate, pos}
use Rattle.task_vm.proofs.scratch.reach.Given as goal

abbrev pub invariant-loop : goal.invariant-loop
invariant-loop l = (l.slots.items ≡ l.fn.slots.items ++ replicate l.counter (pos 0)) × (l.slots.spare + l.counter ≡ l.fn.slots.spare)
