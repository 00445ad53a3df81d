use Rattle.std.proofs.Common.{ℕ, ◌<◌, ◌^◌, List, length, get_or}
use Rattle.replay_tests.proofs.plans.may_replay.Given as goal

abbrev pub invariant-loop-list : goal.invariant-loop-list
invariant-loop-list l = (k : ℕ) (d : List ℕ) → k < l.list-index → length (get_or l.lists k d) < 2 ^ 32
