use Rattle.std.proofs.Common.{◌≡◌, ℕ, ◌<◌, None, get_or}
use Rattle.trace_replay_laws.specs.Lists.{number_in}
use Rattle.trace_replay.proofs.answering.first_left.Given as goal

abbrev pub invariant-loop-list : goal.invariant-loop-list
invariant-loop-list l = (k : ℕ) → k < l.list → number_in l.lists k (get_or l.places k 0) ≡ None
