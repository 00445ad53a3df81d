use Rattle.std.proofs.Common.{◌≡◌, ℕ, ◌<◌, Some}
use Rattle.trace_replay_laws.specs.Lists.{number_in}
use Rattle.trace_replay.proofs.lists.first_stranger.Given as goal

abbrev pub invariant-loop-list : goal.invariant-loop-list
invariant-loop-list l = (k p f : ℕ) → k < l.list → number_in l.lists k p ≡ Some f → f < l.frames
