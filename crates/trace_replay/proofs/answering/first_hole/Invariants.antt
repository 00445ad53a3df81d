use Rattle.std.proofs.Common.{ℕ, ◌<◌, ◌≤◌}
use Rattle.std.specs.Prelude.{IsSome}
use Rattle.flow_core_laws.specs.Plans.{frame_at, held_at}
use Rattle.trace_replay.proofs.answering.first_hole.Given as goal

abbrev pub invariant-loop-cell : goal.invariant-loop-cell
invariant-loop-cell l = (c : ℕ) → (frame_at l.plan l.frame).cell ≤ c → c < l.cell → IsSome (held_at l.board.cells.items c)
