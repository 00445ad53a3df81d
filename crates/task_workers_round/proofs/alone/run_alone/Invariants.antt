use Rattle.std.proofs.Common.{◌≤◌, length, count_by}
use Rattle.std.specs.Prelude.{is_none}
use Rattle.flow_core_laws.specs.Plans.{plan_meaning}
use Rattle.flow_core.specs.Board.{IsRun}
use Rattle.task_workers_round.proofs.alone.run_alone.Given as goal

abbrev pub invariant-loop-turn : goal.invariant-loop-turn
invariant-loop-turn g l = IsRun l.plan (plan_meaning l.plan (g.B.Bodies.outcome l.bodies)) l.board l.turn × (l.turn ≤ length l.board.waits.opened.items) × g.B.Bodies.fits l.bodies l.worker.scratch

abbrev pub decreases-loop-turn : goal.decreases-loop-turn
decreases-loop-turn g l = count_by is_none l.board.ends.items
