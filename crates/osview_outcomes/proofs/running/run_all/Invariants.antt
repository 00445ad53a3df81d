use Rattle.std.proofs.Common.{◌≡◌, ◌≤◌, length, count_by}
use Rattle.std.specs.Prelude.{is_none}
use Rattle.flow_core_laws.specs.Plans.{plan_meaning}
use Rattle.flow_core.specs.Board.{IsRun}
use Rattle.osview_outcomes.specs.Kept.{AreKept, StandBehind}
use Rattle.osview_outcomes.proofs.running.run_all.Given as goal

-- the frames before the turn were run, and what they read and wrote is kept
abbrev pub invariant-loop-turn : goal.invariant-loop-turn
invariant-loop-turn g l = record {
  run : IsRun l.plan (plan_meaning l.plan (g.B.Bodies.outcome l.bodies)) l.board l.turn;
  within : l.turn ≤ length l.board.waits.opened.items;
  fits : g.B.Bodies.fits l.bodies l.scratch;
  kept : AreKept l.plan (plan_meaning l.plan (g.B.Bodies.outcome l.bodies)) l.board.ends.items l.inputs l.outputs;
  behind : StandBehind l.plan l.board.waits.opened.items l.turn;
  inputs : length l.inputs ≡ length l.plan.frames;
  outputs : length l.outputs ≡ length l.plan.frames;
}

abbrev pub decreases-loop-turn : goal.decreases-loop-turn
decreases-loop-turn g l = count_by is_none l.board.ends.items
