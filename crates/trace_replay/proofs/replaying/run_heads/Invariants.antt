use Rattle.std.proofs.Common.{◌≤◌, ◌-◌, length}
use Rattle.trace_replay.specs.Standing.{Stands, AreQueued}
use Rattle.trace_replay.proofs.replaying.run_heads.Given as goal

abbrev pub invariant-loop-turn : goal.invariant-loop-turn
invariant-loop-turn g l = record {
  stands : Stands l.plan (g.B.Bodies.outcome l.bodies) l.lists l.places l.board;
  queued : AreQueued l.lists l.places l.board l.turn;
  within : l.turn ≤ length l.board.waits.opened.items;
  fits : g.B.Bodies.fits l.bodies l.scratch;
}

abbrev pub decreases-loop-turn : goal.decreases-loop-turn
decreases-loop-turn g l = length l.plan.frames - l.turn
