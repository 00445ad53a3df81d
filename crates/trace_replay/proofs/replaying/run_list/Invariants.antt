use Rattle.std.proofs.Common.{◌≡◌, ◌≢◌, ℕ, ◌-◌, [], length, get_or}
use Rattle.flow_core.specs.Waits.{OpensMore}
use Rattle.trace_replay.specs.Standing.{Stands}
use Rattle.trace_replay.proofs.replaying.run_list.Given as goal

abbrev pub invariant-loop-frame : goal.invariant-loop-frame
invariant-loop-frame g l = record {
  stands : Stands l.plan (g.B.Bodies.outcome l.bodies) l.lists l.places l.board;
  others : (k : ℕ) → k ≢ l.list → get_or l.places k 0 ≡ get_or l.fn.places k 0;
  opens : OpensMore l.fn.board.waits l.board.waits;
  fits : g.B.Bodies.fits l.bodies l.scratch;
}

abbrev pub decreases-loop-frame : goal.decreases-loop-frame
decreases-loop-frame g l = length (get_or l.lists l.list []) - get_or l.places l.list 0
