use Rattle.std.proofs.Common.{◌≡◌, List, map, take}
use Rattle.flow_core_laws.specs.declared.plan.FramePlan.{FramePlan}
use Rattle.flow_core.specs.declared.waits.Waits.{Waits}
use Rattle.flow_core.specs.Waits.{OpensFull}
use Rattle.flow_core.proofs.board.Board.open.Given as goal

-- the counters of the first frames
pub record IsBegun (frames : List FramePlan) (waits : Waits) : Type 0 where
  pub counters : waits.missing.items ≡ map (λ (f : FramePlan). f.wait) frames
  pub full : OpensFull waits

abbrev pub invariant-loop-frame : goal.invariant-loop-frame
invariant-loop-frame l = IsBegun (take l.frame-index l.plan.frames) l.waits
