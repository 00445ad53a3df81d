use Rattle.std.proofs.Common.{◌≡◌, ℕ, ℤ, List, Option}
use Rattle.flow_core_laws.specs.declared.plan.Plan.{Plan}
use Rattle.flow_core.specs.declared.board.Board.{Board}
use Rattle.flow_core.specs.Counted.{IsCounted, Carries}
use Rattle.flow_core.specs.Waits.{OpensMore}
use Rattle.flow_core_laws.specs.Plans.{frame_at}
use Rattle.flow_core.proofs.board.Board.deliver.Given as goal

-- the pieces before one are carried over
pub record HasDelivered (plan : Plan) (first number : ℕ) (root : Option ℕ) (outputs : List ℤ) (old new : Board) : Type 0 where
  pub counted : IsCounted plan new.cells.items new.waits
  pub carried : Carries plan first number root outputs old.cells.items new.cells.items
  pub opens : OpensMore old.waits new.waits
  pub same_ends : new.ends.items ≡ old.ends.items

abbrev pub invariant-loop-number : goal.invariant-loop-number
invariant-loop-number l = HasDelivered l.plan (frame_at l.plan l.fn.frame).piece l.number l.root l.outputs l.initial.self l.self
