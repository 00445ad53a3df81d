use Rattle.std.proofs.Common.{◌≡◌, ℕ, List, take}
use Rattle.flow_core_laws.specs.Window.{claims_of}
use Rattle.flow_core_laws.specs.declared.activation.Activation.{Activation}
use Rattle.stream_match_layouts.proofs.OffsetsBehind.{AreBehind}
use Rattle.epoch_run_portions.specs.Positions.{HavePassed}
use Rattle.epoch_run_portions.proofs.Passing.{HaveAdded}
use Rattle.epoch_run_portions.proofs.positions.Positions.pass.Given as goal

-- the claims so far were added
abbrev pub invariant-loop-claim : goal.invariant-loop-claim
invariant-loop-claim l = record {
  added : (streams : ℕ) (passed : List Activation) → HavePassed streams passed l.fn.self → HaveAdded streams l.frame (claims_of passed) l.activation.claims l.claim-index l.self;
  count : l.self.count ≡ l.fn.self.count;
  offsets : AreBehind (take l.claim-index l.activation.claims) l.offsets;
}
