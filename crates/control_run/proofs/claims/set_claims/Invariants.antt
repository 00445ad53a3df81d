use Rattle.std.proofs.Common.{◌≡◌, ◌*◌, ◌≤◌, length, take, drop}
use Rattle.flow_core_laws.specs.Window.{horizon_sum}
use Rattle.os_code.specs.Machine.{spawned_claims}
use Rattle.control_run.proofs.Joining.{joined}
use Rattle.control_run.proofs.claims.set_claims.Given as goal

-- the claims so far, joined with those of the other items, are those of all
abbrev pub invariant-loop-k : goal.invariant-loop-k
invariant-loop-k l = record {
  claims : joined (take l.k l.claims) (spawned_claims l.streams l.slots (drop l.k l.items) (drop (2 * l.k) l.operands)) ≡ spawned_claims l.streams l.slots l.items l.operands;
  positions : l.positions ≡ horizon_sum (take l.k l.claims);
  low : l.positions ≤ l.k * 65536;
  room : length l.claims ≡ length l.items;
}
