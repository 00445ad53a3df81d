use Rattle.std.proofs.Common.{◌≡◌, length, map, take, pos}
use Rattle.std.specs.Prelude.{slice_index_or}
use Rattle.control_run.proofs.claims.set_captured.Given as goal

abbrev pub invariant-loop-k : goal.invariant-loop-k
invariant-loop-k l = record {
  values : take l.k l.values ≡ map (λ slot. slice_index_or l.slots slot (pos 0)) (take l.k l.captured);
  room : length l.values ≡ length l.captured;
}
