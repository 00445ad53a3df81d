use Rattle.std.proofs.Common.{◌≡◌, ℕ, length}
use Rattle.std.specs.Prelude.{slice_index}
use Rattle.epoch_run_ready.specs.Lowering.{IsLowered}
use Rattle.epoch_run_ready.proofs.missing.lower.Given as goal

abbrev pub invariant-loop-span : goal.invariant-loop-span
invariant-loop-span l = record {
  length : length l.missing ≡ length l.initial.missing;
  lowered : (stream : ℕ) → IsLowered l.spans stream (slice_index l.initial.missing stream) (slice_index l.missing stream);
}
