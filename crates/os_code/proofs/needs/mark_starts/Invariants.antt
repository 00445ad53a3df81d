use Rattle.std.proofs.Common.{◌≡◌, ℕ, ◌<◌, false, length, slice_index_or, take}
use Rattle.os_code.specs.Needs.{starts_at}
use Rattle.os_code.proofs.needs.mark_starts.Given as goal

abbrev pub invariant-loop-unit : goal.invariant-loop-unit
invariant-loop-unit l = record {
  counted : length l.marks.items ≡ length l.parts.instrs;
  marked : (place : ℕ) → place < length l.parts.instrs → slice_index_or l.marks.items place false ≡ starts_at (take l.unit-index l.parts.units) place;
}
