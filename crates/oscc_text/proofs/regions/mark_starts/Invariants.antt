use Rattle.std.proofs.Common.{◌≡◌, ℕ, ◌<◌, false, length, slice_index_or, take}
use Rattle.os_code.specs.Needs.{starts_at}
use Rattle.oscc_text.proofs.regions.mark_starts.Given as goal

-- the starts of the units so far are marked
abbrev pub invariant-loop-unit : goal.invariant-loop-unit
invariant-loop-unit l = record {
  counted : length l.marks.items ≡ length l.code.instrs;
  marked : (place : ℕ) → place < length l.code.instrs → slice_index_or l.marks.items place false ≡ starts_at (take l.unit-index l.code.units) place;
}
