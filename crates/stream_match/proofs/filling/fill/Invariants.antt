use Rattle.std.proofs.Common.{◌≡◌, ◌<◌, ◌+◌, ◌++◌, ℕ, length, get_or, take}
use Rattle.std.specs.Prelude.{sum_by}
use Rattle.std.specs.List.{flat_map}
use Rattle.stream_match.specs.EpochCode.{empty_in, filled_cells}
use Rattle.stream_match.proofs.filling.fill.Given as goal

abbrev pub invariant-loop-stretch : goal.invariant-loop-stretch
invariant-loop-stretch l = record {
  cells : l.cells ≡ l.initial.cells ++ flat_map (filled_cells l.input l.kept) (take l.stretch-index l.stretches);
  frames : length l.waits.items ≡ length l.initial.waits.items;
  counted : (f : ℕ) → f < length l.initial.waits.items → get_or l.waits.items f 0 ≡ get_or l.initial.waits.items f 0 + sum_by (empty_in l.input l.kept f) (take l.stretch-index l.stretches);
}
