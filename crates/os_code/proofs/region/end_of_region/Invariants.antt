use Rattle.std.proofs.Common.{◌≡◌, ℕ, ◌<◌, ◌≤◌, ◌-◌, false, length, slice_index_or}
use Rattle.os_code.proofs.region.end_of_region.Given as goal

abbrev pub invariant-loop-end : goal.invariant-loop-end
invariant-loop-end l = record {
  after : l.start < l.end;
  inside : l.end ≤ length l.marks;
  none_between : (place : ℕ) → l.start < place → place < l.end → slice_index_or l.marks place false ≡ false;
}

abbrev pub decreases-loop-end : goal.decreases-loop-end
decreases-loop-end l = length l.marks - l.end
