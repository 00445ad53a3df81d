use Rattle.std.proofs.Common.{◌≡◌, ℕ, drop}
use Rattle.oscheck_warnings.specs.Bursts.{size_behind, size_of}
use Rattle.oscheck_warnings.specs.Meanings.{what_at}
use Rattle.oscheck_warnings.specs.Sizes.{sized}
use Rattle.oscheck_warnings.proofs.bursts.all_sizes.Given as goal

abbrev pub invariant-loop-extent : goal.invariant-loop-extent
invariant-loop-extent l =
    (slot : ℕ) → size_behind (what_at l.meanings) (sized l.sizes slot) (drop l.extent-index l.list) slot ≡ size_of l.list (what_at l.meanings) slot
