use Rattle.std.proofs.Common.{ℕ}
use Rattle.oscheck_warnings.specs.Meanings.{what_at}
use Rattle.oscheck_warnings.specs.NoSizes.{is_wrong_size}
use Rattle.oscheck_warnings.specs.declared.extent.Extent.{Extent}
use Rattle.oscheck_warnings.proofs.Marked.{AreMarked}
use Rattle.oscheck_warnings.proofs.window_sizes.marked.Given as goal

abbrev pub invariant-loop-index : goal.invariant-loop-index
invariant-loop-index l = AreMarked l.list (λ (e : Extent). e.place) (λ (e : Extent) (index : ℕ). is_wrong_size (what_at l.meanings) e) l.places l.index
