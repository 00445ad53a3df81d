use Rattle.std.proofs.Common.{ℕ}
use Rattle.oscheck_warnings.specs.Meanings.{what_at}
use Rattle.oscheck_warnings.specs.Sizes.{is_wrong, sized}
use Rattle.oscheck_warnings.specs.declared.extent.Extent.{Extent}
use Rattle.oscheck_warnings.proofs.Marked.{AreMarked}
use Rattle.oscheck_warnings.proofs.bursts.marked.Given as goal

abbrev pub invariant-loop-index : goal.invariant-loop-index
invariant-loop-index l = AreMarked l.list (λ (e : Extent). e.place) (λ (e : Extent) (index : ℕ). is_wrong (sized l.sizes) (what_at l.meanings) e) l.places l.index
