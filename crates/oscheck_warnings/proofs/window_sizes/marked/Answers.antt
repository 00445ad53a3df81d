use Rattle.std.proofs.Common.{ℕ}
use Rattle.oscheck_warnings.specs.Meanings.{what_at}
use Rattle.oscheck_warnings.specs.NoSizes.{is_wrong_size}
use Rattle.oscheck_warnings.specs.declared.extent.Extent.{Extent}
use Rattle.oscheck_warnings.proofs.Marked.{one_more_marked}
use Rattle.oscheck_warnings.proofs.window_sizes.marked.Goals as goal

pub loop-index-preserved : goal.loop-index-preserved
loop-index-preserved c =
    one_more_marked c.args.list.now (λ (e : Extent). e.place) (λ (e : Extent) (index : ℕ). is_wrong_size (what_at c.args.meanings.now) e) c.loop-index.places c.add_if.new.self
    c.loop-index.index _ c.is_wrong_size.result c.loop-index.invariant c.loop-index-test.true c.is_wrong_size.ensures c.in_ok-add_if.ensures
