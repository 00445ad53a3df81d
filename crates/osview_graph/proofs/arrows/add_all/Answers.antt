use Rattle.std.proofs.Common.{◌∙◌, ◌++◌, ◌<◌, List, ap, arith, get_or, length, ℕ}
use Rattle.osview_graph.specs.Arrows.{arrow_at}
use Rattle.osview_graph.proofs.Joined.{one_more_from_none}
use Rattle.osview_graph.proofs.Sizes.{drawn_here, left_behind}
use Rattle.osview_graph.proofs.arrows.add_all.Goals as goal

pub loop-one-preserved : goal.loop-one-preserved
loop-one-preserved c =
    let all = c.args.all.now in
    let k = c.loop-one.one-index in
    let lt : k < length all = omega (arith, c.loop-one-test.true) in
    record {
      told =
          c.in_ok-add_if_left.ensures
          ∙ ap (λ (x : List ℕ). c.loop-one.told ++ x) (drawn_here all k _ c.take-sizes.result lt (c.take-sizes.ensures.taken ∙ c.loop-one.invariant.rest (get_or all k _)))
          ∙ one_more_from_none (arrow_at all) k c.args.told.now c.loop-one.told c.loop-one.invariant.told;
      rest = λ u. left_behind all k _ u lt (c.loop-one.invariant.rest u) (c.take-sizes.ensures.others u);
    }
