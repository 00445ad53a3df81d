use Rattle.std.proofs.Common.{map, arith}
use Rattle.stream_match.specs.Kept.{kept_of}
use Rattle.epoch_run_carrying.proofs.Filtering.{left_more}
use Rattle.epoch_run_carrying.proofs.Leaves.{length_more, next_within, no_stretch}
use Rattle.epoch_run_carrying.proofs.carrying.carry_left.Goals as goal

pub overflow_add-end : goal.overflow_add-end
overflow_add-end c =
    let within = next_within c.args.leaves.now c.loop-leaving.leaving-index c.loop-leaving.at no_stretch c.loop-leaving-test.true c.loop-leaving.invariant.place in
    let same = c.requires.as_many in
    omega arith

pub offset_bounds-values-at : goal.offset_bounds-values-at
offset_bounds-values-at c =
    let within = next_within c.args.leaves.now c.loop-leaving.leaving-index c.loop-leaving.at no_stretch c.loop-leaving-test.true c.loop-leaving.invariant.place in
    let same = c.requires.as_many in
    omega arith

pub slice_bounds-carry_stretch-end : goal.slice_bounds-carry_stretch-end
slice_bounds-carry_stretch-end c =
    let within = next_within c.args.leaves.now c.loop-leaving.leaving-index c.loop-leaving.at no_stretch c.loop-leaving-test.true c.loop-leaving.invariant.place in
    let same = c.requires.as_many in
    omega arith

pub loop-leaving-preserved : goal.loop-leaving-preserved
loop-leaving-preserved c = record {
  place = omega (arith, length_more c.args.leaves.now c.loop-leaving.leaving-index no_stretch c.loop-leaving-test.true, c.loop-leaving.invariant.place);
  carried = left_more c.args.cursors.now c.args.leaves.now c.args.values.now c.loop-leaving.leaving-index c.loop-leaving.at no_stretch
      (map kept_of c.args.carried.now.items) (map kept_of c.loop-leaving.carried.items) (map kept_of c.carry_stretch.new.carried.items)
      c.requires.as_many c.loop-leaving-test.true c.loop-leaving.invariant.place c.loop-leaving.invariant.carried c.in_ok-carry_stretch.ensures;
}
