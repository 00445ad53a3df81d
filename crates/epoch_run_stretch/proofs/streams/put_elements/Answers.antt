use Rattle.std.proofs.Common.{length, sym, ap, subst, ◌∙◌}
use Rattle.epoch_run_batches.specs.Meant.{AreMeant}
use Rattle.epoch_run_stretch.proofs.streams.put_elements.Goals as goal
use Rattle.epoch_run_stretch.proofs.streams.put_elements.Goals.{in-Some, in_default}

pub loop-place-preserved : goal.loop-place-preserved
loop-place-preserved c = elim c.match-element.branch [
  | in-Some w ↦ record {
    count = ap length w.elements-is ∙ w.put_element.ensures.count ∙ c.loop-place.invariant.count;
    meant = λ run stream held before. subst (AreMeant run stream c.args.from) (sym w.elements-is) (w.put_element.ensures.meant run stream (held c.loop-place.place _ w.in-Some.is) (c.loop-place.invariant.meant run stream held before));
  }
  | in_default w ↦ record {
    count = ap length w.elements-is ∙ c.loop-place.invariant.count;
    meant = λ run stream held before. subst (AreMeant run stream c.args.from) (sym w.elements-is) (c.loop-place.invariant.meant run stream held before);
  }
]
