use Rattle.std.proofs.Common.{◌∙◌, ◌++◌, subst, sym, take}
use Rattle.stream_match_layouts.specs.Layout.{IsLayoutOf}
use Rattle.stream_match_layouts.proofs.Appending.{takes_next, take_next}
use Rattle.epoch_run.specs.NextSpans.{joined}
use Rattle.epoch_run.proofs.LaidBehind.{length-joined}
use Rattle.epoch_run.proofs.next_spans.NextSpans.add_all.Goals as goal

pub add-requires : goal.add-requires
add-requires c =
    let layout = c.args.layout.now in
    takes_next (joined layout c.args.self.now) (joined layout c.loop-activation.self) c.args.activations.now c.loop-activation.activation-index c.activation-item.result c.requires
    c.loop-activation-test.true c.activation-item.is (length-joined layout c.loop-activation.self ∙ sym (length-joined layout c.args.self.now)) c.loop-activation.invariant.added

pub loop-activation-preserved : goal.loop-activation-preserved
loop-activation-preserved c = record {
  added = λ before is_of. subst (IsLayoutOf (joined c.args.layout.now c.add.new.self)) (take_next before c.args.activations.now c.loop-activation.activation-index c.activation-item.result c.loop-activation-test.true c.activation-item.is)
      (c.in_ok-add.ensures (before ++ take c.loop-activation.activation-index c.args.activations.now) (c.loop-activation.invariant.added before is_of));
}
