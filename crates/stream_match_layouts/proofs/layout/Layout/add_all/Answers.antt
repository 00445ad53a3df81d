use Rattle.std.proofs.Common.{◌∙◌, ◌++◌, subst, take}
use Rattle.stream_match_layouts.specs.Layout.{IsLayoutOf}
use Rattle.stream_match_layouts.proofs.Appending.{takes_next, take_next}
use Rattle.stream_match_layouts.proofs.layout.Layout.add_all.Goals as goal

pub add-requires : goal.add-requires
add-requires c =
    takes_next c.args.self.now c.loop-activation.self c.args.activations.now c.loop-activation.activation-index c.activation-item.result c.requires
    c.loop-activation-test.true c.activation-item.is c.loop-activation.invariant.streams c.loop-activation.invariant.added

pub loop-activation-preserved : goal.loop-activation-preserved
loop-activation-preserved c = record {
  added = λ before is_of. subst (IsLayoutOf c.add.new.self) (take_next before c.args.activations.now c.loop-activation.activation-index c.activation-item.result c.loop-activation-test.true c.activation-item.is)
      (c.in_ok-add.ensures.added (before ++ take c.loop-activation.activation-index c.args.activations.now) (c.loop-activation.invariant.added before is_of));
  streams = c.in_ok-add.ensures.streams ∙ c.loop-activation.invariant.streams;
  input_len = c.in_ok-add.ensures.input ∙ c.loop-activation.invariant.input_len;
}
