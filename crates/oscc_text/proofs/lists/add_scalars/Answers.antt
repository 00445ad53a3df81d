use Rattle.std.proofs.Common.{◌∙◌}
use Rattle.oscc_text.specs.Sites.{scalar}
use Rattle.oscc_text.proofs.Joined.{one_more_from_none}
use Rattle.oscc_text.proofs.lists.add_scalars.Goals as goal

pub loop-number-preserved : goal.loop-number-preserved
loop-number-preserved c =
    c.in_ok-add_scalar.ensures ∙ one_more_from_none scalar c.loop-number.number c.args.told.now c.loop-number.told c.loop-number.invariant
