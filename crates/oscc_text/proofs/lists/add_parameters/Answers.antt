use Rattle.std.proofs.Common.{◌∙◌}
use Rattle.oscc_text.specs.Units.{parameter}
use Rattle.oscc_text.proofs.Joined.{one_more_from_none}
use Rattle.oscc_text.proofs.lists.add_parameters.Goals as goal

pub loop-number-preserved : goal.loop-number-preserved
loop-number-preserved c =
    c.in_ok-add_parameter.ensures ∙ one_more_from_none parameter c.loop-number.number c.args.told.now c.loop-number.told c.loop-number.invariant
