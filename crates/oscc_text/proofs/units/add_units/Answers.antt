use Rattle.std.proofs.Common.{◌∙◌}
use Rattle.os_code.specs.Codes.{parts_of}
use Rattle.oscc_text.specs.Units.{unit_text_at}
use Rattle.oscc_text.proofs.Joined.{one_more_from_none}
use Rattle.oscc_text.proofs.units.add_units.Goals as goal

pub loop-number-preserved : goal.loop-number-preserved
loop-number-preserved c =
    c.in_ok-add_unit_at.ensures ∙ one_more_from_none (unit_text_at (parts_of c.args.code.now)) c.loop-number.number c.args.told.now c.loop-number.told c.loop-number.invariant
