use Rattle.std.proofs.Common.{◌≡◌, length, ap, arith}
use Rattle.std.proofs.lemmas.Option.{slice_get_within}
use Rattle.os_object_validity.proofs.Standing.{unit_more}
use Rattle.os_object_validity.proofs.places.places_stand.Goals as goal

pub loop-number-preserved : goal.loop-number-preserved
loop-number-preserved c =
    unit_more c.args.parts.now c.as_slice-unit-items.result.now c.loop-number.number c.as_slice-unit-items.ensures (omega arith)
    (c.unit_stands.ensures.yes (cc)) c.loop-number.invariant

pub returns-clause-yes : goal.returns-clause-yes
returns-clause-yes c e number unit is =
    let low = slice_get_within c.args.parts.now.units number unit is in
    let counted : length c.as_slice-unit-items.result.now ≡ length c.args.parts.now.units = ap length c.as_slice-unit-items.ensures in
    let last = c.loop-number-test.false in
    c.loop-number.invariant number unit (omega (arith, low, counted, last)) is
