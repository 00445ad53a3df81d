use Rattle.std.proofs.Common.{◌≡◌, length, ap, arith}
use Rattle.os_object_validity.proofs.Beginning.{explored-begun}
use Rattle.os_object_validity.proofs.heights.starts_of.Goals as goal

pub returns : goal.returns
returns c =
    let counted : length c.as_slice-unit-items.result.now ≡ length c.args.parts.now.units = ap length c.as_slice-unit-items.ensures in
    let last = c.loop-number-test.false in
    explored-begun c.args.parts.now c.requires.regions c.loop-number.heights c.loop-number.waiting.items c.loop-number.number (omega (arith, counted, last))
    c.loop-number.invariant
