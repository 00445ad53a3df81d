use Rattle.std.proofs.Common.{◌≡◌, ◌<◌, ◌≤◌, ◌^◌, length, get_or, true, false, ap, arith}
use Rattle.std.proofs.lemmas.Bool.Decides.{nat_tests}
use Rattle.os_object_validity.proofs.Elements.{no_unit, unit_read, mark_read}
use Rattle.os_object_validity.proofs.Starting.{apart-more, start_taken, no_code, no_first, all_marked, regions_from}
use Rattle.os_object_validity.proofs.regions.starts_of.Goals as goal

pub returns-then-index-clause-none : goal.returns-then-index-clause-none
returns-then-index-clause-none c =
    start_taken c.args.parts.now c.loop-unit.marks.items c.loop-unit.unit-index (get_or c.as_slice-unit-items.result.now c.loop-unit.unit-index no_unit) c.loop-unit.invariant
    (unit_read c.args.parts.now.units c.as_slice-unit-items.result.now c.loop-unit.unit-index c.as_slice-unit-items.ensures (omega arith))
    (mark_read c.loop-unit.marks.items _ _ true (omega arith) c.index.ensures c.if-index.true)

pub loop-unit-preserved : goal.loop-unit-preserved
loop-unit-preserved c =
    apart-more c.args.parts.now c.loop-unit.marks.items c.loop-unit.unit-index (get_or c.as_slice-unit-items.result.now c.loop-unit.unit-index no_unit) c.loop-unit.invariant
    (unit_read c.args.parts.now.units c.as_slice-unit-items.result.now c.loop-unit.unit-index c.as_slice-unit-items.ensures (omega arith))
    (omega arith) (mark_read c.loop-unit.marks.items _ _ false (omega arith) c.index.ensures c.if-index.false)

pub returns-then-is_empty-clause-none : goal.returns-then-is_empty-clause-none
returns-then-is_empty-clause-none c =
    let counted = c.loop-unit.invariant.counted in
    let none : length c.args.parts.now.instrs ≡ 0 = grind (arith, nat_tests) in
    no_code c.args.parts.now none

pub returns-then-not-index-clause-none : goal.returns-then-not-index-clause-none
returns-then-not-index-clause-none c =
    let counted = c.loop-unit.invariant.counted in
    let units : length c.as_slice-unit-items.result.now ≡ length c.args.parts.now.units = ap length c.as_slice-unit-items.ensures in
    let last = c.loop-unit-test.false in
    let some : 0 < length c.loop-unit.marks.items = grind (arith, nat_tests) in
    no_first c.args.parts.now c.loop-unit.marks.items
    (all_marked c.args.parts.now c.loop-unit.marks.items c.loop-unit.unit-index (omega (arith, units, last)) c.loop-unit.invariant) (omega (arith, some, counted))
    (mark_read c.loop-unit.marks.items 0 _ false some c.index-2.ensures c.if-not-index.true)

pub returns-clause-some : goal.returns-clause-some
returns-clause-some c =
    let units : length c.as_slice-unit-items.result.now ≡ length c.args.parts.now.units = ap length c.as_slice-unit-items.ensures in
    let last = c.loop-unit-test.false in
    let all : length c.args.parts.now.units ≤ c.loop-unit.unit-index = omega (arith, units, last) in
    let some : 0 < length c.loop-unit.marks.items = grind (arith, nat_tests) in
    let short : length c.args.parts.now.instrs < 2 ^ 32 = omega arith in (
      regions_from c.args.parts.now c.loop-unit.marks.items c.loop-unit.unit-index all short c.loop-unit.invariant
          (mark_read c.loop-unit.marks.items 0 _ true some c.index-2.ensures c.if-not-index.false),
      all_marked c.args.parts.now c.loop-unit.marks.items c.loop-unit.unit-index all c.loop-unit.invariant,
    )
