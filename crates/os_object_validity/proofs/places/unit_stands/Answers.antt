use Rattle.std.proofs.Common.{◌≡◌, ◌+◌, length, ap, arith}
use Rattle.std.specs.Prelude.{nat_le}
use Rattle.std.proofs.lemmas.Bool.{and_from, le-leb}
use Rattle.std.proofs.lemmas.Option.{slice_get_within}
use Rattle.os_code.proofs.Regions.{within, next_start-above, next_start-end}
use Rattle.os_code.specs.Parts.{region_end}
use Rattle.os_object_validity.proofs.Standing.{place_more, instr_read}
use Rattle.os_object_validity.proofs.places.unit_stands.Goals as goal

pub overflow_sub-region : goal.overflow_sub-region
overflow_sub-region c =
    let inside = c.requires.regions.starts_inside c.args.region.number c.args.region.unit c.requires.is_unit in
    let above = next_start-above (length c.args.parts.now.instrs) c.args.region.unit.start c.args.parts.now.units inside in
    let ends = c.requires.ends in
    omega (arith, above, ends)

pub offset_bounds-as_slice-place : goal.offset_bounds-as_slice-place
offset_bounds-as_slice-place c =
    let below = next_start-end (length c.args.parts.now.instrs) c.args.region.unit.start c.args.parts.now.units in
    let ends = c.requires.ends in
    let short = c.requires.regions.short in
    let test = c.loop-place-test.true in
    omega (arith, below, ends, short, test)

pub bounds-as_slice-place : goal.bounds-as_slice-place
bounds-as_slice-place c =
    let below = next_start-end (length c.args.parts.now.instrs) c.args.region.unit.start c.args.parts.now.units in
    let ends = c.requires.ends in
    let test = c.loop-place-test.true in
    let counted : length c.as_slice.result.now ≡ length c.args.parts.now.instrs = ap length c.as_slice.ensures in
    omega (arith, below, ends, test, counted)

pub place_stands-requires-clause-there : goal.place_stands-requires-clause-there
place_stands-requires-clause-there c = slice_get_within c.args.parts.now.units c.args.region.number c.args.region.unit c.requires.is_unit

pub returns-then-not-place_stands-clause-no : goal.returns-then-not-place_stands-clause-no
returns-then-not-place_stands-clause-no c e stand =
    let below = next_start-end (length c.args.parts.now.instrs) c.args.region.unit.start c.args.parts.now.units in
    let ends = c.requires.ends in
    let test = c.loop-place-test.true in
    let counted : length c.as_slice.result.now ≡ length c.args.parts.now.instrs = ap length c.as_slice.ensures in
    let has = instr_read c.args.parts.now c.args.region.number c.args.region.unit c.as_slice.result.now c.loop-place.place c.as_slice.ensures
    (omega (arith, below, ends, test, counted)) c.requires.is_unit (omega arith) (omega (arith, ends, test)) in
    let here = stand.places c.loop-place.place _ has in
    cc

pub loop-place-preserved : goal.loop-place-preserved
loop-place-preserved c =
    let below = next_start-end (length c.args.parts.now.instrs) c.args.region.unit.start c.args.parts.now.units in
    let ends = c.requires.ends in
    let test = c.loop-place-test.true in
    let counted : length c.as_slice.result.now ≡ length c.args.parts.now.instrs = ap length c.as_slice.ensures in
    place_more c.args.parts.now c.args.region.number c.args.region.unit c.as_slice.result.now c.loop-place.place c.as_slice.ensures
    (omega (arith, below, ends, test, counted)) (cc) c.loop-place.invariant

pub returns-clause-yes : goal.returns-clause-yes
returns-clause-yes c e =
    let ends = c.requires.ends in
    let last = c.loop-place-test.false in
    let args = c.if-region.false in
    let stack = c.if-region-start.false in
    let inside = c.requires.regions.starts_inside c.args.region.number c.args.region.unit c.requires.is_unit in
    let above = next_start-above (length c.args.parts.now.instrs) c.args.region.unit.start c.args.parts.now.units inside in
    record {
      frame = and_from (nat_le (c.args.region.unit.start + c.args.region.unit.stack) (region_end c.args.parts.now c.args.region.unit))
          (nat_le c.args.region.unit.args c.args.region.unit.slots)
          (le-leb (c.args.region.unit.start + c.args.region.unit.stack) (region_end c.args.parts.now c.args.region.unit) (omega (arith, ends, stack, above)))
          (le-leb c.args.region.unit.args c.args.region.unit.slots args);
      places = λ place instr has.
          let at = within c.args.parts.now c.args.region.unit place has.is_within in
          let to = at.to in
          c.loop-place.invariant place instr at.from (omega (arith, to, ends, last)) has.is_instr;
    }
