use Rattle.std.proofs.Common.{◌≡◌, Bool, List, length, get_or, sym, ap, subst, arith, rules}
use Rattle.os_code.specs.IsValid.{HasRegions}
use Rattle.os_code.specs.NeedTables.{IsMarked}
use Rattle.os_object_validity.proofs.Elements.{no_unit, unit_read}
use Rattle.os_object_validity.proofs.Starting.{ends-more, all_ends}
use Rattle.os_object_validity.proofs.regions.ends_of.Goals as goal

pub loop-unit-preserved : goal.loop-unit-preserved
loop-unit-preserved c =
    let marked : IsMarked c.args.parts.now c.in-Some.marks.items = search rules in
    ends-more c.args.parts.now c.as_slice.result.now (subst (λ (l : List Bool). IsMarked c.args.parts.now l) (sym c.as_slice.ensures.value) marked)
    c.loop-unit.ends.items c.push.new.self.items c.loop-unit.unit-index c.end_of_region.result (get_or c.as_slice-unit-items.result.now c.loop-unit.unit-index no_unit)
    c.loop-unit.invariant
    (unit_read c.args.parts.now.units c.as_slice-unit-items.result.now c.loop-unit.unit-index c.as_slice-unit-items.ensures (omega arith))
    c.end_of_region.ensures.after c.end_of_region.ensures.inside c.end_of_region.ensures.none_between c.end_of_region.ensures.ends c.in_ok-push.ensures.items

pub returns-clause-some : goal.returns-clause-some
returns-clause-some c =
    let regions : HasRegions c.args.parts.now = search rules in
    let units : length c.as_slice-unit-items.result.now ≡ length c.args.parts.now.units = ap length c.as_slice-unit-items.ensures in
    let all : c.loop-unit.unit-index ≡ length c.args.parts.now.units = omega arith in
    (regions, all_ends c.args.parts.now c.loop-unit.ends.items c.loop-unit.unit-index all c.loop-unit.invariant)
