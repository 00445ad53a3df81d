use Rattle.std.proofs.Common.{◌≡◌, ℕ, List, [], length, get_or, Option, sym, subst, ap, ◌∙◌, arith, rules}
use Rattle.std.specs.Prelude.{slice_get}
use Rattle.std.proofs.lemmas.Option.{slice_get_within, slice_get-get_or}
use Rattle.os_code.specs.declared.unit.CodeUnit.{CodeUnit}
use Rattle.os_object_validity.specs.Tables.{IsEntry, IsExplored}
use Rattle.os_object_validity.proofs.Exploring.{explored-pop, explored-all, popped, few_units}
use Rattle.os_object_validity.proofs.heights.heights_fit.Goals as goal

pub offset_bounds-as_slice-next : goal.offset_bounds-as_slice-next
offset_bounds-as_slice-next c =
    let entry = popped c.args.parts.now c.loop-next.heights.items c.loop-next.waiting.items c.pop.new.self.items c.in-Some.next c.in-Some.ensures.items c.loop-next.invariant in
    let low = slice_get_within c.args.parts.now.units c.in-Some.next.number entry.unit entry.is_unit in
    let few = few_units c.args.parts.now c.requires.regions in
    omega (arith, low, few)

pub bounds-as_slice-next : goal.bounds-as_slice-next
bounds-as_slice-next c =
    let entry = popped c.args.parts.now c.loop-next.heights.items c.loop-next.waiting.items c.pop.new.self.items c.in-Some.next c.in-Some.ensures.items c.loop-next.invariant in
    let low = slice_get_within c.args.parts.now.units c.in-Some.next.number entry.unit entry.is_unit in
    let counted : length c.as_slice.result.now ≡ length c.args.parts.now.units = ap length c.as_slice.ensures in
    omega (arith, low, counted)

pub offset_bounds-ends-next : goal.offset_bounds-ends-next
offset_bounds-ends-next c =
    let entry = popped c.args.parts.now c.loop-next.heights.items c.loop-next.waiting.items c.pop.new.self.items c.in-Some.next c.in-Some.ensures.items c.loop-next.invariant in
    let low = slice_get_within c.args.parts.now.units c.in-Some.next.number entry.unit entry.is_unit in
    let few = few_units c.args.parts.now c.requires.regions in
    omega (arith, low, few)

pub bounds-ends-next : goal.bounds-ends-next
bounds-ends-next c =
    let entry = popped c.args.parts.now c.loop-next.heights.items c.loop-next.waiting.items c.pop.new.self.items c.in-Some.next c.in-Some.ensures.items c.loop-next.invariant in
    let low = slice_get_within c.args.parts.now.units c.in-Some.next.number entry.unit entry.is_unit in
    let counted = c.requires.ends.counted in
    omega (arith, low, counted)

pub visit-requires-clause-is_unit : goal.visit-requires-clause-is_unit
visit-requires-clause-is_unit c =
    let entry = popped c.args.parts.now c.loop-next.heights.items c.loop-next.waiting.items c.pop.new.self.items c.in-Some.next c.in-Some.ensures.items c.loop-next.invariant in
    let low = slice_get_within c.args.parts.now.units c.in-Some.next.number entry.unit entry.is_unit in
    let counted : length c.as_slice.result.now ≡ length c.args.parts.now.units = ap length c.as_slice.ensures in
    ap (λ (l : List CodeUnit). slice_get l c.in-Some.next.number) (sym c.as_slice.ensures)
    ∙ slice_get-get_or c.as_slice.result.now c.in-Some.next.number (record { start = 0; args = 0; slots = 0; stack = 0 }) (omega (arith, low, counted))

pub visit-requires-clause-ends : goal.visit-requires-clause-ends
visit-requires-clause-ends c =
    let entry = popped c.args.parts.now c.loop-next.heights.items c.loop-next.waiting.items c.pop.new.self.items c.in-Some.next c.in-Some.ensures.items c.loop-next.invariant in
    let low = slice_get_within c.args.parts.now.units c.in-Some.next.number entry.unit entry.is_unit in
    let counted : length c.as_slice.result.now ≡ length c.args.parts.now.units = ap length c.as_slice.ensures in
    c.requires.ends.each c.in-Some.next.number (get_or c.as_slice.result.now c.in-Some.next.number (record { start = 0; args = 0; slots = 0; stack = 0 }))
    (ap (λ (l : List CodeUnit). slice_get l c.in-Some.next.number) (sym c.as_slice.ensures)
    ∙ slice_get-get_or c.as_slice.result.now c.in-Some.next.number (record { start = 0; args = 0; slots = 0; stack = 0 }) (omega (arith, low, counted)))

pub visit-requires-clause-entry : goal.visit-requires-clause-entry
visit-requires-clause-entry c =
    subst (λ (hs : List (Option ℕ)). IsEntry c.args.parts.now hs c.in-Some.next) (sym c.as_mut_slice-in-Some.ensures.value)
    (popped c.args.parts.now c.loop-next.heights.items c.loop-next.waiting.items c.pop.new.self.items c.in-Some.next c.in-Some.ensures.items c.loop-next.invariant)

pub visit-requires-clause-explored : goal.visit-requires-clause-explored
visit-requires-clause-explored c =
    subst (λ (hs : List (Option ℕ)). IsExplored c.args.parts.now hs c.pop.new.self.items (λ place. place ≡ c.in-Some.next.place)) (sym c.as_mut_slice-in-Some.ensures.value)
    (explored-pop c.args.parts.now c.loop-next.heights.items c.loop-next.waiting.items c.pop.new.self.items c.in-Some.next c.in-Some.ensures.items c.loop-next.invariant)

pub returns-clause-yes : goal.returns-clause-yes
returns-clause-yes c e =
    let none : c.loop-next.waiting.items ≡ [] = search rules in
    explored-all c.args.parts.now c.requires.regions c.requires.targets c.loop-next.heights.items c.loop-next.waiting.items none c.loop-next.invariant
