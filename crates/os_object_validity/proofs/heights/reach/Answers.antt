use Rattle.std.proofs.Common.{◌≡◌, ◌+◌, List, length, set, Some, None, sym, subst, ap, ◌∙◌, arith}
use Rattle.std.proofs.lemmas.Bool.{eqb-false}
use Rattle.std.proofs.lemmas.List.{length_push, get_or-set_same}
use Rattle.os_object_validity.specs.declared.heights.Waiting.{Waiting}
use Rattle.os_object_validity.specs.Tables.{IsExplored}
use Rattle.os_object_validity.proofs.Exploring.{inside, explored-set, other_height, unknown-set, none-from}
use Rattle.os_object_validity.proofs.heights.reach.Goals as goal

pub offset_bounds-heights-to : goal.offset_bounds-heights-to
offset_bounds-heights-to c =
    let at = inside c.args.parts.now c.args.unit c.args.to.place c.requires.is_within in
    let short = c.requires.regions.short in
    omega (arith, at, short)

pub bounds : goal.bounds
bounds c =
    let at = inside c.args.parts.now c.args.unit c.args.to.place c.requires.is_within in
    let e = c.requires.explored.counted in
    omega (arith, at, e)

pub returns-in-Some-clause-no : goal.returns-in-Some-clause-no
returns-in-Some-clause-no c apart fits =
    other_height c.args.parts.now c.args.heights.now c.args.waiting.now.items c.args.from c.args.to c.args.unit c.in-Some.height c.requires.explored
    c.requires.is_unit c.requires.reached c.requires.is_within c.in-Some.is (eqb-false c.in-Some.height c.args.to.height apart) fits

pub offset_bounds-heights-to-2 : goal.offset_bounds-heights-to-2
offset_bounds-heights-to-2 c =
    let at = inside c.args.parts.now c.args.unit c.args.to.place c.requires.is_within in
    let short = c.requires.regions.short in
    omega (arith, at, short)

pub bounds-heights-to-2 : goal.bounds-heights-to-2
bounds-heights-to-2 c =
    let at = inside c.args.parts.now c.args.unit c.args.to.place c.requires.is_within in
    let e = c.requires.explored.counted in
    omega (arith, at, e)

pub returns-clause-yes : goal.returns-clause-yes
returns-clause-yes c e =
    subst (λ (ws : List Waiting). IsExplored c.args.parts.now (set c.args.heights.now c.args.to.place (Some c.args.to.height)) ws (λ place. place ≡ c.args.from)) (sym c.in_ok-push.ensures.items)
    (explored-set c.args.parts.now c.requires.regions c.args.heights.now c.args.waiting.now.items c.args.from c.args.to c.args.unit c.requires.explored
    c.requires.is_unit c.requires.reached c.requires.is_within (none-from _ c.in_default.not-Some))

pub returns-clause-reached : goal.returns-clause-reached
returns-clause-reached c same =
    let at = inside c.args.parts.now c.args.unit c.args.to.place c.requires.is_within in
    let e = c.requires.explored.counted in
    get_or-set_same c.args.heights.now c.args.to.place (Some c.args.to.height) None (omega (arith, at, e))

pub returns-clause-fewer : goal.returns-clause-fewer
returns-clause-fewer c =
    let at = inside c.args.parts.now c.args.unit c.args.to.place c.requires.is_within in
    let e = c.requires.explored.counted in
    let less = unknown-set c.args.heights.now c.args.to.place c.args.to.height (omega (arith, at, e)) (none-from _ c.in_default.not-Some) in
    let more : length c.push.new.self.items ≡ length c.args.waiting.now.items + 1 = ap length c.in_ok-push.ensures.items ∙ length_push c.args.waiting.now.items c.args.to in
    omega (arith, less, more)
