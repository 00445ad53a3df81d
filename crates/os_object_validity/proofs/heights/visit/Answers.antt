use Rattle.std.proofs.Common.{◌≡◌, rules, true}
use Rattle.os_object_validity.proofs.Exploring.{no_room, has_instr, visited}
use Rattle.os_object_validity.proofs.heights.visit.Goals as goal

pub returns-in_default-clause-no : goal.returns-in_default-clause-no
returns-in_default-clause-no c e fits =
    no_room c.args.parts.now c.args.heights.now c.args.waiting.now.items c.args.at c.args.region.number c.args.region.unit _ (λ place. place ≡ c.args.at.place)
    c.requires.explored
    (has_instr c.args.parts.now c.args.heights.now c.args.at c.args.region.number c.args.region.unit c.as_slice.result.now c.requires.is_unit c.requires.number c.requires.entry c.as_slice.ensures)
    c.requires.entry.height c.in_default.ensures.none fits

pub go_on-requires-clause-is_instr : goal.go_on-requires-clause-is_instr
go_on-requires-clause-is_instr c =
    (has_instr c.args.parts.now c.args.heights.now c.args.at c.args.region.number c.args.region.unit c.as_slice.result.now c.requires.is_unit c.requires.number c.requires.entry c.as_slice.ensures).is_instr

pub jump-requires-clause-is_instr : goal.jump-requires-clause-is_instr
jump-requires-clause-is_instr c =
    (has_instr c.args.parts.now c.args.heights.now c.args.at c.args.region.number c.args.region.unit c.as_slice.result.now c.requires.is_unit c.requires.number c.requires.entry c.as_slice.ensures).is_instr

pub returns-clause-yes : goal.returns-clause-yes
returns-clause-yes c e =
    let went : c.in_ok-go_on.field-0 ≡ true = search rules in
    let jumped : c.in_ok-jump.field-0 ≡ true = search rules in
    visited c.args.parts.now c.requires.regions _ _ _ _ c.args.at c.args.region.number c.args.region.unit _ c.in-Some.after (c.in_ok-jump.ensures.yes jumped)
    (has_instr c.args.parts.now c.args.heights.now c.args.at c.args.region.number c.args.region.unit c.as_slice.result.now c.requires.is_unit c.requires.number c.requires.entry c.as_slice.ensures)
    c.requires.entry.height c.in_ok-go_on.ensures.kept c.in_ok-jump.ensures.kept c.in-Some.ensures.some.0 c.in-Some.ensures.some.1 (c.in_ok-go_on.ensures.next went)
    (c.in_ok-jump.ensures.target jumped)
