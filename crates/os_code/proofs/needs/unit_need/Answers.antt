use Rattle.std.proofs.Common.{◌≡◌, ℕ, ◌+◌, length, get_or, arith, ap, subst}
use Rattle.std.proofs.lemmas.Option.{slice_get-get_or}
use Rattle.os_code.specs.declared.unit.CodeUnit.{CodeUnit}
use Rattle.os_code.specs.NeedTables.{LargestFrom}
use Rattle.os_code.proofs.Tables.{is_row, stack-few, slots-few}
use Rattle.os_code.proofs.needs.unit_need.Goals as goal

pub most_called_of-called-requires : goal.most_called_of-called-requires
most_called_of-called-requires c =
    let row = is_row c.args.parts.now c.requires.valid c.args.marks.now c.requires.marked c.args.number c.as_slice.result.now (get_or c.as_slice.result.now c.args.number (record { start = 0; args = 0; slots = 0; stack = 0 }))
    c.end_of_region-end.result c.as_slice-2.result.now c.args.table.now c.requires.known c.as_slice.ensures
    (slice_get-get_or c.as_slice.result.now c.args.number (record { start = 0; args = 0; slots = 0; stack = 0 }) (omega (arith, ap length c.as_slice.ensures, c.requires.there)))
    c.as_slice-2.ensures c.end_of_region-end.ensures.after c.end_of_region-end.ensures.inside c.end_of_region-end.ensures.none_between c.end_of_region-end.ensures.ends in
    row.callees

pub overflow_add-result : goal.overflow_add-result
overflow_add-result c =
    let row = is_row c.args.parts.now c.requires.valid c.args.marks.now c.requires.marked c.args.number c.as_slice.result.now (get_or c.as_slice.result.now c.args.number (record { start = 0; args = 0; slots = 0; stack = 0 }))
    c.end_of_region-end.result c.as_slice-2.result.now c.args.table.now c.requires.known c.as_slice.ensures
    (slice_get-get_or c.as_slice.result.now c.args.number (record { start = 0; args = 0; slots = 0; stack = 0 }) (omega (arith, ap length c.as_slice.ensures, c.requires.there)))
    c.as_slice-2.ensures c.end_of_region-end.ensures.after c.end_of_region-end.ensures.inside c.end_of_region-end.ensures.none_between c.end_of_region-end.ensures.ends in
    let few = stack-few c.args.parts.now c.requires.valid c.args.number _ row.stack in
    let called = c.most_called_of-called.ensures.stack in
    omega (arith, few, called, c.from.ensures)

pub overflow_add-result-2 : goal.overflow_add-result-2
overflow_add-result-2 c =
    let row = is_row c.args.parts.now c.requires.valid c.args.marks.now c.requires.marked c.args.number c.as_slice.result.now (get_or c.as_slice.result.now c.args.number (record { start = 0; args = 0; slots = 0; stack = 0 }))
    c.end_of_region-end.result c.as_slice-2.result.now c.args.table.now c.requires.known c.as_slice.ensures
    (slice_get-get_or c.as_slice.result.now c.args.number (record { start = 0; args = 0; slots = 0; stack = 0 }) (omega (arith, ap length c.as_slice.ensures, c.requires.there)))
    c.as_slice-2.ensures c.end_of_region-end.ensures.after c.end_of_region-end.ensures.inside c.end_of_region-end.ensures.none_between c.end_of_region-end.ensures.ends in
    let few = slots-few c.args.parts.now c.requires.valid c.args.number _ row.slots in
    let called = c.most_called_of-called.ensures.slots in
    omega (arith, few, called, c.from-2.ensures)

pub returns-clause-stack : goal.returns-clause-stack
returns-clause-stack c =
    let row = is_row c.args.parts.now c.requires.valid c.args.marks.now c.requires.marked c.args.number c.as_slice.result.now (get_or c.as_slice.result.now c.args.number (record { start = 0; args = 0; slots = 0; stack = 0 }))
    c.end_of_region-end.result c.as_slice-2.result.now c.args.table.now c.requires.known c.as_slice.ensures
    (slice_get-get_or c.as_slice.result.now c.args.number (record { start = 0; args = 0; slots = 0; stack = 0 }) (omega (arith, ap length c.as_slice.ensures, c.requires.there)))
    c.as_slice-2.ensures c.end_of_region-end.ensures.after c.end_of_region-end.ensures.inside c.end_of_region-end.ensures.none_between c.end_of_region-end.ensures.ends in
    let same : _ ≡ c.from.result + c.most_called_of-called.result.stack = let called = c.most_called_of-called.ensures.stack in omega (arith, called, c.from.ensures) in
    subst (λ (n : ℕ). LargestFrom c.args.parts.now (λ (u : CodeUnit). u.stack) c.args.number n) same row.stack

pub returns-clause-slots : goal.returns-clause-slots
returns-clause-slots c =
    let row = is_row c.args.parts.now c.requires.valid c.args.marks.now c.requires.marked c.args.number c.as_slice.result.now (get_or c.as_slice.result.now c.args.number (record { start = 0; args = 0; slots = 0; stack = 0 }))
    c.end_of_region-end.result c.as_slice-2.result.now c.args.table.now c.requires.known c.as_slice.ensures
    (slice_get-get_or c.as_slice.result.now c.args.number (record { start = 0; args = 0; slots = 0; stack = 0 }) (omega (arith, ap length c.as_slice.ensures, c.requires.there)))
    c.as_slice-2.ensures c.end_of_region-end.ensures.after c.end_of_region-end.ensures.inside c.end_of_region-end.ensures.none_between c.end_of_region-end.ensures.ends in
    let same : _ ≡ c.from-2.result + c.most_called_of-called.result.slots = let called = c.most_called_of-called.ensures.slots in omega (arith, called, c.from-2.ensures) in
    subst (λ (n : ℕ). LargestFrom c.args.parts.now (λ (u : CodeUnit). u.slots) c.args.number n) same row.slots
