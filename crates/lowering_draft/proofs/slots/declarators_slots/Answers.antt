use Rattle.std.proofs.Common.{◌≤◌, List, drop, length, map, ap, subst}
use Rattle.std.proofs.Math.ListN.{drop_of_length-le}
use Rattle.lowering_draft.proofs.Sums.{sum_done}
use Rattle.os_ast.specs.Views.{declarator_tree}
use Rattle.os_ast.specs.declared.stmt.Declarator.{Declarator}
use Rattle.lowering_relation.specs.Names.{told_at}
use Rattle.lowering_relation.specs.Programs.{size_by}
use Rattle.window_check_laws.specs.Sums.{declarators_slots}
use Rattle.lowering_draft.proofs.slots.declarators_slots.Goals as goal

pub returns : goal.returns
returns c =
    let all = c.args.declarators.now in
    let i = c.loop-declarator.declarator-index in
    let slots = λ (ds : List Declarator). declarators_slots c.args.owner (size_by (told_at c.args.told.now.names.now)) (map declarator_tree ds) in
    let past : length all ≤ i = subst (λ (ds : List Declarator). length ds ≤ i) c.as_slice-declarator-items.ensures c.loop-declarator-test.false in
    sum_done c.loop-declarator.sum (slots (drop i all)) (slots all) c.loop-declarator.invariant.small (ap slots (drop_of_length-le all past))
    c.loop-declarator.invariant.so_far
