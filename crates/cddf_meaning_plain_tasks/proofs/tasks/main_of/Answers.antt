use Rattle.std.proofs.Common.{◌<◌, length, map, Some, add-one, ap, sym, ◌∙◌, arith}
use Rattle.cddf_meaning.specs.Program.{main_at}
use Rattle.cddf_meaning_plain_tasks.proofs.Mains.{main-from, main_here, main_past}
use Rattle.cddf_meaning_plain_state.proofs.Reached.{map-take-tree}
use Rattle.os_ast.specs.Views.{function_tree, item_tree}
use Rattle.cddf_meaning_plain_tasks.proofs.tasks.main_of.Goals as goal

pub returns-in-Some-clause-main : goal.returns-in-Some-clause-main
returns-in-Some-clause-main c =
    let items = c.args.items.now in
    let place = c.loop-place.place in
    let f = function_tree c.in-Some.function.now in
    let inside : place < length items = omega (arith, c.loop-place-test) in
    sym c.loop-place.invariant
    ∙ main_here items place c.index-items-place.result f inside c.index-items-place.is c.in-Some.ensures.main c.in-Some.ensures.named
    ∙ ap (λ ts. Some (main_at ts f)) (sym (map-take-tree place items))

pub loop-place-preserved : goal.loop-place-preserved
loop-place-preserved c =
    let items = c.args.items.now in
    let place = c.loop-place.place in
    let inside : place < length items = omega (arith, c.loop-place-test) in
    ap (main-from (map item_tree items)) (add-one place)
    ∙ sym (main_past items place c.index-items-place.result inside c.index-items-place.is (c.main_in.ensures.other c.in_default.is))
    ∙ c.loop-place.invariant
