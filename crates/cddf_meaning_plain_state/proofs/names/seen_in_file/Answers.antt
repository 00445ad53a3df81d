use Rattle.std.proofs.Common.{◌≡◌, ◌<◌, ◌-◌, suc, length, map, take, arith, ap, ◌∙◌, sym, subst, Ok, Option}
use Rattle.cddf_meaning.specs.Functions.{file_of}
use Rattle.cddf_meaning_plain_state.specs.Seen.{seen}
use Rattle.cddf_meaning_plain_state.specs.Stops.{Comes}
use Rattle.cddf_meaning.specs.Variables.{find}
use Rattle.cddf_meaning.specs.declared.variable.Variable.{Variable}
use Rattle.cddf_meaning_plain_state.proofs.Reached.{found-here, found-before}
use Rattle.cddf_meaning_plain_state.proofs.names.seen_in_file.Goals as goal
use Rattle.os_ast.specs.Views.{item_tree}

pub returns-then-item_id-id : goal.returns-then-item_id-id
returns-then-item_id-id c s =
    let file = c.args.file.now in
    let place = c.loop-place.place - 1 in
    let inside : place < length file = omega (arith, c.loop-place.invariant, c.loop-place-test) in
    let next : c.loop-place.place ≡ suc place = omega (arith, c.loop-place-test) in
    let found = c.loop-place.invariant.1 ∙ ap (λ k. find (file_of (take k (map item_tree file))).names c.args.id) next
    ∙ found-here file place c.args.id c.index-file-place.result inside c.index-file-place.is (sym c.item_id.ensures ∙ c.if-item_id-id.true) in
    let P : Option Variable → Type 0 = λ v. Comes c.seen_item.result (Ok (seen s v)) in
    subst P (sym found) (c.seen_item.ensures s)

pub loop-place-preserved : goal.loop-place-preserved
loop-place-preserved c =
    let file = c.args.file.now in
    let place = c.loop-place.place - 1 in
    let inside : place < length file = omega (arith, c.loop-place.invariant, c.loop-place-test) in
    let next : c.loop-place.place ≡ suc place = omega (arith, c.loop-place-test) in (
      omega (arith, c.loop-place.invariant),
      c.loop-place.invariant.1 ∙ ap (λ k. find (file_of (take k (map item_tree file))).names c.args.id) next
          ∙ found-before file place c.args.id c.index-file-place.result inside c.index-file-place.is
          (λ e. c.if-item_id-id.false (c.item_id.ensures ∙ e)),
    )
