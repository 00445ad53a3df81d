use Rattle.std.proofs.Common.{◌≡◌, ◌<◌, ◌-◌, suc, false, length, map, take, arith, ap, ◌∙◌, sym}
use Rattle.cddf_meaning.specs.Functions.{file_of}
use Rattle.cddf_meaning.specs.Variables.{flag_or}
use Rattle.cddf_meaning_plain_state.proofs.Reached.{flag-here, flag-before}
use Rattle.cddf_meaning_plain_state.proofs.names.unsigned_in_file.Goals as goal
use Rattle.os_ast.specs.Views.{item_tree}

pub returns-then-item_id-id : goal.returns-then-item_id-id
returns-then-item_id-id c =
    let file = c.args.file.now in
    let place = c.loop-place.place - 1 in
    let inside : place < length file = omega (arith, c.loop-place.invariant, c.loop-place-test) in
    let next : c.loop-place.place ≡ suc place = omega (arith, c.loop-place-test) in
    let is = c.loop-place.invariant.1 ∙ ap (λ k. flag_or false (file_of (take k (map item_tree file))).names c.args.id) next
    ∙ flag-here file place c.args.id c.index-file-place.result inside c.index-file-place.is (sym c.item_id.ensures ∙ c.if-item_id-id.true) in
    c.item_unsigned.ensures ∙ sym is

pub loop-place-preserved : goal.loop-place-preserved
loop-place-preserved c =
    let file = c.args.file.now in
    let place = c.loop-place.place - 1 in
    let inside : place < length file = omega (arith, c.loop-place.invariant, c.loop-place-test) in
    let next : c.loop-place.place ≡ suc place = omega (arith, c.loop-place-test) in (
      omega (arith, c.loop-place.invariant),
      c.loop-place.invariant.1 ∙ ap (λ k. flag_or false (file_of (take k (map item_tree file))).names c.args.id) next
          ∙ flag-before file place c.args.id c.index-file-place.result inside c.index-file-place.is
          (λ e. c.if-item_id-id.false (c.item_id.ensures ∙ e)),
    )
