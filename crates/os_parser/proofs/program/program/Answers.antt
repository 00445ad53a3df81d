use Rattle.std.proofs.Common.{◌≡◌, ◌+◌, ◌-◌, suc, [], ◌∷◌, ◌++◌, length, true, false, sym, ap, ◌∙◌, arith}
use Rattle.std.proofs.lemmas.Result.{err_from_is_err_and}
use Rattle.std.proofs.lemmas.List.{length_push}
use Rattle.os_ast.specs.Views.{item_tree}
use Rattle.os_parser_grammar.specs.Statements.{inner, many, is_more, item, program}
use Rattle.os_parser_grammar.proofs.Lists as lists
use Rattle.os_parser_expressions.proofs.Refusals.{refuses-on}
use Rattle.os_parser_grammar.proofs.Taken.{item-some}
use Rattle.os_parser.proofs.program.program.Goals as goal

pub loop-alloc-init : goal.loop-alloc-init
unfolding program
loop-alloc-init c =
    let none : c.new-items.result ≡ [] = c.new-items.ensures in
    let z : suc (length c.args.cursor.now) - 0 ≡ suc (length c.args.cursor.now) = omega arith in
    record {
      read = rw (none, z) (sym (lists.with_list-start item_tree (many (suc (length c.args.cursor.now)) is_more (item (inner c.args.depth)) c.args.cursor.now)));
      within = rw none (omega arith);
    }

pub returns-in_err-item : goal.returns-in_err-item
returns-in_err-item c =
    let p = err_from_is_err_and c.from_residual.result c.from_residual.ensures.1 in
    let on : is_more c.loop-alloc.cursor ≡ true = cc in
    record {
      gives = rw (p.1, p.2)
          (refuses-on c.in_err-item.field-0.0 c.item.new.cursor _ _ c.in_err-item.ensures.gives
          (λ e. c.loop-alloc.invariant.read
          ∙ lists.with_list-fails (suc (length c.args.cursor.now)) item_tree c.loop-alloc.items is_more (item (inner c.args.depth))
          c.loop-alloc.cursor c.item.new.cursor (omega arith) on e));
    }

pub loop-alloc-preserved : goal.loop-alloc-preserved
loop-alloc-preserved c =
    let on : is_more c.loop-alloc.cursor ≡ true = cc in
    let x = c.in_ok-item.field-0 in
    let pushed : c.push.new.self ≡ c.loop-alloc.items ++ x ∷ [] = c.in_ok-push.ensures.ok in
    let longer : length c.push.new.self ≡ length c.loop-alloc.items + 1 = ap length pushed ∙ length_push c.loop-alloc.items x in
    record {
      read = rw pushed (c.loop-alloc.invariant.read
          ∙ lists.with_list-more (suc (length c.args.cursor.now)) item_tree c.loop-alloc.items is_more (item (inner c.args.depth))
          c.loop-alloc.cursor c.item.new.cursor x (omega arith) on c.in_ok-item.ensures.gives);
      within =
          let past = item-some (inner c.args.depth) c.loop-alloc.cursor c.item.new.cursor (item_tree x) c.in_ok-item.ensures.gives in
          omega (arith, c.in_ok-item.ensures.taken);
    }

pub loop-alloc-smaller : goal.loop-alloc-smaller
loop-alloc-smaller c =
    let past = item-some (inner c.args.depth) c.loop-alloc.cursor c.item.new.cursor (item_tree c.in_ok-item.field-0) c.in_ok-item.ensures.gives in
    omega (arith, c.in_ok-item.ensures.taken)

pub returns : goal.returns
returns c =
    let off : is_more c.loop-alloc.cursor ≡ false = cc in
    record {
      gives = c.loop-alloc.invariant.read
          ∙ lists.with_list-end (suc (length c.args.cursor.now)) item_tree c.loop-alloc.items is_more (item (inner c.args.depth))
          c.loop-alloc.cursor (omega arith) off;
    }
