use Rattle.std.proofs.Common.{◌≡◌, ◌+◌, ◌-◌, suc, [], ◌∷◌, ◌++◌, length, true, false, sym, ap, ◌∙◌, arith}
use Rattle.std.proofs.lemmas.Result.{err_from_is_err_and}
use Rattle.std.proofs.lemmas.List.{length_push}
use Rattle.os_ast.specs.Views.{stmt_tree}
use Rattle.os_lexer.specs.declared.token.Kind.TheVariants as kind
use Rattle.os_lexer.specs.declared.token.Punct.TheVariants as puncts
use Rattle.os_parser_grammar.specs.Reading.{begins}
use Rattle.os_parser_grammar.specs.Statements.{inner, inner_item, stmts, block}
use Rattle.os_parser_grammar.proofs.Blocks as blocks
use Rattle.os_parser_expressions.proofs.Refusals.{refuses-on}
use Rattle.os_parser_grammar.proofs.Taken.{inner_item-some}
use Rattle.os_parser.proofs.stmt.+statements.Goals as goal

pub block-loop-alloc-init : goal.block-loop-alloc-init
unfolding block
block-loop-alloc-init t c =
    let none : c.new-stmts.result ≡ [] = c.new-stmts.ensures in
    let z : suc (length c.args.cursor.now) - 0 ≡ suc (length c.args.cursor.now) = omega arith in
    record {
      read = rw (none, z) (sym (blocks.with_stmts-start (stmts (suc (length c.args.cursor.now)) (inner_item (inner c.args.depth)) c.args.cursor.now)));
      within = rw none (omega arith);
    }

pub block-returns-in_err-block_item-clause-gives :
    goal.block-returns-in_err-block_item-clause-gives
block-returns-in_err-block_item-clause-gives t c =
    let p = err_from_is_err_and c.from_residual.result c.from_residual.ensures.1 in
    let on : begins (kind.Punct puncts.CloseBrace) c.loop-alloc.cursor ≡ false = cc in
    rw (p.1, p.2)
    (refuses-on c.in_err-block_item.field-0.0 c.block_item.new.cursor _ _ c.in_err-block_item.ensures.gives
    (λ e. c.loop-alloc.invariant.read
    ∙ blocks.with_stmts-fails (suc (length c.args.cursor.now)) c.loop-alloc.stmts (inner_item (inner c.args.depth))
    c.loop-alloc.cursor c.block_item.new.cursor (omega arith) on e))

pub block-loop-alloc-smaller : goal.block-loop-alloc-smaller
block-loop-alloc-smaller t c =
    let past = inner_item-some c.args.depth c.loop-alloc.cursor c.block_item.new.cursor (stmt_tree c.in_ok-block_item.field-0) c.in_ok-block_item.ensures.gives in
    omega (arith, c.in_ok-block_item.ensures.taken)

pub block-loop-alloc-preserved : goal.block-loop-alloc-preserved
block-loop-alloc-preserved t c =
    let on : begins (kind.Punct puncts.CloseBrace) c.loop-alloc.cursor ≡ false = cc in
    let x = c.in_ok-block_item.field-0 in
    let pushed : c.push.new.self ≡ c.loop-alloc.stmts ++ x ∷ [] = c.in_ok-push.ensures.ok in
    let longer : length c.push.new.self ≡ length c.loop-alloc.stmts + 1 = ap length pushed ∙ length_push c.loop-alloc.stmts x in
    record {
      read = rw pushed (c.loop-alloc.invariant.read
          ∙ blocks.with_stmts-more (suc (length c.args.cursor.now)) c.loop-alloc.stmts (inner_item (inner c.args.depth))
          c.loop-alloc.cursor c.block_item.new.cursor x (omega arith) on c.in_ok-block_item.ensures.gives);
      within =
          let past = inner_item-some c.args.depth c.loop-alloc.cursor c.block_item.new.cursor (stmt_tree x) c.in_ok-block_item.ensures.gives in
          omega (arith, c.in_ok-block_item.ensures.taken);
    }

pub block-returns-clause-gives : goal.block-returns-clause-gives
block-returns-clause-gives t c =
    let off : begins (kind.Punct puncts.CloseBrace) c.loop-alloc.cursor ≡ true = cc in
    rw c.advance.ensures
    (c.loop-alloc.invariant.read
    ∙ blocks.with_stmts-end (suc (length c.args.cursor.now)) c.loop-alloc.stmts (inner_item (inner c.args.depth))
    c.loop-alloc.cursor (omega arith) off)
