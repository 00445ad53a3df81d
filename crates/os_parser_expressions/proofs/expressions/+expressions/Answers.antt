use Rattle.std.proofs.Common.{◌≡◌, ◌+◌, ◌-◌, [], ◌∷◌, ◌++◌, suc, length, true, Some, None, sym, ap, ◌∙◌, arith}
use Rattle.std.proofs.lemmas.Result.{err_from_is_err_and}
use Rattle.std.proofs.lemmas.List.{length_push}
use Rattle.os_ast.proofs.Rows.{expr_tree-call}
use Rattle.os_ast.specs.Views.{expr_tree, links_tree}
use Rattle.os_ast.specs.declared.expr.Link.{Link}
use Rattle.os_lexer.specs.declared.token.Kind.TheVariants as kind
use Rattle.os_lexer.specs.declared.token.Punct.TheVariants as puncts
use Rattle.os_parser_grammar.specs.Expressions.{below, layer, operand, chains, chained, named}
use Rattle.os_parser_grammar.specs.Operands.{operator_at}
use Rattle.os_parser_grammar.specs.Reading.{got, after, begins}
use Rattle.os_parser_grammar.proofs.Chaining as chaining
use Rattle.os_parser_expressions.proofs.Refusals.{refuses-on, gives-built}
use Rattle.os_parser_grammar.proofs.Tokens.{operator-takes, begins-takes}
use Rattle.os_parser_expressions.proofs.expressions.+expressions.Goals as goal

pub chain-returns-in_err-first-clause-gives : goal.chain-returns-in_err-first-clause-gives
chain-returns-in_err-first-clause-gives t c =
    let p = err_from_is_err_and c.from_residual.result c.from_residual.ensures.1 in
    rw (p.1, p.2)
    (refuses-on c.in_err-first.field-0.0 c.operand.new.cursor _ _ c.in_err-first.ensures.gives (λ e. chaining.chains-fails _ _ _ _ e))

pub chain-returns-in_err-first-2-clause-gives : goal.chain-returns-in_err-first-2-clause-gives
chain-returns-in_err-first-2-clause-gives t c =
    let p = err_from_is_err_and c.from_residual-in_err-first-2.result c.from_residual-in_err-first-2.ensures.1 in
    rw (p.1, p.2)
    (refuses-on c.in_err-first-2.field-0.0 c.linked.new.cursor _ _ c.in_err-first-2.ensures.gives
    (λ e. chaining.chains-stop (11 - c.loop-precedence.precedence) _ _ _ _ _ _ _ _ (omega arith) c.loop-precedence.invariant.read (omega arith) (omega arith) e))

pub chain-loop-precedence-preserved : goal.chain-loop-precedence-preserved
chain-loop-precedence-preserved t c = record {
  from = omega arith;
  to = omega arith;
  read =
      let n : 11 - (c.loop-precedence.precedence - 1) ≡ 11 - c.loop-precedence.precedence + 1 = omega arith in
      rw n (chaining.chains-next (11 - c.loop-precedence.precedence) _ _ _ _ _ _ _ c.loop-precedence.invariant.read (omega arith) (omega arith) c.in_ok-first-2.ensures.gives);
  within = omega (arith, c.in_ok-first-2.ensures.within);
}

pub linked-returns-in_err-right-clause-gives : goal.linked-returns-in_err-right-clause-gives
linked-returns-in_err-right-clause-gives t c =
    let p = err_from_is_err_and c.from_residual.result c.from_residual.ensures.1 in
    let n : 11 - (c.args.precedence + 1) ≡ 10 - c.args.precedence = omega arith in
    let op : operator_at c.args.precedence c.loop-op.cursor ≡ Some c.in-Some.op = cc in
    rw (p.1, p.2)
    (refuses-on c.in_err-right.field-0.0 c.chain.new.cursor _ _ c.in_err-right.ensures.gives
    (λ e. chaining.linked-fails c.args.precedence (chains (10 - c.args.precedence) (operand (below c.args.depth))) (expr_tree c.args.first)
    c.args.cursor.now c.loop-op.cursor c.chain.new.cursor c.loop-op.links c.in-Some.op c.loop-op.invariant.read (omega arith) op
    (rw (← n, ← c.advance.ensures) e)))

pub linked-loop-op-preserved : goal.linked-loop-op-preserved
linked-loop-op-preserved t c =
    let n : 11 - (c.args.precedence + 1) ≡ 10 - c.args.precedence = omega arith in
    let op : operator_at c.args.precedence c.loop-op.cursor ≡ Some c.in-Some.op = cc in
    let l : Link = record { op = c.in-Some.op; mark = c.mark-mark.result; right = c.in_ok-right.right } in
    let pushed : c.push.new.self ≡ c.loop-op.links ++ l ∷ [] = c.in_ok-push.ensures.ok in
    let longer : length c.push.new.self ≡ length c.loop-op.links + 1 = ap length pushed ∙ length_push c.loop-op.links l in
    record {
      read = rw pushed (c.loop-op.invariant.read
          ∙ chaining.with_links-more (suc (length c.args.cursor.now)) c.loop-op.links c.args.precedence (chains (10 - c.args.precedence) (operand (below c.args.depth)))
          c.loop-op.cursor c.chain.new.cursor l (omega arith) op (sym c.mark-mark.ensures)
          (rw (← n, ← c.advance.ensures) c.in_ok-right.ensures.gives));
      within =
          let past = operator-takes c.args.precedence c.in-Some.op c.loop-op.cursor op in
          let rest : length c.advance.new.self ≡ length (after c.loop-op.cursor) = ap length c.advance.ensures in
          omega (arith, c.in_ok-right.ensures.within);
      same = c.loop-op.invariant.same;
    }

pub linked-returns-clause-gives : goal.linked-returns-clause-gives
linked-returns-clause-gives t c =
    let none : operator_at c.args.precedence c.loop-op.cursor ≡ None = cc in
    gives-built expr_tree c.chained.result (chained c.args.precedence (expr_tree c.args.first) (links_tree c.loop-op.links)) c.loop-op.cursor _
    (rw c.loop-op.invariant.same at c.chained.ensures.chain) c.chained.ensures.memory
    (chaining.linked-end c.args.precedence (chains (10 - c.args.precedence) (operand (below c.args.depth))) (expr_tree c.args.first)
    c.args.cursor.now c.loop-op.cursor c.loop-op.links c.loop-op.invariant.read (omega arith) none)

pub named-returns-then-is_at-clause-gives : goal.named-returns-then-is_at-clause-gives
unfolding named
named-returns-then-is_at-clause-gives t c =
    rw (← c.is_at.ensures, c.if-is_at.true, c.in_ok-args.ensures.gives) (ap (λ e. got e c.args-then-is_at.new.cursor) (sym (expr_tree-call (record { name = c.args.name; args = c.in_ok-args.args }))))

pub some_args-loop-alloc-init : goal.some_args-loop-alloc-init
some_args-loop-alloc-init t c =
    let pushed : c.push.new.self ≡ [] ++ c.in_ok-expr.field-0 ∷ [] = cc (c.in_ok-push.ensures.ok, c.new-args.ensures) in
    let one : length c.push.new.self ≡ 1 = ap length pushed in
    record {
      read = rw pushed (chaining.with_args-start (layer (below c.args.depth)) c.args.cursor.now c.expr.new.cursor c.in_ok-expr.field-0 c.in_ok-expr.ensures.gives);
      some = omega arith;
      within = omega arith;
      shorter = c.in_ok-expr.ensures.within;
    }

pub some_args-returns-in_err-expr-2-clause-gives : goal.some_args-returns-in_err-expr-2-clause-gives
some_args-returns-in_err-expr-2-clause-gives t c =
    let p = err_from_is_err_and c.from_residual-in_err-expr-2.result c.from_residual-in_err-expr-2.ensures.1 in
    let comma : begins (kind.Punct puncts.Comma) c.loop-alloc.cursor ≡ true = cc in
    rw (p.1, p.2)
    (refuses-on c.in_err-expr-2.field-0.0 c.expr-in-loop-alloc.new.cursor _ _ c.in_err-expr-2.ensures.gives
    (λ e. c.loop-alloc.invariant.read
    ∙ chaining.with_args-fails (length c.expr.new.cursor + 2) c.loop-alloc.args (layer (below c.args.depth)) c.loop-alloc.cursor c.expr-in-loop-alloc.new.cursor
    (omega arith) comma (rw (← c.advance.ensures) e)))

pub some_args-loop-alloc-preserved : goal.some_args-loop-alloc-preserved
some_args-loop-alloc-preserved t c =
    let comma : begins (kind.Punct puncts.Comma) c.loop-alloc.cursor ≡ true = cc in
    let e = c.in_ok-expr-2.field-0 in
    let pushed : c.push-in-loop-alloc.new.self ≡ c.loop-alloc.args ++ e ∷ [] = c.in_ok-push-2.ensures.ok in
    let longer : length c.push-in-loop-alloc.new.self ≡ length c.loop-alloc.args + 1 = ap length pushed ∙ length_push c.loop-alloc.args e in
    record {
      read = rw pushed (c.loop-alloc.invariant.read
          ∙ chaining.with_args-more (length c.expr.new.cursor + 2) c.loop-alloc.args (layer (below c.args.depth)) c.loop-alloc.cursor c.expr-in-loop-alloc.new.cursor e
          (omega arith) comma (rw (← c.advance.ensures) c.in_ok-expr-2.ensures.gives));
      some = omega arith;
      within =
          let past = begins-takes (kind.Punct puncts.Comma) c.loop-alloc.cursor comma in
          let rest : length c.advance.new.self ≡ length (after c.loop-alloc.cursor) = ap length c.advance.ensures in
          omega (arith, c.in_ok-expr-2.ensures.within);
      shorter = c.loop-alloc.invariant.shorter;
    }
