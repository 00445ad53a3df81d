use Rattle.std.proofs.Common.{◌≡◌, ◌∙◌, Some, ap, refl, rules}
use Rattle.std.proofs.lemmas.Result.{IfOk-equal}
use Rattle.os_ast.proofs.Rows.{expr_tree-call, expr_tree-chain}
use Rattle.os_ast.specs.Trees as tree
use Rattle.os_ast.specs.Views.{args_tree, expr_tree, links_tree, target_tree}
use Rattle.os_ast.specs.declared.expr.Target.{out-Target}
use Rattle.os_ast.specs.declared.names.Resolved.{Resolved}
use Rattle.lowering_expressions.proofs.Targets.{by_index, target_by_index}
use Rattle.lowering_expressions.proofs.expressions.+expressions.Goals as goal

pub emit_expr-returns-in-Place : goal.emit_expr-returns-in-Place
emit_expr-returns-in-Place t c = rw c.in-Place.is c.emit_place.ensures

pub emit_expr-returns-in-Call : goal.emit_expr-returns-in-Call
emit_expr-returns-in-Call t c =
    let called = c.in-Call.call in
    let call : expr_tree c.args.expr.now ≡ tree.ExprTree.Call called.name (args_tree called.args) =
    ap expr_tree c.in-Call.is ∙ expr_tree-call called in
    rw call c.emit_call.ensures

pub emit_expr-returns-in_ok-left-in-Chain : goal.emit_expr-returns-in_ok-left-in-Chain
emit_expr-returns-in_ok-left-in-Chain t c =
    let first = c.in-Chain.first.value in
    let links = c.in-Chain.links in
    let chain : expr_tree c.args.expr.now ≡ tree.Chain c.in-Chain.field-0 (expr_tree first) (links_tree links) =
    ap expr_tree c.in-Chain.is ∙ expr_tree-chain c.in-Chain.field-0 c.in-Chain.first links in
    rw chain (search (rules, IfOk-equal))

-- `&&` and `||` give an `int`, whatever the types of their operands
pub emit_link-returns-in_ok-emit_and-in-And : goal.emit_link-returns-in_ok-emit_and-in-And
emit_link-returns-in_ok-emit_and-in-And t c = rw c.in-And.is (refl, c.in_ok-emit_and-in-And.ensures)

pub emit_link-returns-in_ok-emit_or-in-Or : goal.emit_link-returns-in_ok-emit_or-in-Or
emit_link-returns-in_ok-emit_or-in-Or t c = rw c.in-Or.is (refl, c.in_ok-emit_or-in-Or.ensures)

pub emit_place-returns-in_ok-emit-in-Some : goal.emit_place-returns-in_ok-emit-in-Some
emit_place-returns-in_ok-emit-in-Some t c =
    let target = out-Target c.args.target.now in
    let element : target_tree c.args.target.now ≡ by_index target.name (Some c.in-Some.index) =
    target_by_index c.args.target.now ∙ ap (by_index target.name) c.in-Some.is in
    rw element (ap (λ (r : Resolved). r.unsigned) c.at-named.ensures, search rules)
