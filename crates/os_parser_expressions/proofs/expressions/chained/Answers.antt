use Rattle.std.proofs.Common.{◌≡◌, ◌<◌, ◌∙◌, sym, ap, length, arith}
use Rattle.os_ast.proofs.Rows.{expr_tree-chain}
use Rattle.os_ast.specs.Trees as tree
use Rattle.os_ast.specs.Views.{expr_tree, links_tree}
use Rattle.os_parser_grammar.proofs.Chaining.{chained-not_none}
use Rattle.os_parser_expressions.proofs.expressions.chained.Goals as goal

pub returns-clause-chain : goal.returns-clause-chain
returns-clause-chain c =
    let some : 0 < length c.args.links = omega arith in
    let chain = chained-not_none c.args.precedence (expr_tree c.args.first) c.args.links some in
    let boxed : c.in_ok-new.field-0.value ≡ c.args.first = cc (c.in_ok-new.ensures.ok) in
    expr_tree-chain c.level_at.result c.in_ok-new.field-0 c.args.links
    ∙ ap (λ e. tree.Chain c.level_at.result (expr_tree e) (links_tree c.args.links)) boxed
    ∙ ap (λ l. tree.Chain l (expr_tree c.args.first) (links_tree c.args.links)) c.level_at.ensures
    ∙ sym chain
