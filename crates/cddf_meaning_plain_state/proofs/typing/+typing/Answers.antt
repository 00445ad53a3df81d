use Rattle.std.proofs.Common.{rules, ◌≡◌, map, ap, sym, ◌∙◌}
use Rattle.cddf_meaning.specs.File.{flags, type_in}
use Rattle.cddf_meaning.specs.Functions.{file_of}
use Rattle.cddf_meaning.specs.ExpressionTypes.{type_behind, type_of}
use Rattle.os_ast.proofs.Rows.{expr_tree-chain}
use Rattle.os_ast.specs.Views.{expr_tree, item_tree, links_tree}
use Rattle.cddf_meaning_plain_state.proofs.typing.+typing.Goals as goal

pub type_of-returns-in-Chain : goal.type_of-returns-in-Chain
type_of-returns-in-Chain t c =
    let file = file_of (map item_tree c.args.file.now) in
    let names = flags file c.args.state.now in
    let tree = ap expr_tree c.in-Chain.is ∙ expr_tree-chain c.in-Chain.field-0 c.in-Chain.first c.in-Chain.links in
    let same : c.in-Chain.first.value ≡ c.deref-in-Chain.result.now = first_of (search (rules, c.deref-in-Chain.ensures), cc) in
    c.type_behind.ensures
    ∙ ap (type_behind names (links_tree c.in-Chain.links)) (c.type_of-left.ensures ∙ ap (λ e. type_of names (expr_tree e)) (sym same))
    ∙ sym (ap (type_in file c.args.state.now) tree)
