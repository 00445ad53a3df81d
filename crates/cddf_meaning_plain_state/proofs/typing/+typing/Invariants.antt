use Rattle.std.proofs.Common.{◌≡◌, drop, map}
use Rattle.cddf_meaning.specs.File.{flags}
use Rattle.cddf_meaning.specs.Functions.{file_of}
use Rattle.cddf_meaning.specs.ExpressionTypes.{type_behind}
use Rattle.os_ast.specs.Views.{item_tree, links_tree}
use Rattle.cddf_meaning_plain_state.proofs.typing.+typing.Given as goal

abbrev pub invariant-type_behind-loop-link : goal.invariant-type_behind-loop-link
invariant-type_behind-loop-link l =
    let names = flags (file_of (map item_tree l.file)) l.state in
    type_behind names (links_tree (drop l.link-index l.links)) l.left ≡ type_behind names (links_tree l.links) l.first
