use Rattle.std.proofs.Common.{◌≡◌, drop}
use Rattle.os_ast.specs.Views.{links_tree}
use Rattle.lowering_relation.specs.Changes.{are_quiet}
use Rattle.lowering_expressions.proofs.quiet.+quiet.Given as goal

abbrev pub invariant-are_quiet-loop-link : goal.invariant-are_quiet-loop-link
invariant-are_quiet-loop-link l = are_quiet (links_tree l.links) ≡ are_quiet (links_tree (drop l.link-index l.links))
