use Rattle.std.proofs.Common.{◌≡◌, drop}
use Rattle.os_ast.specs.FreeNames.{args_names, links_names}
use Rattle.os_ast.specs.ClauseMembers.{is_in}
use Rattle.os_ast.specs.Views.{args_tree, links_tree}
use Rattle.lowering_expressions.proofs.mentions.+mentions.Given as goal

abbrev pub invariant-args_mention-loop-arg : goal.invariant-args_mention-loop-arg
invariant-args_mention-loop-arg l = is_in l.id (args_names (args_tree l.args)) ≡ is_in l.id (args_names (args_tree (drop l.arg-index l.args)))

abbrev pub invariant-links_mention-loop-link : goal.invariant-links_mention-loop-link
invariant-links_mention-loop-link l = is_in l.id (links_names (links_tree l.links)) ≡ is_in l.id (links_names (links_tree (drop l.link-index l.links)))
