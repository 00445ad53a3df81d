use Rattle.std.proofs.Common.{◌≡◌, drop}
use Rattle.cddf_meaning_plain_tasks.specs.Has.{has_args, has_links}
use Rattle.os_ast.specs.Views.{args_tree, links_tree}
use Rattle.cddf_meaning_plain_tasks.proofs.naming.+expressions.Given as goal

abbrev pub invariant-in_args-loop-arg : goal.invariant-in_args-loop-arg
invariant-in_args-loop-arg l =
    has_args l.id (args_tree (drop l.arg-index l.args)) ≡ has_args l.id (args_tree l.args)

abbrev pub invariant-in_links-loop-link : goal.invariant-in_links-loop-link
invariant-in_links-loop-link l =
    has_links l.id (links_tree (drop l.link-index l.links)) ≡ has_links l.id (links_tree l.links)
