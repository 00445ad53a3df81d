use Rattle.std.proofs.Common.{◌≡◌, ◌++◌, drop}
use Rattle.os_ast.specs.Views.{args_tree, links_tree}
use Rattle.oscheck_warnings.specs.Accesses.{args_accesses, links_accesses}
use Rattle.oscheck_warnings.proofs.expressions.+exprs.Given as goal

abbrev pub invariant-args-loop-arg : goal.invariant-args-loop-arg
invariant-args-loop-arg l =
    l.list ++ args_accesses l.site (args_tree (drop l.arg-index l.args)) ≡ l.fn.list ++ args_accesses l.site (args_tree l.args)

abbrev pub invariant-linked-loop-link : goal.invariant-linked-loop-link
invariant-linked-loop-link l =
    l.list ++ links_accesses l.site (links_tree (drop l.link-index l.links)) ≡ l.fn.list ++ links_accesses l.site (links_tree l.links)
