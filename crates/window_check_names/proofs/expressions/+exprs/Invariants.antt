use Rattle.std.proofs.Common.{◌≡◌, drop}
use Rattle.os_ast.specs.Notes.Expressions.{args_notes, links_notes}
use Rattle.os_ast.specs.Views.{args_tree, links_tree}
use Rattle.window_check_names.specs.Findings.{noted}
use Rattle.window_check_names.proofs.expressions.+exprs.Given as goal

abbrev pub invariant-args-loop-arg : goal.invariant-args-loop-arg
invariant-args-loop-arg l =
    noted l.found (args_notes l.scopes (args_tree (drop l.arg-index l.args))) ≡ noted l.fn.found (args_notes l.scopes (args_tree l.args))

abbrev pub invariant-linked-loop-link : goal.invariant-linked-loop-link
invariant-linked-loop-link l =
    noted l.found (links_notes l.scopes (links_tree (drop l.link-index l.links))) ≡ noted l.fn.found (links_notes l.scopes (links_tree l.links))
