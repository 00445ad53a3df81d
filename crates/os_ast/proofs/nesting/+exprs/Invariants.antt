use Rattle.std.proofs.Common.{◌≡◌, max, drop}
use Rattle.os_ast.specs.Depth.{args_depth, links_depth}
use Rattle.os_ast.specs.Views.{args_tree, links_tree}
use Rattle.os_ast.proofs.nesting.+exprs.Given as goal

abbrev pub invariant-depth_of_args-loop-arg : goal.invariant-depth_of_args-loop-arg
invariant-depth_of_args-loop-arg l =
    max l.deepest (args_depth (args_tree (drop l.arg-index l.args))) ≡ args_depth (args_tree l.args)

abbrev pub invariant-depth_of_links-loop-link : goal.invariant-depth_of_links-loop-link
invariant-depth_of_links-loop-link l =
    max l.deepest (links_depth (links_tree (drop l.link-index l.links))) ≡ links_depth (links_tree l.links)
