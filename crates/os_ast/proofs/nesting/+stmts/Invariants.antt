use Rattle.std.proofs.Common.{◌≡◌, max, drop}
use Rattle.os_ast.specs.Depth.{stmts_depth}
use Rattle.os_ast.specs.Views.{stmts_tree}
use Rattle.os_ast.proofs.nesting.+stmts.Given as goal

abbrev pub invariant-depth_of_stmts-loop-stmt : goal.invariant-depth_of_stmts-loop-stmt
invariant-depth_of_stmts-loop-stmt l =
    max l.deepest (stmts_depth (stmts_tree (drop l.stmt-index l.stmts))) ≡ stmts_depth (stmts_tree l.stmts)
