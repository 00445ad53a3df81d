use Rattle.std.proofs.Common.{◌≡◌, max, drop, map}
use Rattle.os_ast.specs.Depth.{deepest, clause_depth}
use Rattle.os_ast.specs.Views.{clause_tree}
use Rattle.os_ast.proofs.nesting.depth_of_clauses.Given as goal

abbrev pub invariant-loop-clause : goal.invariant-loop-clause
invariant-loop-clause l =
    max l.deepest (deepest clause_depth (map clause_tree (drop l.clause-index l.clauses))) ≡ deepest clause_depth (map clause_tree l.clauses)
