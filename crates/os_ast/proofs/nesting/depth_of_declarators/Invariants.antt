use Rattle.std.proofs.Common.{◌≡◌, max, drop, map}
use Rattle.os_ast.specs.Depth.{deepest, declarator_depth}
use Rattle.os_ast.specs.Views.{declarator_tree}
use Rattle.os_ast.proofs.nesting.depth_of_declarators.Given as goal

abbrev pub invariant-loop-declarator : goal.invariant-loop-declarator
invariant-loop-declarator l =
    max l.deepest (deepest declarator_depth (map declarator_tree (drop l.declarator-index l.declarators))) ≡ deepest declarator_depth (map declarator_tree l.declarators)
