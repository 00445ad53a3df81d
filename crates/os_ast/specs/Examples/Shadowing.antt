-- Declarations that hide others.
-- int f(int a) {
--     { int a; a = 1; }
--     return a;
-- }
-- int main(void) {
--     int osin;
--     for (int i = 0; i < osin_len; i++) { int i; i = osin; }
-- }
use Rattle.std.specs.Prelude.{List, false, [], ◌∷◌, Some, None}
use Rattle.os_ast.specs.declared.ty.Ty.TheVariants as ty
use Rattle.os_ast.specs.Examples.{mark, named, variable, block, int_named, int_param}
use Rattle.os_ast.specs.Trees as tree
use Rattle.os_ast.specs.declared.names.What.TheVariants as what
use Rattle.os_ast.specs.declared.names.Resolved.{Resolved}
use Rattle.os_ast.specs.declared.expr.Binary.TheVariants as op
use Rattle.os_ast.specs.declared.expr.Level.TheVariants as level
use Rattle.os_ast.specs.declared.program.Params.TheVariants as params
use Rattle.os_ast.specs.declared.stmt.Assign.TheVariants as assign
use Rattle.os_ast.specs.declared.stmt.Step.TheVariants as step

abbrev pub program : tree.ProgramTree
program =
    tree.Function
    record {
      ty = ty.Int;
      name = (named 13 1 1);
      params = params.Names (int_param 16 4 1 ∷ []);
      body =
          (block
          (tree.Block
          (block
          (tree.StmtTree.Declare ty.Int (record { name = (named 16 9 2); size = None; stream = false; first = None } ∷ [])
          ∷ tree.StmtTree.Change (tree.Set (variable 16 11 2) assign.Plain (mark 12 2) (tree.Number 1)) ∷ []))
          ∷ tree.Return (mark 16 3) (tree.Place (variable 16 17 3)) ∷ []));
    }
    ∷ tree.Function
    record {
      ty = ty.Int;
      name = (named 8 21 5);
      params = params.Void;
      body =
          (block
          (tree.StmtTree.Declare ty.Int (record { name = (named 9 27 6); size = None; stream = false; first = None } ∷ [])
          ∷ tree.For (tree.StartTree.Declare ty.Int (record { name = (named 44 32 7); size = None; stream = false; first = (Some (tree.Number 0)) } ∷ []))
          (Some
          (tree.Chain level.Order (tree.Place (variable 44 36 7)) (tree.link op.Less (mark 37 7) (tree.Place (variable 11 38 7)) tree.no_links)))
          (Some (tree.After (variable 44 40 7) step.Up (mark 41 7)))
          (tree.Block
          (block
          (tree.StmtTree.Declare ty.Int (record { name = (named 44 45 7); size = None; stream = false; first = None } ∷ [])
          ∷ tree.StmtTree.Change (tree.Set (variable 44 47 7) assign.Plain (mark 48 7) (tree.Place (variable 9 49 7))) ∷ []))) ∷ []));
    } ∷ []

-- what each name means, by its place
abbrev pub meanings : List Resolved
meanings =
    int_named 4 (what.Scalar 0) ∷ int_named 9 (what.Scalar 1) ∷ int_named 11 (what.Scalar 1) ∷ int_named 17 (what.Scalar 0) ∷ int_named 27 (what.Scalar 1)
    ∷ int_named 32 (what.Scalar 2) ∷ int_named 36 (what.Scalar 2) ∷ int_named 38 (what.Scalar 0) ∷ int_named 40 (what.Scalar 2) ∷ int_named 45 (what.Scalar 3)
    ∷ int_named 47 (what.Scalar 3) ∷ int_named 49 (what.Scalar 1) ∷ []
