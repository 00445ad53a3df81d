-- A task that captures scalars of the control program.
-- int main(void) {
--     int i, j, x;
--     #pragma omp task output(osout << x) firstprivate(j)
--     {
--         int k;
--         x = i + osin_len;
--         k = j;
--     }
-- }
use Rattle.std.specs.Prelude.{List, false, [], ◌∷◌, None}
use Rattle.os_ast.specs.declared.ty.Ty.TheVariants as ty
use Rattle.os_ast.specs.Examples.{mark, named, variable, joined, block, int_named}
use Rattle.os_ast.specs.Trees as tree
use Rattle.os_ast.specs.declared.names.What.TheVariants as what
use Rattle.os_ast.specs.declared.names.Resolved.{Resolved}
use Rattle.os_ast.specs.declared.expr.Binary.TheVariants as op
use Rattle.os_ast.specs.declared.expr.Level.TheVariants as level
use Rattle.os_ast.specs.declared.program.Params.TheVariants as params
use Rattle.os_ast.specs.declared.stmt.Assign.TheVariants as assign

abbrev pub program : tree.ProgramTree
program =
    tree.Function
    record {
      ty = ty.Int;
      name = (named 8 1 1);
      params = params.Void;
      body =
          (block
          (tree.StmtTree.Declare ty.Int
          (record { name = (named 19 7 2); size = None; stream = false; first = None }
          ∷ record { name = (named 21 9 2); size = None; stream = false; first = None }
          ∷ record { name = (named 23 11 2); size = None; stream = false; first = None } ∷ [])
          ∷ tree.Task (mark 13 3)
          (record { comma = false; kind = tree.Output (joined (variable 10 18 3) (mark 19 3) (named 23 20 3) None ∷ []) }
          ∷ record { comma = false; kind = tree.Firstprivate ((named 21 24 3) ∷ []) } ∷ [])
          (tree.Block
          (block
          (tree.StmtTree.Declare ty.Int (record { name = (named 41 29 5); size = None; stream = false; first = None } ∷ [])
          ∷ tree.StmtTree.Change
          (tree.Set (variable 23 31 6) assign.Plain (mark 32 6)
          (tree.Chain level.Sum (tree.Place (variable 19 33 6))
          (tree.link op.Add (mark 34 6) (tree.Place (variable 11 35 6)) tree.no_links)))
          ∷ tree.StmtTree.Change (tree.Set (variable 41 37 7) assign.Plain (mark 38 7) (tree.Place (variable 21 39 7))) ∷ []))) ∷ []));
    } ∷ []

-- what each name means, by its place
abbrev pub meanings : List Resolved
meanings =
    int_named 7 (what.Scalar 1) ∷ int_named 9 (what.Scalar 2) ∷ int_named 11 (what.Scalar 3) ∷ int_named 18 (what.Stream 1 1) ∷ int_named 20 (what.Scalar 3)
    ∷ int_named 24 (what.Scalar 2) ∷ int_named 29 (what.Scalar 3) ∷ int_named 31 (what.Element 0) ∷ int_named 33 (what.Scalar 1) ∷ int_named 35 (what.Scalar 0)
    ∷ int_named 37 (what.Scalar 3) ∷ int_named 39 (what.Scalar 2) ∷ []
