-- A stream array, each stream of which is read by a task of its own.
-- int main(void) {
--     int s[3] __attribute__((stream));
--     int i, j;
--     for (i = 0; i < osin_len; i++) {
--         int x, p, q, r, y;
--         #pragma omp task input(osin >> x) output(s[0] << p, s[1] << q, s[2] << r)
--         { p = x; q = x >> 1; r = x >> 2; }
--         for (j = 0; j < 3; j++) {
--             #pragma omp task input(s[j] >> x) output(osout << y)
--             y = x;
--         }
--     }
--     return 0;
-- }
use Rattle.std.specs.Prelude.{List, false, true, [], ◌∷◌, Some, None}
use Rattle.os_ast.specs.declared.ty.Ty.TheVariants as ty
use Rattle.os_ast.specs.Examples.{mark, named, variable, element, index, joined, block, int_named}
use Rattle.os_ast.specs.Trees as tree
use Rattle.os_ast.specs.declared.names.What.TheVariants as what
use Rattle.os_ast.specs.declared.names.Resolved.{Resolved}
use Rattle.os_ast.specs.declared.expr.Binary.TheVariants as op
use Rattle.os_ast.specs.declared.expr.Level.TheVariants as level
use Rattle.os_ast.specs.declared.program.Params.TheVariants as params
use Rattle.os_ast.specs.declared.stmt.Assign.TheVariants as assign
use Rattle.os_ast.specs.declared.stmt.Step.TheVariants as step

abbrev pub program : tree.ProgramTree
program =
    tree.Function
    record {
      ty = ty.Int;
      name = (named 8 1 1);
      params = params.Void;
      body =
          (block
          (tree.StmtTree.Declare ty.Int (record { name = (named 19 7 2); size = (index 8 2 (tree.Number 3)); stream = true; first = None } ∷ [])
          ∷ tree.StmtTree.Declare ty.Int
          (record { name = (named 31 19 3); size = None; stream = false; first = None }
          ∷ record { name = (named 33 21 3); size = None; stream = false; first = None } ∷ [])
          ∷ tree.For (tree.StartTree.Change (tree.Set (variable 31 25 4) assign.Plain (mark 26 4) (tree.Number 0)))
          (Some
          (tree.Chain level.Order (tree.Place (variable 31 29 4)) (tree.link op.Less (mark 30 4) (tree.Place (variable 11 31 4)) tree.no_links)))
          (Some (tree.After (variable 31 33 4) step.Up (mark 34 4)))
          (tree.Block
          (block
          (tree.StmtTree.Declare ty.Int
          (record { name = (named 50 38 5); size = None; stream = false; first = None }
          ∷ record { name = (named 52 40 5); size = None; stream = false; first = None }
          ∷ record { name = (named 54 42 5); size = None; stream = false; first = None }
          ∷ record { name = (named 56 44 5); size = None; stream = false; first = None }
          ∷ record { name = (named 58 46 5); size = None; stream = false; first = None } ∷ [])
          ∷ tree.Task (mark 48 6)
          (record { comma = false; kind = tree.Input (joined (variable 9 53 6) (mark 54 6) (named 50 55 6) None ∷ []) }
          ∷ record {
            comma = false;
            kind =
                tree.Output
                (joined (element 19 59 6 (tree.Number 0)) (mark 63 6) (named 52 64 6) None
                ∷ joined (element 19 66 6 (tree.Number 1)) (mark 70 6) (named 54 71 6) None
                ∷ joined (element 19 73 6 (tree.Number 2)) (mark 77 6) (named 56 78 6) None ∷ []);
          } ∷ [])
          (tree.Block
          (block
          (tree.StmtTree.Change (tree.Set (variable 52 82 7) assign.Plain (mark 83 7) (tree.Place (variable 50 84 7)))
          ∷ tree.StmtTree.Change
          (tree.Set (variable 54 86 7) assign.Plain (mark 87 7)
          (tree.Chain level.Shift (tree.Place (variable 50 88 7))
          (tree.link op.ShiftRight (mark 89 7) (tree.Number 1) tree.no_links)))
          ∷ tree.StmtTree.Change
          (tree.Set (variable 56 92 7) assign.Plain (mark 93 7)
          (tree.Chain level.Shift (tree.Place (variable 50 94 7))
          (tree.link op.ShiftRight (mark 95 7) (tree.Number 2) tree.no_links))) ∷ [])))
          ∷ tree.For (tree.StartTree.Change (tree.Set (variable 33 101 8) assign.Plain (mark 102 8) (tree.Number 0)))
          (Some (tree.Chain level.Order (tree.Place (variable 33 105 8)) (tree.link op.Less (mark 106 8) (tree.Number 3) tree.no_links)))
          (Some (tree.After (variable 33 109 8) step.Up (mark 110 8)))
          (tree.Block
          (block
          (tree.Task (mark 113 9)
          (record {
            comma = false;
            kind =
                tree.Input (joined (element 19 118 9 (tree.Place (variable 33 120 9))) (mark 122 9) (named 50 123 9) None ∷ []);
          }
          ∷ record { comma = false; kind = tree.Output (joined (variable 10 127 9) (mark 128 9) (named 58 129 9) None ∷ []) } ∷ [])
          (tree.StmtTree.Change (tree.Set (variable 58 132 10) assign.Plain (mark 133 10) (tree.Place (variable 50 134 10)))) ∷ [])))
          ∷ [])))
          ∷ tree.Return (mark 138 13) (tree.Number 0) ∷ []));
    } ∷ []

-- what each name means, by its place
abbrev pub meanings : List Resolved
meanings =
    int_named 7 (what.Stream 2 3) ∷ int_named 19 (what.Scalar 1) ∷ int_named 21 (what.Scalar 2) ∷ int_named 25 (what.Scalar 1) ∷ int_named 29 (what.Scalar 1)
    ∷ int_named 31 (what.Scalar 0) ∷ int_named 33 (what.Scalar 1) ∷ int_named 38 (what.Scalar 3) ∷ int_named 40 (what.Scalar 4) ∷ int_named 42 (what.Scalar 5)
    ∷ int_named 44 (what.Scalar 6) ∷ int_named 46 (what.Scalar 7) ∷ int_named 53 (what.Stream 0 1) ∷ int_named 55 (what.Scalar 3)
    ∷ int_named 59 (what.Stream 2 3) ∷ int_named 64 (what.Scalar 4) ∷ int_named 66 (what.Stream 2 3) ∷ int_named 71 (what.Scalar 5)
    ∷ int_named 73 (what.Stream 2 3) ∷ int_named 78 (what.Scalar 6) ∷ int_named 82 (what.Element 1) ∷ int_named 84 (what.Element 0)
    ∷ int_named 86 (what.Element 2) ∷ int_named 88 (what.Element 0) ∷ int_named 92 (what.Element 3) ∷ int_named 94 (what.Element 0)
    ∷ int_named 101 (what.Scalar 2) ∷ int_named 105 (what.Scalar 2) ∷ int_named 109 (what.Scalar 2) ∷ int_named 118 (what.Stream 2 3)
    ∷ int_named 120 (what.Scalar 2) ∷ int_named 123 (what.Scalar 3) ∷ int_named 127 (what.Stream 1 1) ∷ int_named 129 (what.Scalar 7)
    ∷ int_named 132 (what.Element 1) ∷ int_named 134 (what.Element 0) ∷ []
