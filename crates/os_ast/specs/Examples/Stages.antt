-- Two tasks with a stream between them.
-- int wrap(int d) {
--     return ((d + 128) & 255) - 128;
-- }
-- int main(void) {
--     int mid __attribute__((stream));
--     int i;
--     for (i = 0; i + 1 < osin_len; i += 2) {
--         int a[2], m[2], q[2], o[2];
--         #pragma omp task input(osin >> a[2]) output(mid << m[2])
--         {
--             int d = wrap(a[1] - a[0]);
--             m[0] = (a[0] + (d >> 1)) & 255;
--             m[1] = d;
--         }
--         #pragma omp task input(mid >> q[2]) output(osout << o[2])
--         {
--             o[0] = q[0];
--             o[1] = (q[1] / 4) & 255;
--         }
--     }
--     return 0;
-- }
use Rattle.std.specs.Prelude.{List, false, true, [], ◌∷◌, Some, None}
use Rattle.os_ast.specs.declared.ty.Ty.TheVariants as ty
use Rattle.os_ast.specs.Examples.{mark, named, variable, element, index, joined, block, int_named, int_param}
use Rattle.os_ast.specs.Trees as tree
use Rattle.os_ast.specs.declared.names.What.TheVariants as what
use Rattle.os_ast.specs.declared.names.Resolved.{Resolved}
use Rattle.os_ast.specs.declared.expr.Binary.TheVariants as op
use Rattle.os_ast.specs.declared.expr.Level.TheVariants as level
use Rattle.os_ast.specs.declared.program.Params.TheVariants as params
use Rattle.os_ast.specs.declared.stmt.Assign.TheVariants as assign

abbrev pub program : tree.ProgramTree
program =
    tree.Function
    record {
      ty = ty.Int;
      name = (named 13 1 1);
      params = params.Names (int_param 16 4 1 ∷ []);
      body =
          (block
          (tree.Return (mark 7 2)
          (tree.Chain level.Sum
          (tree.Paren
          (tree.Chain level.BitAnd
          (tree.Paren (tree.Chain level.Sum (tree.Place (variable 16 10 2)) (tree.link op.Add (mark 11 2) (tree.Number 128) tree.no_links)))
          (tree.link op.BitAnd (mark 14 2) (tree.Number 255) tree.no_links)))
          (tree.link op.Subtract (mark 17 2) (tree.Number 128) tree.no_links)) ∷ []));
    }
    ∷ tree.Function
    record {
      ty = ty.Int;
      name = (named 8 22 4);
      params = params.Void;
      body =
          (block
          (tree.StmtTree.Declare ty.Int (record { name = (named 40 28 5); size = None; stream = true; first = None } ∷ [])
          ∷ tree.StmtTree.Declare ty.Int (record { name = (named 49 37 6); size = None; stream = false; first = None } ∷ [])
          ∷ tree.For (tree.StartTree.Change (tree.Set (variable 49 41 7) assign.Plain (mark 42 7) (tree.Number 0)))
          (Some
          (tree.Chain level.Order
          (tree.Chain level.Sum (tree.Place (variable 49 45 7)) (tree.link op.Add (mark 46 7) (tree.Number 1) tree.no_links))
          (tree.link op.Less (mark 48 7) (tree.Place (variable 11 49 7)) tree.no_links)))
          (Some (tree.Set (variable 49 51 7) (assign.With op.Add) (mark 52 7) (tree.Number 2)))
          (tree.Block
          (block
          (tree.StmtTree.Declare ty.Int
          (record { name = (named 69 57 8); size = (index 58 8 (tree.Number 2)); stream = false; first = None }
          ∷ record { name = (named 74 62 8); size = (index 63 8 (tree.Number 2)); stream = false; first = None }
          ∷ record { name = (named 79 67 8); size = (index 68 8 (tree.Number 2)); stream = false; first = None }
          ∷ record { name = (named 84 72 8); size = (index 73 8 (tree.Number 2)); stream = false; first = None } ∷ [])
          ∷ tree.Task (mark 77 9)
          (record {
            comma = false;
            kind = tree.Input (joined (variable 9 82 9) (mark 83 9) (named 69 84 9) (index 85 9 (tree.Number 2)) ∷ []);
          }
          ∷ record {
            comma = false;
            kind = tree.Output (joined (variable 40 91 9) (mark 92 9) (named 74 93 9) (index 94 9 (tree.Number 2)) ∷ []);
          } ∷ [])
          (tree.Block
          (block
          (tree.StmtTree.Declare ty.Int
          (record {
            name = (named 16 101 11);
            size = None;
            stream = false;
            first =
                (Some
                (tree.ExprTree.Call (named 13 103 11)
                (tree.arg
                (tree.Chain level.Sum (tree.Place (element 69 105 11 (tree.Number 1)))
                (tree.link op.Subtract (mark 109 11) (tree.Place (element 69 110 11 (tree.Number 0))) tree.no_links))
                tree.no_args)));
          } ∷ [])
          ∷ tree.StmtTree.Change
          (tree.Set (element 74 116 12 (tree.Number 0)) assign.Plain (mark 120 12)
          (tree.Chain level.BitAnd
          (tree.Paren
          (tree.Chain level.Sum (tree.Place (element 69 122 12 (tree.Number 0)))
          (tree.link op.Add (mark 126 12)
          (tree.Paren
          (tree.Chain level.Shift (tree.Place (variable 16 128 12))
          (tree.link op.ShiftRight (mark 129 12) (tree.Number 1) tree.no_links)))
          tree.no_links)))
          (tree.link op.BitAnd (mark 133 12) (tree.Number 255) tree.no_links)))
          ∷ tree.StmtTree.Change
          (tree.Set (element 74 136 13 (tree.Number 1)) assign.Plain (mark 140 13) (tree.Place (variable 16 141 13))) ∷ [])))
          ∷ tree.Task (mark 144 15)
          (record {
            comma = false;
            kind = tree.Input (joined (variable 40 149 15) (mark 150 15) (named 79 151 15) (index 152 15 (tree.Number 2)) ∷ []);
          }
          ∷ record {
            comma = false;
            kind = tree.Output (joined (variable 10 158 15) (mark 159 15) (named 84 160 15) (index 161 15 (tree.Number 2)) ∷ []);
          } ∷ [])
          (tree.Block
          (block
          (tree.StmtTree.Change
          (tree.Set (element 84 167 17 (tree.Number 0)) assign.Plain (mark 171 17)
          (tree.Place (element 79 172 17 (tree.Number 0))))
          ∷ tree.StmtTree.Change
          (tree.Set (element 84 177 18 (tree.Number 1)) assign.Plain (mark 181 18)
          (tree.Chain level.BitAnd
          (tree.Paren
          (tree.Chain level.Product (tree.Place (element 79 183 18 (tree.Number 1)))
          (tree.link op.Divide (mark 187 18) (tree.Number 4) tree.no_links)))
          (tree.link op.BitAnd (mark 190 18) (tree.Number 255) tree.no_links))) ∷ []))) ∷ [])))
          ∷ tree.Return (mark 195 21) (tree.Number 0) ∷ []));
    } ∷ []

-- what each name means, by its place
abbrev pub meanings : List Resolved
meanings =
    int_named 4 (what.Scalar 0) ∷ int_named 10 (what.Scalar 0) ∷ int_named 28 (what.Stream 2 1) ∷ int_named 37 (what.Scalar 1) ∷ int_named 41 (what.Scalar 1)
    ∷ int_named 45 (what.Scalar 1) ∷ int_named 49 (what.Scalar 0) ∷ int_named 51 (what.Scalar 1) ∷ int_named 57 (what.Window 2) ∷ int_named 62 (what.Window 3)
    ∷ int_named 67 (what.Window 4) ∷ int_named 72 (what.Window 5) ∷ int_named 82 (what.Stream 0 1) ∷ int_named 84 (what.Window 2)
    ∷ int_named 91 (what.Stream 2 1) ∷ int_named 93 (what.Window 3) ∷ int_named 101 (what.Scalar 0) ∷ int_named 103 (what.Function 0)
    ∷ int_named 105 (what.View 0) ∷ int_named 110 (what.View 0) ∷ int_named 116 (what.View 1) ∷ int_named 122 (what.View 0) ∷ int_named 128 (what.Scalar 0)
    ∷ int_named 136 (what.View 1) ∷ int_named 141 (what.Scalar 0) ∷ int_named 149 (what.Stream 2 1) ∷ int_named 151 (what.Window 4)
    ∷ int_named 158 (what.Stream 1 1) ∷ int_named 160 (what.Window 5) ∷ int_named 167 (what.View 1) ∷ int_named 172 (what.View 0) ∷ int_named 177 (what.View 1)
    ∷ int_named 183 (what.View 0) ∷ []
