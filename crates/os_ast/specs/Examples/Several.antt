-- Programs with several violations.
use Rattle.std.specs.Prelude.{false, true, [], ◌∷◌, None}
use Rattle.os_ast.specs.declared.ty.Ty.TheVariants as ty
use Rattle.os_ast.specs.Examples.{mark, named, variable, element, joined, block}
use Rattle.os_ast.specs.Trees as tree
use Rattle.os_ast.specs.declared.program.Params.TheVariants as params
use Rattle.os_ast.specs.declared.stmt.Assign.TheVariants as assign

-- int main(void) { int s __attribute__((stream)); s[0] = 1; }
abbrev pub single_stream_with_index : tree.ProgramTree
single_stream_with_index =
    tree.Function
    record {
      ty = ty.Int;
      name = (named 8 1 1);
      params = params.Void;
      body =
          (block
          (tree.StmtTree.Declare ty.Int (record { name = (named 19 7 1); size = None; stream = true; first = None } ∷ [])
          ∷ tree.StmtTree.Change (tree.Set (element 19 15 1 (tree.Number 0)) assign.Plain (mark 19 1) (tree.Number 1)) ∷ []));
    } ∷ []

-- int main(void) { int a, b, c, d, e, f, g, h, i;
-- #pragma omp task output(osout << a, osout << b, osout << c, osout << d, osout << e, osout << f, osout << g, osout << h, osout << i)
-- z = 1;
-- }
abbrev pub wrong_name_behind_too_many_items : tree.ProgramTree
wrong_name_behind_too_many_items =
    tree.Function
    record {
      ty = ty.Int;
      name = (named 8 1 1);
      params = params.Void;
      body =
          (block
          (tree.StmtTree.Declare ty.Int
          (record { name = (named 19 7 1); size = None; stream = false; first = None }
          ∷ record { name = (named 21 9 1); size = None; stream = false; first = None }
          ∷ record { name = (named 23 11 1); size = None; stream = false; first = None }
          ∷ record { name = (named 25 13 1); size = None; stream = false; first = None }
          ∷ record { name = (named 27 15 1); size = None; stream = false; first = None }
          ∷ record { name = (named 29 17 1); size = None; stream = false; first = None }
          ∷ record { name = (named 31 19 1); size = None; stream = false; first = None }
          ∷ record { name = (named 33 21 1); size = None; stream = false; first = None }
          ∷ record { name = (named 35 23 1); size = None; stream = false; first = None } ∷ [])
          ∷ tree.Task (mark 25 2)
          (record {
            comma = false;
            kind =
                tree.Output
                (joined (variable 10 30 2) (mark 31 2) (named 19 32 2) None
                ∷ joined (variable 10 34 2) (mark 35 2) (named 21 36 2) None
                ∷ joined (variable 10 38 2) (mark 39 2) (named 23 40 2) None
                ∷ joined (variable 10 42 2) (mark 43 2) (named 25 44 2) None
                ∷ joined (variable 10 46 2) (mark 47 2) (named 27 48 2) None
                ∷ joined (variable 10 50 2) (mark 51 2) (named 29 52 2) None
                ∷ joined (variable 10 54 2) (mark 55 2) (named 31 56 2) None
                ∷ joined (variable 10 58 2) (mark 59 2) (named 33 60 2) None
                ∷ joined (variable 10 62 2) (mark 63 2) (named 35 64 2) None ∷ []);
          } ∷ [])
          (tree.StmtTree.Change (tree.Set (variable 79 67 3) assign.Plain (mark 68 3) (tree.Number 1))) ∷ []));
    } ∷ []

-- int f(void) { break; return 0; }
abbrev pub no_main_and_others : tree.ProgramTree
no_main_and_others =
    tree.Function
    record { ty = ty.Int; name = (named 13 1 1); params = params.Void; body = (block (tree.Break (mark 6 1) ∷ tree.Return (mark 8 1) (tree.Number 0) ∷ [])) }
    ∷ []
