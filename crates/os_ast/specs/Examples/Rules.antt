-- A program for each other rule.
use Rattle.std.specs.Prelude.{false, true, [], ◌∷◌, Some, None}
use Rattle.os_ast.specs.declared.ty.Ty.TheVariants as ty
use Rattle.os_ast.specs.Examples.{mark, named, variable, element, index, joined, block, int_param}
use Rattle.os_ast.specs.Trees as tree
use Rattle.os_ast.specs.declared.expr.Binary.TheVariants as op
use Rattle.os_ast.specs.declared.expr.Level.TheVariants as level
use Rattle.os_ast.specs.declared.program.Params.TheVariants as params
use Rattle.os_ast.specs.declared.stmt.Assign.TheVariants as assign
use Rattle.os_ast.specs.declared.stmt.Step.TheVariants as step

-- int main(void) { x = 1; }
abbrev pub unknown_name : tree.ProgramTree
unknown_name =
    tree.Function
    record {
      ty = ty.Int;
      name = (named 8 1 1);
      params = params.Void;
      body = (block (tree.StmtTree.Change (tree.Set (variable 18 6 1) assign.Plain (mark 7 1) (tree.Number 1)) ∷ []));
    } ∷ []

-- int f(int a) { return f; } int main(void) { }
abbrev pub function_as_value : tree.ProgramTree
function_as_value =
    tree.Function
    record {
      ty = ty.Int;
      name = (named 13 1 1);
      params = params.Names (int_param 16 4 1 ∷ []);
      body = (block (tree.Return (mark 7 1) (tree.Place (variable 13 8 1)) ∷ []));
    }
    ∷ tree.Function record { ty = ty.Int; name = (named 8 12 1); params = params.Void; body = (block ([])) } ∷ []

-- int main(void) { } int g(void) { return main(); }
abbrev pub call_of_main : tree.ProgramTree
call_of_main =
    tree.Function record { ty = ty.Int; name = (named 8 1 1); params = params.Void; body = (block ([])) }
    ∷ tree.Function
    record {
      ty = ty.Int;
      name = (named 20 8 1);
      params = params.Void;
      body = (block (tree.Return (mark 13 1) (tree.ExprTree.Call (named 8 14 1) tree.no_args) ∷ []));
    } ∷ []

-- const int A = 1; int main(void) { A = 2; }
abbrev pub changed_constant : tree.ProgramTree
changed_constant =
    tree.Constant record { ty = ty.Int; name = (named 14 2 1); minus = false; size = 1; wide = false }
    ∷ tree.Function
    record {
      ty = ty.Int;
      name = (named 8 7 1);
      params = params.Void;
      body = (block (tree.StmtTree.Change (tree.Set (variable 14 12 1) assign.Plain (mark 13 1) (tree.Number 2)) ∷ []));
    } ∷ []

-- int f(int n) { int a[n]; return 0; } int main(void) { }
abbrev pub size_of_a_scalar : tree.ProgramTree
size_of_a_scalar =
    tree.Function
    record {
      ty = ty.Int;
      name = (named 13 1 1);
      params = params.Names (int_param 16 4 1 ∷ []);
      body =
          (block
          (tree.StmtTree.Declare ty.Int
          (record { name = (named 20 8 1); size = (index 9 1 (tree.Place (variable 16 10 1))); stream = false; first = None } ∷ [])
          ∷ tree.Return (mark 13 1) (tree.Number 0) ∷ []));
    }
    ∷ tree.Function record { ty = ty.Int; name = (named 8 18 1); params = params.Void; body = (block ([])) } ∷ []

-- int f(void) { int a[0]; return 0; } int main(void) { }
abbrev pub size_of_zero : tree.ProgramTree
size_of_zero =
    tree.Function
    record {
      ty = ty.Int;
      name = (named 13 1 1);
      params = params.Void;
      body =
          (block
          (tree.StmtTree.Declare ty.Int (record { name = (named 19 7 1); size = (index 8 1 (tree.Number 0)); stream = false; first = None } ∷ [])
          ∷ tree.Return (mark 12 1) (tree.Number 0) ∷ []));
    }
    ∷ tree.Function record { ty = ty.Int; name = (named 8 17 1); params = params.Void; body = (block ([])) } ∷ []

-- int f(void) { int a[65536], b[1]; return 0; } int main(void) { }
abbrev pub arrays_beyond_the_limit : tree.ProgramTree
arrays_beyond_the_limit =
    tree.Function
    record {
      ty = ty.Int;
      name = (named 13 1 1);
      params = params.Void;
      body =
          (block
          (tree.StmtTree.Declare ty.Int
          (record { name = (named 19 7 1); size = (index 8 1 (tree.Number 65536)); stream = false; first = None }
          ∷ record { name = (named 24 12 1); size = (index 13 1 (tree.Number 1)); stream = false; first = None } ∷ [])
          ∷ tree.Return (mark 17 1) (tree.Number 0) ∷ []));
    }
    ∷ tree.Function record { ty = ty.Int; name = (named 8 22 1); params = params.Void; body = (block ([])) } ∷ []

-- int main(void) { int s[65536] __attribute__((stream)), t __attribute__((stream)); }
abbrev pub streams_beyond_the_limit : tree.ProgramTree
streams_beyond_the_limit =
    tree.Function
    record {
      ty = ty.Int;
      name = (named 8 1 1);
      params = params.Void;
      body =
          (block
          (tree.StmtTree.Declare ty.Int
          (record { name = (named 19 7 1); size = (index 8 1 (tree.Number 65536)); stream = true; first = None }
          ∷ record { name = (named 30 18 1); size = None; stream = true; first = None } ∷ []) ∷ []));
    } ∷ []

-- int main(void) { { int s __attribute__((stream)); } }
abbrev pub stream_in_an_inner_block : tree.ProgramTree
stream_in_an_inner_block =
    tree.Function
    record {
      ty = ty.Int;
      name = (named 8 1 1);
      params = params.Void;
      body =
          (block (tree.Block (block (tree.StmtTree.Declare ty.Int (record { name = (named 20 8 1); size = None; stream = true; first = None } ∷ []) ∷ []))
          ∷ []));
    } ∷ []

-- int f(void) {
-- #pragma omp taskwait
-- return 0; } int main(void) { }
abbrev pub pragma_in_a_function : tree.ProgramTree
pragma_in_a_function =
    tree.Function
    record {
      ty = ty.Int;
      name = (named 13 1 1);
      params = params.Void;
      body = (block (tree.Taskwait (mark 6 2) ∷ tree.Return (mark 10 3) (tree.Number 0)
          ∷ []));
    }
    ∷ tree.Function record { ty = ty.Int; name = (named 8 15 3); params = params.Void; body = (block ([])) } ∷ []

-- int main(void) { int x = osin; }
abbrev pub stream_as_a_value : tree.ProgramTree
stream_as_a_value =
    tree.Function
    record {
      ty = ty.Int;
      name = (named 8 1 1);
      params = params.Void;
      body =
          (block
          (tree.StmtTree.Declare ty.Int (record { name = (named 19 7 1); size = None; stream = false; first = (Some (tree.Place (variable 9 9 1))) } ∷ [])
          ∷ []));
    } ∷ []

-- int main(void) {
-- #pragma omp tick(osout >> 1)
-- }
abbrev pub read_output : tree.ProgramTree
read_output =
    tree.Function
    record {
      ty = ty.Int;
      name = (named 8 1 1);
      params = params.Void;
      body = (block (tree.Tick (mark 6 2) (variable 10 10 2) (mark 11 2) (tree.Number 1)
          ∷ []));
    } ∷ []

-- int main(void) { int x;
-- #pragma omp task input(osin >> x) output(osout << x)
-- ;
-- }
abbrev pub item_twice : tree.ProgramTree
item_twice =
    tree.Function
    record {
      ty = ty.Int;
      name = (named 8 1 1);
      params = params.Void;
      body =
          (block
          (tree.StmtTree.Declare ty.Int (record { name = (named 19 7 1); size = None; stream = false; first = None } ∷ [])
          ∷ tree.Task (mark 9 2)
          (record { comma = false; kind = tree.Input (joined (variable 9 14 2) (mark 15 2) (named 19 16 2) None ∷ []) }
          ∷ record { comma = false; kind = tree.Output (joined (variable 10 20 2) (mark 21 2) (named 19 22 2) None ∷ []) } ∷ [])
          (tree.StmtTree.Empty) ∷ []));
    } ∷ []

-- int main(void) { int a, b, c, d, e, f, g, h, i;
-- #pragma omp task output(osout << a, osout << b, osout << c, osout << d, osout << e, osout << f, osout << g, osout << h, osout << i)
-- ;
-- }
abbrev pub items_beyond_the_limit : tree.ProgramTree
items_beyond_the_limit =
    tree.Function
    record {
      ty = ty.Int;
      name = (named 8 1 1);
      params = params.Void;
      body =
          (block
          (tree.StmtTree.Declare ty.Int
          (record { name = (named 19 7 1); size = None; stream = false; first = None }
          ∷ record { name = (named 21 9 1); size = None; stream = false; first = None }
          ∷ record { name = (named 23 11 1); size = None; stream = false; first = None }
          ∷ record { name = (named 25 13 1); size = None; stream = false; first = None }
          ∷ record { name = (named 27 15 1); size = None; stream = false; first = None }
          ∷ record { name = (named 29 17 1); size = None; stream = false; first = None }
          ∷ record { name = (named 31 19 1); size = None; stream = false; first = None }
          ∷ record { name = (named 33 21 1); size = None; stream = false; first = None }
          ∷ record { name = (named 35 23 1); size = None; stream = false; first = None } ∷ [])
          ∷ tree.Task (mark 25 2)
          (record {
            comma = false;
            kind =
                tree.Output
                (joined (variable 10 30 2) (mark 31 2) (named 19 32 2) None
                ∷ joined (variable 10 34 2) (mark 35 2) (named 21 36 2) None
                ∷ joined (variable 10 38 2) (mark 39 2) (named 23 40 2) None
                ∷ joined (variable 10 42 2) (mark 43 2) (named 25 44 2) None
                ∷ joined (variable 10 46 2) (mark 47 2) (named 27 48 2) None
                ∷ joined (variable 10 50 2) (mark 51 2) (named 29 52 2) None
                ∷ joined (variable 10 54 2) (mark 55 2) (named 31 56 2) None
                ∷ joined (variable 10 58 2) (mark 59 2) (named 33 60 2) None
                ∷ joined (variable 10 62 2) (mark 63 2) (named 35 64 2) None ∷ []);
          } ∷ [])
          (tree.StmtTree.Empty) ∷ []));
    } ∷ []

-- int main(void) { int x;
-- #pragma omp task input(osin >> x)
-- x = 1;
-- }
abbrev pub changed_input : tree.ProgramTree
changed_input =
    tree.Function
    record {
      ty = ty.Int;
      name = (named 8 1 1);
      params = params.Void;
      body =
          (block
          (tree.StmtTree.Declare ty.Int (record { name = (named 19 7 1); size = None; stream = false; first = None } ∷ [])
          ∷ tree.Task (mark 9 2) (record { comma = false; kind = tree.Input (joined (variable 9 14 2) (mark 15 2) (named 19 16 2) None ∷ []) } ∷ [])
          (tree.StmtTree.Change (tree.Set (variable 19 19 3) assign.Plain (mark 20 3) (tree.Number 1))) ∷ []));
    } ∷ []

-- unsigned main() { }
abbrev pub main_of_unsigned : tree.ProgramTree
main_of_unsigned = tree.Function record { ty = ty.Unsigned; name = (named 8 1 1); params = params.Empty; body = (block ([])) } ∷ []

-- int f(void) { return 0; }
abbrev pub no_main : tree.ProgramTree
no_main = tree.Function record { ty = ty.Int; name = (named 13 1 1); params = params.Void; body = (block (tree.Return (mark 6 1) (tree.Number 0) ∷ [])) } ∷ []

-- int main(int a) { }
abbrev pub main_with_a_parameter : tree.ProgramTree
main_with_a_parameter = tree.Function record { ty = ty.Int; name = (named 8 1 1); params = params.Names (int_param 16 4 1 ∷ []); body = (block ([])) } ∷ []

-- int f(void) { return f(); } int main(void) { }
abbrev pub function_in_its_own_body : tree.ProgramTree
function_in_its_own_body =
    tree.Function
    record {
      ty = ty.Int;
      name = (named 13 1 1);
      params = params.Void;
      body = (block (tree.Return (mark 6 1) (tree.ExprTree.Call (named 13 7 1) tree.no_args)
          ∷ []));
    }
    ∷ tree.Function record { ty = ty.Int; name = (named 8 13 1); params = params.Void; body = (block ([])) } ∷ []

-- int main(void) { for (int i = 0; i < 2; i++) ; i = 1; }
abbrev pub variable_of_a_loop_behind_it : tree.ProgramTree
variable_of_a_loop_behind_it =
    tree.Function
    record {
      ty = ty.Int;
      name = (named 8 1 1);
      params = params.Void;
      body =
          (block
          (tree.For (tree.StartTree.Declare ty.Int (record { name = (named 21 9 1); size = None; stream = false; first = (Some (tree.Number 0)) } ∷ []))
          (Some (tree.Chain level.Order (tree.Place (variable 21 13 1)) (tree.link op.Less (mark 14 1) (tree.Number 2) tree.no_links)))
          (Some (tree.After (variable 21 17 1) step.Up (mark 18 1))) (tree.StmtTree.Empty)
          ∷ tree.StmtTree.Change (tree.Set (variable 21 21 1) assign.Plain (mark 22 1) (tree.Number 1)) ∷ []));
    } ∷ []

-- int f(void) { return 0; } int main(void) { int x = f; }
abbrev pub name_of_a_function : tree.ProgramTree
name_of_a_function =
    tree.Function record { ty = ty.Int; name = (named 13 1 1); params = params.Void; body = (block (tree.Return (mark 6 1) (tree.Number 0) ∷ [])) }
    ∷ tree.Function
    record {
      ty = ty.Int;
      name = (named 8 11 1);
      params = params.Void;
      body =
          (block
          (tree.StmtTree.Declare ty.Int (record { name = (named 29 17 1); size = None; stream = false; first = (Some (tree.Place (variable 13 19 1))) } ∷ [])
          ∷ []));
    } ∷ []

-- int main(void) { int w[2];
-- #pragma omp task
-- w[0] = 1;
-- }
abbrev pub window_in_a_task : tree.ProgramTree
window_in_a_task =
    tree.Function
    record {
      ty = ty.Int;
      name = (named 8 1 1);
      params = params.Void;
      body =
          (block
          (tree.StmtTree.Declare ty.Int (record { name = (named 19 7 1); size = (index 8 1 (tree.Number 2)); stream = false; first = None } ∷ [])
          ∷ tree.Task (mark 12 2) ([]) (tree.StmtTree.Change (tree.Set (element 19 16 3 (tree.Number 0)) assign.Plain (mark 20 3) (tree.Number 1))) ∷ []));
    } ∷ []

-- int main(void) { int x; x(); }
abbrev pub called_scalar : tree.ProgramTree
called_scalar =
    tree.Function
    record {
      ty = ty.Int;
      name = (named 8 1 1);
      params = params.Void;
      body =
          (block
          (tree.StmtTree.Declare ty.Int (record { name = (named 19 7 1); size = None; stream = false; first = None } ∷ [])
          ∷ tree.StmtTree.Call (named 19 9 1) tree.no_args ∷ []));
    } ∷ []
