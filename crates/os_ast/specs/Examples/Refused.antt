-- Programs that are refused for one reason or another.
use Rattle.std.specs.Prelude.{false, true, [], ◌∷◌, None}
use Rattle.os_ast.specs.declared.ty.Ty.TheVariants as ty
use Rattle.os_ast.specs.Examples.{mark, named, variable, element, index, joined, block, int_param}
use Rattle.os_ast.specs.Trees as tree
use Rattle.os_ast.specs.declared.program.Params.TheVariants as params
use Rattle.os_ast.specs.declared.stmt.Assign.TheVariants as assign

-- int f(int a, int a) { return a; } int main(void) { }
abbrev pub second_parameter : tree.ProgramTree
second_parameter =
    tree.Function
    record {
      ty = ty.Int;
      name = (named 13 1 1);
      params = params.Names (int_param 16 4 1 ∷ int_param 16 7 1 ∷ []);
      body = (block (tree.Return (mark 10 1) (tree.Place (variable 16 11 1)) ∷ []));
    }
    ∷ tree.Function record { ty = ty.Int; name = (named 8 15 1); params = params.Void; body = (block ([])) } ∷ []

-- int f(int a) { return a; } int main(void) { f(); }
abbrev pub missing_argument : tree.ProgramTree
missing_argument =
    tree.Function
    record {
      ty = ty.Int;
      name = (named 13 1 1);
      params = params.Names (int_param 16 4 1 ∷ []);
      body = (block (tree.Return (mark 7 1) (tree.Place (variable 16 8 1)) ∷ []));
    }
    ∷ tree.Function record { ty = ty.Int; name = (named 8 12 1); params = params.Void; body = (block (tree.StmtTree.Call (named 13 17 1) tree.no_args ∷ [])) }
    ∷ []

-- int main(void) { break; }
abbrev pub break_outside_a_loop : tree.ProgramTree
break_outside_a_loop = tree.Function record { ty = ty.Int; name = (named 8 1 1); params = params.Void; body = (block (tree.Break (mark 6 1) ∷ [])) } ∷ []

-- int main(void) { int w[2]; w[0] = 1; }
abbrev pub window_in_the_control_program : tree.ProgramTree
window_in_the_control_program =
    tree.Function
    record {
      ty = ty.Int;
      name = (named 8 1 1);
      params = params.Void;
      body =
          (block
          (tree.StmtTree.Declare ty.Int (record { name = (named 19 7 1); size = (index 8 1 (tree.Number 2)); stream = false; first = None } ∷ [])
          ∷ tree.StmtTree.Change (tree.Set (element 19 12 1 (tree.Number 0)) assign.Plain (mark 16 1) (tree.Number 1)) ∷ []));
    } ∷ []

-- int main(void) { int s __attribute__((stream)); s = 1; }
abbrev pub changed_stream : tree.ProgramTree
changed_stream =
    tree.Function
    record {
      ty = ty.Int;
      name = (named 8 1 1);
      params = params.Void;
      body =
          (block
          (tree.StmtTree.Declare ty.Int (record { name = (named 19 7 1); size = None; stream = true; first = None } ∷ [])
          ∷ tree.StmtTree.Change (tree.Set (variable 19 15 1) assign.Plain (mark 16 1) (tree.Number 1)) ∷ []));
    } ∷ []

-- int main(void) {
-- #pragma omp task
-- return 1;
-- }
abbrev pub return_in_a_task : tree.ProgramTree
return_in_a_task =
    tree.Function
    record {
      ty = ty.Int;
      name = (named 8 1 1);
      params = params.Void;
      body = (block (tree.Task (mark 6 2) ([]) (tree.Return (mark 10 3) (tree.Number 1))
          ∷ []));
    } ∷ []

-- int main(void) {
-- #pragma omp task output(osin << x)
-- ;
-- }
abbrev pub written_input : tree.ProgramTree
written_input =
    tree.Function
    record {
      ty = ty.Int;
      name = (named 8 1 1);
      params = params.Void;
      body =
          (block
          (tree.Task (mark 6 2) (record { comma = false; kind = tree.Output (joined (variable 9 11 2) (mark 12 2) (named 25 13 2) None ∷ []) } ∷ [])
          (tree.StmtTree.Empty) ∷ []));
    } ∷ []
