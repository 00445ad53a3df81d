-- int main(void) { return ((1)); } with any number of parentheses
use Rattle.std.specs.Prelude.{ℕ, zero, suc, [], ◌∷◌}
use Rattle.os_ast.specs.declared.ty.Ty.TheVariants as ty
use Rattle.os_ast.specs.Examples.{mark, named, block}
use Rattle.os_ast.specs.Trees as tree
use Rattle.os_ast.specs.declared.program.Params.TheVariants as params

abbrev pub parens : ℕ → tree.ExprTree → tree.ExprTree
parens zero e = e
parens (suc n) e = tree.Paren (parens n e)

abbrev pub program : ℕ → tree.ProgramTree
program n =
    tree.Function record {
      ty = ty.Int;
      name = named 8 1 1;
      params = params.Void;
      body = block (tree.Return (mark 6 1) (parens n (tree.Number 1)) ∷ []);
    } ∷ []
