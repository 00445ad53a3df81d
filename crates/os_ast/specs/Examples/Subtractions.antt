-- int f(void) { return 1-2-3; }
use Rattle.std.specs.Prelude.{List, [], ◌∷◌}
use Rattle.os_ast.specs.declared.ty.Ty.TheVariants as ty
use Rattle.os_ast.specs.Examples.{on, mark, named, block}
use Rattle.os_ast.specs.Trees as tree
use Rattle.os_ast.specs.declared.expr.Binary.TheVariants as op
use Rattle.os_ast.specs.declared.expr.Level.TheVariants as level
use Rattle.os_ast.specs.declared.program.Params.TheVariants as params
use Rattle.os_lexer.specs.declared.token.Key.TheVariants as k
use Rattle.os_lexer.specs.declared.token.Kind.TheVariants.{Name as name, Number as number, Key as key, Punct as punct}
use Rattle.os_lexer.specs.declared.token.Punct.TheVariants as p
use Rattle.os_lexer.specs.declared.token.Token.{Token}

abbrev pub tokens : List Token
tokens =
    on 1
    (key k.Int
    ∷ name 13
    ∷ punct p.OpenParen
    ∷ key k.Void
    ∷ punct p.CloseParen
    ∷ punct p.OpenBrace
    ∷ key k.Return
    ∷ number 1
    ∷ punct p.Minus
    ∷ number 2
    ∷ punct p.Minus
    ∷ number 3
    ∷ punct p.Semicolon
    ∷ punct p.CloseBrace ∷ [])

abbrev pub program : tree.ProgramTree
program =
    tree.Function record {
      ty = ty.Int;
      name = named 13 1 1;
      params = params.Void;
      body = block (tree.Return (mark 6 1)
          (tree.Chain level.Sum (tree.Number 1)
          (tree.link op.Subtract (mark 8 1) (tree.Number 2) (tree.link op.Subtract (mark 10 1) (tree.Number 3) tree.no_links))) ∷ []);
    } ∷ []
