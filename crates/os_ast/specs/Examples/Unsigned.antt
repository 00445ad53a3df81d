-- const unsigned last = -1;
-- unsigned int half(unsigned a) { return a >> 1u; }
-- int main(void) { unsigned u = last; }
use Rattle.std.specs.Prelude.{true, false, List, [], ◌∷◌, ◌++◌}
use Rattle.os_ast.specs.Examples.{on, mark, named, block, scalar_of, value}
use Rattle.os_ast.specs.Meanings.{resolved}
use Rattle.os_ast.specs.Trees as tree
use Rattle.os_ast.specs.declared.expr.Binary.TheVariants as op
use Rattle.os_ast.specs.declared.expr.Level.TheVariants as level
use Rattle.os_ast.specs.declared.names.Resolved.{Resolved}
use Rattle.os_ast.specs.declared.names.What.TheVariants as what
use Rattle.os_ast.specs.declared.program.Params.TheVariants as params
use Rattle.os_ast.specs.declared.ty.Ty.TheVariants as ty
use Rattle.std.specs.Prelude.{negsuc}
use Rattle.os_lexer.specs.declared.token.Key.TheVariants as k
use Rattle.os_lexer.specs.declared.token.Kind.TheVariants.{Name as name, Number as number, Wide as wide, Key as key, Punct as punct}
use Rattle.os_lexer.specs.declared.token.Punct.TheVariants as p
use Rattle.os_lexer.specs.declared.token.Token.{Token}

abbrev pub tokens : List Token
tokens =
    on 1
    (key k.Const ∷ key k.Unsigned ∷ name 14 ∷ punct p.Set ∷ punct p.Minus ∷ number 1 ∷ punct p.Semicolon ∷ [])
    ++ on 2
    (key k.Unsigned
    ∷ key k.Int
    ∷ name 21
    ∷ punct p.OpenParen
    ∷ key k.Unsigned
    ∷ name 24
    ∷ punct p.CloseParen
    ∷ punct p.OpenBrace
    ∷ key k.Return
    ∷ name 24
    ∷ punct p.ShiftRight
    ∷ wide 1
    ∷ punct p.Semicolon
    ∷ punct p.CloseBrace ∷ [])
    ++ on 3
    (key k.Int
    ∷ name 8
    ∷ punct p.OpenParen
    ∷ key k.Void
    ∷ punct p.CloseParen
    ∷ punct p.OpenBrace
    ∷ key k.Unsigned
    ∷ name 40
    ∷ punct p.Set
    ∷ name 14
    ∷ punct p.Semicolon
    ∷ punct p.CloseBrace ∷ [])

abbrev pub program : tree.ProgramTree
program =
    tree.Constant (record { ty = ty.Unsigned; name = named 14 2 1; minus = true; size = 1; wide = false })
    ∷ tree.Function record {
      ty = ty.UnsignedInt;
      name = named 21 9 2;
      params = params.Names (record { ty = ty.Unsigned; name = named 24 12 2 } ∷ []);
      body = block (tree.Return (mark 15 2)
          (tree.Chain level.Shift (value 24 16 2) (tree.link op.ShiftRight (mark 17 2) (tree.Wide 1) tree.no_links)) ∷ []);
    }
    ∷ tree.Function record {
      ty = ty.Int;
      name = named 8 22 3;
      params = params.Void;
      body = block (tree.StmtTree.Declare ty.Unsigned (scalar_of (named 40 28 3) (value 14 30 3) ∷ []) ∷ []);
    } ∷ []

-- what its names mean
abbrev pub meanings : List Resolved
meanings = resolved 12 (what.Scalar 0) true ∷ resolved 16 (what.Scalar 0) true ∷ resolved 28 (what.Scalar 1) true ∷ resolved 30 (what.Constant (negsuc 0)) true
    ∷ []
