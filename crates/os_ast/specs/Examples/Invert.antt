-- Each output byte is 255 less the input byte:
-- #include <stdio.h>
-- const int B = 4;
-- int main(void) {
--     int i;
--     for (i = 0; i < osin_len; i += B) {
--         int n = osin_len - i < B ? osin_len - i : B;
--         int a[n], b[n];
--         #pragma omp task input(osin >> a[n]) output(osout << b[n])
--         {
--             int k;
--             for (k = 0; k < n; k++) b[k] = 255 - a[k];
--         }
--     }
--     return 0;
-- }
use Rattle.std.specs.Prelude.{ℕ, false, List, [], ◌∷◌, ◌++◌, ◌+◌, Some}
use Rattle.os_ast.specs.declared.ty.Ty.TheVariants as ty
use Rattle.os_ast.specs.Examples.{on, mark, named, variable, element, value, value_at, index, scalar, scalar_of, window, joined, clause, block}
use Rattle.os_ast.specs.Trees as tree
use Rattle.os_ast.specs.declared.expr.Binary.TheVariants as op
use Rattle.os_ast.specs.declared.expr.Level.TheVariants as level
use Rattle.os_ast.specs.declared.program.Params.TheVariants as params
use Rattle.os_ast.specs.declared.stmt.Assign.TheVariants as assign
use Rattle.os_ast.specs.declared.stmt.Step.TheVariants as step
use Rattle.os_lexer.specs.declared.token.Key.TheVariants as k
use Rattle.os_lexer.specs.declared.token.Kind.TheVariants.{Name as name, Number as number, Key as key, Punct as punct, PragmaStart, PragmaEnd}
use Rattle.os_lexer.specs.declared.token.Punct.TheVariants as p
use Rattle.os_lexer.specs.declared.token.Token.{Token}

abbrev pub tokens : List Token
tokens =
    on 2 (key k.Const ∷ key k.Int ∷ name 14 ∷ punct p.Set ∷ number 4 ∷ punct p.Semicolon ∷ [])
    ++ on 3 (key k.Int ∷ name 8 ∷ punct p.OpenParen ∷ key k.Void ∷ punct p.CloseParen ∷ punct p.OpenBrace ∷ [])
    ++ on 4 (key k.Int ∷ name 25 ∷ punct p.Semicolon ∷ [])
    ++ on 5
    (key k.For
    ∷ punct p.OpenParen
    ∷ name 25
    ∷ punct p.Set
    ∷ number 0
    ∷ punct p.Semicolon
    ∷ name 25
    ∷ punct p.Less
    ∷ name 11
    ∷ punct p.Semicolon
    ∷ name 25
    ∷ punct p.AddSet
    ∷ name 14
    ∷ punct p.CloseParen
    ∷ punct p.OpenBrace ∷ [])
    ++ on 6
    (key k.Int
    ∷ name 43
    ∷ punct p.Set
    ∷ name 11
    ∷ punct p.Minus
    ∷ name 25
    ∷ punct p.Less
    ∷ name 14
    ∷ punct p.Question
    ∷ name 11
    ∷ punct p.Minus
    ∷ name 25
    ∷ punct p.Colon
    ∷ name 14
    ∷ punct p.Semicolon ∷ [])
    ++ on 7
    (key k.Int
    ∷ name 58
    ∷ punct p.OpenBracket
    ∷ name 43
    ∷ punct p.CloseBracket
    ∷ punct p.Comma
    ∷ name 63
    ∷ punct p.OpenBracket
    ∷ name 43
    ∷ punct p.CloseBracket
    ∷ punct p.Semicolon ∷ [])
    ++ on 8
    (PragmaStart
    ∷ name 0
    ∷ name 1
    ∷ name 4
    ∷ punct p.OpenParen
    ∷ name 9
    ∷ punct p.ShiftRight
    ∷ name 58
    ∷ punct p.OpenBracket
    ∷ name 43
    ∷ punct p.CloseBracket
    ∷ punct p.CloseParen
    ∷ name 5
    ∷ punct p.OpenParen
    ∷ name 10
    ∷ punct p.ShiftLeft
    ∷ name 63
    ∷ punct p.OpenBracket
    ∷ name 43
    ∷ punct p.CloseBracket
    ∷ punct p.CloseParen
    ∷ PragmaEnd ∷ [])
    ++ on 9 (punct p.OpenBrace ∷ [])
    ++ on 10 (key k.Int ∷ name 92 ∷ punct p.Semicolon ∷ [])
    ++ on 11
    (key k.For
    ∷ punct p.OpenParen
    ∷ name 92
    ∷ punct p.Set
    ∷ number 0
    ∷ punct p.Semicolon
    ∷ name 92
    ∷ punct p.Less
    ∷ name 43
    ∷ punct p.Semicolon
    ∷ name 92
    ∷ punct p.Up
    ∷ punct p.CloseParen
    ∷ name 63
    ∷ punct p.OpenBracket
    ∷ name 92
    ∷ punct p.CloseBracket
    ∷ punct p.Set
    ∷ number 255
    ∷ punct p.Minus
    ∷ name 58
    ∷ punct p.OpenBracket
    ∷ name 92
    ∷ punct p.CloseBracket
    ∷ punct p.Semicolon ∷ [])
    ++ on 12 (punct p.CloseBrace ∷ [])
    ++ on 13 (punct p.CloseBrace ∷ [])
    ++ on 14 (key k.Return ∷ number 0 ∷ punct p.Semicolon ∷ [])
    ++ on 15 (punct p.CloseBrace ∷ [])

-- osin_len - i
abbrev pub left : ℕ → tree.ExprTree
left place =
    tree.Chain level.Sum (value 11 place 6) (tree.link op.Subtract (mark (place + 1) 6) (value 25 (place + 2) 6) tree.no_links)

abbrev pub body : tree.StmtTree
body =
    tree.Block (block (
    tree.StmtTree.Declare ty.Int (scalar (named 92 80 10) ∷ [])
    ∷ tree.For
    (tree.StartTree.Change (tree.Set (variable 92 84 11) assign.Plain (mark 85 11) (tree.Number 0)))
    (Some (tree.Chain level.Order (value 92 88 11) (tree.link op.Less (mark 89 11) (value 43 90 11) tree.no_links)))
    (Some (tree.After (variable 92 92 11) step.Up (mark 93 11)))
    (tree.StmtTree.Change (tree.Set (element 63 95 11 (value 92 97 11)) assign.Plain (mark 99 11)
    (tree.Chain level.Sum (tree.Number 255)
    (tree.link op.Subtract (mark 101 11) (value_at 58 102 11 (value 92 104 11)) tree.no_links))))
    ∷ []))

abbrev pub turn : tree.StmtTree
turn =
    tree.Block (block (
    tree.StmtTree.Declare ty.Int (scalar_of (named 43 31 6)
    (tree.Choice
    (tree.Chain level.Order (left 33) (tree.link op.Less (mark 36 6) (value 14 37 6) tree.no_links))
    (left 39)
    (value 14 43 6)) ∷ [])
    ∷ tree.StmtTree.Declare ty.Int (window 58 46 7 (value 43 48 7) ∷ window 63 51 7 (value 43 53 7) ∷ [])
    ∷ tree.Task (mark 56 8)
    (clause (tree.Input (joined (variable 9 61 8) (mark 62 8) (named 58 63 8) (index 64 8 (value 43 65 8)) ∷ []))
    ∷ clause (tree.Output (joined (variable 10 70 8) (mark 71 8) (named 63 72 8) (index 73 8 (value 43 74 8)) ∷ []))
    ∷ [])
    body
    ∷ []))

abbrev pub program : tree.ProgramTree
program =
    tree.Constant (record { ty = ty.Int; name = named 14 2 2; minus = false; size = 4; wide = false })
    ∷ tree.Function record {
      ty = ty.Int;
      name = named 8 7 3;
      params = params.Void;
      body = block (
          tree.StmtTree.Declare ty.Int (scalar (named 25 13 4) ∷ [])
          ∷ tree.For
          (tree.StartTree.Change (tree.Set (variable 25 17 5) assign.Plain (mark 18 5) (tree.Number 0)))
          (Some (tree.Chain level.Order (value 25 21 5) (tree.link op.Less (mark 22 5) (value 11 23 5) tree.no_links)))
          (Some (tree.Set (variable 25 25 5) (assign.With op.Add) (mark 26 5) (value 14 27 5)))
          turn
          ∷ tree.Return (mark 109 14) (tree.Number 0)
          ∷ []);
    }
    ∷ []
