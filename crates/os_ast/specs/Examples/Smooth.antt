-- Each output element is the mean of three input elements:
-- int main(void) {
--     int i;
--     for (i = 0; i + 2 < osin_len; i++) {
--         int w[3], y;
--         #pragma omp task input(osin >> w[1]) output(osout << y)
--         y = (w[0] + w[1] + w[2]) / 3;
--     }
--     return 0;
-- }
use Rattle.std.specs.Prelude.{List, [], ◌∷◌, ◌++◌, Some, None}
use Rattle.os_ast.specs.declared.ty.Ty.TheVariants as ty
use Rattle.os_ast.specs.Examples.{on, mark, named, variable, value, value_at, index, scalar, window, joined, clause, block}
use Rattle.os_ast.specs.Trees as tree
use Rattle.os_ast.specs.declared.expr.Binary.TheVariants as op
use Rattle.os_ast.specs.declared.expr.Level.TheVariants as level
use Rattle.os_ast.specs.declared.program.Params.TheVariants as params
use Rattle.os_ast.specs.declared.stmt.Assign.TheVariants as assign
use Rattle.os_ast.specs.declared.stmt.Step.TheVariants as step
use Rattle.os_lexer.specs.declared.token.Key.TheVariants as k
use Rattle.os_lexer.specs.declared.token.Kind.TheVariants.{Name as name, Number as number, Key as key, Punct as punct, PragmaStart, PragmaEnd}
use Rattle.os_lexer.specs.declared.token.Punct.TheVariants as p
use Rattle.os_lexer.specs.declared.token.Token.{Token}

abbrev pub tokens : List Token
tokens =
    on 1 (key k.Int ∷ name 8 ∷ punct p.OpenParen ∷ key k.Void ∷ punct p.CloseParen ∷ punct p.OpenBrace ∷ [])
    ++ on 2 (key k.Int ∷ name 19 ∷ punct p.Semicolon ∷ [])
    ++ on 3
    (key k.For
    ∷ punct p.OpenParen
    ∷ name 19
    ∷ punct p.Set
    ∷ number 0
    ∷ punct p.Semicolon
    ∷ name 19
    ∷ punct p.Plus
    ∷ number 2
    ∷ punct p.Less
    ∷ name 11
    ∷ punct p.Semicolon
    ∷ name 19
    ∷ punct p.Up
    ∷ punct p.CloseParen
    ∷ punct p.OpenBrace ∷ [])
    ++ on 4 (key k.Int ∷ name 38 ∷ punct p.OpenBracket ∷ number 3 ∷ punct p.CloseBracket ∷ punct p.Comma ∷ name 43 ∷ punct p.Semicolon ∷ [])
    ++ on 5
    (PragmaStart
    ∷ name 0
    ∷ name 1
    ∷ name 4
    ∷ punct p.OpenParen
    ∷ name 9
    ∷ punct p.ShiftRight
    ∷ name 38
    ∷ punct p.OpenBracket
    ∷ number 1
    ∷ punct p.CloseBracket
    ∷ punct p.CloseParen
    ∷ name 5
    ∷ punct p.OpenParen
    ∷ name 10
    ∷ punct p.ShiftLeft
    ∷ name 43
    ∷ punct p.CloseParen
    ∷ PragmaEnd ∷ [])
    ++ on 6
    (name 43
    ∷ punct p.Set
    ∷ punct p.OpenParen
    ∷ name 38
    ∷ punct p.OpenBracket
    ∷ number 0
    ∷ punct p.CloseBracket
    ∷ punct p.Plus
    ∷ name 38
    ∷ punct p.OpenBracket
    ∷ number 1
    ∷ punct p.CloseBracket
    ∷ punct p.Plus
    ∷ name 38
    ∷ punct p.OpenBracket
    ∷ number 2
    ∷ punct p.CloseBracket
    ∷ punct p.CloseParen
    ∷ punct p.Slash
    ∷ number 3
    ∷ punct p.Semicolon ∷ [])
    ++ on 7 (punct p.CloseBrace ∷ [])
    ++ on 8 (key k.Return ∷ number 0 ∷ punct p.Semicolon ∷ [])
    ++ on 9 (punct p.CloseBrace ∷ [])

abbrev pub body : tree.StmtTree
body =
    tree.Task (mark 33 5)
    (clause (tree.Input (joined (variable 9 38 5) (mark 39 5) (named 38 40 5) (index 41 5 (tree.Number 1)) ∷ []))
    ∷ clause (tree.Output (joined (variable 10 47 5) (mark 48 5) (named 43 49 5) None ∷ []))
    ∷ [])
    (tree.StmtTree.Change (tree.Set (variable 43 52 6) assign.Plain (mark 53 6)
    (tree.Chain level.Product
    (tree.Paren (tree.Chain level.Sum (value_at 38 55 6 (tree.Number 0))
    (tree.link op.Add (mark 59 6) (value_at 38 60 6 (tree.Number 1))
    (tree.link op.Add (mark 64 6) (value_at 38 65 6 (tree.Number 2)) tree.no_links))))
    (tree.link op.Divide (mark 70 6) (tree.Number 3) tree.no_links))))

abbrev pub program : tree.ProgramTree
program =
    tree.Function record {
      ty = ty.Int;
      name = named 8 1 1;
      params = params.Void;
      body = block (
          tree.StmtTree.Declare ty.Int (scalar (named 19 7 2) ∷ [])
          ∷ tree.For
          (tree.StartTree.Change (tree.Set (variable 19 11 3) assign.Plain (mark 12 3) (tree.Number 0)))
          (Some (tree.Chain level.Order
          (tree.Chain level.Sum (value 19 15 3) (tree.link op.Add (mark 16 3) (tree.Number 2) tree.no_links))
          (tree.link op.Less (mark 18 3) (value 11 19 3) tree.no_links)))
          (Some (tree.After (variable 19 21 3) step.Up (mark 22 3)))
          (tree.Block (block (
          tree.StmtTree.Declare ty.Int (window 38 26 4 (tree.Number 3) ∷ scalar (named 43 31 4) ∷ [])
          ∷ body
          ∷ [])))
          ∷ tree.Return (mark 74 8) (tree.Number 0)
          ∷ []);
    } ∷ []
