-- Each production that the other examples do not show:
-- const int A = -5;
-- int f() { return +f(1, ~2); }
-- int g(int a, int b) { while (!a) { ++a; b--; break; continue; f(a); } return a; }
-- int main(void) {
--     int s[3] __attribute__((stream)), t __attribute__((stream));
--     #pragma omp tick(s[0] >> 2)
--     #pragma omp taskwait
--     #pragma omp task firstprivate(x, y), input(t) output(s[1] << z)
--     ;
--     for (int i = 0; ; ) { }
--     for (; a || b && c; a <<= 1) if (a) ; else a = 1;
-- }
use Rattle.std.specs.Prelude.{false, true, List, [], ◌∷◌, ◌++◌, Some, None}
use Rattle.os_ast.specs.declared.ty.Ty.TheVariants as ty
use Rattle.os_ast.specs.Examples.{on, mark, named, variable, element, value, index, scalar_of, joined, clause, block, int_param}
use Rattle.os_ast.specs.Trees as tree
use Rattle.os_ast.specs.declared.expr.Binary.TheVariants as op
use Rattle.os_ast.specs.declared.expr.Level.TheVariants as level
use Rattle.os_ast.specs.declared.expr.Unary.TheVariants as unary
use Rattle.os_ast.specs.declared.program.Params.TheVariants as params
use Rattle.os_ast.specs.declared.stmt.Assign.TheVariants as assign
use Rattle.os_ast.specs.declared.stmt.Step.TheVariants as step
use Rattle.os_lexer.specs.declared.token.Key.TheVariants as k
use Rattle.os_lexer.specs.declared.token.Kind.TheVariants.{Name as name, Number as number, Key as key, Punct as punct, PragmaStart, PragmaEnd}
use Rattle.os_lexer.specs.declared.token.Punct.TheVariants as p
use Rattle.os_lexer.specs.declared.token.Token.{Token}

abbrev pub tokens : List Token
tokens =
    on 1 (key k.Const ∷ key k.Int ∷ name 14 ∷ punct p.Set ∷ punct p.Minus ∷ number 5 ∷ punct p.Semicolon ∷ [])
    ++ on 2
    (key k.Int
    ∷ name 20
    ∷ punct p.OpenParen
    ∷ punct p.CloseParen
    ∷ punct p.OpenBrace
    ∷ key k.Return
    ∷ punct p.Plus
    ∷ name 20
    ∷ punct p.OpenParen
    ∷ number 1
    ∷ punct p.Comma
    ∷ punct p.Invert
    ∷ number 2
    ∷ punct p.CloseParen
    ∷ punct p.Semicolon
    ∷ punct p.CloseBrace ∷ [])
    ++ on 3
    (key k.Int
    ∷ name 36
    ∷ punct p.OpenParen
    ∷ key k.Int
    ∷ name 39
    ∷ punct p.Comma
    ∷ key k.Int
    ∷ name 42
    ∷ punct p.CloseParen
    ∷ punct p.OpenBrace
    ∷ key k.While
    ∷ punct p.OpenParen
    ∷ punct p.Not
    ∷ name 39
    ∷ punct p.CloseParen
    ∷ punct p.OpenBrace
    ∷ punct p.Up
    ∷ name 39
    ∷ punct p.Semicolon
    ∷ name 42
    ∷ punct p.Down
    ∷ punct p.Semicolon
    ∷ key k.Break
    ∷ punct p.Semicolon
    ∷ key k.Continue
    ∷ punct p.Semicolon
    ∷ name 20
    ∷ punct p.OpenParen
    ∷ name 39
    ∷ punct p.CloseParen
    ∷ punct p.Semicolon
    ∷ punct p.CloseBrace
    ∷ key k.Return
    ∷ name 39
    ∷ punct p.Semicolon
    ∷ punct p.CloseBrace ∷ [])
    ++ on 4 (key k.Int ∷ name 8 ∷ punct p.OpenParen ∷ key k.Void ∷ punct p.CloseParen ∷ punct p.OpenBrace ∷ [])
    ++ on 5
    (key k.Int
    ∷ name 78
    ∷ punct p.OpenBracket
    ∷ number 3
    ∷ punct p.CloseBracket
    ∷ key k.Attribute
    ∷ punct p.OpenParen
    ∷ punct p.OpenParen
    ∷ name 7
    ∷ punct p.CloseParen
    ∷ punct p.CloseParen
    ∷ punct p.Comma
    ∷ name 89
    ∷ key k.Attribute
    ∷ punct p.OpenParen
    ∷ punct p.OpenParen
    ∷ name 7
    ∷ punct p.CloseParen
    ∷ punct p.CloseParen
    ∷ punct p.Semicolon ∷ [])
    ++ on 6
    (PragmaStart
    ∷ name 0
    ∷ name 2
    ∷ punct p.OpenParen
    ∷ name 78
    ∷ punct p.OpenBracket
    ∷ number 0
    ∷ punct p.CloseBracket
    ∷ punct p.ShiftRight
    ∷ number 2
    ∷ punct p.CloseParen
    ∷ PragmaEnd ∷ [])
    ++ on 7 (PragmaStart ∷ name 0 ∷ name 3 ∷ PragmaEnd ∷ [])
    ++ on 8
    (PragmaStart
    ∷ name 0
    ∷ name 1
    ∷ name 6
    ∷ punct p.OpenParen
    ∷ name 118
    ∷ punct p.Comma
    ∷ name 120
    ∷ punct p.CloseParen
    ∷ punct p.Comma
    ∷ name 4
    ∷ punct p.OpenParen
    ∷ name 89
    ∷ punct p.CloseParen
    ∷ name 5
    ∷ punct p.OpenParen
    ∷ name 78
    ∷ punct p.OpenBracket
    ∷ number 1
    ∷ punct p.CloseBracket
    ∷ punct p.ShiftLeft
    ∷ name 134
    ∷ punct p.CloseParen
    ∷ PragmaEnd ∷ [])
    ++ on 9 (punct p.Semicolon ∷ [])
    ++ on 10
    (key k.For
    ∷ punct p.OpenParen
    ∷ key k.Int
    ∷ name 141
    ∷ punct p.Set
    ∷ number 0
    ∷ punct p.Semicolon
    ∷ punct p.Semicolon
    ∷ punct p.CloseParen
    ∷ punct p.OpenBrace
    ∷ punct p.CloseBrace ∷ [])
    ++ on 11
    (key k.For
    ∷ punct p.OpenParen
    ∷ punct p.Semicolon
    ∷ name 39
    ∷ punct p.Or
    ∷ name 42
    ∷ punct p.And
    ∷ name 156
    ∷ punct p.Semicolon
    ∷ name 39
    ∷ punct p.ShiftLeftSet
    ∷ number 1
    ∷ punct p.CloseParen
    ∷ key k.If
    ∷ punct p.OpenParen
    ∷ name 39
    ∷ punct p.CloseParen
    ∷ punct p.Semicolon
    ∷ key k.Else
    ∷ name 39
    ∷ punct p.Set
    ∷ number 1
    ∷ punct p.Semicolon ∷ [])
    ++ on 12 (punct p.CloseBrace ∷ [])

abbrev pub constant : tree.ItemTree
constant = tree.Constant (record { ty = ty.Int; name = named 14 2 1; minus = true; size = 5; wide = false })

abbrev pub plus : tree.ItemTree
plus =
    tree.Function record {
      ty = ty.Int;
      name = named 20 8 2;
      params = params.Empty;
      body = block (tree.Return (mark 12 2)
          (tree.Unary unary.Plus (mark 13 2)
          (tree.ExprTree.Call (named 20 14 2)
          (tree.arg (tree.Number 1) (tree.arg (tree.Unary unary.Invert (mark 18 2) (tree.Number 2)) tree.no_args)))) ∷ []);
    }

abbrev pub loops : tree.ItemTree
loops =
    tree.Function record {
      ty = ty.Int;
      name = named 36 24 3;
      params = params.Names (int_param 39 27 3 ∷ int_param 42 30 3 ∷ []);
      body = block (
          tree.While (tree.Unary unary.Not (mark 35 3) (value 39 36 3))
          (tree.Block (block (
          tree.StmtTree.Change (tree.Before (variable 39 40 3) step.Up (mark 39 3))
          ∷ tree.StmtTree.Change (tree.After (variable 42 42 3) step.Down (mark 43 3))
          ∷ tree.Break (mark 45 3)
          ∷ tree.Continue (mark 47 3)
          ∷ tree.StmtTree.Call (named 20 49 3) (tree.arg (value 39 51 3) tree.no_args)
          ∷ [])))
          ∷ tree.Return (mark 55 3) (value 39 56 3)
          ∷ []);
    }

abbrev pub streams : tree.StmtTree
streams =
    tree.StmtTree.Declare ty.Int (
    record { name = named 78 66 5; size = index 67 5 (tree.Number 3); stream = true; first = None }
    ∷ record { name = named 89 77 5; size = None; stream = true; first = None }
    ∷ [])

abbrev pub task : tree.StmtTree
task =
    tree.Task (mark 101 8)
    (clause (tree.Firstprivate (named 118 106 8 ∷ named 120 108 8 ∷ []))
    ∷ record { comma = true; kind = tree.Input (record { stream = variable 89 113 8; window = None } ∷ []) }
    ∷ clause (tree.Output (joined (element 78 117 8 (tree.Number 1)) (mark 121 8) (named 134 122 8) None ∷ []))
    ∷ [])
    tree.StmtTree.Empty

abbrev pub shifts : tree.StmtTree
shifts =
    tree.For tree.StartTree.Empty
    (Some (tree.Chain level.Or (value 39 140 11)
    (tree.link op.Or (mark 141 11)
    (tree.Chain level.And (value 42 142 11) (tree.link op.And (mark 143 11) (value 156 144 11) tree.no_links))
    tree.no_links)))
    (Some (tree.Set (variable 39 146 11) (assign.With op.ShiftLeft) (mark 147 11) (tree.Number 1)))
    (tree.IfElse (value 39 152 11) tree.StmtTree.Empty
    (tree.StmtTree.Change (tree.Set (variable 39 156 11) assign.Plain (mark 157 11) (tree.Number 1))))

abbrev pub program : tree.ProgramTree
program =
    constant
    ∷ plus
    ∷ loops
    ∷ tree.Function record {
      ty = ty.Int;
      name = named 8 60 4;
      params = params.Void;
      body = block (
          streams
          ∷ tree.Tick (mark 85 6) (element 78 89 6 (tree.Number 0)) (mark 93 6) (tree.Number 2)
          ∷ tree.Taskwait (mark 97 7)
          ∷ task
          ∷ tree.For (tree.StartTree.Declare ty.Int (scalar_of (named 141 129 10) (tree.Number 0) ∷ [])) None None (tree.Block tree.no_stmts)
          ∷ shifts
          ∷ []);
    }
    ∷ []
