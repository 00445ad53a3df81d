-- int f(int a) { if (a) if (a) ; else return 1; return 2; }
use Rattle.std.specs.Prelude.{List, [], ◌∷◌}
use Rattle.os_ast.specs.declared.ty.Ty.TheVariants as ty
use Rattle.os_ast.specs.Examples.{on, mark, named, value, block, int_param}
use Rattle.os_ast.specs.Trees as tree
use Rattle.os_ast.specs.declared.program.Params.TheVariants as params
use Rattle.os_lexer.specs.declared.token.Key.TheVariants as k
use Rattle.os_lexer.specs.declared.token.Kind.TheVariants.{Name as name, Number as number, Key as key, Punct as punct}
use Rattle.os_lexer.specs.declared.token.Punct.TheVariants as p
use Rattle.os_lexer.specs.declared.token.Token.{Token}

abbrev pub tokens : List Token
tokens =
    on 1
    (key k.Int
    ∷ name 13
    ∷ punct p.OpenParen
    ∷ key k.Int
    ∷ name 16
    ∷ punct p.CloseParen
    ∷ punct p.OpenBrace
    ∷ key k.If
    ∷ punct p.OpenParen
    ∷ name 16
    ∷ punct p.CloseParen
    ∷ key k.If
    ∷ punct p.OpenParen
    ∷ name 16
    ∷ punct p.CloseParen
    ∷ punct p.Semicolon
    ∷ key k.Else
    ∷ key k.Return
    ∷ number 1
    ∷ punct p.Semicolon
    ∷ key k.Return
    ∷ number 2
    ∷ punct p.Semicolon
    ∷ punct p.CloseBrace ∷ [])

-- `int f(int a) { statement return 2; }`
abbrev pub with_first : tree.StmtTree → tree.ProgramTree
with_first s =
    tree.Function record {
      ty = ty.Int;
      name = named 13 1 1;
      params = params.Names (int_param 16 4 1 ∷ []);
      body = block (s ∷ tree.Return (mark 20 1) (tree.Number 2) ∷ []);
    } ∷ []

-- the `else` belongs to the inner `if`
abbrev pub inner : tree.ProgramTree
inner =
    with_first (tree.If (value 16 9 1)
    (tree.IfElse (value 16 13 1) tree.StmtTree.Empty (tree.Return (mark 17 1) (tree.Number 1))))

-- the `else` belongs to the outer `if`
abbrev pub outer : tree.ProgramTree
outer =
    with_first (tree.IfElse (value 16 9 1)
    (tree.If (value 16 13 1) tree.StmtTree.Empty) (tree.Return (mark 17 1) (tree.Number 1)))
