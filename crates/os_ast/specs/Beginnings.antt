-- The tokens with which parts of a program begin.
use Rattle.std.specs.Prelude.{ℕ, List, ◌∷◌}
use Rattle.os_ast.specs.Spelling.{Symbol, kind_of}
use Rattle.os_lexer.specs.declared.token.Key.TheVariants as keys
use Rattle.os_lexer.specs.declared.token.Kind.{Kind}
use Rattle.os_lexer.specs.declared.token.Kind.TheVariants as kind
use Rattle.os_lexer.specs.declared.token.Punct.TheVariants as puncts

-- the first symbol has a kind of which P holds
pub data BeginsWith (P : Kind → Type 0) : List Symbol → Type 0 where
  begins : {p : Symbol} {rest : List Symbol} → P (kind_of p) → BeginsWith P (p ∷ rest)

-- a number, a name, `(`, or an operator with one operand
pub data CanBeginExpr : Kind → Type 0 where
  number : {n : ℕ} → CanBeginExpr (kind.Number n)
  wide : {n : ℕ} → CanBeginExpr (kind.Wide n)
  name : {n : ℕ} → CanBeginExpr (kind.Name n)
  paren : CanBeginExpr (kind.Punct puncts.OpenParen)
  minus : CanBeginExpr (kind.Punct puncts.Minus)
  plus : CanBeginExpr (kind.Punct puncts.Plus)
  not : CanBeginExpr (kind.Punct puncts.Not)
  invert : CanBeginExpr (kind.Punct puncts.Invert)

-- `;`, `{`, a name, `++` or `--`, a word of a statement, `int` or `unsigned` of a declaration, or a pragma
pub data CanBeginStmt : Kind → Type 0 where
  semicolon : CanBeginStmt (kind.Punct puncts.Semicolon)
  brace : CanBeginStmt (kind.Punct puncts.OpenBrace)
  name : {n : ℕ} → CanBeginStmt (kind.Name n)
  up : CanBeginStmt (kind.Punct puncts.Up)
  down : CanBeginStmt (kind.Punct puncts.Down)
  int : CanBeginStmt (kind.Key keys.Int)
  unsigned : CanBeginStmt (kind.Key keys.Unsigned)
  if : CanBeginStmt (kind.Key keys.If)
  while : CanBeginStmt (kind.Key keys.While)
  for : CanBeginStmt (kind.Key keys.For)
  break : CanBeginStmt (kind.Key keys.Break)
  continue : CanBeginStmt (kind.Key keys.Continue)
  return : CanBeginStmt (kind.Key keys.Return)
  pragma : CanBeginStmt kind.PragmaStart

-- `const`, `int` or `unsigned`
pub data CanBeginItem : Kind → Type 0 where
  const : CanBeginItem (kind.Key keys.Const)
  int : CanBeginItem (kind.Key keys.Int)
  unsigned : CanBeginItem (kind.Key keys.Unsigned)
