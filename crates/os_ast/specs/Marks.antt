-- Marks in a spelling.
use Rattle.std.specs.Prelude.{◌≡◌, ℕ, List, Some, slice_get}
use Rattle.os_ast.specs.Spelling.{Symbol, marked, symbols}
use Rattle.os_ast.specs.Trees.{ProgramTree}
use Rattle.os_ast.specs.declared.expr.Mark.{Mark}
use Rattle.os_lexer.specs.declared.token.Kind.{Kind}
use Rattle.os_lexer.specs.declared.token.Token.{Token}

-- the tree keeps this mark of the token at a place of its spelling
abbrev pub HasMark : List Symbol → ℕ → Mark → Type 0
HasMark printed place mark = (kind : Kind) × (slice_get printed place ≡ Some (marked kind mark))

-- a mark has its place in the tokens and that token's line
pub record IsMarkOf (tokens : List Token) (at : ℕ) (mark : Mark) : Type 0 where
  pub place : mark.place ≡ at
  pub line : (token : Token) → slice_get tokens at ≡ Some token → mark.line ≡ token.line

-- every mark that the tree keeps has its place in the spelling
abbrev pub HasPlaces : ProgramTree → Type 0
HasPlaces p = (place : ℕ) (mark : Mark) → HasMark (symbols p) place mark → mark.place ≡ place
