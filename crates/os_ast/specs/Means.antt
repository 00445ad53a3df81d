-- What a list of tokens means.
use Rattle.std.specs.Prelude.{◌≡◌, ℕ, suc, List, [], ◌∷◌}
use Rattle.os_ast.specs.Leveled.{IsLeveled}
use Rattle.os_ast.specs.Spelling as spelling
use Rattle.os_ast.specs.Trees.{ProgramTree}
use Rattle.os_ast.specs.declared.expr.Mark.{Mark}
use Rattle.os_lexer.specs.declared.token.Kind.{Kind}
use Rattle.os_lexer.specs.declared.token.Token.{Token}

-- a token as a tree may keep it: its kind, with the mark of its place and its line
pub data Placed : Type 0 where
  placed : Kind → Mark → Placed

abbrev pub placed_from : ℕ → List Token → List Placed
placed_from k [] = []
placed_from k (t ∷ ts) = placed t.kind (record { place = k; line = t.line }) ∷ placed_from (suc k) ts

-- The symbols of a spelling fit the tokens, one by one: the kinds are equal, and so is each mark that the
-- tree keeps.
pub data Fit : List spelling.Symbol → List Placed → Type 0 where
  none : Fit [] []
  bare : {k : Kind} {m : Mark} {symbols : List spelling.Symbol} {tokens : List Placed} →
      Fit symbols tokens → Fit (spelling.bare k ∷ symbols) (placed k m ∷ tokens)
  marked : {k : Kind} {m : Mark} {symbols : List spelling.Symbol} {tokens : List Placed} →
      Fit symbols tokens → Fit (spelling.marked k m ∷ symbols) (placed k m ∷ tokens)

-- The tokens mean the leveled program whose spelling is the list of their kinds, and whose every mark has
-- its place in the list and that token's line.
pub record Means (tokens : List Token) (p : ProgramTree) : Type 0 where
  pub leveled : IsLeveled p
  pub spelled : Fit (spelling.symbols p) (placed_from 0 tokens)

-- a list of tokens has at most one reading
abbrev pub OneReading : Type 0
OneReading = (tokens : List Token) (p q : ProgramTree) → Means tokens p → Means tokens q → p ≡ q
