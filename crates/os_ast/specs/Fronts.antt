-- Where tokens that mean no program are refused.
use Rattle.std.specs.Prelude.{◌≡◌, ℕ, suc, ◌-◌, ◌<◌, ◌≤◌, List, ◌++◌, length, map, take, Option, Some, None}
use Rattle.std.specs.List.{slice_get}
use Rattle.os_ast.specs.Leveled.{IsLeveled}
use Rattle.os_ast.specs.Means.{Means}
use Rattle.os_ast.specs.Spelling.{spell}
use Rattle.os_ast.specs.Trees.{ProgramTree}
use Rattle.os_lexer.specs.declared.token.Kind.{Kind}
use Rattle.os_lexer.specs.declared.token.Token.{Token}

-- The kinds are the front of a program: the spelling of a leveled program, of depth at most 200, begins with them.
pub record Begun (kinds : List Kind) : Type 0 where
  pub whole : ProgramTree
  pub leveled : IsLeveled whole
  pub more : List Kind
  pub spelled : spell whole ≡ kinds ++ more

-- the kinds of tokens
abbrev pub kinds_of : List Token → List Kind
kinds_of tokens = map (λ (t : Token). t.kind) tokens

-- The place is the least one such that the kinds of the tokens up to it, with its own, are the front of no program; where
-- there is none, it is the number of tokens.
pub record IsPlace (tokens : List Token) (place : ℕ) : Type 0 where
  pub within : place ≤ length tokens
  pub before : (p : ℕ) → p < place → Begun (take (suc p) (kinds_of tokens))
  pub refused : place < length tokens → Begun (take (suc place) (kinds_of tokens)) → ⊥

-- the line of a token, or a number where there is none
abbrev pub line_or : Option Token → ℕ → ℕ
line_or (Some t) n = t.line
line_or None n = n

-- the line of the last token, or 1
abbrev pub last_line : List Token → ℕ
last_line tokens = line_or (slice_get tokens (length tokens - 1)) 1

-- the line of the token at a place, or else of the last one, or 1
abbrev pub line_at : List Token → ℕ → ℕ
line_at tokens place = line_or (slice_get tokens place) (last_line tokens)

-- The tokens are refused at a place and in a line: they mean no program, and it is their place, with its line.
pub record IsRefusedAt (tokens : List Token) (place line : ℕ) : Type 0 where
  pub none : (p : ProgramTree) → Means tokens p → ⊥
  pub at : IsPlace tokens place
  pub of_line : line ≡ line_at tokens place

-- tokens have at most one such place
abbrev pub OnePlace : Type 0
OnePlace = (tokens : List Token) (p q : ℕ) → IsPlace tokens p → IsPlace tokens q → p ≡ q

-- tokens that mean no program have one
abbrev pub HasPlace : Type 0
HasPlace = (tokens : List Token) → ((p : ProgramTree) → Means tokens p → ⊥) → (place : ℕ) × IsPlace tokens place
