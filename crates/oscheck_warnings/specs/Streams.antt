-- Which streams no task reads, or none writes, by the tokens of an accepted program.
use Rattle.std.specs.Prelude.{◌≡◌, ℕ, zero, suc, ◌+◌, ◌<◌, ◌⊎◌, Bool, true, false, List, length, slice_index_or, Option, Some, None}
use Rattle.os_lexer.specs.Names.{omp_id, first_own_id}
use Rattle.os_lexer.specs.declared.token.Key.TheVariants as keys
use Rattle.os_lexer.specs.declared.token.Kind.{Kind}
use Rattle.os_lexer.specs.declared.token.Kind.TheVariants as kind
use Rattle.os_lexer.specs.declared.token.Punct.{Punct}
use Rattle.os_lexer.specs.declared.token.Punct.TheVariants as puncts
use Rattle.os_lexer.specs.declared.token.Token.{Token}
use Rattle.oscheck_warnings.specs.Warnings.{kind_at}
use Rattle.oscheck_warnings.specs.declared.clause_place.ClausePlace.{ClausePlace}
use Rattle.oscheck_warnings.specs.declared.clause_place.ClausePlace.TheVariants as places

-- A name is kept, and a bracket opens the items of the clause with the last name as its word.
abbrev pub past_in_line : ℕ → Kind → ClausePlace
past_in_line word (kind.Name name) = places.Line name
past_in_line word (kind.Punct puncts.OpenParen) = places.Start word
past_in_line word _ = places.Line word

-- In an item, a comma outside its brackets begins the next one, and a bracket that it didn't open closes the clause.
abbrev pub past_mark : ℕ → ℕ → Punct → ClausePlace
past_mark word deep puncts.OpenParen = places.Within word (suc deep)
past_mark word deep puncts.OpenBracket = places.Within word (suc deep)
past_mark word zero puncts.CloseParen = places.Line word
past_mark word (suc deep) puncts.CloseParen = places.Within word deep
past_mark word zero puncts.CloseBracket = places.Line word
past_mark word (suc deep) puncts.CloseBracket = places.Within word deep
past_mark word zero puncts.Comma = places.Start word
past_mark word deep _ = places.Within word deep

abbrev pub past_in_item : ℕ → ℕ → Kind → ClausePlace
past_in_item word deep (kind.Punct p) = past_mark word deep p
past_in_item word deep _ = places.Within word deep

abbrev pub past_in_place : ClausePlace → Kind → ClausePlace
past_in_place places.Outside k = places.Outside
past_in_place (places.Line word) k = past_in_line word k
past_in_place (places.Start word) k = past_in_item word 0 k
past_in_place (places.Within word deep) k = past_in_item word deep k

-- the clause place behind a token: a pragma's line goes from its start to its end
abbrev pub clause_place_past : ClausePlace → Option Kind → ClausePlace
clause_place_past before (Some kind.PragmaStart) = places.Line omp_id
clause_place_past before (Some kind.PragmaEnd) = places.Outside
clause_place_past before (Some k) = past_in_place before k
clause_place_past before None = before

-- the clause place of the token at a place
abbrev pub clause_place_at : List Token → ℕ → ClausePlace
clause_place_at tokens zero = places.Outside
clause_place_at tokens (suc place) = clause_place_past (clause_place_at tokens place) (kind_at tokens place)

-- An item of a clause with a word begins at a place with a name: it is that of the item's stream.
abbrev pub BeginsItem : List Token → ℕ → ℕ → ℕ → Type 0
BeginsItem tokens word place name = (clause_place_at tokens place ≡ places.Start word) × (kind_at tokens place ≡ Some (kind.Name name))

-- the clauses with a word have an item of the stream with a name
abbrev pub IsInClauses : List Token → ℕ → ℕ → Type 0
IsInClauses tokens word name = (place : ℕ) × BeginsItem tokens word place name

-- Behind a place stands what makes a name a stream, or an array of streams, whose size is one token by the rules.
abbrev pub HasAttribute : List Token → ℕ → Type 0
HasAttribute tokens place =
    (kind_at tokens (place + 1) ≡ Some (kind.Key keys.Attribute))
    ⊎ ((kind_at tokens (place + 1) ≡ Some (kind.Punct puncts.OpenBracket))
    × (kind_at tokens (place + 3) ≡ Some (kind.Punct puncts.CloseBracket))
    × (kind_at tokens (place + 4) ≡ Some (kind.Key keys.Attribute)))

-- A stream is declared at a place, and the clauses with a word have no item of it: no task reads it where the word is `input`, and
-- none writes it where it is `output`. Each name of a text has a number below `first_own_id` plus the number of its tokens.
abbrev pub IsLeftOut : List Token → ℕ → ℕ → Type 0
IsLeftOut tokens word place =
    (name : ℕ) × (kind_at tokens place ≡ Some (kind.Name name)) × HasAttribute tokens place × (name < first_own_id + length tokens)
    × (IsInClauses tokens word name → ⊥)

-- there is a mark for each name, which says whether the clauses with a word have an item of the stream with that name
pub record AreInClauses (tokens : List Token) (word : ℕ) (marks : List Bool) : Type 0 where
  pub counted : length marks ≡ first_own_id + length tokens
  pub sound : (name : ℕ) → slice_index_or marks name false ≡ true → IsInClauses tokens word name
  pub complete : (name : ℕ) → name < first_own_id + length tokens → IsInClauses tokens word name → slice_index_or marks name false ≡ true
