-- Statements whose body is a semicolon alone, by the tokens of an accepted program.
use Rattle.std.specs.Prelude.{◌≡◌, ◌==◌, ◌+◌, ◌⊎◌, ℕ, zero, suc, if◌then◌else◌, List, [], ◌∷◌, drop, Option, Some, None}
use Rattle.os_lexer.specs.declared.token.Key.TheVariants as keys
use Rattle.os_lexer.specs.declared.token.Kind.{Kind}
use Rattle.os_lexer.specs.declared.token.Kind.TheVariants as kind
use Rattle.os_lexer.specs.declared.token.Punct.TheVariants as puncts
use Rattle.os_lexer.specs.declared.token.Token.{Token}
use Rattle.oscheck_warnings.specs.Warnings.{kind_at}

-- how many parentheses are open behind a token, where one and `more` are open before it
abbrev pub open_past : ℕ → Kind → ℕ
open_past more (kind.Punct puncts.OpenParen) = suc (suc more)
open_past more (kind.Punct puncts.CloseParen) = more
open_past more _ = suc more

-- a token that begins at a point of the text
abbrev pub kind_from : ℕ → Token → Option Kind
kind_from point t = if t.start == point then Some t.kind else None

-- The token behind the parentheses that are open, where it begins at the end of the last one of them. Where the token before ends is
-- handed in.
abbrev pub behind_parens : ℕ → ℕ → List Token → Option Kind
behind_parens depth point [] = None
behind_parens zero point (t ∷ ts) = kind_from point t
behind_parens (suc more) point (t ∷ ts) = behind_parens (open_past more t.kind) t.end ts

-- `if`, `while` or `for` stands at a place
abbrev pub IsHead : List Token → ℕ → Type 0
IsHead tokens place =
    (kind_at tokens place ≡ Some (kind.Key keys.If)) ⊎ (kind_at tokens place ≡ Some (kind.Key keys.While)) ⊎ (kind_at tokens place ≡ Some (kind.Key keys.For))

-- Behind a place stands a parenthesis, and directly behind the one that closes it, without a blank, `;` stands: the body is empty.
abbrev pub IsEmptyBody : List Token → ℕ → Type 0
IsEmptyBody tokens place =
    IsHead tokens place × (kind_at tokens (place + 1) ≡ Some (kind.Punct puncts.OpenParen))
    × (behind_parens 1 0 (drop (place + 2) tokens) ≡ Some (kind.Punct puncts.Semicolon))
