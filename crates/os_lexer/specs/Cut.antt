-- The cut of a text, told at each point by the tokens before it alone: whether one of them stands on its line, and
-- whether they leave a pragma's line open. The text has a token cover where it is cut to its end, and a first fault where
-- it is cut to a point at which a fault stands: `cover_cuts` and `cover_before_fault` say so.
use Rattle.std.specs.Prelude.{◌≡◌, ℕ, ◌+◌, ◌<◌, Bool, true, false, List, [], ◌∷◌, ◌++◌, length, take, drop, fold, nat_lt, if◌then◌else◌}
use Rattle.std.specs.List.{list_all}
use Rattle.os_lexer.specs.Cover.{token_of, IsFormless}
use Rattle.os_lexer.specs.Effects.{fault_code, effect}
use Rattle.os_lexer.specs.Forms.{IsLexeme}
use Rattle.os_lexer.specs.Lines.{line_of}
use Rattle.os_lexer.specs.Names.{name_number}
use Rattle.os_lexer.specs.declared.effect.Effect.{Effect}
use Rattle.os_lexer.specs.declared.effect.Effect.TheVariants.{Skip, Give, Fail}
use Rattle.os_lexer.specs.declared.fault.Fault.{Fault}
use Rattle.os_lexer.specs.declared.fault.Fault.TheVariants as fault
use Rattle.os_lexer.specs.declared.form.Form.{Form}
use Rattle.os_lexer.specs.declared.mode.Mode.{Mode}
use Rattle.os_lexer.specs.declared.mode.Mode.TheVariants.{LineStart, InLine, InPragma}
use Rattle.os_lexer.specs.declared.token.Kind.{Kind}
use Rattle.os_lexer.specs.declared.token.Kind.TheVariants as kind
use Rattle.os_lexer.specs.declared.token.Token.{Token}

-- whether a pragma's line is open behind a token of this kind
abbrev pub opens_pragma : Kind → Bool → Bool
opens_pragma (kind.Name n) round = round
opens_pragma (kind.Number n) round = round
opens_pragma (kind.Wide n) round = round
opens_pragma (kind.Key k) round = round
opens_pragma (kind.Punct m) round = round
opens_pragma kind.PragmaStart round = true
opens_pragma kind.PragmaEnd round = false

-- the tokens leave a pragma's line open
abbrev pub is_in_pragma : List Token → Bool
is_in_pragma tokens = fold (λ inside token. opens_pragma token.kind inside) false tokens

-- no token stands on the line of the point
abbrev pub is_first_on_line : List ℕ → List Token → ℕ → Bool
is_first_on_line text tokens at = list_all (λ token. nat_lt token.line (line_of text at)) tokens

-- what stands before a point on its line
abbrev pub mode_at : List ℕ → List Token → ℕ → Mode
mode_at text tokens at =
    if is_in_pragma tokens then InPragma else (if is_first_on_line text tokens at then LineStart else InLine)

-- what the lexeme of this form and length does at a point behind these tokens
abbrev pub does : List ℕ → List Token → ℕ → Form → ℕ → Effect
does text tokens at form n =
    let slice = take n (drop at text) in effect (mode_at text tokens at) (name_number text tokens slice) form slice

-- a lexeme of this effect is skipped
abbrev pub IsSkip : Effect → Type 0
IsSkip (Skip mode) = Unit {0}
IsSkip (Give kind mode) = ⊥
IsSkip (Fail wrong) = ⊥

-- the lexeme is a token of this kind
abbrev pub IsGive : Kind → Effect → Type 0
IsGive k (Skip mode) = ⊥
IsGive k (Give kind mode) = kind ≡ k
IsGive k (Fail wrong) = ⊥

-- a lexeme of this effect is this fault
abbrev pub IsFail : Fault → Effect → Type 0
IsFail f (Skip mode) = ⊥
IsFail f (Give kind mode) = ⊥
IsFail f (Fail wrong) = wrong ≡ f

-- From its start to a point the text is cut into lexemes, each the longest form there: these tokens, and what is skipped.
pub data IsCutTo (text : List ℕ) : List Token → ℕ → Type 0 where
  start : IsCutTo text [] 0
  gap : {tokens : List Token} {at n : ℕ} {form : Form} → IsCutTo text tokens at →
      IsLexeme (drop at text) form n → IsSkip (does text tokens at form n) → IsCutTo text tokens (at + n)
  token : {tokens : List Token} {at n : ℕ} {form : Form} (kind : Kind) → IsCutTo text tokens at →
      IsLexeme (drop at text) form n → IsGive kind (does text tokens at form n) →
      IsCutTo text (tokens ++ token_of text kind at (at + n) ∷ []) (at + n)

-- a pragma's line that is open at the end of the text ends there, in an empty slice
abbrev pub pragma_end : List ℕ → List Token → List Token
pragma_end text tokens = if is_in_pragma tokens then token_of text kind.PragmaEnd (length text) (length text) ∷ [] else []

-- the whole text is cut into these tokens
pub record IsCut (text : List ℕ) (tokens : List Token) : Type 0 where
  pub before : List Token
  pub to_end : IsCutTo text before (length text)
  pub all_tokens : tokens ≡ before ++ pragma_end text before

-- a fault stands at the point behind these tokens: no form, or a form that is one
pub data StandsAt (text : List ℕ) (tokens : List Token) (at : ℕ) : Fault → Type 0 where
  formless : at < length text → IsFormless (drop at text) → StandsAt text tokens at fault.BadByte
  faulty : {form : Form} {n : ℕ} {wrong : Fault} →
      IsLexeme (drop at text) form n → IsFail wrong (does text tokens at form n) → StandsAt text tokens at wrong

-- the text is cut to a point at which a fault of this code stands
pub record IsFaultPoint (text : List ℕ) (code point : ℕ) : Type 0 where
  pub before : List Token
  pub wrong : Fault
  pub cut : IsCutTo text before point
  pub stands : StandsAt text before point wrong
  pub coded : code ≡ fault_code wrong
