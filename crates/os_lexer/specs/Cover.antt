-- The token cover of a text, and the first fault of a text that has none.
--
-- From its start on, a text is cut into lexemes, each the longest form at its point (C11, 6.4, paragraph 4). The cut
-- ends at the end of the text, and then the tokens met on the way are the cover; or at a point where a fault stands,
-- and that is the first fault.
use Rattle.std.specs.Prelude.{◌≡◌, ℕ, ◌+◌, ◌<◌, ◌≤◌, List, [], ◌∷◌, ◌++◌, length, take, drop}
use Rattle.os_lexer.specs.Forms.{IsForm, IsLexeme}
use Rattle.os_lexer.specs.Effects.{fault_code, effect}
use Rattle.os_lexer.specs.Lines.{line_of}
use Rattle.os_lexer.specs.Names.{name_number}
use Rattle.os_lexer.specs.declared.effect.Effect.{Effect}
use Rattle.os_lexer.specs.declared.effect.Effect.TheVariants.{Skip, Give, Fail}
use Rattle.os_lexer.specs.declared.fault.Fault.{Fault}
use Rattle.os_lexer.specs.declared.fault.Fault.TheVariants as fault
use Rattle.os_lexer.specs.declared.form.Form.{Form}
use Rattle.os_lexer.specs.declared.mode.Mode.{Mode}
use Rattle.os_lexer.specs.declared.mode.Mode.TheVariants.{LineStart, InPragma}
use Rattle.os_lexer.specs.declared.token.Kind.{Kind}
use Rattle.os_lexer.specs.declared.token.Kind.TheVariants as kind
use Rattle.os_lexer.specs.declared.token.Token.{Token}

-- a point in a text: how many bytes stand before it, what stands before it on its line, and the tokens before it
pub record Point : Type 0 where
  pub at : ℕ
  pub mode : Mode
  pub tokens : List Token

-- where a text starts
abbrev pub text_start : Point
text_start = record { at = 0; mode = LineStart; tokens = [] }

-- the token that is the slice from one point to another
abbrev pub token_of : List ℕ → Kind → ℕ → ℕ → Token
token_of text kind from to = record { kind = kind; start = from; end = to; line = line_of text from }

-- what the lexeme of this form and length does at the point
abbrev pub effect_at : List ℕ → Point → Form → ℕ → Effect
effect_at text p form n = let slice = take n (drop p.at text) in effect p.mode (name_number text p.tokens slice) form slice

-- No form stands at the point.
abbrev pub IsFormless : List ℕ → Type 0
IsFormless rest = (form : Form) (n : ℕ) → n ≤ length rest → IsForm form (take n rest) → ⊥

-- a lexeme leads from a point to the point behind it: it is skipped, or is the next token
pub data LexemeStep (text : List ℕ) : Point → Point → Type 0 where
  skips : {p : Point} {form : Form} {n : ℕ} {mode : Mode} →
      IsLexeme (drop p.at text) form n → effect_at text p form n ≡ Skip mode → LexemeStep text p (record { at = p.at + n; mode = mode; tokens = p.tokens })
  gives : {p : Point} {form : Form} {n : ℕ} {kind : Kind} {mode : Mode} →
      IsLexeme (drop p.at text) form n → effect_at text p form n ≡ Give kind mode →
      LexemeStep text p (record { at = p.at + n; mode = mode; tokens = p.tokens ++ token_of text kind p.at (p.at + n) ∷ [] })

-- lexemes lead from a point to another
pub data Leads (text : List ℕ) : Point → Point → Type 0 where
  here : {p : Point} → Leads text p p
  on : {p q r : Point} → LexemeStep text p q → Leads text q r → Leads text p r

-- a pragma's line may end with the text, and its end is then an empty slice
abbrev pub tokens_at_end : List ℕ → Mode → List Token
tokens_at_end text InPragma = token_of text kind.PragmaEnd (length text) (length text) ∷ []
tokens_at_end text _ = []

-- the tokens of the text
pub record IsTokenCover (text : List ℕ) (tokens : List Token) : Type 0 where
  pub point : Point
  pub reached : Leads text text_start point
  pub ends : point.at ≡ length text
  pub all_tokens : tokens ≡ point.tokens ++ tokens_at_end text point.mode

-- A fault stands at the point: no form stands there, which is a bad byte, or the longest form there is a fault.
pub data IsFaultAt (text : List ℕ) (p : Point) : Fault → Type 0 where
  formless : p.at < length text → IsFormless (drop p.at text) → IsFaultAt text p fault.BadByte
  faulty : {form : Form} {n : ℕ} {wrong : Fault} →
      IsLexeme (drop p.at text) form n → effect_at text p form n ≡ Fail wrong → IsFaultAt text p wrong

-- the first fault of the text has this code and this line
pub record IsFirstFault (text : List ℕ) (code line : ℕ) : Type 0 where
  pub point : Point
  pub wrong : Fault
  pub reached : Leads text text_start point
  pub stands : IsFaultAt text point wrong
  pub coded : code ≡ fault_code wrong
  pub lined : line ≡ line_of text point.at
