-- What follows of the token cover and the first fault: that the definitions are the ones meant.
use Rattle.std.specs.Prelude.{◌≡◌, ℕ, ◌^◌, ◌<◌, ◌≤◌, ◌⊎◌, ◌↔◌, List, length, take, All, Option, Some, position, codes, bytes_eq}
use Rattle.os_lexer.specs.Cover.{IsTokenCover, IsFirstFault}
use Rattle.os_lexer.specs.Cut.{IsCut, IsFaultPoint}
use Rattle.os_lexer.specs.Lines.{line_of}
use Rattle.os_lexer.specs.Names.{fixed_names, omp_id, task_id, tick_id, taskwait_id, input_id, output_id}
use Rattle.os_lexer.specs.Names.{firstprivate_id, stream_id, main_id, osin_id, osout_id, osin_len_id}
use Rattle.os_lexer.specs.declared.token.Kind.{Kind}
use Rattle.os_lexer.specs.declared.token.Kind.TheVariants as kind
use Rattle.os_lexer.specs.declared.token.Token.{Token}

-- a text has at most one cover
abbrev pub OneCover : Type 0
OneCover = (text : List ℕ) (a b : List Token) → IsTokenCover text a → IsTokenCover text b → a ≡ b

-- a text has at most one first fault
abbrev pub OneFault : Type 0
OneFault =
    (text : List ℕ) (code line code' line' : ℕ) →
    IsFirstFault text code line → IsFirstFault text code' line' → (code ≡ code') × (line ≡ line')

-- a text has a cover or a first fault
abbrev pub CoverOrFault : Type 0
CoverOrFault =
    (text : List ℕ) →
    ((tokens : List Token) × IsTokenCover text tokens) ⊎ ((code : ℕ) × (line : ℕ) × IsFirstFault text code line)

-- no text has both a cover and a first fault
abbrev pub NeverBoth : Type 0
NeverBoth =
    (text : List ℕ) (tokens : List Token) (code line : ℕ) →
    IsTokenCover text tokens → IsFirstFault text code line → ⊥

-- the token cover is the cut of the whole text
abbrev pub CoverCuts : Type 0
CoverCuts = (text : List ℕ) (tokens : List Token) → IsTokenCover text tokens ↔ IsCut text tokens

-- the first fault stands at the point that the text is cut to, on its line
abbrev pub FaultPoints : Type 0
FaultPoints =
    (text : List ℕ) (code line : ℕ) →
    IsFirstFault text code line ↔ ((point : ℕ) × IsFaultPoint text code point × (line ≡ line_of text point))

-- the text before that point has a cover, and no fault stands at an earlier point that the text is cut to
abbrev pub CoverBeforeFault : Type 0
CoverBeforeFault =
    (text : List ℕ) (code point : ℕ) → IsFaultPoint text code point →
    (point < length text) × ((tokens : List Token) × IsTokenCover (take point text) tokens) ×
    ((other code' : ℕ) → IsFaultPoint text code' other → point ≤ other)

-- a text has at least as many bytes as tokens
abbrev pub FewTokens : Type 0
FewTokens = (text : List ℕ) (tokens : List Token) → IsTokenCover text tokens → length tokens ≤ length text

-- a number has a value of its type: one that isn't wide is an `int`, and a wide one an `unsigned`
abbrev pub HasFittingNumber : Kind → Type 0
HasFittingNumber (kind.Name n) = Unit {0}
HasFittingNumber (kind.Number value) = value < 2 ^ 31
HasFittingNumber (kind.Wide value) = value < 2 ^ 32
HasFittingNumber (kind.Key key) = Unit {0}
HasFittingNumber (kind.Punct mark) = Unit {0}
HasFittingNumber kind.PragmaStart = Unit {0}
HasFittingNumber kind.PragmaEnd = Unit {0}

-- each number in the cover of a text has a value of its type
abbrev pub NumbersFit : Type 0
NumbersFit =
    (text : List ℕ) (tokens : List Token) → IsTokenCover text tokens → All (λ token. HasFittingNumber token.kind) tokens

-- the number of a fixed name
abbrev pub fixed_number : List ℕ → Option ℕ
fixed_number name = position (bytes_eq name) fixed_names

-- the words of pragmas, the streams of the program, `main` and `osin_len` have the numbers that are named for them
abbrev pub FixedNamesAreNumbered : Type 0
FixedNamesAreNumbered =
    (fixed_number (codes "omp") ≡ Some omp_id) × (fixed_number (codes "task") ≡ Some task_id) ×
    (fixed_number (codes "tick") ≡ Some tick_id) × (fixed_number (codes "taskwait") ≡ Some taskwait_id) ×
    (fixed_number (codes "input") ≡ Some input_id) × (fixed_number (codes "output") ≡ Some output_id) ×
    (fixed_number (codes "firstprivate") ≡ Some firstprivate_id) × (fixed_number (codes "stream") ≡ Some stream_id) ×
    (fixed_number (codes "main") ≡ Some main_id) × (fixed_number (codes "osin") ≡ Some osin_id) ×
    (fixed_number (codes "osout") ≡ Some osout_id) × (fixed_number (codes "osin_len") ≡ Some osin_len_id)
