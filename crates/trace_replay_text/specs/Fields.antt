-- How texts are cut at a byte, and what is refused.
use Rattle.std.specs.Prelude.{◌≡◌, ◌≢◌, ℕ, ◌≤◌, List, [], ◌∷◌, All, length, take, drop}
use Rattle.trace_replay_text.specs.Trace.{IsFirstWrongLine}
use Rattle.trace_replay_text.specs.declared.trace_error.TraceError.{TraceError}
use Rattle.trace_replay_text.specs.declared.trace_error.TraceError.TheVariants.{Line, Memory}

-- the byte isn't in the text
abbrev pub IsFree : ℕ → List ℕ → Type 0
IsFree byte text = All (λ b. b ≢ byte) text

-- a text that is nothing, or begins with the byte
abbrev pub Begins : ℕ → List ℕ → Type 0
Begins byte [] = Unit {0}
Begins byte (b ∷ text) = b ≡ byte

-- The byte stands first at a place, or is nowhere and the place is the end.
pub record IsCutAt (byte : ℕ) (text : List ℕ) (place : ℕ) : Type 0 where
  pub inside : place ≤ length text
  pub free : IsFree byte (take place text)
  pub begins : Begins byte (drop place text)

-- what is answered where a text isn't read: that memory was wanting, or, where nothing else stands there, this line
abbrev pub IsWrongAt : TraceError → ℕ → Type 0 → Type 0
IsWrongAt (Line told) line Nothing = (told ≡ line) × Nothing
IsWrongAt Memory line Nothing = Unit {0}

-- what is answered where a whole text isn't read as a trace: its first wrong line, or that memory was wanting
abbrev pub IsTraceRefused : List ℕ → TraceError → Type 0
IsTraceRefused text (Line line) = IsFirstWrongLine text line
IsTraceRefused text Memory = Unit {0}
