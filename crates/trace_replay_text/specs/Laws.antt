-- What follows for every text.
use Rattle.std.specs.Prelude.{◌≡◌, ℕ, List}
use Rattle.trace_replay_text.specs.Trace.{IsTraceOf, IsFirstWrongLine}

-- A text is the trace of one list of lists at most, and has one first line that isn't a trace's at most; and never both.
pub record TracesAreTold : Type 0 where
  pub one_reading : (text : List ℕ) (lists others : List (List ℕ)) → IsTraceOf text lists → IsTraceOf text others → lists ≡ others
  pub one_line : (text : List ℕ) (line other : ℕ) → IsFirstWrongLine text line → IsFirstWrongLine text other → line ≡ other
  pub not_both : (text : List ℕ) (lists : List (List ℕ)) (line : ℕ) → IsTraceOf text lists → IsFirstWrongLine text line → ⊥
