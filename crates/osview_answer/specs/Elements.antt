-- What is told of a stream of the run of a program over an input.
use Rattle.std.specs.Prelude.{◌≡◌, ℕ, List, length, map}
use Rattle.cddf_meaning.specs.Control.{control}
use Rattle.collector.specs.Status.{status}
use Rattle.flow_core_laws.specs.Outcome.{State, ends_of}
use Rattle.flow_core_laws.specs.Streams.{stream_meaning}
use Rattle.flow_core_laws.specs.declared.control.Control.{Control}
use Rattle.front_end.specs.Texts.{IsAccepted}
use Rattle.os_ast.specs.Trees.{ProgramTree}
use Rattle.os_ast.specs.Violations.{names, streams}
use Rattle.os_lexer.specs.Cover.{IsTokenCover}
use Rattle.os_lexer.specs.declared.token.Token.{Token}
use Rattle.osrun_core_run.specs.Run.{body_at}
use Rattle.osview_answer.specs.StreamNames.{stream_names}
use Rattle.osview_answer.specs.Told.{task_line}
use Rattle.osview_stream.specs.Called.{IsNamed, NamesNoStream}
use Rattle.osview_stream.specs.Elements.{stream_lines}

-- The lines of a stream's elements in the run of a program over an input, with these budgets, and the status of that run.
pub record AreElements (task_budget control_budget : ℕ) (program : ProgramTree) (input : List ℕ) (stream first count : ℕ) (told : List ℕ)
    (own : ℕ) : Type 0 where
  pub made : Control
  pub made_is : made ≡ control program (length input) control_budget
  pub meaning : State
  pub meaning_is : meaning ≡ stream_meaning made.activations input (body_at program made.activations task_budget)
  pub told_is : told ≡ stream_lines (map (task_line program) made.activations) made.activations input meaning stream first count
  pub own_is : own ≡ status (ends_of meaning) made.end

-- The lines of the elements of the stream that a word names in a text, in the run of the text's program over an input.
pub record AreElementsOf (task_budget control_budget : ℕ) (text input word : List ℕ) (first count : ℕ) (told : List ℕ) (own : ℕ) : Type 0 where
  pub program : ProgramTree
  pub is_program : IsAccepted text program
  pub tokens : List Token
  pub cover : IsTokenCover text tokens
  pub stream : ℕ
  pub is_named : IsNamed text (streams program) (stream_names tokens (names program)) word stream
  pub are_elements : AreElements task_budget control_budget program input stream first count told own

-- A word names no stream of a text's program.
pub record NamesNone (text word : List ℕ) : Type 0 where
  pub program : ProgramTree
  pub is_program : IsAccepted text program
  pub tokens : List Token
  pub cover : IsTokenCover text tokens
  pub none : NamesNoStream text (streams program) (stream_names tokens (names program)) word
