-- What is drawn of the run of a program over an input.
use Rattle.std.specs.Prelude.{◌≡◌, ℕ, List, length, map}
use Rattle.cddf_meaning.specs.Control.{control}
use Rattle.collector.specs.Status.{status}
use Rattle.flow_core_laws.specs.declared.control.Control.{Control}
use Rattle.flow_core_laws.specs.declared.ends.Ends.{Ends}
use Rattle.front_end.specs.Texts.{IsAccepted}
use Rattle.lowering_relation.specs.Tasks.{TaskTree, program_tasks}
use Rattle.os_ast.specs.Trees.{ProgramTree}
use Rattle.os_ast.specs.Violations.{names, streams}
use Rattle.os_lexer.specs.Cover.{IsTokenCover}
use Rattle.os_lexer.specs.declared.token.Token.{Token}
use Rattle.osrun_core_run.specs.Run.{ends_over}
use Rattle.osview_answer.specs.StreamNames.{stream_names}
use Rattle.osview_graph.specs.Graph.{graph_of}
use Rattle.osview_graph.specs.DrawnRun.{DrawnRun}
use Rattle.osview_graph.specs.declared.drawn.GraphChoice.{GraphChoice}

-- the run that is drawn: of a program, by its text and tokens, over an input of a length, with what `main` created and the ends
abbrev pub drawn_run : List ℕ → List Token → ProgramTree → Control → (input_len : ℕ) → Ends → DrawnRun
drawn_run text tokens program made input_len ends = record {
  text = text;
  names = stream_names tokens (names program);
  lines = map (λ (t : TaskTree). t.mark.line) (program_tasks program);
  streams = streams program;
  activations = made.activations;
  input_len = input_len;
  ends = ends.ends;
}

-- The graph of the run of a text's program over an input, with these budgets, and the status of that run.
pub record IsGraphOf (task_budget control_budget : ℕ) (text input : List ℕ) (view : GraphChoice) (told : List ℕ) (own : ℕ) : Type 0 where
  pub program : ProgramTree
  pub is_program : IsAccepted text program
  pub tokens : List Token
  pub cover : IsTokenCover text tokens
  pub made : Control
  pub made_is : made ≡ control program (length input) control_budget
  pub ends : Ends
  pub ends_are : ends ≡ ends_over program made.activations input task_budget
  pub told_is : told ≡ graph_of (drawn_run text tokens program made (length input) ends) view
  pub own_is : own ≡ status ends.ends made.end
