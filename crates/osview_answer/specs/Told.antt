-- What is told of the run of a program over an input.
use Rattle.std.specs.Prelude.{◌≡◌, ℕ, List, length, map, slice_get}
use Rattle.std.specs.Option.{option_map_or}
use Rattle.cddf_meaning.specs.Control.{control}
use Rattle.collector.specs.Status.{status}
use Rattle.flow_core_laws.specs.declared.activation.Activation.{Activation}
use Rattle.flow_core_laws.specs.declared.control.Control.{Control}
use Rattle.flow_core_laws.specs.declared.ends.Ends.{Ends}
use Rattle.front_end.specs.Texts.{IsAccepted}
use Rattle.lowering_relation.specs.Tasks.{TaskTree, program_tasks}
use Rattle.os_ast.specs.Trees.{ProgramTree}
use Rattle.os_ast.specs.Violations.{names}
use Rattle.os_lexer.specs.Cover.{IsTokenCover}
use Rattle.os_lexer.specs.declared.token.Token.{Token}
use Rattle.osrun_core_run.specs.Run.{ends_over}
use Rattle.osview_answer.specs.StreamNames.{stream_names}
use Rattle.osview_sentences.specs.Report.{report}

-- the line of an activation's task, which is that of its pragma
abbrev pub task_line : ProgramTree → Activation → ℕ
task_line program a = option_map_or (λ (t : TaskTree). t.mark.line) (slice_get (program_tasks program) a.site) 0

-- The report in sentences of the run of a text's program over an input, with these budgets, and the status of that run.
pub record IsReportOf (task_budget control_budget : ℕ) (text input : List ℕ) (told : List ℕ) (own : ℕ) : Type 0 where
  pub program : ProgramTree
  pub is_program : IsAccepted text program
  pub tokens : List Token
  pub cover : IsTokenCover text tokens
  pub made : Control
  pub made_is : made ≡ control program (length input) control_budget
  pub ends : Ends
  pub ends_are : ends ≡ ends_over program made.activations input task_budget
  pub told_is : told ≡ report text (stream_names tokens (names program)) (map (task_line program) made.activations)
      made.activations (length input) ends made.end
  pub own_is : own ≡ status ends.ends made.end
