-- What explains an activation of the run of a program over an input.
use Rattle.std.specs.Prelude.{◌≡◌, ℕ, if◌then◌else◌, nat_lt, List, [], ◌∷◌, ◌++◌, Option, None, Some, codes, length, map, slice_index_or}
use Rattle.std.specs.Fmt.{decimal}
use Rattle.std.specs.Option.{option_map_or}
use Rattle.cddf_meaning.specs.Control.{control}
use Rattle.flow_core_laws.specs.declared.activation.Activation.{Activation}
use Rattle.flow_core_laws.specs.declared.control.Control.{Control}
use Rattle.flow_core_laws.specs.declared.ends.Ends.{Ends}
use Rattle.flow_core_laws.specs.declared.task_end.TaskEnd.{TaskEnd}
use Rattle.flow_core_laws.specs.declared.task_end.TaskEnd.TheVariants as task_end
use Rattle.front_end.specs.Texts.{IsAccepted}
use Rattle.os_ast.specs.Trees.{ProgramTree}
use Rattle.os_ast.specs.Violations.{names}
use Rattle.os_io.specs.Lines.{ended_line}
use Rattle.os_lexer.specs.Cover.{IsTokenCover}
use Rattle.os_lexer.specs.declared.token.Token.{Token}
use Rattle.osrun_core_answer.specs.Explained.{finding_status}
use Rattle.osrun_core_run.specs.Run.{ends_over}
use Rattle.osview_answer.specs.StreamNames.{stream_names}
use Rattle.osview_answer.specs.Told.{task_line}
use Rattle.osview_sentences.specs.Whole.{member_lines}
use Rattle.osview_sentences.specs.declared.stream_name.StreamName.{StreamName}
use Rattle.osview_text.specs.Words.{activation_word}
use Rattle.wait_certs.specs.Finding.{IsFinding}
use Rattle.wait_certs.specs.declared.finding.Finding.{Finding}
use Rattle.wait_certs.specs.declared.finding.Finding.TheVariants as found

-- the activation whose failure poisoned one with this end, if it is one of `count` activations
abbrev pub root_in : (count : ℕ) → Option TaskEnd → Option ℕ
root_in count None = None
root_in count (Some task_end.Done) = None
root_in count (Some (task_end.Trapped code line)) = None
root_in count (Some task_end.OverBudget) = None
root_in count (Some (task_end.Poisoned root)) = if nat_lt root count then Some root else None

-- an activation with an end, and behind it the one whose failure poisoned it
abbrev pub with_root : ℕ → Option ℕ → List ℕ
with_root a root = a ∷ option_map_or (λ r. r ∷ []) root []

-- the line that tells that there is no activation of a number, where `main` created `count`
abbrev pub absent_text : (a count : ℕ) → List ℕ
absent_text a count = ended_line (codes "no activation " ++ decimal a ++ codes ": main created " ++ decimal count ++ activation_word count)

-- The lines that explain an activation, by what there is to tell of it: one for each member of the walk of an activation that is starved;
-- else what became of it, and of the one whose failure poisoned it.
abbrev pub explanation : List ℕ → List StreamName → (lines : List ℕ) → List Activation → (input_len : ℕ) → List (Option TaskEnd) → ℕ → Finding → List ℕ
explanation text names lines activations input_len ends a found.Absent = absent_text a (length activations)
explanation text names lines activations input_len ends a found.Ended =
    member_lines text names lines activations input_len ends (with_root a (root_in (length activations) (slice_index_or ends a None)))
explanation text names lines activations input_len ends a (found.Starved members last) =
    member_lines text names lines activations input_len ends members

-- Lines and a status explain an activation of a run: they are those of what there is to tell of it.
pub record IsExplanation (text : List ℕ) (names : List StreamName) (lines : List ℕ) (activations : List Activation) (input_len : ℕ)
    (ends : List (Option TaskEnd)) (a : ℕ) (told : List ℕ) (own : ℕ) : Type 0 where
  pub finding : Finding
  pub is_finding : IsFinding activations input_len ends a finding
  pub told_is : told ≡ explanation text names lines activations input_len ends a finding
  pub own_is : own ≡ finding_status finding

-- The lines that explain an activation of the run of a text's program over an input, with these budgets, and the status.
pub record IsExplanationOf (task_budget control_budget : ℕ) (text input : List ℕ) (a : ℕ) (told : List ℕ) (own : ℕ) : Type 0 where
  pub program : ProgramTree
  pub is_program : IsAccepted text program
  pub tokens : List Token
  pub cover : IsTokenCover text tokens
  pub made : Control
  pub made_is : made ≡ control program (length input) control_budget
  pub ends : Ends
  pub ends_are : ends ≡ ends_over program made.activations input task_budget
  pub explains : IsExplanation text (stream_names tokens (names program)) (map (task_line program) made.activations) made.activations (length input)
      ends.ends a told own
