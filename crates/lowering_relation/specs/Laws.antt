-- What code that stands for a lawful program does.
use Rattle.std.specs.Prelude.{◌≡◌, ℕ, ◌≤◌, List, [], length, slice_get, Some, ℤ}
use Rattle.cddf_meaning.specs.Body.{body}
use Rattle.cddf_meaning.specs.Control.{control}
use Rattle.cddf_meaning.specs.Moves.{read_horizons}
use Rattle.flow_core_laws.specs.declared.activation.Activation.{Activation}
use Rattle.flow_core_laws.specs.declared.control.Control.{Control}
use Rattle.flow_core_laws.specs.declared.outcome.Outcome.{Outcome}
use Rattle.flow_core_laws.specs.declared.task_end.TaskEnd.TheVariants.{Done}
use Rattle.flow_core_laws.specs.Streams.{output_count}
use Rattle.os_ast.specs.Leveled.{IsLeveled}
use Rattle.os_ast.specs.Marks.{HasPlaces}
use Rattle.os_ast.specs.Trees as tree
use Rattle.os_ast.specs.Violations.{violations, names, captured_by_tasks, streams}
use Rattle.os_code.specs.Control.{ControlEnds}
use Rattle.os_code.specs.IsValid.{IsValid}
use Rattle.os_code.specs.Tasks.{Fits, TaskEnds, input_count}
use Rattle.os_code.specs.declared.parts.Parts.{Parts}
use Rattle.lowering_relation.specs.Names.{told_at}
use Rattle.lowering_relation.specs.Programs.{HasProgram}
use Rattle.lowering_relation.specs.Tiling.{IsTiled}

-- A valid code stands for a lawful program.
pub record CodeStandsFor (code : Parts) (p : tree.ProgramTree) : Type 0 where
  pub leveled : IsLeveled p
  pub placed : HasPlaces p
  pub lawful : violations p ≡ []
  pub has : HasProgram code p (told_at (names p)) (captured_by_tasks p) (streams p)
  pub valid : IsValid code

-- An activation that fits the code ends as the body of its task does, with the same code, line and outputs.
abbrev pub TasksEndSo : Type 0
TasksEndSo = (p : tree.ProgramTree) (code : Parts) (a : Activation) (inputs : List ℤ) (budget : ℕ) → CodeStandsFor code p → Fits code a →
    read_horizons a.claims ≤ length inputs → (steps : ℕ) × TaskEnds code a inputs budget (body p a inputs budget) steps

-- An activation of such code ends in no other way.
abbrev pub TasksEndOnlySo : Type 0
TasksEndOnlySo =
    (p : tree.ProgramTree) (code : Parts) (a : Activation) (inputs : List ℤ) (budget : ℕ) (outcome : Outcome) (steps : ℕ) → CodeStandsFor code p
    → Fits code a →
    read_horizons a.claims ≤ length inputs → TaskEnds code a inputs budget outcome steps → outcome ≡ body p a inputs budget

-- `main` creates the activations of the control program, and ends as it does.
abbrev pub MainEndsSo : Type 0
MainEndsSo = (p : tree.ProgramTree) (code : Parts) (input_len budget : ℕ) → CodeStandsFor code p →
    (steps : ℕ) × ControlEnds code input_len budget (control p input_len budget) steps

-- `main` of such code ends in no other way.
abbrev pub MainEndsOnlySo : Type 0
MainEndsOnlySo = (p : tree.ProgramTree) (code : Parts) (input_len budget : ℕ) (made : Control) (steps : ℕ) → CodeStandsFor code p →
    ControlEnds code input_len budget made steps → made ≡ control p input_len budget

-- Code that stands for a lawful program, with its units one behind another, is valid.
abbrev pub StandingIsValid : Type 0
StandingIsValid = (p : tree.ProgramTree) (code : Parts) → IsLeveled p → HasPlaces p → violations p ≡ [] →
    HasProgram code p (told_at (names p)) (captured_by_tasks p) (streams p) → IsTiled code p → IsValid code

-- Each activation of the control program that is done for its inputs wrote as many elements as its output windows have
-- horizons together.
abbrev pub BodiesFill : Type 0
BodiesFill = (p : tree.ProgramTree) (input_len control_budget number : ℕ) (a : Activation) (inputs : List ℤ) (budget : ℕ) →
    slice_get (control p input_len control_budget).activations number ≡ Some a → length inputs ≡ input_count a →
    (body p a inputs budget).end ≡ Done → length (body p a inputs budget).outputs ≡ output_count a
