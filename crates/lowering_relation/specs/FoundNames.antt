-- A run of a lawful program asks for no name that isn't there: what such names would stand for makes no difference.
use Rattle.std.specs.Prelude.{◌≡◌, ◌⊎◌, ℕ, suc, ◌==◌, false, List, [], ◌∷◌, ◌++◌, slice_get, Some, None, ℤ}
use Rattle.cddf_meaning.specs.Body.{bound_round, item_lists, outcome, body}
use Rattle.cddf_meaning.specs.Control.{control_of, round_main, control_state, control}
use Rattle.cddf_meaning.specs.File.{File}
use Rattle.cddf_meaning.specs.Functions.{returned, bind_params, in_function, call_function, file_of}
use Rattle.cddf_meaning.specs.Program.{Main, main_of}
use Rattle.cddf_meaning.specs.Run.{run, run_all}
use Rattle.cddf_meaning.specs.BodyState.{BodyState, state_of}
use Rattle.cddf_meaning.specs.Tasks.{Task}
use Rattle.cddf_meaning.specs.Variables.{find}
use Rattle.cddf_meaning.specs.declared.variable.Binding.{Binding}
use Rattle.flow_core_laws.specs.declared.activation.Activation.{Activation}
use Rattle.os_ast.specs.Leveled.{IsLeveled}
use Rattle.os_ast.specs.Marks.{HasPlaces}
use Rattle.os_ast.specs.Names.{main_id}
use Rattle.os_ast.specs.Notes.Programs.{param_list}
use Rattle.os_ast.specs.Trees as tree
use Rattle.os_ast.specs.Violations.{violations}

-- a lawful program, as tokens mean it
pub record IsLawful (p : tree.ProgramTree) : Type 0 where
  pub leveled : IsLeveled p
  pub placed : HasPlaces p
  pub lawful : violations p ≡ []

-- Further declarations, under names that the file doesn't have.
abbrev pub AreElse : File → List Binding → Type 0
AreElse file more = (id : ℕ) → (find file.names id ≡ None) ⊎ (find more id ≡ None)

-- a state with further declarations in scope, outside of all that it has
abbrev pub with_more : List Binding → BodyState → BodyState
with_more more s = record s { bound = s.bound ++ more }

-- Whatever else is in scope, under names that the file doesn't have, `main` creates the same and ends in the same way.
-- So it asks for no name that isn't there.
abbrev pub MainFindsItsNames : Type 0
MainFindsItsNames =
    (p : tree.ProgramTree) (m : Main) (more : List Binding) (input_len budget : ℕ) → IsLawful p → main_of p ≡ Some m → AreElse m.file more →
    control_of (run_all (round_main m) m.body (with_more more (control_state input_len)) budget) ≡ control p input_len budget

-- A task's body, too, ends the same whatever else is in scope.
abbrev pub TasksFindTheirNames : Type 0
TasksFindTheirNames =
    (p : tree.ProgramTree) (m : Main) (t : Task) (more : List Binding) (a : Activation) (inputs : List ℤ) (budget : ℕ) → IsLawful p
    → main_of p ≡ Some m →
    slice_get m.tasks a.site ≡ Some t → AreElse m.file more →
    outcome t.mark.line a.claims (run (in_function m.file) t.body (with_more more (state_of (bound_round t a.captured) (item_lists a.claims inputs))) budget)
    ≡ body p a inputs budget

-- A function's body, too, gives the same whatever else is in scope behind the items before it.
abbrev pub FunctionsFindTheirNames : Type 0
FunctionsFindTheirNames =
    (items rest : List tree.ItemTree) (f : tree.FunctionTree) (more : List Binding) (args : List ℤ) (turns : ℕ)
    → IsLawful (items ++ tree.Function f ∷ rest) →
    (f.name.id == main_id) ≡ false → AreElse (file_of items) more →
    returned (run_all (in_function (file_of items)) f.body (with_more more (state_of (bind_params (param_list f.params) args []) [])) turns)
    ≡ call_function (file_of items) f args (suc turns)
