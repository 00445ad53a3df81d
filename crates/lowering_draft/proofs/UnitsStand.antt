-- What is made of a lawful program stands for it.
use Rattle.lowering_draft.proofs.MainAlone.{tasks_keep_main}
use Rattle.lowering_draft.proofs.FunctionsStand.{functions_stand}
use Rattle.lowering_draft.proofs.TaskUnitsStand.{tasks_stand}
use Rattle.std.proofs.Common.{◌≡◌, ◌∙◌, ℕ, ◌+◌, ◌<◌, ◌≤◌, ◌==◌, ◌^◌, Bool, true, false, if◌then◌else◌, List, [], ◌∷◌, length, length-append, Some, slice_get, ap, subst, sym, refl, arith}
use Rattle.lowering_draft.proofs.Growing.{grown, tasks_grow}
use Rattle.lowering_draft.proofs.SlotsFit.{all_tasks_small, tasks_weight}
use Rattle.lowering_draft.proofs.TaskNumbers.{program_numbered}
use Rattle.lowering_draft.proofs.TasksInMain.{IsAlone, tasks_captured}
use Rattle.lowering_draft.specs.Emission.Units.{no_units, parts_made, program_units, with_function, with_functions, with_task, with_tasks}
use Rattle.lowering_draft.specs.Going.{AreNumbered}
use Rattle.lowering_draft.specs.declared.units.Units.{Units}
use Rattle.os_ast.specs.Leveled.{IsLeveled}
use Rattle.os_ast.specs.Marks.{HasPlaces}
use Rattle.os_ast.specs.Names.{main_id}
use Rattle.os_ast.specs.Notes.Programs.{file, program_notes}
use Rattle.os_ast.specs.Spelling.{spell}
use Rattle.os_ast.specs.Trees as tree
use Rattle.os_ast.specs.Violations.{captured_by_tasks, streams, violations}
use Rattle.os_ast.specs.declared.names.Resolved.{Resolved}
use Rattle.lowering_relation.specs.Programs.{HasProgram, HasTask}
use Rattle.lowering_relation.specs.Tasks.{TaskTree, all_tasks_of, program_tasks}
use Rattle.window_check_laws.proofs.Globals.{distinct-program}
use Rattle.window_check_laws.proofs.Told.{lawful-program}
use Rattle.window_check_laws.proofs.Weights.{weight-spell}
use Rattle.window_check_laws.specs.Room.{items_weight}
use Rattle.window_check_laws.specs.Told.{AreLawful}

-- functions make no sites, and each task makes one
functions_no_sites : (tells : ℕ → Resolved) (is : List tree.ItemTree) (made : Units) → (with_functions tells is made).sites ≡ made.sites
functions_no_sites tells [] made = refl
functions_no_sites tells (tree.Constant c ∷ is) made = functions_no_sites tells is made
functions_no_sites tells (tree.Function f ∷ is) made =
    functions_no_sites tells is (with_function (f.name.id == main_id) tells f made) ∙ by_case (f.name.id == main_id)
  where
    by_case : (t : Bool) → (with_function t tells f made).sites ≡ made.sites
    by_case true = refl
    by_case false = refl

pub tasks_sites : (tells : ℕ → Resolved) (captured : List (List ℕ)) (ts : List TaskTree) (made : Units) →
    length (with_tasks tells captured ts made).sites ≡ length made.sites + length ts
tasks_sites tells captured [] made = omega arith
tasks_sites tells captured (t ∷ ts) made =
    let after = with_task tells captured t made in
    let one : length after.sites ≡ length made.sites + 1 = length-append made.sites (_ ∷ []) in
    omega (arith, tasks_sites tells captured ts after, one)

program_tasks_small : (is : List tree.ItemTree) → tasks_weight (program_tasks is) ≤ items_weight is
program_tasks_small [] = omega arith
program_tasks_small (tree.Constant c ∷ is) = omega (arith, program_tasks_small is)
program_tasks_small (tree.Function f ∷ is) = by_case (f.name.id == main_id) (program_tasks_small is)
  where
    by_case : (t : Bool) → tasks_weight (program_tasks is) ≤ items_weight is
        → tasks_weight (if t then all_tasks_of f.body else program_tasks is) ≤ items_weight (tree.Function f ∷ is)
    by_case true more = omega (arith, all_tasks_small f.body)
    by_case false more = omega (arith, more)

-- What is made of a lawful program stands for it.
pub program_stands : (tells : ℕ → Resolved) (p : tree.ProgramTree) → IsLeveled p → HasPlaces p → violations p ≡ [] → length (spell p) ≤ 262144
    → HasProgram (parts_made (streams p) (program_units tells (captured_by_tasks p) p)) p tells (captured_by_tasks p) (streams p)
program_stands tells p leveled places none few =
    let captured = captured_by_tasks p in
    let tasks = program_tasks p in
    let made = with_functions tells p no_units in
    let final = program_units tells captured p in
    let lawful : AreLawful (program_notes p) = lawful-program p none in
    let weight : items_weight p < 2 ^ 32 = omega (arith, weight-spell p, few) in
    let bodies : tasks_weight tasks + 64 < 2 ^ 32 = omega (arith, weight-spell p, few, program_tasks_small p) in
    let empty : length made.sites ≡ 0 = ap length (functions_no_sites tells p no_units) in
    let at : (k : ℕ) → length made.sites + k ≡ k = λ k. omega (arith, empty) in
    let numbered : AreNumbered tasks 0 tasks = λ k t is. program_numbered p places k t is ∙ ap Some (omega arith) in
    record {
      functions =
          functions_stand tells tasks (streams p) final p [] file no_units leveled.items lawful (distinct-program p lawful) weight refl refl
          numbered (tasks_keep_main tells captured tasks made) (tasks_grow tells captured tasks made);
      tasks = λ k t is.
          subst (λ n. HasTask (parts_made (streams p) final) tells captured n t) (at k)
          (tasks_stand tells captured (streams p) final tasks made
          (λ j u there. subst (λ n. (slots : List ℕ) × (slice_get captured n ≡ Some slots) × IsAlone u slots) (sym (at j))
          (tasks_captured p file leveled.items lawful j u there))
          bodies (grown final) k t is);
      sites = omega (arith, tasks_sites tells captured tasks made, empty);
      counted = refl;
    }
