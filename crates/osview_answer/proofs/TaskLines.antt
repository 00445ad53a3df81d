-- The sites of a program's code have the lines of its tasks.
use Rattle.std.proofs.Common.{◌≡◌, ◌∙◌, ◌<◌, ℕ, zero, suc, inl, inr, All, List, [], ◌∷◌, ap, arith, get_or, length, map, refl, slice_get, subst, sym}
use Rattle.std.specs.Option.{option_map_or}
use Rattle.std.proofs.lemmas.Grind.{same_number_lists}
use Rattle.std.proofs.lemmas.List.{get_or_past, length-map}
use Rattle.std.proofs.lemmas.Option.{slice_get-get_or, slice_get_cases, slice_get_past}
use Rattle.flow_core_laws.specs.Outcome.{State}
use Rattle.flow_core_laws.specs.declared.activation.Activation.{Activation}
use Rattle.lowering_relation.specs.Laws.{CodeStandsFor}
use Rattle.lowering_relation.specs.Tasks.{TaskTree, program_tasks}
use Rattle.os_ast.specs.Trees.{ProgramTree}
use Rattle.os_code.specs.Tasks.{Fits}
use Rattle.os_code.specs.declared.parts.Parts.{Parts}
use Rattle.os_code.specs.declared.site.Site.{Site}
use Rattle.osview_answer.specs.Graphs.{site_lines}
use Rattle.osview_answer.specs.Source.{site_line}
use Rattle.osview_answer.specs.Told.{task_line}
use Rattle.osview_steps.specs.Steps.{AreRuns}
use Rattle.osview_steps.specs.declared.runs.TaskRun.{TaskRun}

-- the number of an element, by its place
number_of : {A : Type 0} (xs : List A) (f : A → ℕ) (k : ℕ) → option_map_or f (slice_get xs k) 0 ≡ get_or (map f xs) k 0
number_of [] f k = sym (get_or_past [] k 0 (omega arith))
number_of (x ∷ xs) f zero = refl
number_of (x ∷ xs) f (suc k) = number_of xs f k

module _ (code : Parts) (program : ProgramTree) (stands : CodeStandsFor code program) where
  -- the line of a site is that of the task of its number
  same_line : (n : ℕ) → option_map_or (λ (s : Site). s.line) (slice_get code.sites n) 0
      ≡ option_map_or (λ (t : TaskTree). t.mark.line) (slice_get (program_tasks program) n) 0
  same_line n = elim (slice_get_cases (program_tasks program) n).1 [
    | inl inside ↦
        let has = stands.has.tasks n inside.0 inside.2 in
        ap (λ s. option_map_or (λ (s : Site). s.line) s 0) has.is_site ∙ has.line ∙ sym (ap (λ t. option_map_or (λ (t : TaskTree). t.mark.line) t 0) inside.2)
    | inr past ↦
        ap (λ s. option_map_or (λ (s : Site). s.line) s 0) (slice_get_past code.sites n (let none = past.0 in omega (arith, none, stands.has.sites)))
        ∙ sym (ap (λ t. option_map_or (λ (t : TaskTree). t.mark.line) t 0) past.1)
  ]

  -- and so are those of activations
  pub same_lines : (activations : List Activation) → map (site_line code) activations ≡ map (task_line program) activations
  same_lines [] = refl
  same_lines (a ∷ rest) =
      ap (λ at. at ∷ map (site_line code) rest) (same_line a.site)
      ∙ ap (λ lines. task_line program a ∷ lines) (same_lines rest)

  -- the lines of all sites
  pub all_lines : site_lines code ≡ map (λ (t : TaskTree). t.mark.line) (program_tasks program)
  all_lines = same_number_lists (site_lines code) (map (λ (t : TaskTree). t.mark.line) (program_tasks program)) long each where
    long : length (site_lines code) ≡ length (map (λ (t : TaskTree). t.mark.line) (program_tasks program))
    long = length-map code.sites (λ (s : Site). s.line) ∙ stands.has.sites ∙ sym (length-map (program_tasks program) (λ (t : TaskTree). t.mark.line))

    each : (k : ℕ) → k < length (site_lines code) → get_or (site_lines code) k 0 ≡ get_or (map (λ (t : TaskTree). t.mark.line) (program_tasks program)) k 0
    each k lt =
        sym (number_of code.sites (λ (s : Site). s.line) k) ∙ same_line k ∙ number_of (program_tasks program) (λ (t : TaskTree). t.mark.line) k

-- the tasks of runs are sites of the code
pub tasks_are_sites : (code : Parts) (activations : List Activation) (input : List ℕ) (budget : ℕ) (meaning : State) (runs : List TaskRun) → All (Fits code) activations
    → AreRuns code activations input budget meaning runs → All (λ (r : TaskRun). r.task < length code.sites) runs
tasks_are_sites code activations input budget meaning runs fit are = λ k d lt.
    let many = are.as_many in
    let none : Activation = record { site = 0; captured = []; claims = [] } in
    let x : Activation = get_or activations k none in
    let in_activations : k < length activations = omega (arith, lt, many) in
    let x_is = slice_get-get_or activations k none in_activations in
    let task = are.of_tasks k x (get_or runs k d) x_is (slice_get-get_or runs k d lt) in
    let there = (fit k none in_activations).site_there in
    subst (λ (n : ℕ). n < length code.sites) (sym task) there
