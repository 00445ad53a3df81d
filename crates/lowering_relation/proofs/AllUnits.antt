-- All units of a tiled code that stands for a lawful program are fine.
use Rattle.std.proofs.Common.{◌≡◌, ℕ, ◌+◌, ◌-◌, ◌<◌, ◌≤◌, ◌==◌, Bool, true, false, List, [], length, map, Some, slice_get, refl, sym, ap, ◌∙◌, subst, inl, inr, arith}
use Rattle.std.proofs.lemmas.Bool.{cases_lt}
use Rattle.std.proofs.lemmas.List.{length-map}
use Rattle.std.proofs.lemmas.Option.{slice_get_within, slice_get-map}
use Rattle.std.specs.Option.{option_map}
use Rattle.std.specs.Prelude.{◌⊎◌}
use Rattle.cddf_meaning.specs.Scoped.{scoped_task_at, scoped_tasks_in_all}
use Rattle.cddf_meaning.specs.Tasks.{Task as MeaningTask}
use Rattle.flow_core_laws.proofs.Stretches.{slice_get-append_left}
use Rattle.os_ast.specs.Leveled.{IsLeveled}
use Rattle.os_ast.specs.Marks.{HasPlaces}
use Rattle.os_ast.specs.Names.{Scope, main_id}
use Rattle.os_ast.specs.Notes.Programs.{after_items, in_body, file}
use Rattle.os_ast.specs.Notes.Statements.{stmts_notes}
use Rattle.os_ast.specs.Trees as tree
use Rattle.os_ast.specs.Violations.{violations, names, captures, captured_by_tasks, has_main, streams}
use Rattle.os_code.specs.Parts.{Function, kind_at, unit_at}
use Rattle.os_code.specs.declared.parts.Parts.{Parts}
use Rattle.os_code.specs.declared.unit.CodeUnit.{CodeUnit}
use Rattle.lowering_relation.specs.Names.{told_at}
use Rattle.lowering_relation.specs.Programs.{in_main, HasMain, HasUnit, HasTask, HasProgram}
use Rattle.lowering_relation.specs.Tasks.{program_tasks, all_tasks_of}
use Rattle.lowering_relation.specs.Tiling.{IsTiled}
use Rattle.lowering_relation.proofs.FunctionUnits.{function_unit, main_fits, main_unit}
use Rattle.lowering_relation.proofs.Homes.{AllFit}
use Rattle.lowering_relation.proofs.LaidUnits.{home_of, IsLaid}
use Rattle.lowering_relation.proofs.MainLaws.{main_there}
use Rattle.lowering_relation.proofs.OwnNotes.{all_own_notes}
use Rattle.lowering_relation.proofs.Places.{functions_of, functions_count, mains_bare, mains_tasks, MainNumber, main_number, FunctionAt, places, MainAt, main_place}
use Rattle.lowering_relation.proofs.Spawned.{all_spawned}
use Rattle.lowering_relation.proofs.TaskLaws.{main_body, get_there}
use Rattle.lowering_relation.proofs.TaskMarks.{tasks_rise}
use Rattle.lowering_relation.proofs.TaskTexts.{TaskAt, strip, all_stripped, matched, match_stmts}
use Rattle.lowering_relation.proofs.TaskUnits.{task_unit}
use Rattle.lowering_relation.proofs.UnitKinds.{main_kind, function_kind, task_kind}
use Rattle.lowering_relation.proofs.ValidRegions.{AreLaid}
use Rattle.window_check_laws.specs.Globals.{AreApart, count_functions}
use Rattle.window_check_laws.specs.Order.{InOrder}
use Rattle.window_check_laws.proofs.Globals.{distinct-program}
use Rattle.window_check_laws.proofs.Ordered.{names_in_order}
use Rattle.window_check_laws.proofs.Told.{tells-program, lawful-program}

-- a lawful program, and a tiled code that stands for it
pub record Standing (p : tree.ProgramTree) (code : Parts) : Type 0 where
  pub leveled : IsLeveled p
  pub placed : HasPlaces p
  pub lawful : violations p ≡ []
  pub has : HasProgram code p (told_at (names p)) (captured_by_tasks p) (streams p)
  pub tiled : IsTiled code p

module _ (p : tree.ProgramTree) (code : Parts) (st : Standing p code) where
  order : InOrder (names p)
  order = names_in_order p st.placed

  some_main : has_main p ≡ true
  some_main = main_there p st.lawful

  apart : AreApart [] p
  apart = distinct-program p (lawful-program p st.lawful)

  number_of_main : MainNumber code (names p) (program_tasks p) 0 p
  number_of_main = main_number code (names p) (program_tasks p) p 0 st.has.functions some_main

  pub main_early : code.main < count_functions p
  main_early = let m = number_of_main in omega (arith, m.is_main, slice_get_within (functions_of p) m.place m.function m.is_there, functions_count p)

  -- a function that isn't `main` is one
  kinds : (j : ℕ) (g : tree.FunctionTree) → slice_get (functions_of p) j ≡ Some g → (g.name.id == main_id) ≡ false → kind_at code (0 + j) ≡ Function
  kinds j g there other =
      function_kind code (count_functions p) st.tiled.task_units (0 + j) (omega (arith, slice_get_within (functions_of p) j g there, functions_count p))
      (λ e.
      let m = number_of_main in
      let same : m.place ≡ j = omega (arith, m.is_main, e) in
      let twice : Some m.function ≡ Some g = sym m.is_there ∙ ap (slice_get (functions_of p)) same ∙ there in
      let k : m.function ≡ g = cc in
      let bad : true ≡ false = sym m.named ∙ ap (λ (x : tree.FunctionTree). x.name.id == main_id) k ∙ other in
      absurd (cc))

  pub main_at : MainAt code (names p) (program_tasks p) file p
  main_at =
      main_place code (names p) (program_tasks p) p file 0 st.leveled.items tt tt refl (lawful-program p st.lawful) (tells-program p) st.has.functions kinds some_main

  -- a unit with its number
  abbrev pub Laid : ℕ → Type 0
  Laid number = (unit : CodeUnit) × (unit_at code number ≡ Some unit) × IsLaid code number unit

  pub counted : code.streams ≡ 2 + (after_items file p).streams
  counted = st.has.counted

  laid_function : (number : ℕ) (g : tree.FunctionTree) → slice_get (functions_of p) number ≡ Some g → (b : Bool) → (g.name.id == main_id) ≡ b →
      (at : FunctionAt code (names p) (program_tasks p) (after_items file p).streams number g) →
      HasUnit b code (told_at (names p)) (program_tasks p) number g → Laid number
  laid_function number g there false e at has = (
    has.unit,
    has.is_unit,
    function_unit code (names p) order at.scope g at.leveled at.lawful at.tells number at.may e (let z : 0 + number ≡ number = omega arith in ap (kind_at code) (sym z) ∙ kinds number g there e) has,
  )
  laid_function number g there true e at has =
      let rising = tasks_rise p st.placed in
      let tasks = mains_tasks p [] apart number g there e in (
        has.unit,
        has.is_unit,
        main_unit code (names p) order at.scope g at.leveled at.lawful at.tells number at.may (program_tasks p) e (mains_bare p [] apart some_main number g there e)
            (main_kind code (count_functions p) st.tiled.task_units number has.is_main) (omega (arith, counted)) (omega (arith, counted, at.few)) has
            (all_spawned (home_of code (in_main (told_at (names p)) (program_tasks p)) number has.unit) (told_at (names p)) (captured_by_tasks p) rising.0 rising.1 rising.2 st.has.tasks (all_tasks_of g.body) 0
            (λ j t is. let z : 0 + j ≡ j = omega arith in ap (slice_get (program_tasks p)) z ∙ ap (λ ts. slice_get ts j) tasks ∙ is)),
      )

  -- the first units
  early : (number : ℕ) → number < count_functions p → Laid number
  early number lt =
      let got = get_there (functions_of p) number (omega (arith, lt, functions_count p)) in
      let z : 0 + number ≡ number = omega arith in
      let at = places code (names p) (program_tasks p) p file 0 st.leveled.items tt tt refl (lawful-program p st.lawful) (tells-program p) st.has.functions kinds number got.0 got.1 in
      let here = subst (λ n. FunctionAt code (names p) (program_tasks p) (after_items file p).streams n got.0) z at in
      laid_function number got.0 got.1 (got.0.name.id == main_id) refl here here.has

  -- the task of a site, in the text
  pub record TaskPlace (number : ℕ) : Type 0 where
    pub task : MeaningTask
    pub slots : List ℕ
    pub found : slice_get (captures (stmts_notes (in_body main_at.at.scope main_at.function) main_at.function.body)) number ≡ Some slots
    pub there : TaskAt (names p) main_at.at.scope.entries task slots
    pub has : HasTask code (told_at (names p)) (captured_by_tasks p) number (strip (scoped_task_at there.scope there.mark there.clauses there.body))
    pub same_slots : has.site.captured ≡ slots

  pub task_place : (number : ℕ) → number < length (program_tasks p) → TaskPlace number
  task_place number lt = record { task = got.0; slots = found.0; found = found.1; there = there; has = has; same_slots = same_slots }
    where
      f : tree.FunctionTree
      f = main_at.function

      body : Scope
      body = in_body main_at.at.scope f

      by_tree : program_tasks p ≡ map strip (scoped_tasks_in_all body f.body)
      by_tree = main_at.own_tasks ∙ sym (all_stripped f.body body)

      below : number < length (scoped_tasks_in_all body f.body)
      below = omega (arith, lt, ap (λ xs. length xs) by_tree, length-map (scoped_tasks_in_all body f.body) strip)

      got : (t : MeaningTask) × (slice_get (scoped_tasks_in_all body f.body) number ≡ Some t)
      got = get_there (scoped_tasks_in_all body f.body) number below

      found : (slots : List ℕ) × (slice_get (captures (stmts_notes body f.body)) number ≡ Some slots) × TaskAt (names p) main_at.at.scope.entries got.0 slots
      found =
          matched (names p) main_at.at.scope.entries (scoped_tasks_in_all body f.body) (captures (stmts_notes body f.body)) number got.0
          (match_stmts (names p) main_at.at.scope.entries main_at.at.leveled body (main_body main_at.at.scope f main_at.named main_at.at.all) main_at.at.lawful main_at.at.tells) got.1

      there : TaskAt (names p) main_at.at.scope.entries got.0 found.0
      there = found.2

      in_program : slice_get (program_tasks p) number ≡ Some (strip got.0)
      in_program = ap (λ ts. slice_get ts number) by_tree ∙ slice_get-map strip (scoped_tasks_in_all body f.body) number ∙ ap (option_map strip) got.1

      has : HasTask code (told_at (names p)) (captured_by_tasks p) number (strip (scoped_task_at there.scope there.mark there.clauses there.body))
      has = subst (λ x. HasTask code (told_at (names p)) (captured_by_tasks p) number (strip x)) there.is (st.has.tasks number (strip got.0) in_program)

      same_slots : has.site.captured ≡ found.0
      same_slots =
          let x : slice_get (captured_by_tasks p) number ≡ Some found.0 =
          ap (λ cs. slice_get cs number) main_at.own_captures
          ∙ slice_get-append_left (captures (stmts_notes body f.body)) main_at.rest number (slice_get_within (captures (stmts_notes body f.body)) number found.0 found.1)
          ∙ found.1 in
          let y : Some has.site.captured ≡ Some found.0 = sym has.captures ∙ x in
          cc

  pub main_has : HasMain code (told_at (names p)) (program_tasks p) main_at.number main_at.function
  main_has = subst (λ b. HasUnit b code (told_at (names p)) (program_tasks p) main_at.number main_at.function) main_at.named main_at.at.has

  -- what stands in `main` fits
  pub main_fit : AllFit (home_of code (in_main (told_at (names p)) (program_tasks p)) main_at.number main_has.unit) (all_own_notes (in_body main_at.at.scope main_at.function) main_at.function.body)
  main_fit =
      main_fits code (names p) order main_at.at.scope main_at.function main_at.at.leveled main_at.at.lawful main_at.at.tells main_at.number main_at.at.may (program_tasks p) main_at.named
      (mains_bare p [] apart some_main main_at.place main_at.function main_at.is_there main_at.named) (main_kind code (count_functions p) st.tiled.task_units main_at.number main_has.is_main)
      (omega (arith, counted)) (omega (arith, counted, main_at.at.few)) main_has

  -- the units behind them
  late : (number : ℕ) → number < length (program_tasks p) → Laid (count_functions p + number)
  late number lt =
      let place = task_place number lt in
      let at : place.has.site.unit ≡ count_functions p + number = st.tiled.task_units number place.has.site place.has.is_site in
      subst Laid at (
        place.has.unit,
        place.has.is_unit,
        task_unit code (names p) order main_at.at.scope.entries place.task place.slots place.there (captured_by_tasks p) number main_at.number main_at.at.may place.has
            (omega (arith, at, main_early, main_has.is_main)) place.same_slots (task_kind code (count_functions p) st.tiled.task_units number place.has.site place.has.is_site main_early),
      )

  laid : (number : ℕ) (unit : CodeUnit) → unit_at code number ≡ Some unit → IsLaid code number unit
  laid number unit is = by_order (cases_lt number (count_functions p))
    where
      same : Laid number → IsLaid code number unit
      same (one, is_one, fine) =
          let twice : Some one ≡ Some unit = sym is_one ∙ is in
          let k : one ≡ unit = cc in
          subst (IsLaid code number) k fine

      by_order : (number < count_functions p) ⊎ (count_functions p ≤ number) → IsLaid code number unit
      by_order (inl lt) = same (early number lt)
      by_order (inr ge) =
          let e : count_functions p + (number - count_functions p) ≡ number = omega (arith, ge) in
          same (subst Laid e (late (number - count_functions p) (omega (arith, e, slice_get_within code.units number unit is, st.tiled.units))))

  pub all_laid : AreLaid code
  all_laid = record { tiles = st.tiled.tiles; laid = laid; short = st.tiled.short; slots_small = st.tiled.slots_small }
