-- The tasks of a lawful program, from the program on.
use Rattle.std.proofs.Common.{◌≡◌, ℕ, zero, suc, ◌+◌, ◌<◌, ◌≤◌, ◌==◌, Bool, true, false, if◌then◌else◌, List, [], ◌∷◌, ◌++◌, map, length, Option, Some, None, slice_get, ℤ, refl, sym, ap, ◌∙◌, subst, arith}
use Rattle.std.proofs.lemmas.List.{length-map}
use Rattle.std.proofs.lemmas.Option.{slice_get-map}
use Rattle.std.specs.Option.{option_map}
use Rattle.c_int.specs.declared.control_limit.ControlLimit.{ControlLimit}
use Rattle.cddf_meaning.proofs.Scoping.{main_is_scoped}
use Rattle.cddf_meaning.specs.Body.{task_outcome, chosen_outcome, outcome_in, body}
use Rattle.cddf_meaning.specs.File.{File}
use Rattle.cddf_meaning.specs.Functions.{empty_file, with_item}
use Rattle.cddf_meaning.specs.Moves.{read_horizons}
use Rattle.cddf_meaning.specs.Program.{Main}
use Rattle.cddf_meaning.specs.Tasks.{Task as MeaningTask}
use Rattle.cddf_meaning.specs.declared.ending.Ending.{Ending}
use Rattle.cddf_meaning.specs.Scoped.{scoped_task_at, scoped_tasks_in_all, scoped_main_at, scoped_main_behind, scoped_main}
use Rattle.cddf_meaning.specs.declared.ending.Ending.TheVariants as ending
use Rattle.flow_core_laws.specs.declared.activation.Activation.{Activation}
use Rattle.flow_core_laws.specs.declared.outcome.Outcome.{Outcome}
use Rattle.os_ast.specs.Names.{Scope, enter, in_unit, main_id}
use Rattle.os_ast.specs.Notes.Declarators.{scalar_entity}
use Rattle.os_ast.specs.Notes.Programs.{owner_of, param_list, round_body, after_param, after_params, after_item, in_body, program_notes, items_notes}
use Rattle.os_ast.specs.Notes.Programs as programs
use Rattle.os_ast.specs.Notes.Statements.{stmts_notes}
use Rattle.os_ast.specs.Stacked.{main_extent}
use Rattle.os_ast.specs.Stacked as text
use Rattle.os_ast.specs.Trees as tree
use Rattle.os_ast.specs.Unsigned.{is_unsigned}
use Rattle.os_ast.specs.Violations.{names, captures, captured_by_tasks}
use Rattle.os_ast.specs.declared.names.Entity.{Entity}
use Rattle.os_ast.specs.declared.names.Entity.TheVariants as entity
use Rattle.os_ast.specs.declared.names.Entry.{Entry}
use Rattle.os_ast.specs.declared.names.Owner.{Owner}
use Rattle.os_ast.specs.declared.names.Owner.TheVariants as owner
use Rattle.os_ast.specs.declared.program.Param.{Param}
use Rattle.os_code.specs.declared.parts.Parts.{Parts}
use Rattle.os_code.specs.declared.site.Site.{Site}
use Rattle.os_code.specs.declared.unit.CodeUnit.{CodeUnit}
use Rattle.os_code.specs.Machine.{RunsToHalt}
use Rattle.os_code.specs.Outcomes as machine
use Rattle.os_code.specs.Parts.{unit_at, site_at}
use Rattle.os_code.specs.Tasks.{Fits, TaskOutcome, TaskEnds, task_start}
use Rattle.os_code.proofs.Halting.{tasks_end, runs_are_one, task_ends_are_one}
use Rattle.lowering_relation.specs.Laws.{CodeStandsFor}
use Rattle.lowering_relation.specs.Names.{told_at}
use Rattle.lowering_relation.specs.Programs.{HasTask}
use Rattle.lowering_relation.specs.Tasks.{program_tasks, all_tasks_of}
use Rattle.lowering_relation.proofs.Files.{IsOfFile, AllOfFile, AtMain, finds_main, nothing_fits}
use Rattle.lowering_relation.proofs.Steps.{Stops, halt_of}
use Rattle.lowering_relation.proofs.TaskRuns.{claims_fit, EndsIn, no_limit, task_does}
use Rattle.lowering_relation.proofs.TaskTexts.{IsOfMain, InMain, TaskAt, strip, all_stripped, matched, match_stmts}
use Rattle.window_check_laws.specs.Sums.{extent_in}
use Rattle.window_check_laws.proofs.Ordered.{names_in_order}
use Rattle.window_check_laws.proofs.Told.{tells-program, lawful-program}

-- the file's declarations have no slots
no_extent : (d : Entity) (top : ℕ) (es : List Entry) → IsOfFile d → text.Stacked main_extent top es → (text.ends (main_extent d) top ≤ top) × text.Stacked main_extent (text.begins (main_extent d) top) es
no_extent (entity.Constant v) top es h st = (omega arith, st)
no_extent (entity.Function n k) top es h st = (omega arith, st)
no_extent (entity.Scalar n) top es h st = elim h [ ]
no_extent (entity.Control n) top es h st = elim h [ ]
no_extent entity.InputLength top es h st = elim h [ ]
no_extent (entity.Array n k) top es h st = elim h [ ]
no_extent (entity.Window n) top es h st = elim h [ ]
no_extent (entity.Stream n) top es h st = elim h [ ]
no_extent (entity.Streams n k) top es h st = elim h [ ]
no_extent (entity.Element n x) top es h st = elim h [ ]
no_extent (entity.View n x) top es h st = elim h [ ]

file_stacked : (es : List Entry) (top : ℕ) → AllOfFile es → text.Stacked main_extent top es
file_stacked [] top all = tt
file_stacked (e ∷ es) top all = no_extent e.entity top es all.0 (file_stacked es top all.1)

-- the body of `main`
abbrev pub round_of : Owner → Scope → Scope
round_of o s = enter (round_body o (enter (in_unit o s)))

main_params : (file : List Entry) (ns : List Param) (s : Scope) → InMain file s → InMain file (after_params s ns)
main_params file [] s h = h
main_params file (n ∷ ns) s h = main_params file ns (after_param s n) (record {
  owner = h.owner;
  inner = record { id = n.name.id; depth = s.depth; entity = scalar_entity s.owner s.slots; unsigned = is_unsigned n.ty } ∷ h.inner;
  entries = ap (λ es. record { id = n.name.id; depth = s.depth; entity = scalar_entity s.owner s.slots; unsigned = is_unsigned n.ty } ∷ es) h.entries;
  all = (subst (λ o. IsOfMain (scalar_entity o s.slots)) (sym h.owner) tt, h.all);
  stacked =
      subst (λ o. text.Stacked (extent_in o) (s.slots + 1) (record { id = n.name.id; depth = s.depth; entity = scalar_entity o s.slots; unsigned = is_unsigned n.ty } ∷ s.entries)) (sym h.owner)
      (omega arith, subst (λ o. text.Stacked (extent_in o) s.slots s.entries) h.owner h.stacked);
})

pub main_body : (s : Scope) (f : tree.FunctionTree) → (f.name.id == main_id) ≡ true → AllOfFile s.entries → InMain s.entries (in_body s f)
main_body s f is all =
    main_params s.entries (param_list f.params) (programs.in_function s f.name.id)
    (subst (λ o. InMain s.entries (round_of o s)) (sym own)
    (record { owner = refl; inner = _ ∷ _ ∷ _ ∷ []; entries = refl; all = (tt, (tt, (tt, tt))); stacked = (omega arith, (omega arith, (omega arith, file_stacked s.entries 0 all))) }))
  where
    own : owner_of f.name.id ≡ owner.OfMain
    own = ap (λ t. if t then owner.OfMain else owner.OfFunction) is

-- without `main` there is no task
no_main : (is : List tree.ItemTree) (file : File) (s : Scope) → scoped_main_behind file s is ≡ None → program_tasks is ≡ []
no_main [] file s h = refl
no_main (tree.Constant c ∷ is) file s h = no_main is (with_item file (tree.Constant c)) (after_item s (tree.Constant c)) h
no_main (tree.Function f ∷ is) file s h = by_case (f.name.id == main_id) h (λ k. no_main is (with_item file (tree.Function f)) (after_item s (tree.Function f)) k)
  where
    by_case : (t : Bool) → (if t then Some (scoped_main_at file s f) else scoped_main_behind (with_item file (tree.Function f)) (after_item s (tree.Function f)) is) ≡ None →
        (scoped_main_behind (with_item file (tree.Function f)) (after_item s (tree.Function f)) is ≡ None → program_tasks is ≡ []) → (if t then all_tasks_of f.body else program_tasks is) ≡ []
    by_case true k next = absurd (cc)
    by_case false k next = next k

pub get_there : {A : Type 0} (xs : List A) (k : ℕ) → k < length xs → (x : A) × (slice_get xs k ≡ Some x)
get_there [] k lt = absurd (omega (arith, lt))
get_there (x ∷ xs) zero lt = (x, refl)
get_there (x ∷ xs) (suc k) lt = get_there xs k (omega (arith, lt))

get_front : {A : Type 0} (xs ys : List A) (k : ℕ) (x : A) → slice_get xs k ≡ Some x → slice_get (xs ++ ys) k ≡ Some x
get_front [] ys k x h = absurd (cc)
get_front (y ∷ xs) ys zero x h = h
get_front (y ∷ xs) ys (suc k) x h = get_front xs ys k x h

module _ (p : tree.ProgramTree) (code : Parts) (a : Activation) (inputs : List ℤ) (budget : ℕ) (stands : CodeStandsFor code p) (fits : Fits code a) (enough : read_horizons a.claims ≤ length inputs) where
  abbrev Ends : Outcome → Type 0
  Ends out = (steps : ℕ) × TaskEnds code a inputs budget out steps

  -- nothing in a task meets a limit
  limits : (site : Site) (unit : CodeUnit) → site_at code a.site ≡ Some site → unit_at code site.unit ≡ Some unit → (e : Ending) (made : List Activation) (n : ControlLimit) → Stops code (task_start unit a inputs budget) e made → e ≡ ending.Limited n → ⊥
  limits site unit is_site is_unit e made n h is =
      let t = tasks_end code a inputs budget stands.valid fits in
      let same_site : t.ends.site ≡ site = let x : Some t.ends.site ≡ Some site = sym t.ends.is_site ∙ is_site in cc in
      let same_unit : t.ends.unit ≡ unit = let x : Some t.ends.unit ≡ Some unit = sym t.ends.is_unit ∙ ap (λ (y : Site). unit_at code y.unit) same_site ∙ is_unit in cc in
      let one = runs_are_one code (task_start unit a inputs budget) h.last t.ends.last (halt_of e) t.ends.halt h.steps t.steps h.runs (subst (λ y. RunsToHalt code (task_start y a inputs budget) t.ends.halt t.ends.last t.steps) same_unit t.ends.runs) in
      no_limit t.ends.site.line n t.ends.halt t.ends.last (machine.code_outcome code a inputs budget) t.ends.ends (sym one.0 ∙ ap halt_of is)

  by_main : (m : Main) → scoped_main p ≡ Some m → Ends (outcome_in (Some m) a inputs budget)
  by_main m is_main = (
    e.count,
    record {
      site = has.site;
      unit = has.unit;
      halt = e.halt;
      last = e.last;
      is_site = has.is_site;
      is_unit = has.is_unit;
      runs = e.runs;
      ends = subst (λ line. TaskOutcome line e.halt e.last (outcome_in (Some m) a inputs budget)) (sym has.line) (subst (TaskOutcome there.mark.line e.halt e.last) (sym chosen) e.ends);
    },
  )
    where
      at_main : AtMain code (names p) (program_tasks p) programs.file p m
      at_main =
          finds_main code (names p) (names_in_order p stands.placed) (program_tasks p) p empty_file programs.file 0 m stands.leveled.items (λ n args turns. tt) (nothing_fits code (names p) (names_in_order p stands.placed) (program_tasks p)) tt refl
          (lawful-program p stands.lawful) (tells-program p) stands.has.functions is_main

      of_main : m.tasks ≡ scoped_tasks_in_all (in_body at_main.scope at_main.function) at_main.function.body
      of_main = ap (λ (x : Main). x.tasks) at_main.is

      by_tree : program_tasks p ≡ map strip (scoped_tasks_in_all (in_body at_main.scope at_main.function) at_main.function.body)
      by_tree = at_main.own_tasks ∙ sym (all_stripped at_main.function.body (in_body at_main.scope at_main.function))

      below : a.site < length (scoped_tasks_in_all (in_body at_main.scope at_main.function) at_main.function.body)
      below =
          let x : length (program_tasks p) ≡ length (map strip (scoped_tasks_in_all (in_body at_main.scope at_main.function) at_main.function.body)) = ap length by_tree in
          let y : length (map strip (scoped_tasks_in_all (in_body at_main.scope at_main.function) at_main.function.body)) ≡ length (scoped_tasks_in_all (in_body at_main.scope at_main.function) at_main.function.body) = length-map (scoped_tasks_in_all (in_body at_main.scope at_main.function) at_main.function.body) strip in
          let f = fits.site_there in
          let z = stands.has.sites in
          omega (arith, x, y, f, z)

      got : (t : MeaningTask) × (slice_get (scoped_tasks_in_all (in_body at_main.scope at_main.function) at_main.function.body) a.site ≡ Some t)
      got = get_there (scoped_tasks_in_all (in_body at_main.scope at_main.function) at_main.function.body) a.site below

      found : (slots : List ℕ) × (slice_get (captures (stmts_notes (in_body at_main.scope at_main.function) at_main.function.body)) a.site ≡ Some slots) × TaskAt (names p) at_main.scope.entries got.0 slots
      found =
          matched (names p) at_main.scope.entries (scoped_tasks_in_all (in_body at_main.scope at_main.function) at_main.function.body) (captures (stmts_notes (in_body at_main.scope at_main.function) at_main.function.body)) a.site got.0
          (match_stmts (names p) at_main.scope.entries at_main.leveled (in_body at_main.scope at_main.function) (main_body at_main.scope at_main.function at_main.is_named at_main.all) at_main.lawful at_main.tells) got.1

      there : TaskAt (names p) at_main.scope.entries got.0 found.0
      there = found.2

      in_program : slice_get (program_tasks p) a.site ≡ Some (strip got.0)
      in_program =
          ap (λ ts. slice_get ts a.site) by_tree ∙ slice_get-map strip (scoped_tasks_in_all (in_body at_main.scope at_main.function) at_main.function.body) a.site ∙ ap (option_map strip) got.1

      has : HasTask code (told_at (names p)) (captured_by_tasks p) a.site (strip (scoped_task_at there.scope there.mark there.clauses there.body))
      has = subst (λ x. HasTask code (told_at (names p)) (captured_by_tasks p) a.site (strip x)) there.is (stands.has.tasks a.site (strip got.0) in_program)

      same_slots : has.site.captured ≡ found.0
      same_slots =
          let x : slice_get (captured_by_tasks p) a.site ≡ Some found.0 =
          ap (λ cs. slice_get cs a.site) at_main.own_captures ∙ get_front (captures (stmts_notes (in_body at_main.scope at_main.function) at_main.function.body)) at_main.rest a.site found.0 found.1 in
          let y : Some has.site.captured ≡ Some found.0 = sym has.captures ∙ x in
          cc

      e : EndsIn code there.mark.line (task_start has.unit a inputs budget) (task_outcome m.file (scoped_task_at there.scope there.mark there.clauses there.body) a inputs budget)
      e =
          task_does code m.file at_main.falls (names p) (names_in_order p stands.placed) at_main.scope.entries at_main.fits got.0 found.0 there a.site (captured_by_tasks p) has same_slots a inputs budget
          (fits.captured has.site has.is_site) (claims_fit code.streams has.site.items a.claims (fits.claims has.site has.is_site)) enough (limits has.site has.unit has.is_site has.is_unit)

      chosen : outcome_in (Some m) a inputs budget ≡ task_outcome m.file (scoped_task_at there.scope there.mark there.clauses there.body) a inputs budget
      chosen =
          ap (λ ts. chosen_outcome m.file (slice_get ts a.site) a inputs budget) of_main ∙ ap (λ o. chosen_outcome m.file o a inputs budget) got.1 ∙ ap (λ t. task_outcome m.file t a inputs budget) there.is

  by_option : (o : Option Main) → scoped_main p ≡ o → Ends (outcome_in o a inputs budget)
  by_option None is =
      let x : length (program_tasks p) ≡ 0 = ap length (no_main p empty_file programs.file is) in
      let f = fits.site_there in
      let z = stands.has.sites in
      absurd (omega (arith, x, f, z))
  by_option (Some m) is = by_main m is

  pub ends_so : (steps : ℕ) × TaskEnds code a inputs budget (body p a inputs budget) steps
  ends_so = subst (λ o. Ends (outcome_in o a inputs budget)) (main_is_scoped p) (by_option (scoped_main p) refl)

  pub ends_only_so : (outcome : Outcome) (steps : ℕ) → TaskEnds code a inputs budget outcome steps → outcome ≡ body p a inputs budget
  ends_only_so outcome steps h = (task_ends_are_one code a inputs budget outcome (body p a inputs budget) steps ends_so.0 h ends_so.1).0
