-- `main` creates what the control program creates, and ends as it does.
use Rattle.std.proofs.Common.{◌≡◌, ℕ, ◌+◌, ◌-◌, ◌≤◌, ◌==◌, ◌&&◌, ◌||◌, Bool, true, false, if◌then◌else◌, List, [], ◌∷◌, ◌++◌, length, map, replicate, Option, Some, None, slice_get, pos, refl, sym, ap, ◌∙◌, subst, arith, length-append}
use Rattle.std.proofs.lemmas.List.{length-replicate}
use Rattle.std.proofs.lemmas.Option.{slice_get_within}
use Rattle.cddf_meaning.proofs.Scoping.{main_is_scoped}
use Rattle.cddf_meaning.specs.Control.{control_state, control_in, control}
use Rattle.cddf_meaning.specs.File.{File}
use Rattle.cddf_meaning.specs.Functions.{empty_file, with_item}
use Rattle.cddf_meaning.specs.Program.{Main}
use Rattle.cddf_meaning.specs.Run.{run_all}
use Rattle.cddf_meaning.specs.Tasks.{sites_of}
use Rattle.cddf_meaning.specs.Scoped.{scoped_tasks_in_all, scoped_main_at, scoped_main_behind, scoped_main}
use Rattle.cddf_meaning.specs.declared.site.Site.{Site}
use Rattle.flow_core_laws.specs.declared.control.Control.{Control}
use Rattle.flow_core_laws.proofs.Stretches.{slice_get-append_left}
use Rattle.os_ast.specs.declared.rule.Rule.TheVariants as rule
use Rattle.os_ast.specs.Names.{Scope, main_id, osin_id, osout_id, osin_len_id}
use Rattle.os_ast.specs.Notes.Programs.{owner_of, param_list, round_body, after_params, after_item, in_body, items_notes}
use Rattle.os_ast.specs.Notes.Programs as programs
use Rattle.os_ast.specs.Notes.Statements.{after_stmts, stmts_notes}
use Rattle.os_ast.specs.Spelling.{spell}
use Rattle.os_ast.specs.Trees as tree
use Rattle.os_ast.specs.Violations.{violations_of, names, captures, captured_by_tasks, is_int, is_empty, has_main, no_main, violated, violations}
use Rattle.os_ast.specs.Notes.Programs.{program_notes}
use Rattle.os_ast.specs.declared.names.Entity.TheVariants as entity
use Rattle.os_ast.specs.declared.names.Entry.{Entry}
use Rattle.os_ast.specs.declared.names.Owner.TheVariants as owner
use Rattle.os_ast.specs.declared.violation.Violation.{Violation}
use Rattle.os_code.specs.declared.parts.Parts.{Parts}
use Rattle.os_code.specs.Control.{ControlEnds}
use Rattle.os_code.specs.Machine.{frame_slots}
use Rattle.os_code.specs.Parts.{unit_at}
use Rattle.os_code.proofs.Halting.{main_ends_are_one}
use Rattle.lowering_relation.specs.Laws.{CodeStandsFor}
use Rattle.lowering_relation.specs.Names.{told_at}
use Rattle.lowering_relation.specs.Programs.{size_by, HasMain}
use Rattle.lowering_relation.specs.Tasks.{program_tasks}
use Rattle.lowering_relation.proofs.Files.{AtMain, finds_main, nothing_fits}
use Rattle.lowering_relation.proofs.MainEnds.{MainEnds}
use Rattle.lowering_relation.proofs.MainRuns.{Outer, stmts_end}
use Rattle.lowering_relation.proofs.MainSites.{IsNumbered, owns_stmts, all_own_more, site_of}
use Rattle.lowering_relation.proofs.Owning.{OwnsAll}
use Rattle.lowering_relation.proofs.Sizes.{stmts_sizes}
use Rattle.lowering_relation.proofs.Spawns.{IsSite}
use Rattle.lowering_relation.proofs.Steps.{Store, at}
use Rattle.lowering_relation.proofs.TaskLaws.{round_of, main_body}
use Rattle.lowering_relation.proofs.TaskMarks.{Rising, tasks_rise}
use Rattle.lowering_relation.proofs.TaskTexts.{InMain, strip, all_stripped}
use Rattle.window_check_laws.specs.Order.{InOrder}
use Rattle.window_check_laws.specs.Sums.{stmts_slots}
use Rattle.window_check_laws.proofs.Globals.{distinct-program}
use Rattle.window_check_laws.proofs.Ordered.{names_in_order}
use Rattle.window_check_laws.proofs.Summed.{summed-stmts}
use Rattle.window_check_laws.proofs.Told.{tells-program, lawful-program}

-- a lawful program has a function `main` without parameters
none_behind : (xs ys : List Violation) → xs ++ ys ≡ [] → ys ≡ []
none_behind [] ys h = h
none_behind (x ∷ xs) ys h = absurd (cc)

pub main_there : (p : tree.ProgramTree) → violations p ≡ [] → has_main p ≡ true
main_there p h = by_case (has_main p) refl (none_behind (violations_of (program_notes p)) (no_main p) h)
  where
    by_case : (t : Bool) → has_main p ≡ t → no_main p ≡ [] → t ≡ true
    by_case true e k = refl
    by_case false e k = let z : violated (length (spell p)) rule.NoMain 1 ∷ [] ≡ [] = sym (ap (λ t. if t then [] else violated (length (spell p)) rule.NoMain 1 ∷ []) e) ∙ k in absurd (cc)

finds : (is : List tree.ItemTree) (file : File) (s : Scope) → has_main is ≡ true → scoped_main_behind file s is ≡ None → ⊥
finds [] file s h none = absurd (cc)
finds (tree.Constant c ∷ is) file s h none = finds is (with_item file (tree.Constant c)) (after_item s (tree.Constant c)) h none
finds (tree.Function f ∷ is) file s h none =
    by_case (f.name.id == main_id) refl none (λ k q. finds is (with_item file (tree.Function f)) (after_item s (tree.Function f)) k q)
  where
    by_case : (t : Bool) → (f.name.id == main_id) ≡ t → (if t then Some (scoped_main_at file s f) else scoped_main_behind (with_item file (tree.Function f)) (after_item s (tree.Function f)) is) ≡ None →
        (has_main is ≡ true → scoped_main_behind (with_item file (tree.Function f)) (after_item s (tree.Function f)) is ≡ None → ⊥) → ⊥
    by_case true e k next = absurd (cc)
    by_case false e k next = next (sym (ap (λ t. (t && is_int f.ty && is_empty (param_list f.params)) || has_main is) e) ∙ h) k

-- what is round the body of `main`
abbrev pub round_entries : Scope → List Entry
round_entries s =
    record { id = osin_len_id; depth = s.depth + 1; entity = entity.InputLength; unsigned = false }
    ∷ record { id = osout_id; depth = s.depth + 1; entity = entity.Stream 1; unsigned = false }
    ∷ record { id = osin_id; depth = s.depth + 1; entity = entity.Stream 0; unsigned = false }
    ∷ []

module _ (p : tree.ProgramTree) (code : Parts) (input_len budget : ℕ) (stands : CodeStandsFor code p) where
  abbrev Ends : Control → Type 0
  Ends made = (steps : ℕ) × ControlEnds code input_len budget made steps

  by_main : (m : Main) → scoped_main p ≡ Some m → Ends (control_in (Some m) input_len budget)
  by_main m found = (
    e.count,
    record {
      unit = has.unit;
      halt = e.halt;
      last = e.last;
      is_unit = ap (unit_at code) has.is_main ∙ has.is_unit;
      runs = e.runs;
      ends = e.ends;
    },
  )
    where
      order : InOrder (names p)
      order = names_in_order p stands.placed

      at_main : AtMain code (names p) (program_tasks p) programs.file p m
      at_main =
          finds_main code (names p) order (program_tasks p) p empty_file programs.file 0 m stands.leveled.items (λ n args turns. tt) (nothing_fits code (names p) order (program_tasks p)) tt refl
          (lawful-program p stands.lawful) (tells-program p) stands.has.functions found

      has : HasMain code (told_at (names p)) (program_tasks p) at_main.number at_main.function
      has = at_main.has

      f : tree.FunctionTree
      f = at_main.function

      s : Scope
      s = at_main.scope

      body : Scope
      body = in_body s f

      in_main : InMain s.entries body
      in_main = main_body s f at_main.is_named at_main.all

      -- its sites
      sites : List Site
      sites = sites_of m.tasks

      of_main : m.tasks ≡ scoped_tasks_in_all body f.body
      of_main = ap (λ (x : Main). x.tasks) at_main.is

      by_tree : program_tasks p ≡ map strip (scoped_tasks_in_all body f.body)
      by_tree = at_main.own_tasks ∙ sym (all_stripped f.body body)

      slots : List (List ℕ)
      slots = captures (stmts_notes body f.body)

      rising : Rising (program_tasks p)
      rising = tasks_rise p stands.placed

      numbered : OwnsAll (IsNumbered (names p) s.entries (scoped_tasks_in_all body f.body) slots) body f.body
      numbered =
          owns_stmts (names p) s.entries (scoped_tasks_in_all body f.body) slots at_main.leveled body 0 in_main at_main.lawful at_main.tells
          (λ j x is. let z : 0 + j ≡ j = omega arith in ap (slice_get (scoped_tasks_in_all body f.body)) z ∙ is)
          (λ j x is. let z : 0 + j ≡ j = omega arith in ap (slice_get slots) z ∙ is)

      own : OwnsAll (IsSite code (told_at (names p)) (sites_of (scoped_tasks_in_all body f.body)) (program_tasks p)) body f.body
      own =
          all_own_more f.body body
          (λ t mark cs a at. site_of (names p) s.entries (scoped_tasks_in_all body f.body) (program_tasks p) slots by_tree rising.0 rising.1 rising.2 t mark cs a at code (captured_by_tasks p)
          (λ k x is. ap (λ cs. slice_get cs k) at_main.own_captures ∙ slice_get-append_left slots at_main.rest k (slice_get_within slots k x is) ∙ is) stands.has.tasks)
          numbered

      -- where it begins
      m0 : Store
      m0 = record { slots = frame_slots has.unit (pos input_len ∷ []); windows = []; created = []; skips = replicate code.streams 0 }

      bare : param_list f.params ≡ []
      bare = at_main.bare [] (distinct-program p (lawful-program p stands.lawful)) (main_there p stands.lawful)

      own_owner : owner_of f.name.id ≡ owner.OfMain
      own_owner = ap (λ t. if t then owner.OfMain else owner.OfFunction) at_main.is_named

      begins : body ≡ round_of owner.OfMain s
      begins = ap (after_params (programs.in_function s f.name.id)) bare ∙ ap (λ o. round_of o s) own_owner

      no_streams : s.streams ≡ 0
      no_streams = at_main.before

      long : length m0.slots ≡ has.unit.slots
      long =
          let zeros : length (replicate (has.unit.slots - has.unit.args) (pos 0)) ≡ has.unit.slots - has.unit.args = length-replicate (has.unit.slots - has.unit.args) (pos 0) in
          let sum : length (frame_slots has.unit (pos input_len ∷ [])) ≡ length (pos input_len ∷ []) + length (replicate (has.unit.slots - has.unit.args) (pos 0)) =
          length-append (pos input_len ∷ []) (replicate (has.unit.slots - has.unit.args) (pos 0)) in
          omega (arith, zeros, sum, has.args, has.slots)

      some : 2 ≤ code.streams
      some = stands.valid.sites.streams_enough

      Begun : Scope → Type 0
      Begun t = Outer code m.file at_main.falls (names p) order s.entries at_main.fits has.unit.slots sites (program_tasks p) has.end has.falls_off.0 t (round_entries s) (control_state input_len) m0

      begun_at : Begun (round_of owner.OfMain s)
      begun_at =
          let later = code.streams - 2 in
          let enough : code.streams ≡ 2 + later = omega (arith, some) in
          record {
            streams = 2;
            later = later;
            ready = record {
              scope = record { owner = refl; captured = refl; entries = refl; deep = omega arith; arrays = (tt, (tt, (tt, tt))) };
              aligned = (refl, refl, (0, refl, refl), (refl, refl, (refl, omega arith), (refl, refl, (refl, omega arith), tt)));
              kept = (refl, refl, ap (λ n. replicate n 0) enough);
            };
            depth = (let d = at_main.depth in omega (arith, d));
            counted = (let n = no_streams in omega (arith, n));
            all = omega (arith, enough);
            stacked = (0, (refl, omega arith), (0, omega arith, (0, omega arith, tt)));
            long = long;
          }

      begun : Begun body
      begun = subst Begun (sym begins) begun_at

      room : (after_stmts body f.body).slots ≤ has.unit.slots
      room =
          let sum : (after_stmts body f.body).slots ≡ body.slots + stmts_slots body.owner (size_by (told_at (names p))) f.body =
          summed-stmts (size_by (told_at (names p))) body f.body (stmts_sizes (names p) order f.body body at_main.lawful at_main.tells) in
          let size : stmts_slots body.owner (size_by (told_at (names p))) f.body ≡ stmts_slots owner.OfMain (size_by (told_at (names p))) f.body =
          ap (λ (t : Scope). stmts_slots t.owner (size_by (told_at (names p))) f.body) begins in
          let first : body.slots ≡ 1 = ap (λ (t : Scope). t.slots) begins in
          omega (arith, sum, size, first, has.slots)

      few : 2 + (after_stmts body f.body).streams ≤ code.streams
      few = let n = at_main.few in let k = stands.has.counted in omega (arith, n, k)

      e : MainEnds code (at [] has.unit.start [] m0 budget) (run_all (record { file = m.file; is_control = true; sites = sites }) m.body (control_state input_len) budget)
      e =
          subst (λ (x : tree.Stmts). MainEnds code (at [] has.unit.start [] m0 budget) (run_all (record { file = m.file; is_control = true; sites = sites }) x (control_state input_len) budget)) (sym (ap (λ (x : Main). x.body) at_main.is))
          (stmts_end code m.file at_main.falls (names p) order s.entries at_main.fits has.unit.slots sites (program_tasks p) has.end has.falls_off.0 at_main.leveled body (round_entries s) (control_state input_len) m0 has.unit.start has.end budget
          begun room few at_main.lawful at_main.tells
          (subst (λ ts. OwnsAll (IsSite code (told_at (names p)) (sites_of ts) (program_tasks p)) body f.body) (sym of_main) own) has.body)

  by_option : (o : Option Main) → scoped_main p ≡ o → Ends (control_in o input_len budget)
  by_option None is = absurd (finds p empty_file programs.file (main_there p stands.lawful) is)
  by_option (Some m) is = by_main m is

  pub main_ends_so : (steps : ℕ) × ControlEnds code input_len budget (control p input_len budget) steps
  main_ends_so = subst (λ o. Ends (control_in o input_len budget)) (main_is_scoped p) (by_option (scoped_main p) refl)

  pub main_ends_only_so : (made : Control) (steps : ℕ) → ControlEnds code input_len budget made steps → made ≡ control p input_len budget
  main_ends_only_so made steps h = (main_ends_are_one code input_len budget made (control p input_len budget) steps main_ends_so.0 h main_ends_so.1).0
