-- The units of functions stand for them, and that of `main`.
use Rattle.lowering_draft.proofs.Framed.{becomes_resolved, framed, last_unit, none_numbered}
use Rattle.lowering_draft.proofs.MainAlone.{NoMain, main_kept, no_main_behind}
use Rattle.std.proofs.Common.{◌≡◌, ◌∙◌, ℕ, suc, ◌+◌, ◌-◌, ◌<◌, ◌==◌, ◌^◌, ◌||◌, Bool, true, false, if◌then◌else◌, List, [], ◌∷◌, length, length-append, None, ap, subst, sym, refl, arith, pos}
use Rattle.lowering_draft.proofs.Becoming.{back}
use Rattle.lowering_draft.proofs.Growing.{Grows, functions_grow, main_grows, plain_grows, then_grown}
use Rattle.lowering_draft.proofs.KeptStatements.{block_kept}
use Rattle.lowering_draft.proofs.Lawful.{blocks_law, spawned_blocks_law}
use Rattle.lowering_draft.proofs.SlotsFit.{capped_small, size_small, stmts_small}
use Rattle.lowering_draft.proofs.Spawning.{instrs_spawned}
use Rattle.lowering_draft.proofs.TasksInMain.{function_other, lawful_body, none_of_all}
use Rattle.lowering_draft.specs.Draft.{next_label, with_label, with_place}
use Rattle.lowering_draft.specs.Emission.Statements.{block_code}
use Rattle.lowering_draft.specs.Emission.Units.{capped, exits_of, function_code, main_code, parts_made, place_in, with_function, with_functions, with_main, with_plain}
use Rattle.lowering_draft.specs.Going.{AreNumbered, ends, returns}
use Rattle.lowering_draft.specs.declared.units.Units.{Units}
use Rattle.os_ast.specs.Leveled.{AreAll, AreStmts, IsItem, cons}
use Rattle.os_ast.specs.Names.{Scope, main_id}
use Rattle.os_ast.specs.Notes.Kinds.{Note}
use Rattle.os_ast.specs.Notes.Programs.{after_item, in_body, item_notes, items_notes, param_list}
use Rattle.os_ast.specs.ClauseMembers.{is_in}
use Rattle.os_ast.specs.Trees as tree
use Rattle.os_ast.specs.declared.names.Owner.TheVariants as owner
use Rattle.os_ast.specs.declared.names.Resolved.{Resolved}
use Rattle.os_code.specs.declared.instr.Instr.TheVariants.{End, Push, Return}
use Rattle.os_code.specs.declared.parts.Parts.{Parts}
use Rattle.lowering_relation.specs.Programs.{HasFunction, HasFunctions, HasMain, HasUnit, in_function, in_main, size_by}
use Rattle.lowering_relation.specs.Statements.{HasStmts}
use Rattle.lowering_relation.specs.Tasks.{TaskTree, all_tasks_of, program_tasks}
use Rattle.window_check_laws.proofs.Told.{lawful-rest}
use Rattle.window_check_laws.specs.Globals.{AreApart}
use Rattle.window_check_laws.specs.Room.{items_weight, stmts_weight}
use Rattle.window_check_laws.specs.Sums.{stmts_slots}
use Rattle.window_check_laws.specs.Told.{AreLawful}

module _
    (tells : ℕ → Resolved)
    (tasks : List TaskTree)
    (streams : ℕ)
    (final : Units) where
  abbrev code : Parts
  code = parts_made streams final

  abbrev place_of : ℕ → ℕ
  place_of = place_in final.draft.places

  function_stands : (f : tree.FunctionTree) (made : Units) → AreStmts f.body → all_tasks_of f.body ≡ []
      → length (param_list f.params) + stmts_weight f.body < 2 ^ 32
      → Grows (with_plain tells f made) final → HasFunction code tells (length made.units) f
  function_stands f made leveled none small g =
      let n = length (param_list f.params) in
      let sum = stmts_slots owner.OfFunction (size_by tells) f.body in
      let within = stmts_small owner.OfFunction (size_by tells) (size_small tells) f.body in
      let b = in_function tells in
      let falls = Push (pos 0) ∷ Return ∷ [] in
      let framing =
      framed code place_of b (block_code tells f.body) (all_tasks_of f.body) (HasStmts code b f.body) (block_kept tells f.body)
      (blocks_law code place_of b f.body leveled) returns falls refl
      made.draft (none_numbered made.draft.spawned (all_tasks_of f.body) none) (back g.draft (becomes_resolved final streams)) in
      record {
        unit = record {
          start = length made.draft.instrs;
          args = n;
          slots = capped (n + sum);
          stack = length (function_code tells f.body made.draft).instrs - length made.draft.instrs;
        };
        end = framing.end;
        last = length (function_code tells f.body made.draft).instrs;
        is_unit = last_unit streams final made (with_plain tells f made) _ refl g;
        body = framing.body;
        falls_off = framing.falls_off;
        fills = omega (arith, (plain_grows tells f made).draft.no_shorter);
        args = refl;
        slots = capped_small (n + sum) (omega (arith, small, within));
      }

  main_stands : (f : tree.FunctionTree) (made : Units) → AreStmts f.body → AreNumbered tasks made.draft.spawned (all_tasks_of f.body)
      → 1 + stmts_weight f.body < 2 ^ 32
      → final.main ≡ length made.units → Grows (with_main tells f made) final → HasMain code tells tasks (length made.units) f
  main_stands f made leveled numbered small is_main g =
      let sum = stmts_slots owner.OfMain (size_by tells) f.body in
      let within = stmts_small owner.OfMain (size_by tells) (size_small tells) f.body in
      let b = in_main tells tasks in
      let framing =
      framed code place_of b (block_code tells f.body) (all_tasks_of f.body) (HasStmts code b f.body) (block_kept tells f.body)
      (blocks_law code place_of b f.body leveled) ends (End ∷ []) refl
      made.draft numbered (back g.draft (becomes_resolved final streams)) in
      record {
        unit = record {
          start = length made.draft.instrs;
          args = 1;
          slots = capped (1 + sum);
          stack = length (main_code tells f.body made.draft).instrs - length made.draft.instrs;
        };
        end = framing.end;
        is_main = is_main;
        is_unit = last_unit streams final made (with_main tells f made) _ refl g;
        body = framing.body;
        falls_off = (framing.falls_off.0, refl);
        fills = omega (arith, (main_grows tells f made).draft.no_shorter, framing.falls_off.1);
        args = refl;
        slots = capped_small (1 + sum) (omega (arith, small, within));
      }

  -- the functions behind `main`
  behind_stand : (is : List tree.ItemTree) (s : Scope) (made : Units) → AreAll IsItem is → AreLawful (items_notes s is) → NoMain is → items_weight is < 2 ^ 32
      → Grows (with_functions tells is made) final → HasFunctions code tells tasks (length made.units) is
  behind_stand [] s made leveled lawful none small g = tt
  behind_stand (tree.Constant c ∷ is) s made (cons _ leveled) lawful none small g =
      let i = tree.Constant c in
      behind_stand is (after_item s i) made leveled (lawful-rest (item_notes s i) (items_notes (after_item s i) is) lawful) none (omega (arith, small)) g
  behind_stand (tree.Function f ∷ is) s made (cons (IsItem.function _ body) leveled) lawful none small g =
      by_case (f.name.id == main_id) none.0 g
      (λ after g. behind_stand is (after_item s (tree.Function f)) after leveled
      (lawful-rest (item_notes s (tree.Function f)) (items_notes (after_item s (tree.Function f)) is) lawful) none.1 (omega (arith, small)) g)
    where
      rest : List Note
      rest = items_notes (after_item s (tree.Function f)) is

      by_case : (t : Bool) → t ≡ false → Grows (with_functions tells is (with_function t tells f made)) final →
          ((after : Units) → Grows (with_functions tells is after) final → HasFunctions code tells tasks (length after.units) is) →
          HasUnit t code tells tasks (length made.units) f × HasFunctions code tells tasks (suc (length made.units)) is
      by_case true e g go = absurd (cc)
      by_case false e g go =
          let after = with_plain tells f made in
          let one : length after.units ≡ suc (length made.units) = length-append made.units (_ ∷ []) ∙ omega arith in (
            function_stands f made body (none_of_all f.body (in_body s f) (function_other s f none.0) (lawful_body s f rest lawful)) (omega (arith, small))
                (then_grown (functions_grow tells is after) g),
            subst (λ n. HasFunctions code tells tasks n is) one (go after g),
          )

  -- all functions: none before `main` spawns a task
  pub functions_stand : (is : List tree.ItemTree) (before : List ℕ) (s : Scope) (made : Units) → AreAll IsItem is → AreLawful (items_notes s is)
      → AreApart before is → items_weight is < 2 ^ 32
      → made.draft.spawned ≡ 0 → (program_tasks is ≡ tasks) → AreNumbered tasks 0 tasks → final.main ≡ (with_functions tells is made).main
      → Grows (with_functions tells is made) final → HasFunctions code tells tasks (length made.units) is
  functions_stand [] before s made leveled lawful apart small start own numbered is_main g = tt
  functions_stand (tree.Constant c ∷ is) before s made (cons _ leveled) lawful apart small start own numbered is_main g =
      let i = tree.Constant c in
      functions_stand is (c.name.id ∷ before) (after_item s i) made leveled (lawful-rest (item_notes s i) (items_notes (after_item s i) is) lawful)
      apart.1 (omega (arith, small)) start own numbered is_main g
  functions_stand (tree.Function f ∷ is) before s made (cons (IsItem.function _ body) leveled) lawful apart small start own numbered is_main g =
      by_case (f.name.id == main_id) refl own is_main g
      (λ after still own is_main g.
      functions_stand is (f.name.id ∷ before) (after_item s (tree.Function f)) after leveled
      (lawful-rest (item_notes s (tree.Function f)) (items_notes (after_item s (tree.Function f)) is) lawful) apart.1 (omega (arith, small)) still own
      numbered is_main g)
    where
      rest : List Note
      rest = items_notes (after_item s (tree.Function f)) is

      later : AreLawful rest
      later = lawful-rest (item_notes s (tree.Function f)) rest lawful

      by_case : (t : Bool) → (f.name.id == main_id) ≡ t → (if t then all_tasks_of f.body else program_tasks is) ≡ tasks
          → final.main ≡ (with_functions tells is (with_function t tells f made)).main →
          Grows (with_functions tells is (with_function t tells f made)) final →
          ((after : Units) → after.draft.spawned ≡ 0 → program_tasks is ≡ tasks → final.main ≡ (with_functions tells is after).main
          → Grows (with_functions tells is after) final →
          HasFunctions code tells tasks (length after.units) is) →
          HasUnit t code tells tasks (length made.units) f × HasFunctions code tells tasks (suc (length made.units)) is
      by_case true e own is_main g go =
          let after = with_main tells f made in
          let one : length after.units ≡ suc (length made.units) = length-append made.units (_ ∷ []) ∙ omega arith in
          let alone : NoMain is = no_main_behind (f.name.id ∷ before) is (ap (λ t. t || is_in main_id before) e) apart.1 in
          let ours : AreNumbered tasks made.draft.spawned (all_tasks_of f.body) =
          subst (λ ts. AreNumbered tasks made.draft.spawned ts) (sym own) (subst (λ n. AreNumbered tasks n tasks) (sym start) numbered) in (
            main_stands f made body ours (omega (arith, small)) (is_main ∙ main_kept tells is after alone) (then_grown (functions_grow tells is after) g),
            subst (λ n. HasFunctions code tells tasks n is) one
                (behind_stand is (after_item s (tree.Function f)) after leveled later alone (omega (arith, small)) g),
          )
      by_case false e own is_main g go =
          let after = with_plain tells f made in
          let one : length after.units ≡ suc (length made.units) = length-append made.units (_ ∷ []) ∙ omega arith in
          let none : all_tasks_of f.body ≡ [] = none_of_all f.body (in_body s f) (function_other s f e) (lawful_body s f rest lawful) in
          let still : after.draft.spawned ≡ 0 =
          instrs_spawned (Push (pos 0) ∷ Return ∷ [])
          (with_place (block_code tells f.body (exits_of (next_label made.draft) Return) None (with_label made.draft)) (next_label made.draft))
          ∙ spawned_blocks_law tells f.body (exits_of (next_label made.draft) Return) None (with_label made.draft)
          ∙ omega (arith, start, ap length none) in (
            function_stands f made body none (omega (arith, small)) (then_grown (functions_grow tells is after) g),
            subst (λ n. HasFunctions code tells tasks n is) one (go after still own is_main g),
          )
