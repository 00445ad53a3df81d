-- The units of tasks stand for them, with their sites.
use Rattle.lowering_draft.proofs.Framed.{becomes_resolved, framed, last_unit, none_numbered}
use Rattle.std.proofs.Common.{◌≡◌, ◌∙◌, ℕ, zero, suc, ◌+◌, ◌-◌, ◌<◌, ◌≤◌, ◌^◌, List, [], ◌∷◌, length, length-append, get_or, Some, slice_get, ap, subst, sym, refl, arith}
use Rattle.lowering_draft.proofs.Becoming.{back, slice_get-last}
use Rattle.lowering_draft.proofs.Growing.{Grows, site_stays, task_grows, tasks_grow, then_grown}
use Rattle.lowering_draft.proofs.KeptStatements.{stmt_kept}
use Rattle.lowering_draft.proofs.Lawful.{statements_law}
use Rattle.lowering_draft.proofs.SlotsFit.{capped_small, size_small, stmt_small, tasks_weight}
use Rattle.lowering_draft.proofs.TasksInMain.{IsAlone}
use Rattle.lowering_draft.specs.Emission.Statements.{stmt_code}
use Rattle.lowering_draft.specs.Emission.Units.{capped, parts_made, place_in, task_code, with_task, with_tasks}
use Rattle.lowering_draft.specs.Going.{ends}
use Rattle.lowering_draft.specs.declared.units.Units.{Units}
use Rattle.os_ast.specs.declared.names.Owner.TheVariants as owner
use Rattle.os_ast.specs.declared.names.Resolved.{Resolved}
use Rattle.os_code.specs.declared.instr.Instr.TheVariants.{End}
use Rattle.os_code.specs.declared.parts.Parts.{Parts}
use Rattle.os_code.specs.declared.site.Site.{Site}
use Rattle.lowering_relation.specs.Programs.{HasTask, in_main, size_by}
use Rattle.lowering_relation.specs.Statements.{HasStmt}
use Rattle.lowering_relation.specs.Tasks.{TaskTree, site_items, tasks_of}
use Rattle.window_check_laws.specs.Room.{stmt_weight}
use Rattle.window_check_laws.specs.Sums.{stmt_slots}

module _
    (tells : ℕ → Resolved)
    (captured : List (List ℕ))
    (streams : ℕ)
    (final : Units) where
  abbrev code : Parts
  code = parts_made streams final

  abbrev place_of : ℕ → ℕ
  place_of = place_in final.draft.places

  task_stands : (t : TaskTree) (slots : List ℕ) (made : Units) → IsAlone t slots → slice_get captured (length made.sites) ≡ Some slots
      → stmt_weight t.body + 64 < 2 ^ 32
      → Grows (with_task tells captured t made) final → HasTask code tells captured (length made.sites) t
  task_stands t slots made alone there small g =
      let caught = get_or captured (length made.sites) [] in
      let same : caught ≡ slots = got captured (length made.sites) slots there in
      let few : length caught ≤ 64 = subst (λ (xs : List ℕ). length xs ≤ 64) (sym same) alone.few in
      let sum = stmt_slots owner.OfTask (size_by tells) t.body in
      let within = stmt_small owner.OfTask (size_by tells) (size_small tells) t.body in
      let after = with_task tells captured t made in
      let b = in_main tells [] in
      let site : Site = record { unit = length made.units; line = t.mark.line; captured = caught; items = site_items tells t.members } in
      let framing =
      framed code place_of b (stmt_code tells t.body) (tasks_of t.body) (HasStmt code b t.body) (stmt_kept tells t.body)
      (statements_law code place_of b t.body alone.leveled) ends (End ∷ []) refl
      made.draft (none_numbered made.draft.spawned (tasks_of t.body) alone.alone) (back g.draft (becomes_resolved final streams)) in
      record {
        site = site;
        unit = record {
          start = length made.draft.instrs;
          args = length caught;
          slots = capped (length caught + sum);
          stack = length (task_code tells t.body made.draft).instrs - length made.draft.instrs;
        };
        end = framing.end;
        is_site = site_stays g (length made.sites) site (omega (arith, length-append made.sites (site ∷ []))) (slice_get-last made.sites site);
        is_unit = last_unit streams final made after _ refl g;
        line = refl;
        captures = there ∙ ap Some (sym same);
        items = refl;
        body = framing.body;
        falls_off = (framing.falls_off.0, refl);
        fills = omega (arith, (task_grows tells captured t made).draft.no_shorter, framing.falls_off.1);
        args = refl;
        slots = capped_small (length caught + sum) (omega (arith, small, within, few));
      }
    where
      got : (xs : List (List ℕ)) (k : ℕ) (slots : List ℕ) → slice_get xs k ≡ Some slots → get_or xs k [] ≡ slots
      got [] k slots is = absurd (cc)
      got (x ∷ xs) zero slots is = cc
      got (x ∷ xs) (suc k) slots is = got xs k slots is

  pub tasks_stand : (ts : List TaskTree) (made : Units)
      → ((k : ℕ) (t : TaskTree) → slice_get ts k ≡ Some t → (slots : List ℕ) × (slice_get captured (length made.sites + k) ≡ Some slots) × IsAlone t slots)
      → tasks_weight ts + 64 < 2 ^ 32 → Grows (with_tasks tells captured ts made) final
      → (k : ℕ) (t : TaskTree) → slice_get ts k ≡ Some t → HasTask code tells captured (length made.sites + k) t
  tasks_stand [] made fits small g k t is = absurd (cc)
  tasks_stand (u ∷ ts) made fits small g zero t is =
      let same : u ≡ t = cc in
      let fit = fits 0 u refl in
      let none : length made.sites + 0 ≡ length made.sites = omega arith in
      subst (λ v. HasTask code tells captured (length made.sites + 0) v) same
      (subst (λ n. HasTask code tells captured n u) (sym none)
      (task_stands u fit.0 made fit.2 (ap (slice_get captured) (sym none) ∙ fit.1) (omega (arith, small))
      (then_grown (tasks_grow tells captured ts (with_task tells captured u made)) g)))
  tasks_stand (u ∷ ts) made fits small g (suc k) t is =
      let after = with_task tells captured u made in
      let one : length after.sites ≡ length made.sites + 1 = length-append made.sites (_ ∷ []) in
      let shift : (j : ℕ) → length after.sites + j ≡ length made.sites + suc j = λ j. omega (arith, one) in
      subst (λ n. HasTask code tells captured n t) (shift k)
      (tasks_stand ts after
      (λ j v there. subst (λ n. (slots : List ℕ) × (slice_get captured n ≡ Some slots) × IsAlone v slots) (sym (shift j)) (fits (suc j) v there))
      (omega (arith, small)) g k t is)
