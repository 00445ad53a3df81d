-- The units of a lawful program have few slots in all.
use Rattle.std.proofs.Common.{◌≡◌, ◌∙◌, ℕ, zero, suc, ◌+◌, ◌≤◌, ◌==◌, Bool, true, false, List, [], ◌∷◌, ◌++◌, drop, length, length-append, get_or, ap, refl, arith}
use Rattle.std.specs.Prelude.{sum_by}
use Rattle.std.proofs.lemmas.List.{length-map}
use Rattle.std.proofs.lemmas.List.Sums.{sum_by-append}
use Rattle.lowering_draft.proofs.CaughtSlots.{items_use, total}
use Rattle.lowering_draft.proofs.Paid.{bodies, function_slots, functions_slots, items_paid, size}
use Rattle.lowering_draft.specs.Emission.Units.{capped, no_units, program_units, with_function, with_functions, with_main, with_plain, with_task, with_tasks}
use Rattle.lowering_draft.specs.declared.units.Units.{Units}
use Rattle.os_ast.specs.Marks.{HasPlaces}
use Rattle.os_ast.specs.Names.{main_id}
use Rattle.os_ast.specs.Notes.Programs.{file, param_list}
use Rattle.os_ast.specs.Spelling.{kind_of, symbols, spell}
use Rattle.os_ast.specs.Trees as tree
use Rattle.os_ast.specs.Violations.{captured_by_tasks, names, violations}
use Rattle.os_ast.specs.declared.names.Owner.TheVariants as owner
use Rattle.os_ast.specs.declared.names.Resolved.{Resolved}
use Rattle.os_code.specs.declared.unit.CodeUnit.{CodeUnit}
use Rattle.lowering_relation.specs.Names.{told_at}
use Rattle.lowering_relation.specs.Tasks.{TaskTree, program_tasks}
use Rattle.window_check_laws.proofs.NameCounts.{names_few}
use Rattle.window_check_laws.proofs.Ordered.{names_in_order}
use Rattle.window_check_laws.proofs.Told.{lawful-program, tells-program}
use Rattle.window_check_laws.proofs.Weights.{functions_few, room}
use Rattle.window_check_laws.proofs.Within.{within-items_of_file}
use Rattle.window_check_laws.specs.Order.{InOrder}
use Rattle.window_check_laws.specs.Sums.{stmt_slots, stmts_slots}

abbrev pub slots_in : List CodeUnit → ℕ
slots_in units = sum_by (λ (unit : CodeUnit). unit.slots) units

-- one unit more
slots_more : (units : List CodeUnit) (unit : CodeUnit) → slots_in (units ++ unit ∷ []) ≡ slots_in units + unit.slots
slots_more units unit = sum_by-append (λ (u : CodeUnit). u.slots) units (unit ∷ []) ∙ omega arith

-- the first of some lists, from a number on
total-drop : (xs : List (List ℕ)) (n : ℕ) → total (drop n xs) ≡ length (get_or xs n []) + total (drop (suc n) xs)
total-drop [] zero = omega arith
total-drop [] (suc n) = omega arith
total-drop (x ∷ xs) zero = omega arith
total-drop (x ∷ xs) (suc n) = total-drop xs n

module _ (rs : List Resolved) (ordered : InOrder rs) where
  functions_sum : (is : List tree.ItemTree) (made : Units)
      → slots_in (with_functions (told_at rs) is made).units ≤ slots_in made.units + functions_slots rs ordered is
  functions_sum [] made = omega arith
  functions_sum (tree.Constant c ∷ is) made = functions_sum is made
  functions_sum (tree.Function f ∷ is) made = by_case (f.name.id == main_id) (λ after. functions_sum is after)
    where
      by_case : (t : Bool) → ((after : Units) → slots_in (with_functions (told_at rs) is after).units ≤ slots_in after.units + functions_slots rs ordered is)
          → slots_in (with_functions (told_at rs) is (with_function t (told_at rs) f made)).units
          ≤ slots_in made.units + (function_slots rs ordered t f + functions_slots rs ordered is)
      by_case true go =
          let more : slots_in (with_main (told_at rs) f made).units ≡ slots_in made.units + capped
          (1 + stmts_slots owner.OfMain (size rs ordered) f.body) = slots_more made.units _ in
          omega (arith, go (with_main (told_at rs) f made), more)
      by_case false go =
          let n = length (param_list f.params) in
          let more : slots_in (with_plain (told_at rs) f made).units ≡ slots_in made.units + capped
          (n + stmts_slots owner.OfFunction (size rs ordered) f.body) = slots_more made.units _ in
          omega (arith, go (with_plain (told_at rs) f made), more)

  tasks_sum : (captured : List (List ℕ)) (ts : List TaskTree) (made : Units) →
      slots_in (with_tasks (told_at rs) captured ts made).units ≤ slots_in made.units + total (drop (length made.sites) captured) + bodies rs ordered ts
  tasks_sum captured [] made = omega arith
  tasks_sum captured (t ∷ ts) made =
      let after = with_task (told_at rs) captured t made in
      let one : length after.sites ≡ suc (length made.sites) = length-append made.sites (_ ∷ []) ∙ omega arith in
      let more : slots_in after.units ≡ slots_in made.units + capped
      (length (get_or captured (length made.sites) []) + stmt_slots owner.OfTask (size rs ordered) t.body) =
      slots_more made.units _ in
      omega (
        arith,
        tasks_sum captured ts after,
        more,
        total-drop captured (length made.sites),
        ap (λ n. total (drop n captured)) one,
      )

-- The units of what is made of a lawful program have no more slots than a machine may have.
pub program_slots : (p : tree.ProgramTree) → HasPlaces p → violations p ≡ [] → length (spell p) ≤ 262144
    → slots_in (program_units (told_at (names p)) (captured_by_tasks p) p).units ≤ 2097152
program_slots p places none few =
    let rs = names p in
    let ordered = names_in_order p places in
    let lawful = lawful-program p none in
    let captured = captured_by_tasks p in
    let made = with_functions (told_at rs) p no_units in
    omega (
      arith,
      functions_sum rs ordered p no_units,
      tasks_sum rs ordered captured (program_tasks p) made,
      total_left captured (length made.sites),
      items_paid rs ordered p file lawful (tells-program p),
      items_use p file refl (room p few),
      names_few p places lawful,
      functions_few p,
      length-map (symbols p) kind_of,
      (within-items_of_file file p (record { streams = omega arith; arrays = omega arith }) lawful).arrays,
      few,
    )
  where
    total_left : (xs : List (List ℕ)) (n : ℕ) → total (drop n xs) ≤ total xs
    total_left [] zero = omega arith
    total_left [] (suc n) = omega arith
    total_left (x ∷ xs) zero = omega arith
    total_left (x ∷ xs) (suc n) = omega (arith, total_left xs n)
