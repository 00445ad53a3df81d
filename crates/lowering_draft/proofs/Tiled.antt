-- The units of a program lie one behind another, first those of functions, then those of tasks.
use Rattle.std.proofs.Common.{◌≡◌, ◌∙◌, ℕ, zero, suc, ◌+◌, ◌<◌, ◌≤◌, ◌==◌, ◌^◌, Bool, true, false, List, [], ◌∷◌, ◌++◌, length, length-append, Some, slice_get, ap, subst, sym, refl, arith, inl, inr}
use Rattle.std.proofs.lemmas.Bool.{cases_lt}
use Rattle.std.proofs.lemmas.List.{length-map}
use Rattle.std.proofs.lemmas.Option.{none-some}
use Rattle.std.specs.Prelude.{sum_by}
use Rattle.lowering_draft.proofs.Growing.{function_grows, task_grows}
use Rattle.lowering_draft.proofs.Lists.{slice_get-front}
use Rattle.lowering_draft.specs.Emission.Units.{no_units, parts_made, program_units, with_function, with_functions, with_main, with_plain, with_task, with_tasks}
use Rattle.lowering_draft.specs.declared.units.Units.{Units}
use Rattle.os_ast.specs.Names.{main_id}
use Rattle.os_ast.specs.Trees as tree
use Rattle.os_ast.specs.declared.names.Resolved.{Resolved}
use Rattle.os_code.specs.declared.site.Site.{Site}
use Rattle.os_code.specs.declared.unit.CodeUnit.{CodeUnit}
use Rattle.lowering_relation.specs.Tasks.{TaskTree, program_tasks}
use Rattle.lowering_relation.specs.Tiling.{IsTiled, Tile}
use Rattle.window_check_laws.specs.Globals.{count_functions}

tile_more : (us : List CodeUnit) (from mid : ℕ) (unit : CodeUnit) → Tile from mid us → unit.start ≡ mid → Tile from (mid + unit.stack) (us ++ unit ∷ [])
tile_more [] from mid unit tiles starts = (starts ∙ sym tiles, ap (λ n. n + unit.stack) tiles)
tile_more (u ∷ us) from mid unit tiles starts = (tiles.0, tile_more us (from + u.stack) mid unit tiles.1 starts)

-- the draft of what was made ends where its units end
abbrev Fills : Units → Type 0
Fills made = Tile 0 (length made.draft.instrs) made.units

module _ (tells : ℕ → Resolved) where
  more_fills : (made after : Units) (unit : CodeUnit) → Fills made → unit.start ≡ length made.draft.instrs → after.units ≡ made.units ++ unit ∷ []
      → length made.draft.instrs + unit.stack ≡ length after.draft.instrs → Fills after
  more_fills made after unit fills starts is long =
      subst (λ us. Tile 0 (length after.draft.instrs) us) (sym is)
      (subst (λ n. Tile 0 n (made.units ++ unit ∷ [])) long (tile_more made.units 0 (length made.draft.instrs) unit fills starts))

  function_fills : (is_main : Bool) (f : tree.FunctionTree) (made : Units) → Fills made → Fills (with_function is_main tells f made)
  function_fills true f made fills =
      more_fills made (with_main tells f made) _ fills refl refl (omega (arith, (function_grows tells true f made).draft.no_shorter))
  function_fills false f made fills =
      more_fills made (with_plain tells f made) _ fills refl refl (omega (arith, (function_grows tells false f made).draft.no_shorter))

  functions_fill : (is : List tree.ItemTree) (made : Units) → Fills made → Fills (with_functions tells is made)
  functions_fill [] made fills = fills
  functions_fill (tree.Constant c ∷ is) made fills = functions_fill is made fills
  functions_fill (tree.Function f ∷ is) made fills =
      functions_fill is (with_function (f.name.id == main_id) tells f made) (function_fills (f.name.id == main_id) f made fills)

  tasks_fill : (captured : List (List ℕ)) (ts : List TaskTree) (made : Units) → Fills made → Fills (with_tasks tells captured ts made)
  tasks_fill captured [] made fills = fills
  tasks_fill captured (t ∷ ts) made fills =
      tasks_fill captured ts (with_task tells captured t made)
      (more_fills made (with_task tells captured t made) _ fills refl refl (omega (arith, (task_grows tells captured t made).draft.no_shorter)))

-- how many units there are
function_counts : (is_main : Bool) (tells : ℕ → Resolved) (f : tree.FunctionTree) (made : Units)
    → length (with_function is_main tells f made).units ≡ length made.units + 1
function_counts true tells f made = length-append made.units (_ ∷ [])
function_counts false tells f made = length-append made.units (_ ∷ [])

functions_count : (tells : ℕ → Resolved) (is : List tree.ItemTree) (made : Units)
    → length (with_functions tells is made).units ≡ length made.units + count_functions is
functions_count tells [] made = omega arith
functions_count tells (tree.Constant c ∷ is) made = functions_count tells is made
functions_count tells (tree.Function f ∷ is) made =
    omega (arith, functions_count tells is (with_function (f.name.id == main_id) tells f made), function_counts (f.name.id == main_id) tells f made)

tasks_count : (tells : ℕ → Resolved) (captured : List (List ℕ)) (ts : List TaskTree) (made : Units) →
    length (with_tasks tells captured ts made).units ≡ length made.units + length ts
tasks_count tells captured [] made = omega arith
tasks_count tells captured (t ∷ ts) made =
    let after = with_task tells captured t made in
    let one : length after.units ≡ length made.units + 1 = length-append made.units (_ ∷ []) in
    omega (arith, tasks_count tells captured ts after, one)

-- each site has its unit, counted from a number
record Sited (base : ℕ) (made : Units) : Type 0 where
  next : length made.units ≡ base + length made.sites
  each : (number : ℕ) (site : Site) → slice_get made.sites number ≡ Some site → site.unit ≡ base + number

of_last : {A : Type 0} (xs : List A) (x y : A) (k : ℕ) → length xs ≤ k → slice_get (xs ++ x ∷ []) k ≡ Some y → (k ≡ length xs) × (x ≡ y)
of_last [] x y zero le is = (refl, cc)
of_last [] x y (suc k) le is = absurd (cc)
of_last (z ∷ xs) x y zero le is = absurd (omega (arith, le))
of_last (z ∷ xs) x y (suc k) le is = let more = of_last xs x y k (omega (arith, le)) is in (ap suc more.0, more.1)

tasks_sited : (base : ℕ) (tells : ℕ → Resolved) (captured : List (List ℕ)) (ts : List TaskTree) (made : Units) → Sited base made
    → Sited base (with_tasks tells captured ts made)
tasks_sited base tells captured [] made sited = sited
tasks_sited base tells captured (t ∷ ts) made sited =
    let after = with_task tells captured t made in
    let unit : length after.units ≡ length made.units + 1 = length-append made.units (_ ∷ []) in
    let site : length after.sites ≡ length made.sites + 1 = length-append made.sites (_ ∷ []) in
    tasks_sited base tells captured ts after (record {
      next = omega (arith, sited.next, unit, site);
      each = λ number site is. elim (cases_lt number (length made.sites)) [
        | inl less ↦ sited.each number site (sym (slice_get-front made.sites (_ ∷ []) number less) ∙ is)
        | inr not_less ↦ (let last = of_last made.sites _ site number (omega (arith, not_less)) is in
            sym (ap (λ (s : Site). s.unit) last.1) ∙ omega (arith, sited.next, last.0))
      ];
    })

functions_sited : (tells : ℕ → Resolved) (is : List tree.ItemTree) (made : Units) → made.sites ≡ [] → (with_functions tells is made).sites ≡ []
functions_sited tells [] made none = none
functions_sited tells (tree.Constant c ∷ is) made none = functions_sited tells is made none
functions_sited tells (tree.Function f ∷ is) made none = by_case (f.name.id == main_id) (λ after still. functions_sited tells is after still)
  where
    by_case : (t : Bool) → ((after : Units) → after.sites ≡ [] → (with_functions tells is after).sites ≡ [])
        → (with_functions tells is (with_function t tells f made)).sites ≡ []
    by_case true go = go (with_main tells f made) none
    by_case false go = go (with_plain tells f made) none

-- The units of what is made of a program lie in order, where they are not too long and have few slots.
pub program_tiled : (tells : ℕ → Resolved) (captured : List (List ℕ)) (streams : ℕ) (p : tree.ProgramTree)
    → length (program_units tells captured p).draft.instrs < 2 ^ 32
    → sum_by (λ (unit : CodeUnit). unit.slots) (program_units tells captured p).units ≤ 2097152
    → IsTiled (parts_made streams (program_units tells captured p)) p
program_tiled tells captured streams p short small =
    let made = with_functions tells p no_units in
    let final = program_units tells captured p in
    let long : length (parts_made streams final).instrs ≡ length final.draft.instrs = length-map final.draft.instrs _ in
    let none : made.sites ≡ [] = functions_sited tells p no_units refl in
    let sited : Sited (count_functions p) final =
    tasks_sited (count_functions p) tells captured (program_tasks p) made (record {
      next = omega (arith, functions_count tells p no_units, ap length none);
      each = λ number site is. absurd (none-some site (ap (λ ss. slice_get ss number) (sym none) ∙ is));
    }) in
    record {
      tiles =
          subst (λ n. Tile 0 n final.units) (sym long)
          (tasks_fill tells captured (program_tasks p) made (functions_fill tells p no_units refl));
      units = omega (arith, tasks_count tells captured (program_tasks p) made, functions_count tells p no_units);
      task_units = λ number site is. sited.each number site is;
      short = omega (arith, short, long);
      slots_small = small;
    }
