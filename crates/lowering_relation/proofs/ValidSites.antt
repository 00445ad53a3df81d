-- The sites of a tiled code that stands for a lawful program are valid.
use Rattle.std.proofs.Common.{◌≡◌, ℕ, ◌<◌, ◌≤◌, length, Some, slice_get, refl, sym, ap, ◌∙◌, subst, arith}
use Rattle.std.proofs.lemmas.Option.{slice_get_within}
use Rattle.std.specs.Prelude.{All, IsTrue, slice_index_or}
use Rattle.os_ast.specs.Notes.Programs.{after_items, in_body, file}
use Rattle.os_ast.specs.Trees as tree
use Rattle.os_ast.specs.Names.{Scope}
use Rattle.os_ast.specs.Notes.Statements.{stmts_notes}
use Rattle.os_ast.specs.Violations.{captures, names, captured_by_tasks}
use Rattle.os_code.specs.Effects.{item_of, stands_in}
use Rattle.os_code.specs.IsValid.{HasInstr, HasSites}
use Rattle.os_code.specs.Parts.{UnitKind, Main, Task, Function, kind_at, unit_at, site_at}
use Rattle.os_code.specs.declared.instr.Instr.{Instr}
use Rattle.os_code.specs.declared.instr.Instr.TheVariants as instr
use Rattle.os_code.specs.declared.parts.Parts.{Parts}
use Rattle.os_code.specs.declared.site.Site.{Site}
use Rattle.os_code.specs.declared.site.SiteItem.{SiteItem}
use Rattle.os_code.specs.declared.unit.CodeUnit.{CodeUnit}
use Rattle.lowering_relation.specs.Names.{told_at}
use Rattle.lowering_relation.specs.Programs.{in_main, HasMain, HasTask}
use Rattle.lowering_relation.specs.Tasks.{TaskTree, program_tasks, site_items}
use Rattle.lowering_relation.proofs.AllUnits.{Standing, all_laid, main_at, main_early, main_fit, main_has, counted, TaskPlace, task_place}
use Rattle.lowering_relation.proofs.Homes.{Home, Suits}
use Rattle.lowering_relation.proofs.LaidUnits.{home_of}
use Rattle.lowering_relation.proofs.SitesFit.{IsCaught, caught_at, stmts_caught, ItemFits, TaskFits, AllTasks, task_fits_at, stmts_tasks}
use Rattle.lowering_relation.proofs.Spawned.{items_length}
use Rattle.lowering_relation.proofs.TaskLaws.{get_there}
use Rattle.lowering_relation.proofs.ValidRegions.{stands, found}
use Rattle.window_check_laws.specs.Globals.{IsWithin}
use Rattle.window_check_laws.proofs.Told.{lawful-program}
use Rattle.window_check_laws.proofs.Within.{within-items_of_file}

-- An instruction stands in the kind of unit that is its.
kind_fits : (h : Home) (k : UnitKind) (i : Instr) → h.kind ≡ k → Suits h i → IsTrue (stands_in k i)
kind_fits h Main (instr.Push v) is suits = refl
kind_fits h Main instr.Drop is suits = refl
kind_fits h Main instr.Copy is suits = refl
kind_fits h Main (instr.Load slot) is suits = refl
kind_fits h Main (instr.Store slot) is suits = refl
kind_fits h Main (instr.Zero first count) is suits = refl
kind_fits h Main (instr.CheckAt size line) is suits = refl
kind_fits h Main (instr.LoadAt first size line) is suits = refl
kind_fits h Main (instr.StoreAt first size line) is suits = refl
kind_fits h Main (instr.ItemCheck item line) is suits = let z : Main ≡ Task suits.0 = sym is ∙ suits.1 in absurd (cc)
kind_fits h Main (instr.ItemLoad item line) is suits = let z : Main ≡ Task suits.0 = sym is ∙ suits.1 in absurd (cc)
kind_fits h Main (instr.ItemStore item line) is suits = let z : Main ≡ Task suits.0 = sym is ∙ suits.1 in absurd (cc)
kind_fits h Main (instr.Unary op line) is suits = refl
kind_fits h Main (instr.Binary op line) is suits = refl
kind_fits h Main (instr.Jump to) is suits = refl
kind_fits h Main (instr.JumpZero to) is suits = refl
kind_fits h Main instr.Turn is suits = refl
kind_fits h Main (instr.Call callee) is suits = refl
kind_fits h Main instr.Return is suits = sym (ap (λ k. stands_in k instr.Return) is) ∙ suits
kind_fits h Main instr.End is suits = sym (ap (λ k. stands_in k instr.End) is) ∙ suits
kind_fits h Main (instr.Window slot line) is suits = refl
kind_fits h Main (instr.BurstIn line) is suits = refl
kind_fits h Main (instr.BurstOut slot line) is suits = refl
kind_fits h Main (instr.Spawn number) is suits = refl
kind_fits h Main (instr.Tick stream) is suits = refl
kind_fits h (Task site) (instr.Push v) is suits = refl
kind_fits h (Task site) instr.Drop is suits = refl
kind_fits h (Task site) instr.Copy is suits = refl
kind_fits h (Task site) (instr.Load slot) is suits = refl
kind_fits h (Task site) (instr.Store slot) is suits = refl
kind_fits h (Task site) (instr.Zero first count) is suits = refl
kind_fits h (Task site) (instr.CheckAt size line) is suits = refl
kind_fits h (Task site) (instr.LoadAt first size line) is suits = refl
kind_fits h (Task site) (instr.StoreAt first size line) is suits = refl
kind_fits h (Task site) (instr.ItemCheck item line) is suits = refl
kind_fits h (Task site) (instr.ItemLoad item line) is suits = refl
kind_fits h (Task site) (instr.ItemStore item line) is suits = refl
kind_fits h (Task site) (instr.Unary op line) is suits = refl
kind_fits h (Task site) (instr.Binary op line) is suits = refl
kind_fits h (Task site) (instr.Jump to) is suits = refl
kind_fits h (Task site) (instr.JumpZero to) is suits = refl
kind_fits h (Task site) instr.Turn is suits = refl
kind_fits h (Task site) (instr.Call callee) is suits = refl
kind_fits h (Task site) instr.Return is suits = sym (ap (λ k. stands_in k instr.Return) is) ∙ suits
kind_fits h (Task site) instr.End is suits = sym (ap (λ k. stands_in k instr.End) is) ∙ suits
kind_fits h (Task site) (instr.Window slot line) is suits = let z : Task site ≡ Main = sym is ∙ suits.0 in absurd (cc)
kind_fits h (Task site) (instr.BurstIn line) is suits = let z : Task site ≡ Main = sym is ∙ suits in absurd (cc)
kind_fits h (Task site) (instr.BurstOut slot line) is suits = let z : Task site ≡ Main = sym is ∙ suits.0 in absurd (cc)
kind_fits h (Task site) (instr.Spawn number) is suits = let z : Task site ≡ Main = sym is ∙ suits.0 in absurd (cc)
kind_fits h (Task site) (instr.Tick stream) is suits = let z : Task site ≡ Main = sym is ∙ suits.0 in absurd (cc)
kind_fits h Function (instr.Push v) is suits = refl
kind_fits h Function instr.Drop is suits = refl
kind_fits h Function instr.Copy is suits = refl
kind_fits h Function (instr.Load slot) is suits = refl
kind_fits h Function (instr.Store slot) is suits = refl
kind_fits h Function (instr.Zero first count) is suits = refl
kind_fits h Function (instr.CheckAt size line) is suits = refl
kind_fits h Function (instr.LoadAt first size line) is suits = refl
kind_fits h Function (instr.StoreAt first size line) is suits = refl
kind_fits h Function (instr.ItemCheck item line) is suits = let z : Function ≡ Task suits.0 = sym is ∙ suits.1 in absurd (cc)
kind_fits h Function (instr.ItemLoad item line) is suits = let z : Function ≡ Task suits.0 = sym is ∙ suits.1 in absurd (cc)
kind_fits h Function (instr.ItemStore item line) is suits = let z : Function ≡ Task suits.0 = sym is ∙ suits.1 in absurd (cc)
kind_fits h Function (instr.Unary op line) is suits = refl
kind_fits h Function (instr.Binary op line) is suits = refl
kind_fits h Function (instr.Jump to) is suits = refl
kind_fits h Function (instr.JumpZero to) is suits = refl
kind_fits h Function instr.Turn is suits = refl
kind_fits h Function (instr.Call callee) is suits = refl
kind_fits h Function instr.Return is suits = sym (ap (λ k. stands_in k instr.Return) is) ∙ suits
kind_fits h Function instr.End is suits = sym (ap (λ k. stands_in k instr.End) is) ∙ suits
kind_fits h Function (instr.Window slot line) is suits = let z : Function ≡ Main = sym is ∙ suits.0 in absurd (cc)
kind_fits h Function (instr.BurstIn line) is suits = let z : Function ≡ Main = sym is ∙ suits in absurd (cc)
kind_fits h Function (instr.BurstOut slot line) is suits = let z : Function ≡ Main = sym is ∙ suits.0 in absurd (cc)
kind_fits h Function (instr.Spawn number) is suits = let z : Function ≡ Main = sym is ∙ suits.0 in absurd (cc)
kind_fits h Function (instr.Tick stream) is suits = let z : Function ≡ Main = sym is ∙ suits.0 in absurd (cc)

-- a kind tells its site
same_items : (site other : Site) (item k : ℕ) → Task site ≡ Task other → item ≡ k → item < length other.items → k < length site.items
same_items site other item k same e lt =
    let s : site ≡ other = cc in
    omega (arith, lt, e, ap (λ (x : Site). length x.items) s)

-- the item of an instruction is there
item_there : (h : Home) (site : Site) (i : Instr) (item : ℕ) → h.kind ≡ Task site → Suits h i → item_of i ≡ Some item → item < length site.items
item_there h site (instr.Push v) k kind suits is = absurd (cc)
item_there h site instr.Drop k kind suits is = absurd (cc)
item_there h site instr.Copy k kind suits is = absurd (cc)
item_there h site (instr.Load slot) k kind suits is = absurd (cc)
item_there h site (instr.Store slot) k kind suits is = absurd (cc)
item_there h site (instr.Zero first count) k kind suits is = absurd (cc)
item_there h site (instr.CheckAt size line) k kind suits is = absurd (cc)
item_there h site (instr.LoadAt first size line) k kind suits is = absurd (cc)
item_there h site (instr.StoreAt first size line) k kind suits is = absurd (cc)
item_there h site (instr.ItemCheck item line) k kind suits is = same_items site suits.0 item k (sym kind ∙ suits.1) (let e : item ≡ k = cc in e) suits.2
item_there h site (instr.ItemLoad item line) k kind suits is = same_items site suits.0 item k (sym kind ∙ suits.1) (let e : item ≡ k = cc in e) suits.2
item_there h site (instr.ItemStore item line) k kind suits is = same_items site suits.0 item k (sym kind ∙ suits.1) (let e : item ≡ k = cc in e) suits.2
item_there h site (instr.Unary op line) k kind suits is = absurd (cc)
item_there h site (instr.Binary op line) k kind suits is = absurd (cc)
item_there h site (instr.Jump to) k kind suits is = absurd (cc)
item_there h site (instr.JumpZero to) k kind suits is = absurd (cc)
item_there h site instr.Turn k kind suits is = absurd (cc)
item_there h site (instr.Call callee) k kind suits is = absurd (cc)
item_there h site instr.Return k kind suits is = absurd (cc)
item_there h site instr.End k kind suits is = absurd (cc)
item_there h site (instr.Window slot line) k kind suits is = absurd (cc)
item_there h site (instr.BurstIn line) k kind suits is = absurd (cc)
item_there h site (instr.BurstOut slot line) k kind suits is = absurd (cc)
item_there h site (instr.Spawn number) k kind suits is = absurd (cc)
item_there h site (instr.Tick stream) k kind suits is = absurd (cc)

module _ (p : tree.ProgramTree) (code : Parts) (st : Standing p code) where
  items_there : (number place item : ℕ) (unit : CodeUnit) (i : Instr) (site : Site) → HasInstr code number unit place i → kind_at code number ≡ Task site →
      item_of i ≡ Some item → item < length site.items
  items_there number place item unit i site has kind is =
      let s = stands code (all_laid p code st) number unit place i has in
      item_there (home_of code ((all_laid p code st).laid number unit s.is_unit).body number unit) site i item kind s.fine.suits is

  stores_are_outputs : (number place item line : ℕ) (unit : CodeUnit) (site : Site) (named : SiteItem) →
      HasInstr code number unit place (instr.ItemStore item line) → kind_at code number ≡ Task site →
      slice_get site.items item ≡ Some named → IsTrue named.write
  stores_are_outputs number place item line unit site named has kind is =
      let suits = (stands code (all_laid p code st) number unit place (instr.ItemStore item line) has).fine.suits in
      let twice : Task site ≡ Task suits.0 = sym kind ∙ suits.1 in
      let same : site ≡ suits.0 = cc in
      suits.3 named (ap (λ (x : Site). slice_get x.items item) (sym same) ∙ is)

  kinds_fit : (number place : ℕ) (unit : CodeUnit) (i : Instr) → HasInstr code number unit place i → IsTrue (stands_in (kind_at code number) i)
  kinds_fit number place unit i has =
      let s = stands code (all_laid p code st) number unit place i has in
      kind_fits (home_of code ((all_laid p code st).laid number unit s.is_unit).body number unit) (kind_at code number) i refl s.fine.suits

  abbrev main : HasMain code (told_at (names p)) (program_tasks p) (main_at p code st).number (main_at p code st).function
  main = main_has p code st

  abbrev home : Home
  home = home_of code (in_main (told_at (names p)) (program_tasks p)) (main_at p code st).number main.unit

  -- `main` by its number
  main_is : (unit : CodeUnit) → unit_at code code.main ≡ Some unit → main.unit ≡ unit
  main_is unit is =
      let twice : Some main.unit ≡ Some unit = sym main.is_unit ∙ ap (unit_at code) (sym main.is_main) ∙ is in
      cc

  below : (number : ℕ) (site : Site) → site_at code number ≡ Some site → number < length (program_tasks p)
  below number site is = omega (arith, slice_get_within code.sites number site is, st.has.sites)

  -- a site, with the task that it is of
  record SiteOf (number : ℕ) (site : Site) : Type 0 where
    place : TaskPlace p code st number
    same : place.has.site ≡ site
    caught : IsCaught home site.captured
    task : TaskTree
    fits : TaskFits home task
    items : site.items ≡ site_items (told_at (names p)) task.members

  site_of : (number : ℕ) (site : Site) → site_at code number ≡ Some site → SiteOf number site
  site_of number site is = record {
    place = place;
    same = same;
    caught = subst (IsCaught home) slots
        (caught_at home (captures (stmts_notes body f.body)) number place.slots (stmts_caught home f.body body (main_fit p code st)) place.found);
    task = got.0;
    fits = task_fits_at home (program_tasks p) number got.0 (subst (AllTasks home) (sym (main_at p code st).own_tasks) (stmts_tasks home f.body body (main_fit p code st))) got.1;
    items = ap (λ (x : Site). x.items) also ∙ task.items;
  }
    where
      f : tree.FunctionTree
      f = (main_at p code st).function

      body : Scope
      body = in_body (main_at p code st).at.scope f

      place : TaskPlace p code st number
      place = task_place p code st number (below number site is)

      same : place.has.site ≡ site
      same = let twice : Some place.has.site ≡ Some site = sym place.has.is_site ∙ is in cc

      slots : place.slots ≡ site.captured
      slots = sym place.same_slots ∙ ap (λ (x : Site). x.captured) same

      got : (t : TaskTree) × (slice_get (program_tasks p) number ≡ Some t)
      got = get_there (program_tasks p) number (below number site is)

      task : HasTask code (told_at (names p)) (captured_by_tasks p) number got.0
      task = st.has.tasks number got.0 got.1

      also : site ≡ task.site
      also = let twice : Some site ≡ Some task.site = sym is ∙ task.is_site in cc

  -- what holds of all items
  all_items : (P : SiteItem → Type 0) (number : ℕ) (site : Site) → SiteOf number site → ((item : SiteItem) → ItemFits home item → P item) → All P site.items
  all_items P number site s gives =
      subst (All P) (sym s.items) (λ k d lt. gives (slice_index_or (site_items (told_at (names p)) s.task.members) k d) (s.fits.items k d lt))

  pub sites : HasSites code
  sites = record {
    main_there = omega (arith, main_early p code st, st.tiled.units);
    main_no_task = λ number site is e. omega (arith, st.tiled.task_units number site is, e, main_early p code st);
    main_args = λ unit is. ap (λ (x : CodeUnit). x.args) (sym (main_is unit is)) ∙ main.args;
    tasks_there = λ number site is. omega (arith, st.tiled.task_units number site is, below number site is, st.tiled.units);
    tasks_distinct = λ number other site one is at same. omega (arith, st.tiled.task_units number site is, st.tiled.task_units other one at, same);
    tasks_args = λ number site unit is is_unit. args_of number site unit is is_unit;
    captured_there = λ number site unit is is_main.
        subst (λ (x : CodeUnit). All (λ slot. slot < x.slots) site.captured) (main_is unit is_main) (site_of number site is).caught.below;
    windows_there = λ number site unit is is_main.
        subst (λ (x : CodeUnit). All (λ (item : SiteItem). (slot : ℕ) → item.window ≡ Some slot → slot < x.slots) site.items) (main_is unit is_main)
        (all_items (λ item. (slot : ℕ) → item.window ≡ Some slot → slot < main.unit.slots) number site (site_of number site is) (λ item fits. fits.window));
    items_few = λ number site is. few_items number site (site_of number site is);
    captured_few = λ number site is. (site_of number site is).caught.few;
    items_there = items_there;
    stores_are_outputs = stores_are_outputs;
    spawns_there = λ place number is. (found code (all_laid p code st) place (instr.Spawn number) is).stands.fine.suits.1;
    streams_enough = omega (arith, counted p code st);
    streams_few = omega (arith, counted p code st, within.streams);
    item_streams = λ number site is. all_items (λ item. item.stream < code.streams) number site (site_of number site is) (λ item fits. fits.stream);
    tick_streams = λ place stream is. (found code (all_laid p code st) place (instr.Tick stream) is).stands.fine.suits.1;
    kinds_fit = kinds_fit;
  }
    where
      within : IsWithin (after_items file p)
      within = within-items_of_file file p (record { streams = omega arith; arrays = omega arith }) (lawful-program p st.lawful)

      args_of : (number : ℕ) (site : Site) (unit : CodeUnit) → site_at code number ≡ Some site → unit_at code site.unit ≡ Some unit →
          unit.args ≡ length site.captured
      args_of number site unit is is_unit =
          let s = site_of number site is in
          let twice : Some s.place.has.unit ≡ Some unit = sym s.place.has.is_unit ∙ ap (λ (x : Site). unit_at code x.unit) s.same ∙ is_unit in
          let same : s.place.has.unit ≡ unit = cc in
          ap (λ (x : CodeUnit). x.args) (sym same) ∙ s.place.has.args ∙ ap (λ (x : Site). length x.captured) s.same

      few_items : (number : ℕ) (site : Site) → SiteOf number site → length site.items ≤ 8
      few_items number site s = omega (arith, ap (λ xs. length xs) s.items, items_length (told_at (names p)) s.task.members, s.fits.few)
