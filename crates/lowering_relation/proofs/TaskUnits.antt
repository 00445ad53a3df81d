-- The units of tasks are fine.
use Rattle.std.proofs.Common.{◌≡◌, ℕ, suc, ◌+◌, ◌≤◌, true, List, [], ◌∷◌, ◌++◌, length, Option, Some, None, slice_get, refl, sym, ap, ◌∙◌, subst, arith}
use Rattle.std.proofs.lemmas.Option.{slice_get_within}
use Rattle.cddf_meaning.specs.Scoped.{scoped_task_at}
use Rattle.cddf_meaning.specs.Tasks.{Task as MeaningTask}
use Rattle.os_ast.specs.Captured.{Scalar, captured, slots_of}
use Rattle.os_ast.specs.Names.{Scope, lookup, entity_of}
use Rattle.os_ast.specs.Notes.Clauses.{named_entity, item_entity, in_task, captured_in, in_task_body, item_flag}
use Rattle.os_ast.specs.Notes.Kinds.{Note, Used, Sized, Declared, Parameter, Global, Left, Returned, Pragma, Task, Listed}
use Rattle.os_ast.specs.Notes.Statements.{after_stmt, stmt_notes}
use Rattle.os_ast.specs.ClauseMembers.{ClauseMember, Item, Private, members, item_name, is_in, private_ids}
use Rattle.os_ast.specs.Trees as tree
use Rattle.os_ast.specs.declared.names.Direction.{Direction}
use Rattle.os_ast.specs.declared.names.Direction.TheVariants as direction
use Rattle.os_ast.specs.declared.names.Entity.{Entity}
use Rattle.os_ast.specs.declared.names.Entity.TheVariants as entity
use Rattle.os_ast.specs.declared.names.Entry.{Entry}
use Rattle.os_ast.specs.declared.names.Owner.TheVariants as owner
use Rattle.os_ast.specs.declared.names.Resolved.{Resolved}
use Rattle.os_code.specs.Effects.{stands_in}
use Rattle.os_code.specs.Parts as code_parts
use Rattle.os_code.specs.Parts.{Main, kind_at}
use Rattle.os_code.specs.declared.instr.Instr.TheVariants as instr
use Rattle.os_code.specs.declared.parts.Parts.{Parts}
use Rattle.os_code.specs.declared.site.Site.{Site}
use Rattle.os_code.specs.declared.site.SiteItem.{SiteItem}
use Rattle.lowering_relation.specs.Names.{told_at}
use Rattle.lowering_relation.specs.Programs.{size_by, in_main, HasTask}
use Rattle.lowering_relation.specs.Tasks.{tasks_of, site_item, site_items}
use Rattle.lowering_relation.proofs.FunctionUnits.{AllFileMay, all_file_may, all_later}
use Rattle.lowering_relation.proofs.Homes.{Home, HasItem}
use Rattle.lowering_relation.proofs.LaidUnits.{home_of, IsLaid, task_laid}
use Rattle.lowering_relation.proofs.NoTasks.{items_owner}
use Rattle.lowering_relation.proofs.Sizes.{stmt_sizes}
use Rattle.lowering_relation.proofs.Spawned.{none_spawned}
use Rattle.lowering_relation.proofs.TaskContexts.{Besides, made_items, items_entries, items_captured, items_slots, is_in_both, note_besides, or_left, or_right}
use Rattle.lowering_relation.proofs.TaskTexts.{IsOfMain, AllOfMain, TaskAt, strip}
use Rattle.lowering_relation.proofs.TextStmts.{stmt_fits}
use Rattle.lowering_relation.proofs.Texts.{Text, IsWritten, May, AllMay, Catches, Known, In}
use Rattle.window_check_laws.specs.CapturedByUse.{used_slots, slots_named}
use Rattle.window_check_laws.specs.Order.{InOrder}
use Rattle.window_check_laws.specs.Slots.{named_slots}
use Rattle.window_check_laws.specs.Sums.{stmt_slots}
use Rattle.window_check_laws.specs.Told.{AreLawful, Tells}
use Rattle.window_check_laws.proofs.Named.{captured-members}
use Rattle.window_check_laws.proofs.Summed.{summed-stmt}

all_may_both : (h : Home) (es fs : List Entry) → AllMay h owner.OfTask es → AllMay h owner.OfTask fs → AllMay h owner.OfTask (es ++ fs)
all_may_both h [] fs a b = b
all_may_both h (e ∷ es) fs a b = (a.0, all_may_both h es fs a.1 b)

-- what `main` declares may be round a task
main_may : (h : Home) (id : ℕ) (d : Entity) → IsOfMain d → May h owner.OfTask id d
main_may h id (entity.Constant v) is = tt
main_may h id (entity.Function number params) is = absurd is
main_may h id (entity.Scalar slot) is = absurd is
main_may h id (entity.Control slot) is = tt
main_may h id entity.InputLength is = tt
main_may h id (entity.Array first size) is = absurd is
main_may h id (entity.Window slot) is = tt
main_may h id (entity.Stream number) is = tt
main_may h id (entity.Streams first count) is = tt
main_may h id (entity.Element item d) is = absurd is
main_may h id (entity.View item d) is = absurd is

all_main_may : (h : Home) (es : List Entry) → AllOfMain es → AllMay h owner.OfTask es
all_main_may h [] all = tt
all_main_may h (e ∷ es) all = (main_may h e.id e.entity all.0, all_main_may h es all.1)

module _ (h : Home) (site : Site) (kind : h.kind ≡ code_parts.Task site) (tells : ℕ → Resolved) (s : Scope) (depth : ℕ) where
  named_may : (id item : ℕ) (d : Direction) (w : Option tree.JoinTree) (e : Option Entity) → HasItem h item × IsWritten h d item →
      May h owner.OfTask id (named_entity item d w e)
  named_may id item d None e may = may
  named_may id item d (Some j) None may = may
  named_may id item d (Some j) (Some (entity.Constant v)) may = may
  named_may id item d (Some j) (Some (entity.Function number params)) may = may
  named_may id item d (Some j) (Some (entity.Scalar slot)) may = may
  named_may id item d (Some j) (Some (entity.Control slot)) may = may
  named_may id item d (Some j) (Some entity.InputLength) may = may
  named_may id item d (Some j) (Some (entity.Array first size)) may = may
  named_may id item d (Some j) (Some (entity.Window slot)) may = may
  named_may id item d (Some j) (Some (entity.Stream number)) may = may
  named_may id item d (Some j) (Some (entity.Streams first count)) may = may
  named_may id item d (Some j) (Some (entity.Element k x)) may = may
  named_may id item d (Some j) (Some (entity.View k x)) may = may

  written : (d : Direction) (i : tree.ClauseItemTree) (k : ℕ) → slice_get site.items k ≡ Some (site_item tells d i) → IsWritten h d k
  written direction.Reads i k is = tt
  written direction.Writes i k is = (
    site,
    kind,
    slice_get_within site.items k (site_item tells direction.Writes i) is,
    λ named at_k.
        let twice : Some (site_item tells direction.Writes i) ≡ Some named = sym is ∙ at_k in
        let same : site_item tells direction.Writes i ≡ named = cc in
        sym (ap (λ (x : SiteItem). x.write) same),
  )

  -- the items of a task may be named in it
  items_may : (ps : List ClauseMember) (k : ℕ) (es : List Entry) → ((j : ℕ) → slice_get site.items (k + j) ≡ slice_get (site_items tells ps) j) →
      AllMay h owner.OfTask es → AllMay h owner.OfTask (made_items s depth k ps es)
  items_may [] k es rows all = all
  items_may (Private n ∷ ps) k es rows all = items_may ps k es rows all
  items_may (Item d i ∷ ps) k es rows all =
      let e : k + 0 ≡ k = omega arith in
      let is : slice_get site.items k ≡ Some (site_item tells d i) = ap (slice_get site.items) (sym e) ∙ rows 0 in
      items_may ps (suc k) (record { id = (item_name i.stream i.window).id; depth = depth; entity = item_entity s k d i; unsigned = item_flag s i } ∷ es)
      (λ j. let f : suc k + j ≡ k + suc j = omega arith in ap (slice_get site.items) f ∙ rows (suc j))
      (named_may (item_name i.stream i.window).id k d i.window (entity_of (lookup s.entries (item_name i.stream i.window).id)) ((site, kind, slice_get_within site.items k (site_item tells d i) is), written d i k is), all)

-- what is used of `main` is captured
caught : (slots : List ℕ) (n : Note) → Besides slots n → Catches owner.OfTask slots n
caught slots (Used s n u) h = h
caught slots (Sized s n) h = tt
caught slots (Declared s d) h = tt
caught slots (Parameter s n) h = tt
caught slots (Global s n) h = tt
caught slots (Left s m) h = tt
caught slots (Returned s m) h = tt
caught slots (Pragma s m) h = tt
caught slots (Task s m k cs) h = tt
caught slots (Listed before n) h = tt

known_by_slots : (t : Text) → t.owner ≡ owner.OfTask → (ns : List Note) → AreLawful ns → Tells t.names ns →
    ((x : ℕ) → is_in x (used_slots ns) ≡ true → is_in x t.captured ≡ true) → Known t ns
known_by_slots t is [] lawful tells h = tt
known_by_slots t is (n ∷ ns) lawful tells h = (
  (
    lawful.0,
    tells.0,
    subst (λ o. Catches o t.captured n) (sym is)
        (caught t.captured n (note_besides t.captured n (λ x k. h x (is_in_both x (named_slots n) (used_slots ns) ∙ or_left (is_in x (named_slots n)) (is_in x (used_slots ns)) k)))),
  ),
  known_by_slots t is ns lawful.1 tells.1 (λ x k. h x (is_in_both x (named_slots n) (used_slots ns) ∙ or_right (is_in x (named_slots n)) (is_in x (used_slots ns)) k)),
)

module _ (code : Parts) (rs : List Resolved) (ordered : InOrder rs) (file_es : List Entry) (t : MeaningTask) (slots : List ℕ) (there : TaskAt rs file_es t slots) (all_slots : List (List ℕ)) (number before : ℕ)
    (may : AllFileMay code before file_es) (has : HasTask code (told_at rs) all_slots number (strip (scoped_task_at there.scope there.mark there.clauses there.body))) (behind : before ≤ has.site.unit)
    (same_slots : has.site.captured ≡ slots) (kind : kind_at code has.site.unit ≡ code_parts.Task has.site) where
  abbrev ps : List ClauseMember
  ps = members there.clauses

  abbrev cs : List Scalar
  cs = captured there.scope.entries ps there.body

  abbrev around : Scope
  around = in_task there.scope (captured_in there.scope.owner (slots_of cs))

  abbrev inner : Scope
  inner = in_task_body there.scope ps there.body

  abbrev home : Home
  home = home_of code (in_main (told_at rs) []) has.site.unit has.unit

  not_in_main : owner.OfTask ≡ owner.OfMain → home.kind ≡ Main
  not_in_main e = absurd (cc)

  abbrev text : Text
  text = record {
    home = home;
    names = rs;
    ordered = ordered;
    told = refl;
    owner = owner.OfTask;
    captured = slots;
    in_main = not_in_main;
    caught_fit = λ e. omega (arith, ap (λ xs. length xs) same_slots, has.slots);
  }

  round_may : AllMay home owner.OfTask there.scope.entries
  round_may =
      subst (AllMay home owner.OfTask) (sym there.in_main.entries)
      (all_may_both home there.in_main.inner file_es (all_main_may home there.in_main.inner there.in_main.all)
      (all_file_may code (in_main (told_at rs) []) has.site.unit has.unit owner.OfTask file_es (all_later code before has.site.unit file_es behind may)))

  begins : In text inner
  begins = record {
    owner = items_owner ps there.scope around 0;
    captured = items_captured there.scope around ps 0 ∙ ap (λ o. captured_in o (slots_of cs)) there.in_main.owner ∙ sym there.captures;
    may = subst (AllMay home owner.OfTask) (sym (items_entries there.scope around ps 0))
        (items_may home has.site kind (told_at rs) there.scope around.depth ps 0 there.scope.entries
        (λ j. let e : 0 + j ≡ j = omega arith in ap (slice_get has.site.items) e ∙ ap (λ xs. slice_get xs j) has.items) round_may);
  }

  room : (after_stmt inner there.body).slots ≤ has.unit.slots
  room =
      let sum : (after_stmt inner there.body).slots ≡ inner.slots + stmt_slots inner.owner (size_by (told_at rs)) there.body =
      summed-stmt (size_by (told_at rs)) inner there.body (stmt_sizes rs ordered there.body inner there.lawful there.tells) in
      let size : stmt_slots inner.owner (size_by (told_at rs)) there.body ≡ stmt_slots owner.OfTask (size_by (told_at rs)) there.body =
      ap (λ o. stmt_slots o (size_by (told_at rs)) there.body) begins.owner in
      let first : inner.slots ≡ length slots =
      items_slots there.scope around ps 0 ∙ ap (λ o. length (captured_in o (slots_of cs))) there.in_main.owner ∙ ap length (sym there.captures) in
      omega (arith, sum, size, first, ap (λ xs. length xs) same_slots, has.slots)

  known : Known text (stmt_notes inner there.body)
  known =
      known_by_slots text refl (stmt_notes inner there.body) there.lawful there.tells
      (λ x h. ap (is_in x) there.captures ∙ captured-members there.scope ps there.body x ∙ or_right (is_in x (slots_named there.scope.entries (private_ids ps))) (is_in x (used_slots (stmt_notes inner there.body))) h)

  pub task_unit : IsLaid code has.site.unit has.unit
  task_unit =
      task_laid code (in_main (told_at rs) []) has.site.unit has.unit there.body inner has.end refl (ap (λ k. stands_in k instr.End) kind)
      (stmt_fits text there.leveled inner begins (record { slots = room; streams = λ e. absurd (cc) }) known) (none_spawned home refl (tasks_of there.body)) has.body has.falls_off has.fills
      (omega (arith, has.args, has.slots))
