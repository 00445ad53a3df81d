-- Each task of `main` has its site.
use Rattle.std.proofs.Common.{◌≡◌, ℕ, suc, ◌+◌, List, [], ◌∷◌, ◌++◌, length, map, Some, slice_get, refl, sym, ap, ◌∙◌, subst, arith}
use Rattle.std.proofs.lemmas.Option.{slice_get-map, slice_get_within}
use Rattle.std.specs.Option.{option_map}
use Rattle.cddf_meaning.specs.Streams.{task_number, captured_by}
use Rattle.cddf_meaning.specs.Tasks.{Task as MeaningTask, ids as ids_of, sites_of}
use Rattle.cddf_meaning.specs.Scoped.{scoped_name, scoped_task_at, scoped_tasks_in, scoped_tasks_in_all}
use Rattle.cddf_meaning.specs.declared.site.Site.{Site as MeaningSite}
use Rattle.flow_core_laws.proofs.Stretches.{slice_get-append_left, slice_get-append_right}
use Rattle.os_ast.specs.Captured.{Scalar, captured, slots_of}
use Rattle.os_ast.specs.Leveled.{IsStmt, AreStmts}
use Rattle.os_ast.specs.Names.{Scope, enter, in_loop, typed}
use Rattle.os_ast.specs.Notes.Clauses.{in_task, captured_in, in_task_body, members_notes, clauses_notes}
use Rattle.os_ast.specs.Notes.Declarators.{after_declarators, declarators_notes, after_start, start_notes}
use Rattle.os_ast.specs.Notes.Expressions.{expr_notes, value_notes, step_notes}
use Rattle.os_ast.specs.Notes.Kinds.{Note, Task}
use Rattle.os_ast.specs.Notes.Statements.{after_stmt, stmt_notes, stmts_notes}
use Rattle.os_ast.specs.ClauseMembers.{members, count_items}
use Rattle.os_ast.specs.Trees as tree
use Rattle.os_ast.specs.Violations.{main_task, captures}
use Rattle.os_ast.specs.declared.expr.Mark.{Mark}
use Rattle.os_ast.specs.declared.names.Entry.{Entry}
use Rattle.os_ast.specs.declared.names.Owner.TheVariants as owner
use Rattle.os_ast.specs.declared.names.Resolved.{Resolved}
use Rattle.os_code.specs.declared.parts.Parts.{Parts}
use Rattle.lowering_relation.specs.Names.{told_at}
use Rattle.lowering_relation.specs.Programs.{HasTask}
use Rattle.lowering_relation.specs.Tasks.{TaskTree}
use Rattle.lowering_relation.proofs.NoTasks.{captures_both, none_both, none_expr, none_value, none_step, none_parts, none_declarators, none_start, none_stmt, items_owner}
use Rattle.lowering_relation.proofs.Owning.{OfTask, Owns, OwnsAll}
use Rattle.lowering_relation.proofs.Spawns.{IsSite}
use Rattle.lowering_relation.proofs.TaskMarks.{Rises, got, position_is, rises_mapped, rises_unmapped}
use Rattle.lowering_relation.proofs.TaskTexts.{InMain, Match, declarators_main, start_main, stmt_main, same_main, match_stmt, strip, typed_main}
use Rattle.window_check_laws.specs.Told.{Tells, AreLawful}
use Rattle.window_check_laws.proofs.Told.{tells-first, tells-rest, lawful-first, lawful-rest}

-- a list stands in another one from a place on
abbrev pub Stretch : {A : Type 0} → List A → ℕ → List A → Type 0
Stretch {A = A} whole k xs = (j : ℕ) (x : A) → slice_get xs j ≡ Some x → slice_get whole (k + j) ≡ Some x

first_stretch : {A : Type 0} (whole : List A) (k : ℕ) (xs ys : List A) → Stretch whole k (xs ++ ys) → Stretch whole k xs
first_stretch whole k xs ys h j x is = h j x (slice_get-append_left xs ys j (slice_get_within xs j x is) ∙ is)

rest_stretch : {A : Type 0} (whole : List A) (k : ℕ) (xs ys : List A) → Stretch whole k (xs ++ ys) → Stretch whole (k + length xs) ys
rest_stretch whole k xs ys h j x is =
    let e : k + (length xs + j) ≡ k + length xs + j = omega arith in
    subst (λ n. slice_get whole n ≡ Some x) e (h (length xs + j) x (slice_get-append_right xs ys j ∙ is))

module _ (rs : List Resolved) (file : List Entry) (tasks : List MeaningTask) (slots : List (List ℕ)) where
  matched_lengths : (ts : List MeaningTask) (xs : List (List ℕ)) → Match rs file ts xs → length ts ≡ length xs
  matched_lengths [] [] h = refl
  matched_lengths [] (x ∷ xs) h = elim h [ ]
  matched_lengths (t ∷ ts) [] h = elim h [ ]
  matched_lengths (t ∷ ts) (x ∷ xs) h = ap suc (matched_lengths ts xs h.1)

  -- a task, and the slots of what it captures, have one number
  pub record IsNumbered (s : Scope) (mark : Mark) (cs : List tree.ClauseTree) (a : tree.StmtTree) : Type 0 where
    pub number : ℕ
    pub is : slice_get tasks number ≡ Some (scoped_task_at s mark cs a)
    pub captures : slice_get slots number ≡ Some (slots_of (captured s.entries (members cs) a))

  by_captures : (k : ℕ) (xs ys : List Note) → captures xs ≡ [] → Stretch slots k (captures (xs ++ ys)) → Stretch slots k (captures ys)
  by_captures k xs ys none h = subst (Stretch slots k) (captures_both xs ys ∙ ap (λ cs. cs ++ captures ys) none) h

  mutual
    pub owns_stmt : {a : tree.StmtTree} → IsStmt a → (s : Scope) (k : ℕ) → InMain file s → AreLawful (stmt_notes s a) → Tells rs (stmt_notes s a) → Stretch tasks k (scoped_tasks_in s a) → Stretch slots k (captures (stmt_notes s a)) →
        Owns IsNumbered s a
    owns_stmt IsStmt.empty s k h lawful tells x y = tt
    owns_stmt (IsStmt.block is) s k h lawful tells x y = owns_stmts is (enter s) k (same_main rs file s (enter s) h refl refl refl) lawful tells x y
    owns_stmt (IsStmt.change _) s k h lawful tells x y = tt
    owns_stmt (IsStmt.call _) s k h lawful tells x y = tt
    owns_stmt (IsStmt.if_alone {c = c} {a = a} _ is) s k h lawful tells x y =
        owns_stmt is s k h (lawful-rest (expr_notes s c) (stmt_notes s a) lawful) (tells-rest rs (expr_notes s c) (stmt_notes s a) tells) x (by_captures k (expr_notes s c) (stmt_notes s a) (none_expr c s) y)
    owns_stmt (IsStmt.if_else {c = c} {a = a} {b = b} _ is _ is2) s k h lawful tells x y =
        let front = expr_notes s c ++ stmt_notes s a in
        let last = stmt_notes (after_stmt s a) b in
        let lawful1 = lawful-rest (expr_notes s c) (stmt_notes s a) (lawful-first front last lawful) in
        let tells1 = tells-rest rs (expr_notes s c) (stmt_notes s a) (tells-first rs front last tells) in
        let z : Stretch slots k (captures (stmt_notes s a) ++ captures last) =
        subst (Stretch slots k) (captures_both front last ∙ ap (λ cs. cs ++ captures last) (captures_both (expr_notes s c) (stmt_notes s a) ∙ ap (λ cs. cs ++ captures (stmt_notes s a)) (none_expr c s))) y in
        let n = matched_lengths (scoped_tasks_in s a) (captures (stmt_notes s a)) (match_stmt rs file is s h lawful1 tells1) in (
          owns_stmt is s k h lawful1 tells1 (first_stretch tasks k (scoped_tasks_in s a) (scoped_tasks_in (after_stmt s a) b) x) (first_stretch slots k (captures (stmt_notes s a)) (captures last) z),
          owns_stmt is2 (after_stmt s a) (k + length (scoped_tasks_in s a)) (stmt_main rs file is s h) (lawful-rest front last lawful) (tells-rest rs front last tells) (rest_stretch tasks k (scoped_tasks_in s a) (scoped_tasks_in (after_stmt s a) b) x)
              (subst (λ j. Stretch slots (k + j) (captures last)) (sym n) (rest_stretch slots k (captures (stmt_notes s a)) (captures last) z)),
        )
    owns_stmt (IsStmt.while {c = c} {s = a} _ is) s k h lawful tells x y =
        let last = stmt_notes (in_loop s) a in
        owns_stmt is (in_loop s) k (same_main rs file s (in_loop s) h refl refl refl) (lawful-rest (expr_notes s c) last lawful) (tells-rest rs (expr_notes s c) last tells) x (by_captures k (expr_notes s c) last (none_expr c s) y)
    owns_stmt (IsStmt.for {start = start} {test = test} {step = step} {s = a} _ _ _ is) s k h lawful tells x y =
        let head = after_start (enter s) start in
        let first = start_notes (enter s) start in
        let front = first ++ value_notes head test ++ step_notes head step in
        let last = stmt_notes (in_loop head) a in
        let m = start_main rs file start (enter s) (same_main rs file s (enter s) h refl refl refl) in
        owns_stmt is (in_loop head) k (same_main rs file head (in_loop head) m refl refl refl) (lawful-rest front last lawful) (tells-rest rs front last tells) x
        (by_captures k front last (none_both (first ++ value_notes head test) (step_notes head step) (none_both first (value_notes head test) (none_start start (enter s)) (none_value test head)) (none_step step head)) y)
    owns_stmt IsStmt.break s k h lawful tells x y = tt
    owns_stmt IsStmt.continue s k h lawful tells x y = tt
    owns_stmt (IsStmt.return _) s k h lawful tells x y = tt
    owns_stmt (IsStmt.task {m = mark} {cs = cs} {s = a} _ is) s k h lawful tells x y =
        let inner = in_task_body s (members cs) a in
        let front = clauses_notes s mark (members cs) a in
        let last = stmt_notes inner a in
        let note = Task s mark (count_items (members cs)) (captured s.entries (members cs) a) ∷ [] in
        let own_slots = slots_of (captured s.entries (members cs) a) in
        let own : inner.owner ≡ owner.OfTask = items_owner (members cs) s (in_task s (captured_in s.owner own_slots)) 0 in
        let e : captures (front ++ last) ≡ own_slots ∷ [] =
        captures_both front last ∙ ap (λ cs. captures front ++ cs) (none_stmt a inner (λ e. let z : owner.OfTask ≡ owner.OfMain = sym own ∙ e in absurd (cc))) ∙ ap (λ cs. cs ++ []) (captures_both (members_notes s [] (members cs)) note ∙ ap (λ cs. cs ++ captures note) (none_parts (members cs) s []) ∙ ap (λ o. main_task o own_slots ++ []) h.owner) in
        let at_k : k + 0 ≡ k = omega arith in
        record {
          number = k;
          is = sym (ap (slice_get tasks) at_k) ∙ x 0 (scoped_task_at s mark cs a) refl;
          captures = sym (ap (slice_get slots) at_k) ∙ subst (Stretch slots k) e y 0 own_slots refl;
        }
    owns_stmt (IsStmt.tick _ _) s k h lawful tells x y = tt
    owns_stmt IsStmt.taskwait s k h lawful tells x y = tt

    pub owns_stmts : {ss : tree.Stmts} → AreStmts ss → (s : Scope) (k : ℕ) → InMain file s → AreLawful (stmts_notes s ss) → Tells rs (stmts_notes s ss) → Stretch tasks k (scoped_tasks_in_all s ss) → Stretch slots k (captures (stmts_notes s ss)) →
        OwnsAll IsNumbered s ss
    owns_stmts AreStmts.no_stmts s k h lawful tells x y = tt
    owns_stmts (AreStmts.declare {t = ty} {ds = ds} {ss = ss} _ rest) s0 k known lawful tells x y =
        let s = typed ty s0 in
        let h = typed_main rs file ty s0 known in
        let first = declarators_notes s ds in
        let s1 = after_declarators s ds in
        let last = stmts_notes s1 ss in
        (tt, owns_stmts rest s1 k (declarators_main rs file ds s h) (lawful-rest first last lawful) (tells-rest rs first last tells) x (by_captures k first last (none_declarators ds s) y))
    owns_stmts (AreStmts.stmt {s = a} {ss = ss} is rest) s k h lawful tells x y =
        let s1 = after_stmt s a in
        let first = stmt_notes s a in
        let last = stmts_notes s1 ss in
        let lawful1 = lawful-first first last lawful in
        let tells1 = tells-first rs first last tells in
        let z : Stretch slots k (captures first ++ captures last) = subst (Stretch slots k) (captures_both first last) y in
        let n = matched_lengths (scoped_tasks_in s a) (captures first) (match_stmt rs file is s h lawful1 tells1) in (
          owns_stmt is s k h lawful1 tells1 (first_stretch tasks k (scoped_tasks_in s a) (scoped_tasks_in_all s1 ss) x) (first_stretch slots k (captures first) (captures last) z),
          owns_stmts rest s1 (k + length (scoped_tasks_in s a)) (stmt_main rs file is s h) (lawful-rest first last lawful) (tells-rest rs first last tells) (rest_stretch tasks k (scoped_tasks_in s a) (scoped_tasks_in_all s1 ss) x)
              (subst (λ j. Stretch slots (k + j) (captures last)) (sym n) (rest_stretch slots k (captures first) (captures last) z)),
        )

-- what is known of each task may be put otherwise
mutual
  pub owns_more : {known other : OfTask} (a : tree.StmtTree) (s : Scope) → ((s : Scope) (m : Mark) (cs : List tree.ClauseTree) (b : tree.StmtTree) → known s m cs b → other s m cs b) → Owns known s a → Owns other s a
  owns_more tree.StmtTree.Empty s f h = tt
  owns_more (tree.Block ss) s f h = all_own_more ss (enter s) f h
  owns_more (tree.StmtTree.Declare ty ds) s f h = tt
  owns_more (tree.StmtTree.Change c) s f h = tt
  owns_more (tree.StmtTree.Call g args) s f h = tt
  owns_more (tree.If c a) s f h = owns_more a s f h
  owns_more (tree.IfElse c a b) s f h = (owns_more a s f h.0, owns_more b (after_stmt s a) f h.1)
  owns_more (tree.While c a) s f h = owns_more a (in_loop s) f h
  owns_more (tree.For start test step a) s f h = owns_more a (in_loop (after_start (enter s) start)) f h
  owns_more (tree.Break m) s f h = tt
  owns_more (tree.Continue m) s f h = tt
  owns_more (tree.Return m e) s f h = tt
  owns_more (tree.Task m cs a) s f h = f s m cs a h
  owns_more (tree.Tick m t arrow e) s f h = tt
  owns_more (tree.Taskwait m) s f h = tt

  pub all_own_more : {known other : OfTask} (ss : tree.Stmts) (s : Scope) → ((s : Scope) (m : Mark) (cs : List tree.ClauseTree) (b : tree.StmtTree) → known s m cs b → other s m cs b) → OwnsAll known s ss → OwnsAll other s ss
  all_own_more tree.no_stmts s f h = tt
  all_own_more (tree.stmt a rest) s f h = (owns_more a s f h.0, all_own_more rest (after_stmt s a) f h.1)

-- names without their types
ids_kept : (es : List Entry) (xs : List ℕ) → ids_of (map (scoped_name es) xs) ≡ xs
ids_kept es [] = refl
ids_kept es (x ∷ xs) = ap (λ ys. x ∷ ys) (ids_kept es xs)

-- a task by its place and by its number
module _ (rs : List Resolved) (file : List Entry) (tasks : List MeaningTask) (trees : List TaskTree) (slots : List (List ℕ)) (stripped : trees ≡ map strip tasks) (lo hi : ℕ) (rises : Rises (λ (t : TaskTree). t.mark.place) lo trees hi)
    (s : Scope) (m : Mark) (cs : List tree.ClauseTree) (a : tree.StmtTree) (at : IsNumbered rs file tasks slots s m cs a) where
  abbrev t : MeaningTask
  t = scoped_task_at s m cs a

  abbrev ids : List ℕ
  ids = map (λ (x : Scalar). x.id) (captured s.entries (members cs) a)

  abbrev site_as : MeaningTask → MeaningSite
  site_as x = record { place = x.mark.place; captured = ids_of x.captured }

  in_trees : slice_get trees at.number ≡ Some (strip t)
  in_trees = ap (λ ts. slice_get ts at.number) stripped ∙ slice_get-map strip tasks at.number ∙ ap (option_map strip) at.is

  in_sites : slice_get (sites_of tasks) at.number ≡ Some (site_as t)
  in_sites = slice_get-map site_as tasks at.number ∙ ap (option_map site_as) at.is

  rises_tasks : Rises (λ (x : MeaningTask). x.mark.place) lo tasks hi
  rises_tasks = rises_unmapped (λ (x : TaskTree). x.mark.place) strip tasks lo hi (subst (λ ts. Rises (λ (x : TaskTree). x.mark.place) lo ts hi) stripped rises)

  rises_sites : Rises (λ (x : MeaningSite). x.place) lo (sites_of tasks) hi
  rises_sites = rises_mapped (λ (x : MeaningSite). x.place) site_as tasks lo hi rises_tasks

  pub number_is : task_number (sites_of tasks) m ≡ Some at.number
  number_is = position_is (λ (x : MeaningSite). x.place) lo (sites_of tasks) hi at.number (site_as t) rises_sites in_sites

  pub captured_is : captured_by (sites_of tasks) at.number ≡ ids
  captured_is =
      got (map (λ (x : MeaningSite). x.captured) (sites_of tasks)) at.number ids []
      (slice_get-map (λ (x : MeaningSite). x.captured) (sites_of tasks) at.number ∙ ap (option_map (λ (x : MeaningSite). x.captured)) in_sites ∙ ap Some (ids_kept s.entries ids))

  -- its site, where a code has one for each task
  pub site_of : (code : Parts) (all_slots : List (List ℕ)) → ((k : ℕ) (x : List ℕ) → slice_get slots k ≡ Some x → slice_get all_slots k ≡ Some x) →
      ((number : ℕ) (x : TaskTree) → slice_get trees number ≡ Some x → HasTask code (told_at rs) all_slots number x) → IsSite code (told_at rs) (sites_of tasks) trees s m cs a
  site_of code all_slots more has =
      let task = has at.number (strip t) in_trees in
      record {
        number = at.number;
        site = task.site;
        in_code = position_is (λ (x : TaskTree). x.mark.place) lo trees hi at.number (strip t) rises in_trees;
        in_meaning = number_is;
        ids = captured_is;
        is_site = task.is_site;
        items = task.items;
        slots = let x : Some task.site.captured ≡ Some (slots_of (captured s.entries (members cs) a)) = sym task.captures ∙ more at.number (slots_of (captured s.entries (members cs) a)) at.captures in cc;
      }
