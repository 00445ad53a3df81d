-- The tasks of `main` in the text: where each stands, and what it captures.
use Rattle.std.proofs.Common.{◌≡◌, ℕ, zero, suc, Bool, true, false, List, [], ◌∷◌, ◌++◌, map, Option, Some, None, slice_get, refl, sym, ap, ◌∙◌, subst}
use Rattle.std.specs.Prelude.{⊤}
use Rattle.cddf_meaning.specs.Scoped.{scoped_task_at, scoped_tasks_in, scoped_tasks_in_all}
use Rattle.cddf_meaning.specs.Tasks.{Task as MeaningTask}
use Rattle.os_ast.specs.Captured.{captured, slots_of}
use Rattle.os_ast.specs.Leveled.{IsStmt, AreStmts}
use Rattle.os_ast.specs.Names.{Scope, enter, in_loop, typed}
use Rattle.os_ast.specs.Notes.Clauses.{in_task, captured_in, in_task_body, members_notes, clauses_notes}
use Rattle.os_ast.specs.Notes.Declarators.{scalar_entity, after_declarator, after_declarators, declarators_notes, form, form_with, form_entity, sized_form, after_start, start_notes, size_of}
use Rattle.os_ast.specs.Notes.Expressions.{expr_notes, place_notes, value_notes, step_notes}
use Rattle.os_ast.specs.Notes.Kinds.{Note, Task}
use Rattle.os_ast.specs.Notes.Statements.{after_stmt, stmt_notes, stmts_notes}
use Rattle.os_ast.specs.ClauseMembers.{members, count_items}
use Rattle.os_ast.specs.Stacked.{main_extent}
use Rattle.os_ast.specs.Stacked as text
use Rattle.os_ast.specs.Trees as tree
use Rattle.os_ast.specs.Violations.{main_task, captures}
use Rattle.os_ast.specs.declared.expr.Mark.{Mark}
use Rattle.os_ast.specs.declared.names.Direction.TheVariants as direction
use Rattle.os_ast.specs.declared.names.Entity.{Entity}
use Rattle.os_ast.specs.declared.names.Entity.TheVariants as entity
use Rattle.os_ast.specs.declared.names.Entry.{Entry}
use Rattle.os_ast.specs.declared.names.Owner.{Owner}
use Rattle.os_ast.specs.declared.names.Owner.TheVariants as owner
use Rattle.os_ast.specs.declared.names.Resolved.{Resolved}
use Rattle.os_ast.specs.declared.names.Role.TheVariants as role
use Rattle.os_ast.specs.declared.ty.Ty.{Ty}
use Rattle.lowering_relation.specs.Tasks.{TaskTree, tasks_of, all_tasks_of}
use Rattle.lowering_relation.proofs.NoTasks.{captures_both, none_both, none_expr, none_place, none_args, none_value, none_change, none_step, none_parts, none_declarators, none_start, none_stmt, items_owner}
use Rattle.lowering_relation.proofs.Static.{entry, declarator_entries, declarator_onward, stmt_onward}
use Rattle.window_check_laws.specs.Sums.{extent_in}
use Rattle.window_check_laws.specs.Told.{Tells, AreLawful}
use Rattle.window_check_laws.proofs.Summed.{stays_in, stacked-declarator, stacked-stmt}
use Rattle.window_check_laws.proofs.Told.{tells-first, tells-rest, lawful-first, lawful-rest}

-- what `main` declares
abbrev pub IsOfMain : Entity → Type 0
IsOfMain (entity.Control slot) = ⊤
IsOfMain entity.InputLength = ⊤
IsOfMain (entity.Window slot) = ⊤
IsOfMain (entity.Stream number) = ⊤
IsOfMain (entity.Streams first count) = ⊤
IsOfMain _ = ⊥

abbrev pub AllOfMain : List Entry → Type 0
AllOfMain [] = ⊤
AllOfMain (e ∷ es) = IsOfMain e.entity × AllOfMain es

-- a scope of `main`, within what the file declares
pub record InMain (file : List Entry) (s : Scope) : Type 0 where
  pub owner : s.owner ≡ owner.OfMain
  pub inner : List Entry
  pub entries : s.entries ≡ inner ++ file
  pub all : AllOfMain inner
  pub stacked : text.Stacked (extent_in s.owner) s.slots s.entries

-- a task, with the slots in `main` of what it captures
pub record TaskAt (rs : List Resolved) (file : List Entry) (t : MeaningTask) (slots : List ℕ) : Type 0 where
  pub scope : Scope
  pub mark : Mark
  pub clauses : List tree.ClauseTree
  pub body : tree.StmtTree
  pub is : t ≡ scoped_task_at scope mark clauses body
  pub in_main : InMain file scope
  pub leveled : IsStmt body
  pub lawful : AreLawful (stmt_notes (in_task_body scope (members clauses) body) body)
  pub tells : Tells rs (stmt_notes (in_task_body scope (members clauses) body) body)
  pub captures : slots ≡ slots_of (captured scope.entries (members clauses) body)

abbrev pub strip : MeaningTask → TaskTree
strip t = record { mark = t.mark; members = t.members; body = t.body }

map_both : (xs ys : List MeaningTask) → map strip (xs ++ ys) ≡ map strip xs ++ map strip ys
map_both [] ys = refl
map_both (x ∷ xs) ys = ap (λ ts. strip x ∷ ts) (map_both xs ys)

-- the tasks by the tree alone
mutual
  pub stripped : (a : tree.StmtTree) (s : Scope) → map strip (scoped_tasks_in s a) ≡ tasks_of a
  stripped tree.StmtTree.Empty s = refl
  stripped (tree.Block ss) s = all_stripped ss (enter s)
  stripped (tree.StmtTree.Declare ty ds) s = refl
  stripped (tree.StmtTree.Change c) s = refl
  stripped (tree.StmtTree.Call f args) s = refl
  stripped (tree.If c a) s = stripped a s
  stripped (tree.IfElse c a b) s = map_both (scoped_tasks_in s a) (scoped_tasks_in (after_stmt s a) b) ∙ ap (λ ts. ts ++ map strip (scoped_tasks_in (after_stmt s a) b)) (stripped a s) ∙ ap (λ ts. tasks_of a ++ ts) (stripped b (after_stmt s a))
  stripped (tree.While c a) s = stripped a (in_loop s)
  stripped (tree.For start test step a) s = stripped a (in_loop (after_start (enter s) start))
  stripped (tree.Break m) s = refl
  stripped (tree.Continue m) s = refl
  stripped (tree.Return m e) s = refl
  stripped (tree.Task m cs a) s = refl
  stripped (tree.Tick m t arrow e) s = refl
  stripped (tree.Taskwait m) s = refl

  pub all_stripped : (ss : tree.Stmts) (s : Scope) → map strip (scoped_tasks_in_all s ss) ≡ all_tasks_of ss
  all_stripped tree.no_stmts s = refl
  all_stripped (tree.stmt a rest) s =
      map_both (scoped_tasks_in s a) (scoped_tasks_in_all (after_stmt s a) rest) ∙ ap (λ ts. ts ++ map strip (scoped_tasks_in_all (after_stmt s a) rest)) (stripped a s) ∙ ap (λ ts. tasks_of a ++ ts) (all_stripped rest (after_stmt s a))

module _ (rs : List Resolved) (file : List Entry) where
  abbrev pub Match : List MeaningTask → List (List ℕ) → Type 0
  Match [] [] = ⊤
  Match [] (xs ∷ xss) = ⊥
  Match (t ∷ ts) [] = ⊥
  Match (t ∷ ts) (xs ∷ xss) = TaskAt rs file t xs × Match ts xss

  match_both : (ts us : List MeaningTask) (xs ys : List (List ℕ)) → Match ts xs → Match us ys → Match (ts ++ us) (xs ++ ys)
  match_both [] us [] ys a b = b
  match_both [] us (x ∷ xs) ys a b = elim a [ ]
  match_both (t ∷ ts) us [] ys a b = elim a [ ]
  match_both (t ∷ ts) us (x ∷ xs) ys a b = (a.0, match_both ts us xs ys a.1 b)

  pub matched : (ts : List MeaningTask) (xs : List (List ℕ)) (k : ℕ) (t : MeaningTask) → Match ts xs → slice_get ts k ≡ Some t → (slots : List ℕ) × (slice_get xs k ≡ Some slots) × TaskAt rs file t slots
  matched [] xs k t h is = absurd (cc)
  matched (u ∷ ts) [] k t h is = elim h [ ]
  matched (u ∷ ts) (x ∷ xs) zero t h is = let same : u ≡ t = cc in (x, refl, subst (λ y. TaskAt rs file y x) same h.0)
  matched (u ∷ ts) (x ∷ xs) (suc k) t h is = matched ts xs k t h.1 is

  -- what stands before tasks adds nothing
  behind_none : (ts : List MeaningTask) (xs ys : List Note) → captures xs ≡ [] → Match ts (captures ys) → Match ts (captures (xs ++ ys))
  behind_none ts xs ys none h = subst (Match ts) (sym (captures_both xs ys ∙ ap (λ cs. cs ++ captures ys) none)) h

  main_entity : (o : Owner) (s : Scope) (d : tree.DeclaratorTree) → s.owner ≡ o → o ≡ owner.OfMain → IsOfMain (form_entity s (form s d))
  main_entity o s d own is = by_parts d.stream d.size
    where
      is_main : s.owner ≡ owner.OfMain
      is_main = own ∙ is

      scalar : IsOfMain (scalar_entity s.owner s.slots)
      scalar = subst (λ x. IsOfMain (scalar_entity x s.slots)) (sym is_main) tt

      sized : (size : Option ℕ) → IsOfMain (form_entity s (sized_form s.owner size))
      sized size = subst (λ x. IsOfMain (form_entity s (sized_form x size))) (sym is_main) tt

      by_parts : (stream : Bool) (size : Option tree.IndexTree) → IsOfMain (form_entity s (form_with s stream size))
      by_parts true None = tt
      by_parts true (Some i) = tt
      by_parts false None = scalar
      by_parts false (Some i) = sized (size_of s i.value)

  pub declarators_main : (ds : List tree.DeclaratorTree) (s : Scope) → InMain file s → InMain file (after_declarators s ds)
  declarators_main [] s h = h
  declarators_main (d ∷ ds) s h = declarators_main ds (after_declarator s d) (record {
    owner = (declarator_onward s d).owner ∙ h.owner;
    inner = entry s d ∷ h.inner;
    entries = declarator_entries s d ∙ ap (λ es. entry s d ∷ es) h.entries;
    all = (main_entity s.owner s d refl h.owner, h.all);
    stacked = subst (λ o. text.Stacked (extent_in o) (after_declarator s d).slots (after_declarator s d).entries) (sym (declarator_onward s d).owner) (stacked-declarator s d h.stacked);
  })

  -- a declaration of a type begins
  pub typed_main : (ty : Ty) (s : Scope) → InMain file s → InMain file (typed ty s)
  typed_main ty s h = record { owner = h.owner; inner = h.inner; entries = h.entries; all = h.all; stacked = h.stacked }

  pub start_main : (t : tree.StartTree) (s : Scope) → InMain file s → InMain file (after_start s t)
  start_main tree.StartTree.Empty s h = h
  start_main (tree.StartTree.Declare ty ds) s h = declarators_main ds (typed ty s) (typed_main ty s h)
  start_main (tree.StartTree.Change c) s h = h

  pub stmt_main : {a : tree.StmtTree} → IsStmt a → (s : Scope) → InMain file s → InMain file (after_stmt s a)
  stmt_main {a = a} is s h = record {
    owner = (stmt_onward a s).owner ∙ h.owner;
    inner = h.inner;
    entries = stays_in is s ∙ h.entries;
    all = h.all;
    stacked = subst (λ o. text.Stacked (extent_in o) (after_stmt s a).slots (after_stmt s a).entries) (sym (stmt_onward a s).owner) (stacked-stmt is s h.stacked);
  }

  -- the same entries, in a scope that counts differently
  pub same_main : (s t : Scope) → InMain file s → t.owner ≡ s.owner → t.entries ≡ s.entries → t.slots ≡ s.slots → InMain file t
  same_main s t h own entries slots = record {
    owner = own ∙ h.owner;
    inner = h.inner;
    entries = entries ∙ h.entries;
    all = h.all;
    stacked = subst (λ o. text.Stacked (extent_in o) t.slots t.entries) (sym own) (subst (λ es. text.Stacked (extent_in s.owner) t.slots es) (sym entries) (subst (λ n. text.Stacked (extent_in s.owner) n s.entries) (sym slots) h.stacked));
  }

  mutual
    pub match_stmt : {a : tree.StmtTree} → IsStmt a → (s : Scope) → InMain file s → AreLawful (stmt_notes s a) → Tells rs (stmt_notes s a) → Match (scoped_tasks_in s a) (captures (stmt_notes s a))
    match_stmt IsStmt.empty s h lawful tells = tt
    match_stmt (IsStmt.block is) s h lawful tells = match_stmts is (enter s) (same_main s (enter s) h refl refl refl) lawful tells
    match_stmt (IsStmt.change {c = c} _) s h lawful tells = subst (Match []) (sym (none_change c s)) tt
    match_stmt (IsStmt.call {args = args} _) s h lawful tells = subst (Match []) (sym (none_args args s)) tt
    match_stmt (IsStmt.if_alone {c = c} {a = a} _ is) s h lawful tells =
        behind_none (scoped_tasks_in s a) (expr_notes s c) (stmt_notes s a) (none_expr c s) (match_stmt is s h (lawful-rest (expr_notes s c) (stmt_notes s a) lawful) (tells-rest rs (expr_notes s c) (stmt_notes s a) tells))
    match_stmt (IsStmt.if_else {c = c} {a = a} {b = b} _ is _ is2) s h lawful tells =
        let x = expr_notes s c ++ stmt_notes s a in
        let y = stmt_notes (after_stmt s a) b in
        let lawful1 = lawful-first x y lawful in
        let tells1 = tells-first rs x y tells in
        subst (Match (scoped_tasks_in s a ++ scoped_tasks_in (after_stmt s a) b)) (sym (captures_both x y))
        (match_both (scoped_tasks_in s a) (scoped_tasks_in (after_stmt s a) b) (captures x) (captures y)
        (behind_none (scoped_tasks_in s a) (expr_notes s c) (stmt_notes s a) (none_expr c s) (match_stmt is s h (lawful-rest (expr_notes s c) (stmt_notes s a) lawful1) (tells-rest rs (expr_notes s c) (stmt_notes s a) tells1)))
        (match_stmt is2 (after_stmt s a) (stmt_main is s h) (lawful-rest x y lawful) (tells-rest rs x y tells)))
    match_stmt (IsStmt.while {c = c} {s = a} _ is) s h lawful tells =
        let y = stmt_notes (in_loop s) a in
        behind_none (scoped_tasks_in (in_loop s) a) (expr_notes s c) y (none_expr c s) (match_stmt is (in_loop s) (same_main s (in_loop s) h refl refl refl) (lawful-rest (expr_notes s c) y lawful) (tells-rest rs (expr_notes s c) y tells))
    match_stmt (IsStmt.for {start = start} {test = test} {step = step} {s = a} _ _ _ is) s h lawful tells =
        let head = after_start (enter s) start in
        let x = start_notes (enter s) start in
        let z = x ++ value_notes head test ++ step_notes head step in
        let y = stmt_notes (in_loop head) a in
        let m = start_main start (enter s) (same_main s (enter s) h refl refl refl) in
        behind_none (scoped_tasks_in (in_loop head) a) z y
        (none_both (x ++ value_notes head test) (step_notes head step) (none_both x (value_notes head test) (none_start start (enter s)) (none_value test head)) (none_step step head))
        (match_stmt is (in_loop head) (same_main head (in_loop head) m refl refl refl) (lawful-rest z y lawful) (tells-rest rs z y tells))
    match_stmt IsStmt.break s h lawful tells = tt
    match_stmt IsStmt.continue s h lawful tells = tt
    match_stmt (IsStmt.return {e = e} _) s h lawful tells = subst (Match []) (sym (none_expr e s)) tt
    match_stmt (IsStmt.task {m = mark} {cs = cs} {s = a} _ is) s h lawful tells =
        let inner = in_task_body s (members cs) a in
        let x = clauses_notes s mark (members cs) a in
        let y = stmt_notes inner a in
        let note = Task s mark (count_items (members cs)) (captured s.entries (members cs) a) ∷ [] in
        let slots = slots_of (captured s.entries (members cs) a) in
        let own : inner.owner ≡ owner.OfTask = items_owner (members cs) s (in_task s (captured_in s.owner slots)) 0 in
        let e : captures (x ++ y) ≡ slots ∷ [] =
        captures_both x y ∙ ap (λ cs. captures x ++ cs) (none_stmt a inner (λ e. let z : owner.OfTask ≡ owner.OfMain = sym own ∙ e in absurd (cc))) ∙ ap (λ cs. cs ++ []) (captures_both (members_notes s [] (members cs)) note ∙ ap (λ cs. cs ++ captures note) (none_parts (members cs) s []) ∙ ap (λ o. main_task o slots ++ []) h.owner) in
        subst (Match (scoped_task_at s mark cs a ∷ [])) (sym e)
        (record { scope = s; mark = mark; clauses = cs; body = a; is = refl; in_main = h; leveled = is; lawful = lawful-rest x y lawful; tells = tells-rest rs x y tells; captures = refl }, tt)
    match_stmt (IsStmt.tick {m = mark} {t = t} {e = e} _ _) s h lawful tells =
        subst (Match []) (sym (none_both (place_notes s (role.Flow direction.Reads) t) (expr_notes s e) (none_place t s (role.Flow direction.Reads)) (none_expr e s))) tt
    match_stmt IsStmt.taskwait s h lawful tells = tt

    pub match_stmts : {ss : tree.Stmts} → AreStmts ss → (s : Scope) → InMain file s → AreLawful (stmts_notes s ss) → Tells rs (stmts_notes s ss) → Match (scoped_tasks_in_all s ss) (captures (stmts_notes s ss))
    match_stmts AreStmts.no_stmts s h lawful tells = tt
    match_stmts (AreStmts.declare {t = ty} {ds = ds} {ss = ss} _ rest) s0 known lawful tells =
        let s = typed ty s0 in
        let h = typed_main ty s0 known in
        let x = declarators_notes s ds in
        let y = stmts_notes (after_declarators s ds) ss in
        behind_none (scoped_tasks_in_all (after_declarators s ds) ss) x y (none_declarators ds s) (match_stmts rest (after_declarators s ds) (declarators_main ds s h) (lawful-rest x y lawful) (tells-rest rs x y tells))
    match_stmts (AreStmts.stmt {s = a} {ss = ss} is rest) s h lawful tells =
        let x = stmt_notes s a in
        let y = stmts_notes (after_stmt s a) ss in
        subst (Match (scoped_tasks_in s a ++ scoped_tasks_in_all (after_stmt s a) ss)) (sym (captures_both x y))
        (match_both (scoped_tasks_in s a) (scoped_tasks_in_all (after_stmt s a) ss) (captures x) (captures y) (match_stmt is s h (lawful-first x y lawful) (tells-first rs x y tells))
        (match_stmts rest (after_stmt s a) (stmt_main is s h) (lawful-rest x y lawful) (tells-rest rs x y tells)))
