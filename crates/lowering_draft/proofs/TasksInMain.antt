-- The tasks of a lawful program stand in `main`, none in another one, and what they capture stands in the same order.
use Rattle.std.proofs.Common.{◌≡◌, ◌∙◌, ℕ, zero, suc, ◌≤◌, ◌==◌, Bool, true, false, if◌then◌else◌, List, [], ◌∷◌, ◌++◌, length, Some, slice_get, ap, subst, sym, refl}
use Rattle.std.specs.Prelude.{⊤, ltb}
use Rattle.std.proofs.lemmas.Bool.{ltb-false, or_parts}
use Rattle.std.proofs.lemmas.List.{length-map}
use Rattle.lowering_relation.proofs.Stmts.{main_pragma}
use Rattle.os_ast.specs.Captured.{captured, slots_of}
use Rattle.os_ast.specs.Leveled.{AreAll, AreStmts, IsItem, IsStmt, cons}
use Rattle.os_ast.specs.Limits.{captured_limit, items_limit}
use Rattle.os_ast.specs.Names.{Scope, enter, in_loop, in_unit, main_id, typed}
use Rattle.os_ast.specs.Notes.Clauses.{captured_in, clauses_notes, in_task, in_task_body, members_notes}
use Rattle.os_ast.specs.Notes.Declarators.{after_declarators, after_start, declarators_notes, start_notes}
use Rattle.os_ast.specs.Notes.Expressions.{expr_notes, place_notes, step_notes, value_notes}
use Rattle.os_ast.specs.Notes.Kinds.{Global, Note, Task}
use Rattle.os_ast.specs.Notes.Programs.{after_item, after_param, in_body, in_function, item_notes, items_notes, param_list, params_notes, round_body}
use Rattle.os_ast.specs.Notes.Statements.{after_stmt, stmt_notes, stmts_notes}
use Rattle.os_ast.specs.ClauseMembers.{ClauseMember, count_items, members}
use Rattle.os_ast.specs.Trees as tree
use Rattle.os_ast.specs.Violations.{captures, main_task}
use Rattle.os_ast.specs.declared.expr.Mark.{Mark}
use Rattle.os_ast.specs.declared.names.Direction.TheVariants as direction
use Rattle.os_ast.specs.declared.names.Owner.{Owner}
use Rattle.os_ast.specs.declared.names.Owner.TheVariants as owner
use Rattle.os_ast.specs.declared.names.Role.TheVariants as role
use Rattle.os_ast.specs.declared.program.Param.{Param}
use Rattle.lowering_relation.proofs.Files.{params_owner}
use Rattle.lowering_relation.proofs.NoTasks.{IsOther, captures_both, items_owner, none_args, none_both, none_change, none_declarators, none_expr, none_parts, none_place, none_start, none_step, none_stmt, none_stmts, none_value}
use Rattle.lowering_relation.proofs.Static.{declarators_onward, start_onward, stmt_onward}
use Rattle.lowering_relation.specs.Tasks.{TaskTree, all_tasks_of, program_tasks, tasks_of}
use Rattle.window_check_laws.proofs.Told.{lawful-first, lawful-rest}
use Rattle.window_check_laws.specs.Told.{AreLawful}

module _ (s : Scope) (m : Mark) (ps : List ClauseMember) (a : tree.StmtTree) (lawful : AreLawful (clauses_notes s m ps a)) where
  own_note : AreLawful (Task s m (count_items ps) (captured s.entries ps a) ∷ [])
  own_note = lawful-rest (members_notes s [] ps) (Task s m (count_items ps) (captured s.entries ps a) ∷ []) lawful

  in_main : s.owner ≡ owner.OfMain
  in_main = main_pragma s.owner own_note.0.1.1.1.1.1.1.1.0

  few_captured : length (slots_of (captured s.entries ps a)) ≤ 64
  few_captured =
      let few = or_parts (ltb items_limit (count_items ps)) (ltb captured_limit (length (captured s.entries ps a))) own_note.0.1.1.1.1.1.1.1.1.1.1.1.1.0 in
      subst (λ n. n ≤ 64) (sym (length-map (captured s.entries ps a) _)) (ltb-false captured_limit (length (captured s.entries ps a)) few.1)

other_behind : (s t : Scope) → t.owner ≡ s.owner → IsOther s.owner → IsOther t.owner
other_behind s t same other is = other (sym same ∙ is)

-- what isn't in `main` has no task
both_none : (xs ys : List TaskTree) → xs ≡ [] → ys ≡ [] → xs ++ ys ≡ []
both_none xs ys a b = ap (λ zs. zs ++ ys) a ∙ b

mutual
  pub no_tasks : (a : tree.StmtTree) (s : Scope) → IsOther s.owner → AreLawful (stmt_notes s a) → tasks_of a ≡ []
  no_tasks tree.StmtTree.Empty s other lawful = refl
  no_tasks (tree.Block ss) s other lawful = none_of_all ss (enter s) other lawful
  no_tasks (tree.StmtTree.Declare ty ds) s other lawful = refl
  no_tasks (tree.StmtTree.Change c) s other lawful = refl
  no_tasks (tree.StmtTree.Call f args) s other lawful = refl
  no_tasks (tree.If c a) s other lawful = no_tasks a s other (lawful-rest (expr_notes s c) (stmt_notes s a) lawful)
  no_tasks (tree.IfElse c a b) s other lawful =
      let x = expr_notes s c ++ stmt_notes s a in
      let y = stmt_notes (after_stmt s a) b in
      both_none (tasks_of a) (tasks_of b) (no_tasks a s other (lawful-rest (expr_notes s c) (stmt_notes s a) (lawful-first x y lawful)))
      (no_tasks b (after_stmt s a) (other_behind s (after_stmt s a) (stmt_onward a s).owner other) (lawful-rest x y lawful))
  no_tasks (tree.While c a) s other lawful = no_tasks a (in_loop s) other (lawful-rest (expr_notes s c) (stmt_notes (in_loop s) a) lawful)
  no_tasks (tree.For start test step a) s other lawful =
      let head = after_start (enter s) start in
      let z = start_notes (enter s) start ++ value_notes head test ++ step_notes head step in
      no_tasks a (in_loop head) (other_behind s head (start_onward start (enter s)).owner other) (lawful-rest z (stmt_notes (in_loop head) a) lawful)
  no_tasks (tree.Break m) s other lawful = refl
  no_tasks (tree.Continue m) s other lawful = refl
  no_tasks (tree.Return m e) s other lawful = refl
  no_tasks (tree.Task m cs a) s other lawful =
      absurd (other (in_main s m (members cs) a (lawful-first (clauses_notes s m (members cs) a) (stmt_notes (in_task_body s (members cs) a) a) lawful)))
  no_tasks (tree.Tick m t arrow e) s other lawful = refl
  no_tasks (tree.Taskwait m) s other lawful = refl

  pub none_of_all : (ss : tree.Stmts) (s : Scope) → IsOther s.owner → AreLawful (stmts_notes s ss) → all_tasks_of ss ≡ []
  none_of_all tree.no_stmts s other lawful = refl
  none_of_all (tree.stmt a rest) s other lawful =
      let x = stmt_notes s a in
      let y = stmts_notes (after_stmt s a) rest in
      both_none (tasks_of a) (all_tasks_of rest) (no_tasks a s other (lawful-first x y lawful))
      (none_of_all rest (after_stmt s a) (other_behind s (after_stmt s a) (stmt_onward a s).owner other) (lawful-rest x y lawful))

-- a task with the slots that it captures: its body is a statement without tasks, and they are few
pub record IsAlone (t : TaskTree) (slots : List ℕ) : Type 0 where
  pub leveled : IsStmt t.body
  pub alone : tasks_of t.body ≡ []
  pub few : length slots ≤ 64

abbrev Match : List TaskTree → List (List ℕ) → Type 0
Match [] [] = ⊤
Match [] (xs ∷ xss) = ⊥
Match (t ∷ ts) [] = ⊥
Match (t ∷ ts) (xs ∷ xss) = IsAlone t xs × Match ts xss

match_both : (ts us : List TaskTree) (xs ys : List (List ℕ)) → Match ts xs → Match us ys → Match (ts ++ us) (xs ++ ys)
match_both [] us [] ys a b = b
match_both [] us (x ∷ xs) ys a b = elim a [ ]
match_both (t ∷ ts) us [] ys a b = elim a [ ]
match_both (t ∷ ts) us (x ∷ xs) ys a b = (a.0, match_both ts us xs ys a.1 b)

matched : (ts : List TaskTree) (xs rest : List (List ℕ)) (k : ℕ) (t : TaskTree) → Match ts xs → slice_get ts k ≡ Some t →
    (slots : List ℕ) × (slice_get (xs ++ rest) k ≡ Some slots) × IsAlone t slots
matched [] xs rest k t h is = absurd (cc)
matched (u ∷ ts) [] rest k t h is = elim h [ ]
matched (u ∷ ts) (x ∷ xs) rest zero t h is = let same : u ≡ t = cc in (x, refl, subst (λ y. IsAlone y x) same h.0)
matched (u ∷ ts) (x ∷ xs) rest (suc k) t h is = matched ts xs rest k t h.1 is

-- what stands before tasks adds nothing
behind_none : (ts : List TaskTree) (xs ys : List Note) → captures xs ≡ [] → Match ts (captures ys) → Match ts (captures (xs ++ ys))
behind_none ts xs ys none h = subst (Match ts) (sym (captures_both xs ys ∙ ap (λ cs. cs ++ captures ys) none)) h

mutual
  match_stmt : {a : tree.StmtTree} → IsStmt a → (s : Scope) → s.owner ≡ owner.OfMain → AreLawful (stmt_notes s a)
      → Match (tasks_of a) (captures (stmt_notes s a))
  match_stmt IsStmt.empty s own lawful = tt
  match_stmt (IsStmt.block is) s own lawful = match_stmts is (enter s) own lawful
  match_stmt (IsStmt.change {c = c} _) s own lawful = subst (Match []) (sym (none_change c s)) tt
  match_stmt (IsStmt.call {args = args} _) s own lawful = subst (Match []) (sym (none_args args s)) tt
  match_stmt (IsStmt.if_alone {c = c} {a = a} _ is) s own lawful =
      behind_none (tasks_of a) (expr_notes s c) (stmt_notes s a) (none_expr c s) (match_stmt is s own (lawful-rest (expr_notes s c) (stmt_notes s a) lawful))
  match_stmt (IsStmt.if_else {c = c} {a = a} {b = b} _ is _ is2) s own lawful =
      let x = expr_notes s c ++ stmt_notes s a in
      let y = stmt_notes (after_stmt s a) b in
      let first = lawful-first x y lawful in
      subst (Match (tasks_of a ++ tasks_of b)) (sym (captures_both x y))
      (match_both (tasks_of a) (tasks_of b) (captures x) (captures y)
      (behind_none (tasks_of a) (expr_notes s c) (stmt_notes s a) (none_expr c s) (match_stmt is s own (lawful-rest (expr_notes s c) (stmt_notes s a) first)))
      (match_stmt is2 (after_stmt s a) ((stmt_onward a s).owner ∙ own) (lawful-rest x y lawful)))
  match_stmt (IsStmt.while {c = c} {s = a} _ is) s own lawful =
      let y = stmt_notes (in_loop s) a in
      behind_none (tasks_of a) (expr_notes s c) y (none_expr c s) (match_stmt is (in_loop s) own (lawful-rest (expr_notes s c) y lawful))
  match_stmt (IsStmt.for {start = start} {test = test} {step = step} {s = a} _ _ _ is) s own lawful =
      let head = after_start (enter s) start in
      let x = start_notes (enter s) start in
      let z = x ++ value_notes head test ++ step_notes head step in
      let y = stmt_notes (in_loop head) a in
      behind_none (tasks_of a) z y
      (none_both (x ++ value_notes head test) (step_notes head step)
      (none_both x (value_notes head test) (none_start start (enter s)) (none_value test head)) (none_step step head))
      (match_stmt is (in_loop head) ((start_onward start (enter s)).owner ∙ own) (lawful-rest z y lawful))
  match_stmt IsStmt.break s own lawful = tt
  match_stmt IsStmt.continue s own lawful = tt
  match_stmt (IsStmt.return {e = e} _) s own lawful = subst (Match []) (sym (none_expr e s)) tt
  match_stmt (IsStmt.task {m = mark} {cs = cs} {s = a} _ is) s own lawful =
      let inner = in_task_body s (members cs) a in
      let x = clauses_notes s mark (members cs) a in
      let y = stmt_notes inner a in
      let note = Task s mark (count_items (members cs)) (captured s.entries (members cs) a) ∷ [] in
      let slots = slots_of (captured s.entries (members cs) a) in
      let task : inner.owner ≡ owner.OfTask = items_owner (members cs) s (in_task s (captured_in s.owner slots)) 0 in
      let other : IsOther inner.owner = λ e. let z : owner.OfTask ≡ owner.OfMain = sym task ∙ e in absurd (cc) in
      let e : captures (x ++ y) ≡ slots ∷ [] =
      captures_both x y ∙ ap (λ cs. captures x ++ cs) (none_stmt a inner other)
      ∙ ap (λ cs. cs ++ [])
      (captures_both (members_notes s [] (members cs)) note ∙ ap (λ cs. cs ++ captures note) (none_parts (members cs) s [])
      ∙ ap (λ o. main_task o slots ++ []) own) in
      subst (Match (record { mark = mark; members = members cs; body = a } ∷ [])) (sym e)
      (record { leveled = is; alone = no_tasks a inner other (lawful-rest x y lawful); few = few_captured s mark (members cs) a (lawful-first x y lawful) }, tt)
  match_stmt (IsStmt.tick {m = mark} {t = t} {e = e} _ _) s own lawful =
      subst (Match []) (sym
      (none_both (place_notes s (role.Flow direction.Reads) t) (expr_notes s e) (none_place t s (role.Flow direction.Reads)) (none_expr e s))) tt
  match_stmt IsStmt.taskwait s own lawful = tt

  match_stmts : {ss : tree.Stmts} → AreStmts ss → (s : Scope) → s.owner ≡ owner.OfMain → AreLawful (stmts_notes s ss)
      → Match (all_tasks_of ss) (captures (stmts_notes s ss))
  match_stmts AreStmts.no_stmts s own lawful = tt
  match_stmts (AreStmts.declare {t = ty} {ds = ds} {ss = ss} _ rest) s0 own lawful =
      let s = typed ty s0 in
      let x = declarators_notes s ds in
      let y = stmts_notes (after_declarators s ds) ss in
      behind_none (all_tasks_of ss) x y (none_declarators ds s)
      (match_stmts rest (after_declarators s ds) ((declarators_onward ds s).owner ∙ own) (lawful-rest x y lawful))
  match_stmts (AreStmts.stmt {s = a} {ss = ss} is rest) s own lawful =
      let x = stmt_notes s a in
      let y = stmts_notes (after_stmt s a) ss in
      subst (Match (tasks_of a ++ all_tasks_of ss)) (sym (captures_both x y))
      (match_both (tasks_of a) (all_tasks_of ss) (captures x) (captures y) (match_stmt is s own (lawful-first x y lawful))
      (match_stmts rest (after_stmt s a) ((stmt_onward a s).owner ∙ own) (lawful-rest x y lawful)))

-- the bodies of functions, and whose they are
abbrev inside : Owner → Scope → Scope
inside o s = enter (round_body o (enter (in_unit o s)))

pub main_owner : (s : Scope) (f : tree.FunctionTree) → (f.name.id == main_id) ≡ true → (in_body s f).owner ≡ owner.OfMain
main_owner s f is =
    params_owner (param_list f.params) (in_function s f.name.id)
    ∙ ap (λ t. (inside (if t then owner.OfMain else owner.OfFunction) s).owner) is

pub function_owner : (s : Scope) (f : tree.FunctionTree) → (f.name.id == main_id) ≡ false → (in_body s f).owner ≡ owner.OfFunction
function_owner s f is =
    params_owner (param_list f.params) (in_function s f.name.id)
    ∙ ap (λ t. (inside (if t then owner.OfMain else owner.OfFunction) s).owner) is

pub function_other : (s : Scope) (f : tree.FunctionTree) → (f.name.id == main_id) ≡ false → IsOther (in_body s f).owner
function_other s f is e = let x : owner.OfFunction ≡ owner.OfMain = sym (function_owner s f is) ∙ e in absurd (cc)

none_front : (s : Scope) (ns : List Param) → captures (params_notes s ns) ≡ []
none_front s [] = refl
none_front s (n ∷ ns) = none_front (after_param s n) ns

abbrev front : Scope → tree.FunctionTree → List Note
front s f = Global s f.name ∷ params_notes (in_function s f.name.id) (param_list f.params)

pub lawful_body : (s : Scope) (f : tree.FunctionTree) (rest : List Note) → AreLawful (item_notes s (tree.Function f) ++ rest)
    → AreLawful (stmts_notes (in_body s f) f.body)
lawful_body s f rest h = lawful-rest (front s f) (stmts_notes (in_body s f) f.body) (lawful-first (item_notes s (tree.Function f)) rest h)

-- the tasks of some items, with what they capture and what others do
record Matched (s : Scope) (is : List tree.ItemTree) : Type 0 where
  own : List (List ℕ)
  rest : List (List ℕ)
  all : captures (items_notes s is) ≡ own ++ rest
  match : Match (program_tasks is) own

match_items : (is : List tree.ItemTree) (s : Scope) → AreAll IsItem is → AreLawful (items_notes s is) → Matched s is
match_items [] s leveled lawful = record { own = []; rest = []; all = refl; match = tt }
match_items (tree.Constant c ∷ is) s (cons _ leveled) lawful =
    let i = tree.Constant c in
    let more = match_items is (after_item s i) leveled (lawful-rest (item_notes s i) (items_notes (after_item s i) is) lawful) in
    record { own = more.own; rest = more.rest; all = more.all; match = more.match }
match_items (tree.Function f ∷ is) s (cons (IsItem.function _ body) leveled) lawful =
    by_case (f.name.id == main_id) refl
    (match_items is (after_item s (tree.Function f)) leveled
    (lawful-rest (item_notes s (tree.Function f)) (items_notes (after_item s (tree.Function f)) is) lawful))
  where
    i : tree.ItemTree
    i = tree.Function f

    behind : List Note
    behind = items_notes (after_item s i) is

    own_notes : List Note
    own_notes = stmts_notes (in_body s f) f.body

    own_captures : captures (item_notes s i ++ behind) ≡ captures own_notes ++ captures behind
    own_captures =
        captures_both (item_notes s i) behind
        ∙ ap (λ cs. cs ++ captures behind)
        (captures_both (front s f) own_notes ∙ ap (λ cs. cs ++ captures own_notes) (none_front (in_function s f.name.id) (param_list f.params)))

    by_case : (t : Bool) → (f.name.id == main_id) ≡ t → Matched (after_item s i) is → Matched s (i ∷ is)
    by_case true e more = record {
      own = captures own_notes;
      rest = captures behind;
      all = own_captures;
      match =
          subst (λ ts. Match ts (captures own_notes)) (sym (ap (λ t. if t then all_tasks_of f.body else program_tasks is) e))
          (match_stmts body (in_body s f) (main_owner s f e) (lawful_body s f behind lawful));
    }
    by_case false e more = record {
      own = more.own;
      rest = more.rest;
      all = own_captures ∙ ap (λ cs. cs ++ captures behind) (none_stmts f.body (in_body s f) (function_other s f e)) ∙ more.all;
      match = subst (λ ts. Match ts more.own) (sym (ap (λ t. if t then all_tasks_of f.body else program_tasks is) e)) more.match;
    }

-- Each task of a lawful program has the slots that stand at its number.
pub tasks_captured : (is : List tree.ItemTree) (s : Scope) → AreAll IsItem is → AreLawful (items_notes s is) → (k : ℕ) (t : TaskTree) →
    slice_get (program_tasks is) k ≡ Some t → (slots : List ℕ) × (slice_get (captures (items_notes s is)) k ≡ Some slots) × IsAlone t slots
tasks_captured is s leveled lawful k t there =
    let m = match_items is s leveled lawful in
    subst (λ cs. (slots : List ℕ) × (slice_get cs k ≡ Some slots) × IsAlone t slots) (sym m.all) (matched (program_tasks is) m.own m.rest k t m.match there)
