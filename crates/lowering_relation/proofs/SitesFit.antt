-- The sites of the tasks of `main`: what they capture and what their items name is there.
use Rattle.std.proofs.Common.{◌≡◌, ℕ, zero, suc, ◌<◌, ◌≤◌, List, [], ◌∷◌, ◌++◌, length, Option, Some, None, slice_get, sym, ap, ◌∙◌, subst, arith}
use Rattle.std.proofs.lemmas.List.{length-map}
use Rattle.std.specs.Prelude.{⊤, All}
use Rattle.os_ast.specs.Captured.{Scalar, captured, slots_of}
use Rattle.os_ast.specs.Names.{Scope, enter, in_loop, typed}
use Rattle.os_ast.specs.Notes.Clauses.{in_task, captured_in, in_task_body, window_notes, member_notes, members_notes, clauses_notes}
use Rattle.os_ast.specs.Notes.Declarators.{after_start, start_notes}
use Rattle.os_ast.specs.Notes.Expressions.{expr_notes, place_notes, value_notes, step_notes}
use Rattle.os_ast.specs.Notes.Kinds.{Note, Task}
use Rattle.os_ast.specs.Notes.Statements.{after_stmt, stmt_notes, stmts_notes}
use Rattle.os_ast.specs.ClauseMembers.{ClauseMember, Item, Private, member_name, members, count_items}
use Rattle.os_ast.specs.Trees as tree
use Rattle.os_ast.specs.Violations.{main_task, captures}
use Rattle.os_ast.specs.declared.names.Direction.{Direction}
use Rattle.os_ast.specs.declared.names.Direction.TheVariants as direction
use Rattle.os_ast.specs.declared.names.Owner.{Owner}
use Rattle.os_ast.specs.declared.names.Owner.TheVariants as owner
use Rattle.os_ast.specs.declared.names.Role.TheVariants as role
use Rattle.os_ast.specs.declared.names.What.{What}
use Rattle.os_ast.specs.declared.names.What.TheVariants as what
use Rattle.os_code.specs.declared.site.SiteItem.{SiteItem}
use Rattle.lowering_relation.specs.Tasks.{TaskTree, tasks_of, all_tasks_of, slot_of, window_of, site_item, site_items}
use Rattle.lowering_relation.proofs.Homes.{Home, tells, Fits, AllFit}
use Rattle.lowering_relation.proofs.LaidItems.{stream_fits}
use Rattle.lowering_relation.proofs.Lays.{fit_first, fit_rest}
use Rattle.lowering_relation.proofs.NoTasks.{captures_both, none_both, none_expr, none_place, none_args, none_value, none_change, none_step, none_parts, none_declarators, none_start, none_stmt, items_owner}
use Rattle.lowering_relation.proofs.OwnNotes.{own_notes, all_own_notes}

-- what holds of all in a list
pub all_none : {A : Type 0} (P : A → Type 0) → All P []
all_none P k d lt = absurd (omega (arith, lt))

pub all_more : {A : Type 0} (P : A → Type 0) (x : A) (xs : List A) → P x → All P xs → All P (x ∷ xs)
all_more P x xs first all zero d lt = first
all_more P x xs first all (suc k) d lt = all k d (omega (arith, lt))

module _ (h : Home) where
  -- a list of captured slots
  pub record IsCaught (slots : List ℕ) : Type 0 where
    pub few : length slots ≤ 64
    pub below : All (λ slot. slot < h.slots) slots

  abbrev pub AllCaught : List (List ℕ) → Type 0
  AllCaught [] = ⊤
  AllCaught (xs ∷ xss) = IsCaught xs × AllCaught xss

  caught_both : (xss yss : List (List ℕ)) → AllCaught xss → AllCaught yss → AllCaught (xss ++ yss)
  caught_both [] yss a b = b
  caught_both (xs ∷ xss) yss a b = (a.0, caught_both xss yss a.1 b)

  pub caught_at : (xss : List (List ℕ)) (k : ℕ) (xs : List ℕ) → AllCaught xss → slice_get xss k ≡ Some xs → IsCaught xs
  caught_at [] k xs all is = absurd (cc)
  caught_at (ys ∷ xss) zero xs all is = let same : ys ≡ xs = cc in subst IsCaught same all.0
  caught_at (ys ∷ xss) (suc k) xs all is = caught_at xss k xs all.1 is

  -- behind notes that capture nothing
  caught_behind : (xs ys : List Note) → captures xs ≡ [] → AllCaught (captures ys) → AllCaught (captures (xs ++ ys))
  caught_behind xs ys none all = subst AllCaught (sym (captures_both xs ys ∙ ap (λ cs. cs ++ captures ys) none)) all

  caught_of : (o : Owner) (cs : List Scalar) → length cs ≤ 64 → All (λ slot. slot < h.slots) (slots_of cs) → AllCaught (main_task o (slots_of cs) ++ [])
  caught_of owner.OfMain cs few below = (record { few = omega (arith, few, length-map cs (λ (c : Scalar). c.slot)); below = below }, tt)
  caught_of owner.OfFunction cs few below = tt
  caught_of owner.OfTask cs few below = tt

  mutual
    pub stmt_caught : (a : tree.StmtTree) (s : Scope) → AllFit h (own_notes s a) → AllCaught (captures (stmt_notes s a))
    stmt_caught tree.StmtTree.Empty s fit = tt
    stmt_caught (tree.Block ss) s fit = stmts_caught ss (enter s) fit
    stmt_caught (tree.StmtTree.Declare ty ds) s fit = subst AllCaught (sym (none_declarators ds (typed ty s))) tt
    stmt_caught (tree.StmtTree.Change c) s fit = subst AllCaught (sym (none_change c s)) tt
    stmt_caught (tree.StmtTree.Call f args) s fit = subst AllCaught (sym (none_args args s)) tt
    stmt_caught (tree.If c a) s fit =
        caught_behind (expr_notes s c) (stmt_notes s a) (none_expr c s) (stmt_caught a s (fit_rest h (expr_notes s c) (own_notes s a) fit))
    stmt_caught (tree.IfElse c a b) s fit =
        let x = expr_notes s c ++ stmt_notes s a in
        let y = stmt_notes (after_stmt s a) b in
        let own = expr_notes s c ++ own_notes s a in
        subst AllCaught (sym (captures_both x y))
        (caught_both (captures x) (captures y)
        (caught_behind (expr_notes s c) (stmt_notes s a) (none_expr c s) (stmt_caught a s (fit_rest h (expr_notes s c) (own_notes s a) (fit_first h own (own_notes (after_stmt s a) b) fit))))
        (stmt_caught b (after_stmt s a) (fit_rest h own (own_notes (after_stmt s a) b) fit)))
    stmt_caught (tree.While c a) s fit =
        caught_behind (expr_notes s c) (stmt_notes (in_loop s) a) (none_expr c s) (stmt_caught a (in_loop s) (fit_rest h (expr_notes s c) (own_notes (in_loop s) a) fit))
    stmt_caught (tree.For start test step a) s fit =
        let head = after_start (enter s) start in
        let x = start_notes (enter s) start in
        let z = x ++ value_notes head test ++ step_notes head step in
        caught_behind z (stmt_notes (in_loop head) a)
        (none_both (x ++ value_notes head test) (step_notes head step) (none_both x (value_notes head test) (none_start start (enter s)) (none_value test head)) (none_step step head))
        (stmt_caught a (in_loop head) (fit_rest h z (own_notes (in_loop head) a) fit))
    stmt_caught (tree.Break m) s fit = tt
    stmt_caught (tree.Continue m) s fit = tt
    stmt_caught (tree.Return m e) s fit = subst AllCaught (sym (none_expr e s)) tt
    stmt_caught (tree.Task m cs a) s fit =
        let ps = members cs in
        let inner = in_task_body s ps a in
        let x = clauses_notes s m ps a in
        let y = stmt_notes inner a in
        let all = captured s.entries ps a in
        let note = Task s m (count_items ps) all ∷ [] in
        let own : inner.owner ≡ owner.OfTask = items_owner ps s (in_task s (captured_in s.owner (slots_of all))) 0 in
        let fits = (fit_rest h (members_notes s [] ps) note fit).0 in
        let none : captures y ≡ [] = none_stmt a inner (λ e. let z : owner.OfTask ≡ owner.OfMain = sym own ∙ e in absurd (cc)) in
        subst AllCaught (sym (captures_both x y))
        (caught_both (captures x) (captures y) (caught_behind (members_notes s [] ps) note (none_parts ps s []) (caught_of s.owner all fits.2 fits.3)) (subst AllCaught (sym none) tt))
    stmt_caught (tree.Tick m t arrow e) s fit =
        subst AllCaught (sym (none_both (place_notes s (role.Flow direction.Reads) t) (expr_notes s e) (none_place t s (role.Flow direction.Reads)) (none_expr e s))) tt
    stmt_caught (tree.Taskwait m) s fit = tt

    pub stmts_caught : (ss : tree.Stmts) (s : Scope) → AllFit h (all_own_notes s ss) → AllCaught (captures (stmts_notes s ss))
    stmts_caught tree.no_stmts s fit = tt
    stmts_caught (tree.stmt a rest) s fit =
        let x = stmt_notes s a in
        let y = stmts_notes (after_stmt s a) rest in
        subst AllCaught (sym (captures_both x y))
        (caught_both (captures x) (captures y) (stmt_caught a s (fit_first h (own_notes s a) (all_own_notes (after_stmt s a) rest) fit))
        (stmts_caught rest (after_stmt s a) (fit_rest h (own_notes s a) (all_own_notes (after_stmt s a) rest) fit)))

  -- an item of a site
  pub record ItemFits (item : SiteItem) : Type 0 where
    pub stream : item.stream < h.code.streams
    pub window : (slot : ℕ) → item.window ≡ Some slot → slot < h.slots

  window_below : (w : What) (slot : ℕ) → Fits h w → slot_of w ≡ Some slot → slot < h.slots
  window_below (what.Window n) slot fits is = let e : n ≡ slot = cc in omega (arith, fits.1, e)
  window_below (what.Constant v) slot fits is = absurd (cc)
  window_below (what.Function f) slot fits is = absurd (cc)
  window_below (what.Scalar n) slot fits is = absurd (cc)
  window_below (what.Array first size) slot fits is = absurd (cc)
  window_below (what.Stream first count) slot fits is = absurd (cc)
  window_below (what.Element item) slot fits is = absurd (cc)
  window_below (what.View item) slot fits is = absurd (cc)

  item_fits : (d : Direction) (i : tree.ClauseItemTree) (s : Scope) (before : List ℕ) → AllFit h (member_notes s before (Item d i)) →
      ItemFits (site_item (tells h) d i)
  item_fits d i s before fit = record {
    stream = stream_fits h d i.stream s (fit_first h (place_notes s (role.Flow d) i.stream) (window_notes s before i.stream i.window) fit);
    window = λ slot is. by_window i.window slot (fit_rest h (place_notes s (role.Flow d) i.stream) (window_notes s before i.stream i.window) fit) is;
  }
    where
      by_window : (w : Option tree.JoinTree) (slot : ℕ) → AllFit h (window_notes s before i.stream w) → window_of (tells h) w ≡ Some slot → slot < h.slots
      by_window None slot fit is = absurd (cc)
      by_window (Some j) slot fit is = window_below (tells h j.name.mark.place).what slot fit.1.0 is

  items_fit : (ps : List ClauseMember) (s : Scope) (before : List ℕ) → AllFit h (members_notes s before ps) → All ItemFits (site_items (tells h) ps)
  items_fit [] s before fit = all_none ItemFits
  items_fit (Private n ∷ ps) s before fit = items_fit ps s ((member_name (Private n)).id ∷ before) fit.1.1
  items_fit (Item d i ∷ ps) s before fit =
      let here = member_notes s before (Item d i) in
      let rest = members_notes s ((member_name (Item d i)).id ∷ before) ps in
      all_more ItemFits (site_item (tells h) d i) (site_items (tells h) ps) (item_fits d i s before (fit_first h here rest fit)) (items_fit ps s ((member_name (Item d i)).id ∷ before) (fit_rest h here rest fit))

  -- the items of a task
  pub record TaskFits (t : TaskTree) : Type 0 where
    pub few : count_items t.members ≤ 8
    pub items : All ItemFits (site_items (tells h) t.members)

  abbrev pub AllTasks : List TaskTree → Type 0
  AllTasks [] = ⊤
  AllTasks (t ∷ ts) = TaskFits t × AllTasks ts

  tasks_both : (ts us : List TaskTree) → AllTasks ts → AllTasks us → AllTasks (ts ++ us)
  tasks_both [] us a b = b
  tasks_both (t ∷ ts) us a b = (a.0, tasks_both ts us a.1 b)

  pub task_fits_at : (ts : List TaskTree) (k : ℕ) (t : TaskTree) → AllTasks ts → slice_get ts k ≡ Some t → TaskFits t
  task_fits_at [] k t all is = absurd (cc)
  task_fits_at (u ∷ ts) zero t all is = let same : u ≡ t = cc in subst TaskFits same all.0
  task_fits_at (u ∷ ts) (suc k) t all is = task_fits_at ts k t all.1 is

  mutual
    pub stmt_tasks : (a : tree.StmtTree) (s : Scope) → AllFit h (own_notes s a) → AllTasks (tasks_of a)
    stmt_tasks tree.StmtTree.Empty s fit = tt
    stmt_tasks (tree.Block ss) s fit = stmts_tasks ss (enter s) fit
    stmt_tasks (tree.StmtTree.Declare ty ds) s fit = tt
    stmt_tasks (tree.StmtTree.Change c) s fit = tt
    stmt_tasks (tree.StmtTree.Call f args) s fit = tt
    stmt_tasks (tree.If c a) s fit = stmt_tasks a s (fit_rest h (expr_notes s c) (own_notes s a) fit)
    stmt_tasks (tree.IfElse c a b) s fit =
        let own = expr_notes s c ++ own_notes s a in
        tasks_both (tasks_of a) (tasks_of b) (stmt_tasks a s (fit_rest h (expr_notes s c) (own_notes s a) (fit_first h own (own_notes (after_stmt s a) b) fit)))
        (stmt_tasks b (after_stmt s a) (fit_rest h own (own_notes (after_stmt s a) b) fit))
    stmt_tasks (tree.While c a) s fit = stmt_tasks a (in_loop s) (fit_rest h (expr_notes s c) (own_notes (in_loop s) a) fit)
    stmt_tasks (tree.For start test step a) s fit =
        let head = after_start (enter s) start in
        stmt_tasks a (in_loop head) (fit_rest h (start_notes (enter s) start ++ value_notes head test ++ step_notes head step) (own_notes (in_loop head) a) fit)
    stmt_tasks (tree.Break m) s fit = tt
    stmt_tasks (tree.Continue m) s fit = tt
    stmt_tasks (tree.Return m e) s fit = tt
    stmt_tasks (tree.Task m cs a) s fit =
        let ps = members cs in
        let note = Task s m (count_items ps) (captured s.entries ps a) ∷ [] in
        (record { few = (fit_rest h (members_notes s [] ps) note fit).0.1; items = items_fit ps s [] (fit_first h (members_notes s [] ps) note fit) }, tt)
    stmt_tasks (tree.Tick m t arrow e) s fit = tt
    stmt_tasks (tree.Taskwait m) s fit = tt

    pub stmts_tasks : (ss : tree.Stmts) (s : Scope) → AllFit h (all_own_notes s ss) → AllTasks (all_tasks_of ss)
    stmts_tasks tree.no_stmts s fit = tt
    stmts_tasks (tree.stmt a rest) s fit =
        let y = all_own_notes (after_stmt s a) rest in
        tasks_both (tasks_of a) (all_tasks_of rest) (stmt_tasks a s (fit_first h (own_notes s a) y fit)) (stmts_tasks rest (after_stmt s a) (fit_rest h (own_notes s a) y fit))
