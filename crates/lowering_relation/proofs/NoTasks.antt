-- Parts of a program in which no task of `main` stands.
use Rattle.std.proofs.Common.{◌≡◌, ℕ, suc, ◌&&◌, Bool, true, false, not, if◌then◌else◌, List, [], ◌∷◌, ◌++◌, Option, Some, None, refl, sym, ap, ◌∙◌, append_assoc}
use Rattle.os_ast.specs.Captured.{captured, slots_of}
use Rattle.os_ast.specs.Names.{Scope, enter, in_loop, typed}
use Rattle.os_ast.specs.Notes.Clauses.{with_items, in_task, captured_in, in_task_body, window_notes, members_notes, clauses_notes}
use Rattle.os_ast.specs.Notes.Declarators.{is_window, after_declarator, declarator_notes, declarators_notes, size_notes, sized_notes, after_start, start_notes}
use Rattle.os_ast.specs.Notes.Expressions.{expr_notes, place_notes, args_notes, links_notes, value_notes, index_notes, change_notes, step_notes}
use Rattle.os_ast.specs.Notes.Kinds.{Note, Task}
use Rattle.os_ast.specs.Notes.Statements.{after_stmt, stmt_notes, stmts_notes}
use Rattle.os_ast.specs.ClauseMembers.{ClauseMember, Item, Private, members, member_name, count_items}
use Rattle.os_ast.specs.Trees as tree
use Rattle.os_ast.specs.Violations.{main_task, captures_of, captures}
use Rattle.os_ast.specs.declared.names.Direction.TheVariants as direction
use Rattle.os_ast.specs.declared.names.Owner.{Owner}
use Rattle.os_ast.specs.declared.names.Owner.TheVariants as owner
use Rattle.os_ast.specs.declared.names.Role.{Role}
use Rattle.os_ast.specs.declared.names.Role.TheVariants as role
use Rattle.lowering_relation.proofs.Static.{start_onward, stmt_onward}

pub captures_both : (xs ys : List Note) → captures (xs ++ ys) ≡ captures xs ++ captures ys
captures_both [] ys = refl
captures_both (n ∷ xs) ys = ap (λ cs. captures_of n ++ cs) (captures_both xs ys) ∙ sym (append_assoc (captures_of n) (captures xs) (captures ys))

pub none_both : (xs ys : List Note) → captures xs ≡ [] → captures ys ≡ [] → captures (xs ++ ys) ≡ []
none_both xs ys a b = captures_both xs ys ∙ ap (λ cs. cs ++ captures ys) a ∙ b

mutual
  pub none_expr : (e : tree.ExprTree) (s : Scope) → captures (expr_notes s e) ≡ []
  none_expr (tree.Number n) s = refl
  none_expr (tree.Wide n) s = refl
  none_expr (tree.Place t) s = none_place t s role.Value
  none_expr (tree.ExprTree.Call f args) s = none_args args s
  none_expr (tree.Paren e) s = none_expr e s
  none_expr (tree.Unary op m e) s = none_expr e s
  none_expr (tree.Chain l first links) s = none_both (expr_notes s first) (links_notes s links) (none_expr first s) (none_links links s)
  none_expr (tree.Choice c a b) s =
      none_both (expr_notes s c ++ expr_notes s a) (expr_notes s b) (none_both (expr_notes s c) (expr_notes s a) (none_expr c s) (none_expr a s)) (none_expr b s)

  pub none_place : (t : tree.TargetTree) (s : Scope) (r : Role) → captures (place_notes s r t) ≡ []
  none_place (tree.Variable n) s r = refl
  none_place (tree.Element n m e) s r = none_expr e s

  pub none_args : (es : tree.Args) (s : Scope) → captures (args_notes s es) ≡ []
  none_args tree.no_args s = refl
  none_args (tree.arg e es) s = none_both (expr_notes s e) (args_notes s es) (none_expr e s) (none_args es s)

  none_links : (ls : tree.Links) (s : Scope) → captures (links_notes s ls) ≡ []
  none_links tree.no_links s = refl
  none_links (tree.link op m e rest) s = none_both (expr_notes s e) (links_notes s rest) (none_expr e s) (none_links rest s)

pub none_value : (o : Option tree.ExprTree) (s : Scope) → captures (value_notes s o) ≡ []
none_value None s = refl
none_value (Some e) s = none_expr e s

none_index : (o : Option tree.IndexTree) (s : Scope) → captures (index_notes s o) ≡ []
none_index None s = refl
none_index (Some i) s = none_expr i.value s

pub none_change : (c : tree.ChangeTree) (s : Scope) → captures (change_notes s c) ≡ []
none_change (tree.Set t a m e) s = none_both (place_notes s role.Changed t) (expr_notes s e) (none_place t s role.Changed) (none_expr e s)
none_change (tree.After t p m) s = none_place t s role.Changed
none_change (tree.Before t p m) s = none_place t s role.Changed

pub none_step : (o : Option tree.ChangeTree) (s : Scope) → captures (step_notes s o) ≡ []
none_step None s = refl
none_step (Some c) s = none_change c s

none_window : (s : Scope) (before : List ℕ) (stream : tree.TargetTree) (w : Option tree.JoinTree) → captures (window_notes s before stream w) ≡ []
none_window s before stream None = refl
none_window s before stream (Some j) = none_index j.burst s

pub none_parts : (ps : List ClauseMember) (s : Scope) (before : List ℕ) → captures (members_notes s before ps) ≡ []
none_parts [] s before = refl
none_parts (Private n ∷ ps) s before = none_parts ps s (n.id ∷ before)
none_parts (Item d i ∷ ps) s before =
    none_both (place_notes s (role.Flow d) i.stream ++ window_notes s before i.stream i.window) (members_notes s ((member_name (Item d i)).id ∷ before) ps)
    (none_both (place_notes s (role.Flow d) i.stream) (window_notes s before i.stream i.window) (none_place i.stream s (role.Flow d)) (none_window s before i.stream i.window))
    (none_parts ps s ((member_name (Item d i)).id ∷ before))

none_size : (s : Scope) (e : tree.ExprTree) → captures (size_notes s e) ≡ []
none_size s (tree.Number n) = refl
none_size s (tree.Wide n) = refl
none_size s (tree.Place (tree.Variable n)) = refl
none_size s (tree.Place (tree.Element n m e)) = refl
none_size s (tree.ExprTree.Call f args) = refl
none_size s (tree.Paren e) = refl
none_size s (tree.Unary op m e) = refl
none_size s (tree.Chain l first links) = refl
none_size s (tree.Choice c a b) = refl

none_sized : (s : Scope) (stream : Bool) (o : Option tree.IndexTree) → captures (sized_notes s stream o) ≡ []
none_sized s stream None = refl
none_sized s stream (Some i) = by_case (is_window s.owner && not stream)
  where
    by_case : (t : Bool) → captures (if t then expr_notes s i.value else size_notes s i.value) ≡ []
    by_case true = none_expr i.value s
    by_case false = none_size s i.value

pub none_declarators : (ds : List tree.DeclaratorTree) (s : Scope) → captures (declarators_notes s ds) ≡ []
none_declarators [] s = refl
none_declarators (d ∷ ds) s =
    none_both (declarator_notes s d) (declarators_notes (after_declarator s d) ds)
    (none_both (sized_notes s d.stream d.size) (value_notes (after_declarator s d) d.first) (none_sized s d.stream d.size) (none_value d.first (after_declarator s d)))
    (none_declarators ds (after_declarator s d))

pub none_start : (t : tree.StartTree) (s : Scope) → captures (start_notes s t) ≡ []
none_start tree.StartTree.Empty s = refl
none_start (tree.StartTree.Declare ty ds) s = none_declarators ds (typed ty s)
none_start (tree.StartTree.Change c) s = none_change c s

pub items_owner : (ps : List ClauseMember) (s inner : Scope) (item : ℕ) → (with_items s inner item ps).owner ≡ inner.owner
items_owner [] s inner item = refl
items_owner (Item d i ∷ ps) s inner item = items_owner ps s _ (suc item)
items_owner (Private n ∷ ps) s inner item = items_owner ps s inner item

-- a body that isn't that of `main`
abbrev pub IsOther : Owner → Type 0
IsOther o = o ≡ owner.OfMain → ⊥

-- a task that stands in no `main`
outside : (o : Owner) (slots : List ℕ) → IsOther o → main_task o slots ++ [] ≡ []
outside owner.OfTask slots e = refl
outside owner.OfMain slots e = absurd (e refl)
outside owner.OfFunction slots e = refl

-- Nothing outside `main` captures something.
mutual
  pub none_stmt : (a : tree.StmtTree) (s : Scope) → IsOther s.owner → captures (stmt_notes s a) ≡ []
  none_stmt tree.StmtTree.Empty s own = refl
  none_stmt (tree.Block ss) s own = none_stmts ss (enter s) own
  none_stmt (tree.StmtTree.Declare ty ds) s own = none_declarators ds (typed ty s)
  none_stmt (tree.StmtTree.Change c) s own = none_change c s
  none_stmt (tree.StmtTree.Call f args) s own = none_args args s
  none_stmt (tree.If c a) s own = none_both (expr_notes s c) (stmt_notes s a) (none_expr c s) (none_stmt a s own)
  none_stmt (tree.IfElse c a b) s own =
      none_both (expr_notes s c ++ stmt_notes s a) (stmt_notes (after_stmt s a) b) (none_both (expr_notes s c) (stmt_notes s a) (none_expr c s) (none_stmt a s own))
      (none_stmt b (after_stmt s a) (λ e. own (sym (stmt_onward a s).owner ∙ e)))
  none_stmt (tree.While c a) s own = none_both (expr_notes s c) (stmt_notes (in_loop s) a) (none_expr c s) (none_stmt a (in_loop s) own)
  none_stmt (tree.For start test step a) s own =
      let head = after_start (enter s) start in
      let x = start_notes (enter s) start in
      none_both (x ++ value_notes head test ++ step_notes head step) (stmt_notes (in_loop head) a)
      (none_both (x ++ value_notes head test) (step_notes head step) (none_both x (value_notes head test) (none_start start (enter s)) (none_value test head)) (none_step step head))
      (none_stmt a (in_loop head) (λ e. own (sym (start_onward start (enter s)).owner ∙ e)))
  none_stmt (tree.Break m) s own = refl
  none_stmt (tree.Continue m) s own = refl
  none_stmt (tree.Return m e) s own = none_expr e s
  none_stmt (tree.Task m cs a) s own =
      let inner = in_task_body s (members cs) a in
      none_both (clauses_notes s m (members cs) a) (stmt_notes inner a)
      (none_both (members_notes s [] (members cs)) (Task s m (count_items (members cs)) (captured s.entries (members cs) a) ∷ []) (none_parts (members cs) s []) (outside s.owner (slots_of (captured s.entries (members cs) a)) own))
      (none_stmt a inner (λ e. let x : owner.OfTask ≡ owner.OfMain = sym (items_owner (members cs) s (in_task s (captured_in s.owner (slots_of (captured s.entries (members cs) a)))) 0) ∙ e in absurd (cc)))
  none_stmt (tree.Tick m t arrow e) s own = none_both (place_notes s (role.Flow direction.Reads) t) (expr_notes s e) (none_place t s (role.Flow direction.Reads)) (none_expr e s)
  none_stmt (tree.Taskwait m) s own = refl

  pub none_stmts : (ss : tree.Stmts) (s : Scope) → IsOther s.owner → captures (stmts_notes s ss) ≡ []
  none_stmts tree.no_stmts s own = refl
  none_stmts (tree.stmt a rest) s own =
      none_both (stmt_notes s a) (stmts_notes (after_stmt s a) rest) (none_stmt a s own) (none_stmts rest (after_stmt s a) (λ e. own (sym (stmt_onward a s).owner ∙ e)))
