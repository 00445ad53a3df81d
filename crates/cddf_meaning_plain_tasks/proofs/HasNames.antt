-- Which names stand in a list of them that is put together from parts.
use Rattle.std.proofs.Common.{◌≡◌, ℕ, ◌==◌, ◌&&◌, ◌||◌, not, Bool, true, false, if◌then◌else◌, List, [], ◌∷◌, ◌++◌, Option, Some, None, map, ap, refl, sym, ◌∙◌, arith}
use Rattle.std.proofs.lemmas.List.{append_assoc}
use Rattle.cddf_meaning.proofs.IsIn.{in-append}
use Rattle.cddf_meaning_plain_tasks.specs.Sought.{ids_of, item_names, items_names}
use Rattle.cddf_meaning_plain_tasks.specs.Has.{calls_item, clause_calls_item, clause_item_ids, clause_lists, clauses_item_ids, declares, has_args, has_change, has_clause, has_clauses, has_declarators, has_expr, has_index, has_items, has_join, has_links, has_start, has_step, has_stmt, has_stmts, has_target, has_task, has_value, lists}
use Rattle.os_ast.specs.FreeNames.{args_names, change_names, declarators_names, expr_names, index_names, join_names, links_names, members_names, start_ids, start_names, step_names, stmt_ids, stmt_names, stmts_names, target_names, task_names, value_names, without}
use Rattle.os_ast.specs.ClauseMembers.{ClauseMember, Item, Private, is_in, item_ids, item_name, members, clause_members, private_ids}
use Rattle.os_ast.specs.Trees as tree
use Rattle.os_ast.specs.declared.expr.Name.{Name}
use Rattle.os_ast.specs.declared.names.Direction.TheVariants as direction
use Rattle.os_ast.specs.declared.names.Direction.{Direction}

and-false : (a : Bool) → false ≡ (a && false)
and-false true = refl
and-false false = refl

-- a name that is declared, and one that isn't
gone : (e n r : Bool) → (e ≡ true → n ≡ true) → (not n && r) ≡ (not n && (e || r))
gone false n r h = refl
gone true true r h = refl
gone true false r h = let k = h refl in cc

stays : (e n r : Bool) → (e ≡ true → n ≡ false) → (e || (not n && r)) ≡ (not n && (e || r))
stays false n r h = refl
stays true false r h = refl
stays true true r h = let k = h refl in cc

same : (x id : ℕ) → (x == id) ≡ true → x ≡ id
same x id h = grind (arith, h)

in-step : (id x : ℕ) (ds xs : List ℕ) (b : Bool) → is_in x ds ≡ b → is_in id (without ds xs) ≡ (not (is_in id ds) && is_in id xs) →
    is_in id (if b then without ds xs else x ∷ without ds xs) ≡ (not (is_in id ds) && ((x == id) || is_in id xs))
in-step id x ds xs true d h =
    h ∙ gone (x == id) (is_in id ds) (is_in id xs) (λ e. ap (λ y. is_in y ds) (sym (same x id e)) ∙ d)
in-step id x ds xs false d h =
    ap (λ b. (x == id) || b) h ∙ stays (x == id) (is_in id ds) (is_in id xs) (λ e. ap (λ y. is_in y ds) (sym (same x id e)) ∙ d)

pub in-without : (id : ℕ) (ds xs : List ℕ) → is_in id (without ds xs) ≡ (not (is_in id ds) && is_in id xs)
in-without id ds [] = and-false (not (is_in id ds))
in-without id ds (x ∷ xs) = in-step id x ds xs (is_in x ds) refl (in-without id ds xs)

pub members_names-append : (ps qs : List ClauseMember) → members_names (ps ++ qs) ≡ members_names ps ++ members_names qs
members_names-append [] qs = refl
members_names-append (Item d i ∷ ps) qs =
    ap (λ ids. target_names i.stream ++ join_names i.window ++ ids) (members_names-append ps qs)
    ∙ sym (append_assoc (target_names i.stream ++ join_names i.window) (members_names ps) (members_names qs))
members_names-append (Private n ∷ ps) qs = ap (λ ids. n.id ∷ ids) (members_names-append ps qs)

pub item_ids-append : (ps qs : List ClauseMember) → item_ids (ps ++ qs) ≡ item_ids ps ++ item_ids qs
item_ids-append [] qs = refl
item_ids-append (Item d i ∷ ps) qs = ap (λ ids. (item_name i.stream i.window).id ∷ ids) (item_ids-append ps qs)
item_ids-append (Private n ∷ ps) qs = item_ids-append ps qs

pub private_ids-append : (ps qs : List ClauseMember) → private_ids (ps ++ qs) ≡ private_ids ps ++ private_ids qs
private_ids-append [] qs = refl
private_ids-append (Item d i ∷ ps) qs = private_ids-append ps qs
private_ids-append (Private n ∷ ps) qs = ap (λ ids. n.id ∷ ids) (private_ids-append ps qs)

pub members_names-items : (d : Direction) (is : List tree.ClauseItemTree) → members_names (map (Item d) is) ≡ items_names is
members_names-items d [] = refl
members_names-items d (i ∷ is) = ap (λ ids. target_names i.stream ++ join_names i.window ++ ids) (members_names-items d is)

pub members_names-privates : (ns : List Name) → members_names (map Private ns) ≡ ids_of ns
members_names-privates [] = refl
members_names-privates (n ∷ ns) = ap (λ ids. n.id ∷ ids) (members_names-privates ns)

pub item_ids-items : (d : Direction) (is : List tree.ClauseItemTree) → item_ids (map (Item d) is) ≡ item_names is
item_ids-items d [] = refl
item_ids-items d (i ∷ is) = ap (λ ids. (item_name i.stream i.window).id ∷ ids) (item_ids-items d is)

pub item_ids-privates : (ns : List Name) → item_ids (map Private ns) ≡ []
item_ids-privates [] = refl
item_ids-privates (n ∷ ns) = item_ids-privates ns

pub private_ids-items : (d : Direction) (is : List tree.ClauseItemTree) → private_ids (map (Item d) is) ≡ []
private_ids-items d [] = refl
private_ids-items d (i ∷ is) = private_ids-items d is

pub private_ids-privates : (ns : List Name) → private_ids (map Private ns) ≡ ids_of ns
private_ids-privates [] = refl
private_ids-privates (n ∷ ns) = ap (λ ids. n.id ∷ ids) (private_ids-privates ns)

in-or : (id : ℕ) (xs ys : List ℕ) (p q : Bool) → p ≡ is_in id xs → q ≡ is_in id ys → (p || q) ≡ is_in id (xs ++ ys)
in-or id xs ys p q hp hq = ap (λ b. b || q) hp ∙ ap (λ b. is_in id xs || b) hq ∙ sym (in-append id xs ys)

in-not : (id : ℕ) (ds xs : List ℕ) (p q : Bool) → p ≡ is_in id ds → q ≡ is_in id xs → (not p && q) ≡ is_in id (without ds xs)
in-not id ds xs p q hp hq = ap (λ b. not b && q) hp ∙ ap (λ b. not (is_in id ds) && b) hq ∙ sym (in-without id ds xs)

or-false : (b : Bool) → b ≡ (b || false)
or-false true = refl
or-false false = refl

one : (id x : ℕ) → (x == id) ≡ is_in id (x ∷ [])
one id x = or-false (x == id)

mutual
  expr-has : (id : ℕ) (e : tree.ExprTree) → has_expr id e ≡ is_in id (expr_names e)
  expr-has id (tree.Number n) = refl
  expr-has id (tree.Wide n) = refl
  expr-has id (tree.Place t) = target-has id t
  expr-has id (tree.ExprTree.Call f args) = ap (λ b. (f.id == id) || b) (args-has id args)
  expr-has id (tree.Paren e) = expr-has id e
  expr-has id (tree.Unary op m e) = expr-has id e
  expr-has id (tree.Chain l first links) =
      in-or id (expr_names first) (links_names links) (has_expr id first) (has_links id links) (expr-has id first) (links-has id links)
  expr-has id (tree.Choice c a b) =
      in-or id (expr_names c ++ expr_names a) (expr_names b) (has_expr id c || has_expr id a) (has_expr id b)
      (in-or id (expr_names c) (expr_names a) (has_expr id c) (has_expr id a) (expr-has id c) (expr-has id a)) (expr-has id b)

  target-has : (id : ℕ) (t : tree.TargetTree) → has_target id t ≡ is_in id (target_names t)
  target-has id (tree.Variable n) = one id n.id
  target-has id (tree.Element n m e) = ap (λ b. (n.id == id) || b) (expr-has id e)

  args-has : (id : ℕ) (es : tree.Args) → has_args id es ≡ is_in id (args_names es)
  args-has id tree.no_args = refl
  args-has id (tree.arg e es) = in-or id (expr_names e) (args_names es) (has_expr id e) (has_args id es) (expr-has id e) (args-has id es)

  links-has : (id : ℕ) (ls : tree.Links) → has_links id ls ≡ is_in id (links_names ls)
  links-has id tree.no_links = refl
  links-has id (tree.link op m e rest) =
      in-or id (expr_names e) (links_names rest) (has_expr id e) (has_links id rest) (expr-has id e) (links-has id rest)

value-has : (id : ℕ) (e : Option tree.ExprTree) → has_value id e ≡ is_in id (value_names e)
value-has id None = refl
value-has id (Some e) = expr-has id e

index-has : (id : ℕ) (i : Option tree.IndexTree) → has_index id i ≡ is_in id (index_names i)
index-has id None = refl
index-has id (Some i) = expr-has id i.value

change-has : (id : ℕ) (c : tree.ChangeTree) → has_change id c ≡ is_in id (change_names c)
change-has id (tree.Set t a m e) = in-or id (target_names t) (expr_names e) (has_target id t) (has_expr id e) (target-has id t) (expr-has id e)
change-has id (tree.After t step m) = target-has id t
change-has id (tree.Before t step m) = target-has id t

step-has : (id : ℕ) (c : Option tree.ChangeTree) → has_step id c ≡ is_in id (step_names c)
step-has id None = refl
step-has id (Some c) = change-has id c

join-has : (id : ℕ) (j : Option tree.JoinTree) → has_join id j ≡ is_in id (join_names j)
join-has id None = refl
join-has id (Some j) = ap (λ b. (j.name.id == id) || b) (index-has id j.burst)

declarators-has : (id : ℕ) (ds : List tree.DeclaratorTree) → has_declarators id ds ≡ is_in id (declarators_names ds)
declarators-has id [] = refl
declarators-has id (d ∷ ds) =
    in-not id (d.name.id ∷ []) (value_names d.first ++ declarators_names ds) (d.name.id == id) (has_value id d.first || has_declarators id ds)
    (one id d.name.id)
    (in-or id (value_names d.first) (declarators_names ds) (has_value id d.first) (has_declarators id ds) (value-has id d.first) (declarators-has id ds))

start-has : (id : ℕ) (s : tree.StartTree) → has_start id s ≡ is_in id (start_names s)
start-has id tree.StartTree.Empty = refl
start-has id (tree.StartTree.Declare ty ds) = declarators-has id ds
start-has id (tree.StartTree.Change c) = change-has id c

items-has : (id : ℕ) (is : List tree.ClauseItemTree) → has_items id is ≡ is_in id (items_names is)
items-has id [] = refl
items-has id (i ∷ is) =
    in-or id (target_names i.stream ++ join_names i.window) (items_names is) (has_target id i.stream || has_join id i.window) (has_items id is)
    (in-or id (target_names i.stream) (join_names i.window) (has_target id i.stream) (has_join id i.window)
    (target-has id i.stream) (join-has id i.window))
    (items-has id is)

clause-has : (id : ℕ) (k : tree.ClauseKindTree) → has_clause id k ≡ is_in id (members_names (clause_members k))
clause-has id (tree.Input is) = items-has id is ∙ ap (is_in id) (sym (members_names-items direction.Reads is))
clause-has id (tree.Output is) = items-has id is ∙ ap (is_in id) (sym (members_names-items direction.Writes is))
clause-has id (tree.Firstprivate ns) = ap (is_in id) (sym (members_names-privates ns))

clauses-has : (id : ℕ) (cs : List tree.ClauseTree) → has_clauses id cs ≡ is_in id (members_names (members cs))
clauses-has id [] = refl
clauses-has id (c ∷ cs) =
    in-or id (members_names (clause_members c.kind)) (members_names (members cs)) (has_clause id c.kind) (has_clauses id cs) (clause-has id c.kind) (clauses-has id cs)
    ∙ ap (is_in id) (sym (members_names-append (clause_members c.kind) (members cs)))

clause-calls : (id : ℕ) (k : tree.ClauseKindTree) → clause_calls_item id k ≡ is_in id (item_ids (clause_members k))
clause-calls id (tree.Input is) = ap (is_in id) (sym (item_ids-items direction.Reads is))
clause-calls id (tree.Output is) = ap (is_in id) (sym (item_ids-items direction.Writes is))
clause-calls id (tree.Firstprivate ns) = ap (is_in id) (sym (item_ids-privates ns))

clauses-call : (id : ℕ) (cs : List tree.ClauseTree) → calls_item id cs ≡ is_in id (item_ids (members cs))
clauses-call id [] = refl
clauses-call id (c ∷ cs) =
    in-or id (item_ids (clause_members c.kind)) (item_ids (members cs)) (clause_calls_item id c.kind) (calls_item id cs) (clause-calls id c.kind) (clauses-call id cs)
    ∙ ap (is_in id) (sym (item_ids-append (clause_members c.kind) (members cs)))

clause-lists : (id : ℕ) (k : tree.ClauseKindTree) → clause_lists id k ≡ is_in id (private_ids (clause_members k))
clause-lists id (tree.Input is) = ap (is_in id) (sym (private_ids-items direction.Reads is))
clause-lists id (tree.Output is) = ap (is_in id) (sym (private_ids-items direction.Writes is))
clause-lists id (tree.Firstprivate ns) = ap (is_in id) (sym (private_ids-privates ns))

clauses-list : (id : ℕ) (cs : List tree.ClauseTree) → lists id cs ≡ is_in id (private_ids (members cs))
clauses-list id [] = refl
clauses-list id (c ∷ cs) =
    in-or id (private_ids (clause_members c.kind)) (private_ids (members cs)) (clause_lists id c.kind) (lists id cs) (clause-lists id c.kind) (clauses-list id cs)
    ∙ ap (is_in id) (sym (private_ids-append (clause_members c.kind) (members cs)))

stmt-declares : (id : ℕ) (a : tree.StmtTree) → declares id a ≡ is_in id (stmt_ids a)
stmt-declares id tree.StmtTree.Empty = refl
stmt-declares id (tree.Block ss) = refl
stmt-declares id (tree.StmtTree.Declare ty ds) = refl
stmt-declares id (tree.StmtTree.Change c) = refl
stmt-declares id (tree.StmtTree.Call f args) = refl
stmt-declares id (tree.If c a) = stmt-declares id a
stmt-declares id (tree.IfElse c a b) =
    in-or id (stmt_ids a) (stmt_ids b) (declares id a) (declares id b) (stmt-declares id a) (stmt-declares id b)
stmt-declares id (tree.While c a) = stmt-declares id a
stmt-declares id (tree.For start test step a) = refl
stmt-declares id (tree.Break m) = refl
stmt-declares id (tree.Continue m) = refl
stmt-declares id (tree.Return m e) = refl
stmt-declares id (tree.Task m cs a) = refl
stmt-declares id (tree.Tick m t arrow e) = refl
stmt-declares id (tree.Taskwait m) = refl

mutual
  stmt-has : (id : ℕ) (a : tree.StmtTree) → has_stmt id a ≡ is_in id (stmt_names a)
  stmt-has id tree.StmtTree.Empty = refl
  stmt-has id (tree.Block ss) = stmts-have id ss
  stmt-has id (tree.StmtTree.Declare ty ds) = declarators-has id ds
  stmt-has id (tree.StmtTree.Change c) = change-has id c
  stmt-has id (tree.StmtTree.Call f args) = ap (λ b. (f.id == id) || b) (args-has id args)
  stmt-has id (tree.If c a) = in-or id (expr_names c) (stmt_names a) (has_expr id c) (has_stmt id a) (expr-has id c) (stmt-has id a)
  stmt-has id (tree.IfElse c a b) =
      in-or id (expr_names c ++ stmt_names a) (without (stmt_ids a) (stmt_names b)) (has_expr id c || has_stmt id a) (not (declares id a) && has_stmt id b)
      (in-or id (expr_names c) (stmt_names a) (has_expr id c) (has_stmt id a) (expr-has id c) (stmt-has id a))
      (in-not id (stmt_ids a) (stmt_names b) (declares id a) (has_stmt id b) (stmt-declares id a) (stmt-has id b))
  stmt-has id (tree.While c a) = in-or id (expr_names c) (stmt_names a) (has_expr id c) (has_stmt id a) (expr-has id c) (stmt-has id a)
  stmt-has id (tree.For start test step a) =
      let inner = value_names test ++ step_names step ++ stmt_names a in
      in-or id (start_names start) (without (start_ids start) inner) (has_start id start)
      (not (is_in id (start_ids start)) && (has_value id test || has_step id step || has_stmt id a))
      (start-has id start)
      (in-not id (start_ids start) inner (is_in id (start_ids start)) (has_value id test || has_step id step || has_stmt id a) refl
      (in-or id (value_names test ++ step_names step) (stmt_names a) (has_value id test || has_step id step) (has_stmt id a)
      (in-or id (value_names test) (step_names step) (has_value id test) (has_step id step) (value-has id test) (step-has id step))
      (stmt-has id a)))
  stmt-has id (tree.Break m) = refl
  stmt-has id (tree.Continue m) = refl
  stmt-has id (tree.Return m e) = expr-has id e
  stmt-has id (tree.Task m cs a) =
      in-or id (members_names (members cs)) (without (item_ids (members cs)) (stmt_names a)) (has_clauses id cs) (not (calls_item id cs) && has_stmt id a)
      (clauses-has id cs)
      (in-not id (item_ids (members cs)) (stmt_names a) (calls_item id cs) (has_stmt id a) (clauses-call id cs) (stmt-has id a))
  stmt-has id (tree.Tick m t arrow e) =
      in-or id (target_names t) (expr_names e) (has_target id t) (has_expr id e) (target-has id t) (expr-has id e)
  stmt-has id (tree.Taskwait m) = refl

  stmts-have : (id : ℕ) (ss : tree.Stmts) → has_stmts id ss ≡ is_in id (stmts_names ss)
  stmts-have id tree.no_stmts = refl
  stmts-have id (tree.stmt a rest) =
      in-or id (stmt_names a) (without (stmt_ids a) (stmts_names rest)) (has_stmt id a) (not (declares id a) && has_stmts id rest)
      (stmt-has id a)
      (in-not id (stmt_ids a) (stmts_names rest) (declares id a) (has_stmts id rest) (stmt-declares id a) (stmts-have id rest))

-- a name that a task takes from round it
pub task_has : (id : ℕ) (cs : List tree.ClauseTree) (body : tree.StmtTree) → has_task id cs body ≡ is_in id (task_names (members cs) body)
task_has id cs body =
    in-or id (private_ids (members cs)) (without (item_ids (members cs)) (stmt_names body)) (lists id cs) (not (calls_item id cs) && has_stmt id body)
    (clauses-list id cs)
    (in-not id (item_ids (members cs)) (stmt_names body) (calls_item id cs) (has_stmt id body) (clauses-call id cs) (stmt-has id body))

clause-ids : (k : tree.ClauseKindTree) → clause_item_ids k ≡ item_ids (clause_members k)
clause-ids (tree.Input is) = sym (item_ids-items direction.Reads is)
clause-ids (tree.Output is) = sym (item_ids-items direction.Writes is)
clause-ids (tree.Firstprivate ns) = sym (item_ids-privates ns)

-- the names of items, a clause at a time
pub clauses_ids : (cs : List tree.ClauseTree) → clauses_item_ids cs ≡ item_ids (members cs)
clauses_ids [] = refl
clauses_ids (c ∷ cs) =
    ap (λ ids. ids ++ clauses_item_ids cs) (clause-ids c.kind)
    ∙ ap (λ ids. item_ids (clause_members c.kind) ++ ids) (clauses_ids cs)
    ∙ sym (item_ids-append (clause_members c.kind) (members cs))
