-- Whether a name is free in a part of a task's body: it stands there, and the body doesn't declare it before.
use Rattle.std.specs.Prelude.{ℕ, ◌==◌, ◌&&◌, ◌||◌, not, Bool, false, List, [], ◌∷◌, ◌++◌, Option, Some, None}
use Rattle.cddf_meaning_plain_tasks.specs.Sought.{ids_of, item_names}
use Rattle.os_ast.specs.FreeNames.{declared_ids, start_ids}
use Rattle.os_ast.specs.ClauseMembers.{is_in}
use Rattle.os_ast.specs.Trees as tree

abbrev mutual
  pub has_expr : ℕ → tree.ExprTree → Bool
  has_expr id (tree.Number n) = false
  has_expr id (tree.Wide n) = false
  has_expr id (tree.Place t) = has_target id t
  has_expr id (tree.ExprTree.Call f args) = (f.id == id) || has_args id args
  has_expr id (tree.Paren e) = has_expr id e
  has_expr id (tree.Unary op m e) = has_expr id e
  has_expr id (tree.Chain l first links) = has_expr id first || has_links id links
  has_expr id (tree.Choice c a b) = has_expr id c || has_expr id a || has_expr id b

  pub has_target : ℕ → tree.TargetTree → Bool
  has_target id (tree.Variable n) = n.id == id
  has_target id (tree.Element n m e) = (n.id == id) || has_expr id e

  pub has_args : ℕ → tree.Args → Bool
  has_args id tree.no_args = false
  has_args id (tree.arg e es) = has_expr id e || has_args id es

  pub has_links : ℕ → tree.Links → Bool
  has_links id tree.no_links = false
  has_links id (tree.link op m e rest) = has_expr id e || has_links id rest

abbrev pub has_value : ℕ → Option tree.ExprTree → Bool
has_value id None = false
has_value id (Some e) = has_expr id e

abbrev pub has_index : ℕ → Option tree.IndexTree → Bool
has_index id None = false
has_index id (Some i) = has_expr id i.value

abbrev pub has_change : ℕ → tree.ChangeTree → Bool
has_change id (tree.Set t a m e) = has_target id t || has_expr id e
has_change id (tree.After t step m) = has_target id t
has_change id (tree.Before t step m) = has_target id t

abbrev pub has_step : ℕ → Option tree.ChangeTree → Bool
has_step id None = false
has_step id (Some c) = has_change id c

abbrev pub has_join : ℕ → Option tree.JoinTree → Bool
has_join id None = false
has_join id (Some j) = (j.name.id == id) || has_index id j.burst

abbrev pub has_declarators : ℕ → List tree.DeclaratorTree → Bool
has_declarators id [] = false
has_declarators id (d ∷ ds) = not (d.name.id == id) && (has_value id d.first || has_declarators id ds)

abbrev pub has_start : ℕ → tree.StartTree → Bool
has_start id tree.StartTree.Empty = false
has_start id (tree.StartTree.Declare ty ds) = has_declarators id ds
has_start id (tree.StartTree.Change c) = has_change id c

abbrev pub has_items : ℕ → List tree.ClauseItemTree → Bool
has_items id [] = false
has_items id (i ∷ is) = has_target id i.stream || has_join id i.window || has_items id is

abbrev pub has_clause : ℕ → tree.ClauseKindTree → Bool
has_clause id (tree.Input is) = has_items id is
has_clause id (tree.Output is) = has_items id is
has_clause id (tree.Firstprivate ns) = is_in id (ids_of ns)

abbrev pub has_clauses : ℕ → List tree.ClauseTree → Bool
has_clauses id [] = false
has_clauses id (c ∷ cs) = has_clause id c.kind || has_clauses id cs

-- whether an item has this name in its task's body
abbrev pub clause_calls_item : ℕ → tree.ClauseKindTree → Bool
clause_calls_item id (tree.Input is) = is_in id (item_names is)
clause_calls_item id (tree.Output is) = is_in id (item_names is)
clause_calls_item id (tree.Firstprivate ns) = false

abbrev pub calls_item : ℕ → List tree.ClauseTree → Bool
calls_item id [] = false
calls_item id (c ∷ cs) = clause_calls_item id c.kind || calls_item id cs

-- the names of a task's items in its body
abbrev pub clause_item_ids : tree.ClauseKindTree → List ℕ
clause_item_ids (tree.Input is) = item_names is
clause_item_ids (tree.Output is) = item_names is
clause_item_ids (tree.Firstprivate ns) = []

abbrev pub clauses_item_ids : List tree.ClauseTree → List ℕ
clauses_item_ids [] = []
clauses_item_ids (c ∷ cs) = clause_item_ids c.kind ++ clauses_item_ids cs

-- whether a clause is a `firstprivate` that lists the name
abbrev pub clause_lists : ℕ → tree.ClauseKindTree → Bool
clause_lists id (tree.Input is) = false
clause_lists id (tree.Output is) = false
clause_lists id (tree.Firstprivate ns) = is_in id (ids_of ns)

abbrev pub lists : ℕ → List tree.ClauseTree → Bool
lists id [] = false
lists id (c ∷ cs) = clause_lists id c.kind || lists id cs

-- whether a statement declares it in the scope in which it stands
abbrev pub declares : ℕ → tree.StmtTree → Bool
declares id tree.StmtTree.Empty = false
declares id (tree.Block ss) = false
declares id (tree.StmtTree.Declare ty ds) = is_in id (declared_ids ds)
declares id (tree.StmtTree.Change c) = false
declares id (tree.StmtTree.Call f args) = false
declares id (tree.If c a) = declares id a
declares id (tree.IfElse c a b) = declares id a || declares id b
declares id (tree.While c a) = declares id a
declares id (tree.For start test step a) = false
declares id (tree.Break m) = false
declares id (tree.Continue m) = false
declares id (tree.Return m e) = false
declares id (tree.Task m cs a) = false
declares id (tree.Tick m t arrow e) = false
declares id (tree.Taskwait m) = false

abbrev mutual
  pub has_stmt : ℕ → tree.StmtTree → Bool
  has_stmt id tree.StmtTree.Empty = false
  has_stmt id (tree.Block ss) = has_stmts id ss
  has_stmt id (tree.StmtTree.Declare ty ds) = has_declarators id ds
  has_stmt id (tree.StmtTree.Change c) = has_change id c
  has_stmt id (tree.StmtTree.Call f args) = (f.id == id) || has_args id args
  has_stmt id (tree.If c a) = has_expr id c || has_stmt id a
  has_stmt id (tree.IfElse c a b) = has_expr id c || has_stmt id a || (not (declares id a) && has_stmt id b)
  has_stmt id (tree.While c a) = has_expr id c || has_stmt id a
  has_stmt id (tree.For start test step a) =
      has_start id start || (not (is_in id (start_ids start)) && (has_value id test || has_step id step || has_stmt id a))
  has_stmt id (tree.Break m) = false
  has_stmt id (tree.Continue m) = false
  has_stmt id (tree.Return m e) = has_expr id e
  has_stmt id (tree.Task m cs a) = has_clauses id cs || (not (calls_item id cs) && has_stmt id a)
  has_stmt id (tree.Tick m t arrow e) = has_target id t || has_expr id e
  has_stmt id (tree.Taskwait m) = false

  pub has_stmts : ℕ → tree.Stmts → Bool
  has_stmts id tree.no_stmts = false
  has_stmts id (tree.stmt a rest) = has_stmt id a || (not (declares id a) && has_stmts id rest)

-- whether a task takes the name from round it
abbrev pub has_task : ℕ → List tree.ClauseTree → tree.StmtTree → Bool
has_task id cs body = lists id cs || (not (calls_item id cs) && has_stmt id body)
