-- The free names of a part of a task's body: those that it uses and doesn't declare itself, by their numbers, in the
-- order of the text.
use Rattle.std.specs.Prelude.{ℕ, if◌then◌else◌, List, [], ◌∷◌, ◌++◌, map, Option}
use Rattle.std.specs.Option.{option_map_or}
use Rattle.os_ast.specs.ClauseMembers.{ClauseMember, Item, Private, members, item_ids, private_ids, is_in}
use Rattle.os_ast.specs.Trees as tree

-- Expressions declare nothing.
abbrev mutual
  pub expr_names : tree.ExprTree → List ℕ
  expr_names (tree.Place t) = target_names t
  expr_names (tree.ExprTree.Call f args) = f.id ∷ args_names args
  expr_names (tree.Paren e) = expr_names e
  expr_names (tree.Unary op m e) = expr_names e
  expr_names (tree.Chain l first links) = expr_names first ++ links_names links
  expr_names (tree.Choice c a b) = expr_names c ++ expr_names a ++ expr_names b
  expr_names _ = []

  pub target_names : tree.TargetTree → List ℕ
  target_names (tree.Variable n) = n.id ∷ []
  target_names (tree.Element n m e) = n.id ∷ expr_names e

  pub args_names : tree.Args → List ℕ
  args_names tree.no_args = []
  args_names (tree.arg e es) = expr_names e ++ args_names es

  pub links_names : tree.Links → List ℕ
  links_names tree.no_links = []
  links_names (tree.link op m e rest) = expr_names e ++ links_names rest

abbrev pub value_names : Option tree.ExprTree → List ℕ
value_names e = option_map_or expr_names e []

abbrev pub index_names : Option tree.IndexTree → List ℕ
index_names i = option_map_or (λ (i : tree.IndexTree). expr_names i.value) i []

abbrev pub change_names : tree.ChangeTree → List ℕ
change_names (tree.Set t a m e) = target_names t ++ expr_names e
change_names (tree.After t step m) = target_names t
change_names (tree.Before t step m) = target_names t

abbrev pub step_names : Option tree.ChangeTree → List ℕ
step_names c = option_map_or change_names c []

abbrev pub join_names : Option tree.JoinTree → List ℕ
join_names j = option_map_or (λ (j : tree.JoinTree). j.name.id ∷ index_names j.burst) j []

-- Clauses belong to what is round their task.
abbrev pub members_names : List ClauseMember → List ℕ
members_names [] = []
members_names (Item d i ∷ ps) = target_names i.stream ++ join_names i.window ++ members_names ps
members_names (Private n ∷ ps) = n.id ∷ members_names ps

-- names without those that are declared
abbrev pub without : List ℕ → List ℕ → List ℕ
without declared [] = []
without declared (id ∷ ids) = if is_in id declared then without declared ids else id ∷ without declared ids

abbrev pub declared_ids : List tree.DeclaratorTree → List ℕ
declared_ids ds = map (λ (d : tree.DeclaratorTree). d.name.id) ds

-- A name is declared before its own first value. The size of an array isn't looked into: it is judged as a size alone,
-- and where it is lawful it is a number or the name of a constant.
abbrev pub declarators_names : List tree.DeclaratorTree → List ℕ
declarators_names [] = []
declarators_names (d ∷ ds) = without (d.name.id ∷ []) (value_names d.first ++ declarators_names ds)

abbrev pub start_ids : tree.StartTree → List ℕ
start_ids (tree.StartTree.Declare t ds) = declared_ids ds
start_ids _ = []

abbrev pub start_names : tree.StartTree → List ℕ
start_names tree.StartTree.Empty = []
start_names (tree.StartTree.Declare t ds) = declarators_names ds
start_names (tree.StartTree.Change c) = change_names c

-- the names that a statement or declaration declares in the scope in which it stands
abbrev pub stmt_ids : tree.StmtTree → List ℕ
stmt_ids (tree.StmtTree.Declare t ds) = declared_ids ds
stmt_ids (tree.If c a) = stmt_ids a
stmt_ids (tree.IfElse c a b) = stmt_ids a ++ stmt_ids b
stmt_ids (tree.While c a) = stmt_ids a
stmt_ids _ = []

-- No array that is declared in a task is a window, so no size is an expression that is evaluated.
abbrev mutual
  pub stmt_names : tree.StmtTree → List ℕ
  stmt_names (tree.Block ss) = stmts_names ss
  stmt_names (tree.StmtTree.Declare t ds) = declarators_names ds
  stmt_names (tree.StmtTree.Change c) = change_names c
  stmt_names (tree.StmtTree.Call f args) = f.id ∷ args_names args
  stmt_names (tree.If c a) = expr_names c ++ stmt_names a
  stmt_names (tree.IfElse c a b) = expr_names c ++ stmt_names a ++ without (stmt_ids a) (stmt_names b)
  stmt_names (tree.While c a) = expr_names c ++ stmt_names a
  stmt_names (tree.For start test step a) = start_names start ++ without (start_ids start) (value_names test ++ step_names step ++ stmt_names a)
  stmt_names (tree.Return m e) = expr_names e
  stmt_names (tree.Task m cs a) = members_names (members cs) ++ without (item_ids (members cs)) (stmt_names a)
  stmt_names (tree.Tick m t arrow e) = target_names t ++ expr_names e
  stmt_names _ = []

  pub stmts_names : tree.Stmts → List ℕ
  stmts_names tree.no_stmts = []
  stmts_names (tree.stmt a rest) = stmt_names a ++ without (stmt_ids a) (stmts_names rest)

-- What a task may take from round it: what `firstprivate` lists, and what the body names and neither an item nor the
-- body declares.
abbrev pub task_names : List ClauseMember → tree.StmtTree → List ℕ
task_names ps body = private_ids ps ++ without (item_ids ps) (stmt_names body)
