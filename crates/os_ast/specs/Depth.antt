-- How deep a program is nested.
use Rattle.std.specs.Prelude.{ℕ, ◌+◌, max, List, [], ◌∷◌, Option}
use Rattle.std.specs.Option.{option_map_or}
use Rattle.os_ast.specs.Trees as tree

-- the greatest depth of a list's parts, and 0 without any
abbrev pub deepest : {A : Type 0} → (A → ℕ) → List A → ℕ
deepest depth [] = 0
deepest depth (x ∷ xs) = max (depth x) (deepest depth xs)

-- A chain has the greatest depth of its operands. A choice has the greater of the depth of its condition
-- and 1 plus the greatest depth of its two branches. Every other expression has 1 plus the greatest depth
-- of the expressions in it, and 1 where there are none.
abbrev mutual
  pub expr_depth : tree.ExprTree → ℕ
  expr_depth (tree.Place t) = 1 + target_depth t
  expr_depth (tree.ExprTree.Call f args) = 1 + args_depth args
  expr_depth (tree.Paren e) = 1 + expr_depth e
  expr_depth (tree.Unary op m e) = 1 + expr_depth e
  expr_depth (tree.Chain l first links) = max (expr_depth first) (links_depth links)
  expr_depth (tree.Choice c a b) = max (expr_depth c) (1 + max (expr_depth a) (expr_depth b))
  expr_depth _ = 1

  -- the depth of the index, and 0 without one
  pub target_depth : tree.TargetTree → ℕ
  target_depth (tree.Variable n) = 0
  target_depth (tree.Element n m e) = expr_depth e

  -- the greatest depth of the arguments, and 0 without any
  pub args_depth : tree.Args → ℕ
  args_depth tree.no_args = 0
  args_depth (tree.arg e es) = max (expr_depth e) (args_depth es)

  -- the greatest depth of the right operands
  pub links_depth : tree.Links → ℕ
  links_depth tree.no_links = 0
  links_depth (tree.link op m e rest) = max (expr_depth e) (links_depth rest)

-- The parts below have the greatest depth of the expressions in them, and 0 where there are none.
abbrev pub index_depth : Option tree.IndexTree → ℕ
index_depth i = option_map_or (λ i. expr_depth i.value) i 0

abbrev pub value_depth : Option tree.ExprTree → ℕ
value_depth e = option_map_or expr_depth e 0

abbrev pub declarator_depth : tree.DeclaratorTree → ℕ
declarator_depth d = max (index_depth d.size) (value_depth d.first)

abbrev pub change_depth : tree.ChangeTree → ℕ
change_depth (tree.Set t a m e) = max (target_depth t) (expr_depth e)
change_depth (tree.After t s m) = target_depth t
change_depth (tree.Before t s m) = target_depth t

abbrev pub start_depth : tree.StartTree → ℕ
start_depth tree.StartTree.Empty = 0
start_depth (tree.StartTree.Declare ty ds) = deepest declarator_depth ds
start_depth (tree.StartTree.Change c) = change_depth c

abbrev pub step_depth : Option tree.ChangeTree → ℕ
step_depth c = option_map_or change_depth c 0

abbrev pub clause_item_depth : tree.ClauseItemTree → ℕ
clause_item_depth i = max (target_depth i.stream) (option_map_or (λ j. index_depth j.burst) i.window 0)

abbrev pub clause_kind_depth : tree.ClauseKindTree → ℕ
clause_kind_depth (tree.Input items) = deepest clause_item_depth items
clause_kind_depth (tree.Output items) = deepest clause_item_depth items
clause_kind_depth (tree.Firstprivate names) = 0

abbrev pub clause_depth : tree.ClauseTree → ℕ
clause_depth c = clause_kind_depth c.kind

-- Every statement has 1 plus the greatest depth of the expressions and statements in it, through calls,
-- targets, declarators, heads and clause items, and 1 where there are none.
abbrev mutual
  pub stmt_depth : tree.StmtTree → ℕ
  stmt_depth (tree.Block stmts) = 1 + stmts_depth stmts
  stmt_depth (tree.StmtTree.Declare ty ds) = 1 + deepest declarator_depth ds
  stmt_depth (tree.StmtTree.Change c) = 1 + change_depth c
  stmt_depth (tree.StmtTree.Call f args) = 1 + args_depth args
  stmt_depth (tree.If c a) = 1 + max (expr_depth c) (stmt_depth a)
  stmt_depth (tree.IfElse c a b) = 1 + max (expr_depth c) (max (stmt_depth a) (stmt_depth b))
  stmt_depth (tree.While c s) = 1 + max (expr_depth c) (stmt_depth s)
  stmt_depth (tree.For start test step s) = 1 + max (max (start_depth start) (max (value_depth test) (step_depth step))) (stmt_depth s)
  stmt_depth (tree.Return m e) = 1 + expr_depth e
  stmt_depth (tree.Task m clauses s) = 1 + max (deepest clause_depth clauses) (stmt_depth s)
  stmt_depth (tree.Tick m t a e) = 1 + max (target_depth t) (expr_depth e)
  stmt_depth _ = 1

  -- the greatest depth of the statements, and 0 without any
  pub stmts_depth : tree.Stmts → ℕ
  stmts_depth tree.no_stmts = 0
  stmts_depth (tree.stmt s ss) = max (stmt_depth s) (stmts_depth ss)

-- a function has 1 plus the greatest depth of its body's statements
abbrev pub item_depth : tree.ItemTree → ℕ
item_depth (tree.Constant c) = 0
item_depth (tree.Function f) = 1 + stmts_depth f.body

-- a program has the greatest depth of its functions, and 0 without any
abbrev pub program_depth : tree.ProgramTree → ℕ
program_depth p = deepest item_depth p
