-- How many parts a tree has: what is evaluated inside another part, or in a function that stands before, has fewer.
use Rattle.std.specs.Prelude.{ℕ, ◌+◌, List, [], ◌∷◌, Option}
use Rattle.std.specs.Option.{option_map_or}
use Rattle.os_ast.specs.Trees as tree

abbrev mutual
  pub expr_weight : tree.ExprTree → ℕ
  expr_weight (tree.Number n) = 1
  expr_weight (tree.Wide n) = 1
  expr_weight (tree.Place t) = 1 + target_weight t
  expr_weight (tree.ExprTree.Call f args) = 2 + args_weight args
  expr_weight (tree.Paren e) = 1 + expr_weight e
  expr_weight (tree.Unary op m e) = 1 + expr_weight e
  expr_weight (tree.Chain l first links) = 1 + expr_weight first + links_weight links
  expr_weight (tree.Choice c a b) = 1 + expr_weight c + expr_weight a + expr_weight b

  pub target_weight : tree.TargetTree → ℕ
  target_weight (tree.Variable n) = 0
  target_weight (tree.Element n m e) = 1 + expr_weight e

  pub args_weight : tree.Args → ℕ
  args_weight tree.no_args = 0
  args_weight (tree.arg e es) = 1 + expr_weight e + args_weight es

  pub links_weight : tree.Links → ℕ
  links_weight tree.no_links = 0
  links_weight (tree.link op m e rest) = 2 + expr_weight e + links_weight rest

-- the weights of a list's parts, and one for each
abbrev pub weights : {A : Type 0} → (A → ℕ) → List A → ℕ
weights weight [] = 0
weights weight (x ∷ xs) = 1 + weight x + weights weight xs

abbrev pub value_weight : Option tree.ExprTree → ℕ
value_weight e = option_map_or expr_weight e 0

abbrev pub index_weight : Option tree.IndexTree → ℕ
index_weight i = option_map_or (λ i. expr_weight i.value) i 0

abbrev pub declarator_weight : tree.DeclaratorTree → ℕ
declarator_weight d = 2 + index_weight d.size + value_weight d.first

abbrev pub change_weight : tree.ChangeTree → ℕ
change_weight (tree.Set t a m e) = 1 + target_weight t + expr_weight e
change_weight (tree.After t s m) = 1 + target_weight t
change_weight (tree.Before t s m) = 1 + target_weight t

abbrev pub start_weight : tree.StartTree → ℕ
start_weight tree.StartTree.Empty = 0
start_weight (tree.StartTree.Declare ty ds) = 1 + weights declarator_weight ds
start_weight (tree.StartTree.Change c) = 1 + change_weight c

abbrev pub step_weight : Option tree.ChangeTree → ℕ
step_weight c = option_map_or change_weight c 0

abbrev pub item_weight : tree.ClauseItemTree → ℕ
item_weight i = 2 + target_weight i.stream + option_map_or (λ j. index_weight j.burst) i.window 0

abbrev pub kind_weight : tree.ClauseKindTree → ℕ
kind_weight (tree.Input items) = weights item_weight items
kind_weight (tree.Output items) = weights item_weight items
kind_weight (tree.Firstprivate ns) = 0

abbrev pub clause_weight : tree.ClauseTree → ℕ
clause_weight c = 1 + kind_weight c.kind

abbrev mutual
  pub stmt_weight : tree.StmtTree → ℕ
  stmt_weight tree.StmtTree.Empty = 1
  stmt_weight (tree.Block ss) = 2 + stmts_weight ss
  stmt_weight (tree.StmtTree.Declare ty ds) = 1 + weights declarator_weight ds
  stmt_weight (tree.StmtTree.Change c) = 1 + change_weight c
  stmt_weight (tree.StmtTree.Call f args) = 2 + args_weight args
  stmt_weight (tree.If c a) = 1 + expr_weight c + stmt_weight a
  stmt_weight (tree.IfElse c a b) = 1 + expr_weight c + stmt_weight a + stmt_weight b
  stmt_weight (tree.While c a) = 3 + expr_weight c + stmt_weight a
  stmt_weight (tree.For start test step a) = 4 + start_weight start + value_weight test + step_weight step + stmt_weight a
  stmt_weight (tree.Break m) = 1
  stmt_weight (tree.Continue m) = 1
  stmt_weight (tree.Return m e) = 1 + expr_weight e
  stmt_weight (tree.Task m cs a) = 2 + weights clause_weight cs + stmt_weight a
  stmt_weight (tree.Tick m t arrow e) = 2 + target_weight t + expr_weight e
  stmt_weight (tree.Taskwait m) = 1

  pub stmts_weight : tree.Stmts → ℕ
  stmts_weight tree.no_stmts = 0
  stmts_weight (tree.stmt a rest) = 1 + stmt_weight a + stmts_weight rest

abbrev pub file_item_weight : tree.ItemTree → ℕ
file_item_weight (tree.Constant c) = 0
file_item_weight (tree.Function f) = 1 + stmts_weight f.body

-- the weight of a file: that of its functions, and one for each item
abbrev pub file_weight : List tree.ItemTree → ℕ
file_weight items = weights file_item_weight items
