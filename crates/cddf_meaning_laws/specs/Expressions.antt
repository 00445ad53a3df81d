-- All expressions of a program, each outermost one once, in the order of the text.
use Rattle.std.specs.Prelude.{◌≡◌, true, All, List, [], ◌∷◌, ◌++◌, Option, Some, None}
use Rattle.std.specs.List.{flat_map}
use Rattle.cddf_meaning.specs.Fitting.{numbers_fit}
use Rattle.os_ast.specs.Leveled.{IsLeveled}
use Rattle.os_ast.specs.Trees as tree

-- the index of a target
abbrev pub target_expressions : tree.TargetTree → List tree.ExprTree
target_expressions (tree.Variable n) = []
target_expressions (tree.Element n m e) = e ∷ []

-- the arguments of a call
abbrev pub args_expressions : tree.Args → List tree.ExprTree
args_expressions tree.no_args = []
args_expressions (tree.arg e es) = e ∷ args_expressions es

-- an expression that may be left out
abbrev pub value_expressions : Option tree.ExprTree → List tree.ExprTree
value_expressions None = []
value_expressions (Some e) = e ∷ []

-- a size or a burst
abbrev pub index_expressions : Option tree.IndexTree → List tree.ExprTree
index_expressions None = []
index_expressions (Some i) = i.value ∷ []

abbrev pub declarator_expressions : tree.DeclaratorTree → List tree.ExprTree
declarator_expressions d = index_expressions d.size ++ value_expressions d.first

abbrev pub change_expressions : tree.ChangeTree → List tree.ExprTree
change_expressions (tree.Set t a m e) = target_expressions t ++ e ∷ []
change_expressions (tree.After t p m) = target_expressions t
change_expressions (tree.Before t p m) = target_expressions t

abbrev pub start_expressions : tree.StartTree → List tree.ExprTree
start_expressions tree.StartTree.Empty = []
start_expressions (tree.StartTree.Declare ty ds) = flat_map declarator_expressions ds
start_expressions (tree.StartTree.Change c) = change_expressions c

abbrev pub step_expressions : Option tree.ChangeTree → List tree.ExprTree
step_expressions None = []
step_expressions (Some c) = change_expressions c

-- the burst of an item with a window
abbrev pub join_expressions : Option tree.JoinTree → List tree.ExprTree
join_expressions None = []
join_expressions (Some j) = index_expressions j.burst

-- the index of an item's stream, and its burst
abbrev pub item_expressions : tree.ClauseItemTree → List tree.ExprTree
item_expressions i = target_expressions i.stream ++ join_expressions i.window

abbrev pub kind_expressions : tree.ClauseKindTree → List tree.ExprTree
kind_expressions (tree.Input items) = flat_map item_expressions items
kind_expressions (tree.Output items) = flat_map item_expressions items
kind_expressions (tree.Firstprivate ns) = []

abbrev pub clause_expressions : tree.ClauseTree → List tree.ExprTree
clause_expressions c = kind_expressions c.kind

abbrev mutual
  pub stmt_expressions : tree.StmtTree → List tree.ExprTree
  stmt_expressions tree.StmtTree.Empty = []
  stmt_expressions (tree.Block ss) = stmts_expressions ss
  stmt_expressions (tree.StmtTree.Declare ty ds) = flat_map declarator_expressions ds
  stmt_expressions (tree.StmtTree.Change c) = change_expressions c
  stmt_expressions (tree.StmtTree.Call f args) = args_expressions args
  stmt_expressions (tree.If c a) = c ∷ stmt_expressions a
  stmt_expressions (tree.IfElse c a b) = c ∷ stmt_expressions a ++ stmt_expressions b
  stmt_expressions (tree.While c a) = c ∷ stmt_expressions a
  stmt_expressions (tree.For start test step a) = start_expressions start ++ value_expressions test ++ step_expressions step ++ stmt_expressions a
  stmt_expressions (tree.Break m) = []
  stmt_expressions (tree.Continue m) = []
  stmt_expressions (tree.Return m e) = e ∷ []
  stmt_expressions (tree.Task m cs a) = flat_map clause_expressions cs ++ stmt_expressions a
  stmt_expressions (tree.Tick m t arrow e) = target_expressions t ++ e ∷ []
  stmt_expressions (tree.Taskwait m) = []

  pub stmts_expressions : tree.Stmts → List tree.ExprTree
  stmts_expressions tree.no_stmts = []
  stmts_expressions (tree.stmt a rest) = stmt_expressions a ++ stmts_expressions rest

-- constants have no expression
abbrev pub program_expressions : tree.ProgramTree → List tree.ExprTree
program_expressions [] = []
program_expressions (tree.Constant c ∷ is) = program_expressions is
program_expressions (tree.Function f ∷ is) = stmts_expressions f.body ++ program_expressions is

-- each expression of a leveled program has the numbers of tokens
abbrev pub ExpressionsHaveTheirNumbers : Type 0
ExpressionsHaveTheirNumbers = (p : tree.ProgramTree) → IsLeveled p → All (λ e. numbers_fit e ≡ true) (program_expressions p)
