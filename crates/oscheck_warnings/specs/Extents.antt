-- Sizes of windows, and bursts of output items, that are constants.
use Rattle.std.specs.Prelude.{ℕ, zero, suc, ℤ, pos, negsuc, List, [], ◌∷◌, ◌++◌, Option, Some, None}
use Rattle.os_ast.specs.Trees as tree
use Rattle.os_ast.specs.declared.expr.Unary as operator
use Rattle.os_ast.specs.declared.expr.Unary.TheVariants as signs
use Rattle.os_ast.specs.declared.names.What.{What}
use Rattle.os_ast.specs.declared.names.What.TheVariants as what
use Rattle.oscheck_warnings.specs.declared.extent.Amount.{Amount}
use Rattle.oscheck_warnings.specs.declared.extent.Amount.TheVariants as amount
use Rattle.oscheck_warnings.specs.declared.extent.Bracket.{Bracket}
use Rattle.oscheck_warnings.specs.declared.extent.Bracket.TheVariants as bracket
use Rattle.oscheck_warnings.specs.declared.extent.Extent.{Extent}

abbrev pub amount_of : ℤ → Amount
amount_of (pos n) = amount.Number n
amount_of (negsuc n) = amount.BelowZero

-- the value of what a name means, where it is a constant
abbrev pub named_amount : Option What → Option Amount
named_amount None = None
named_amount (Some (what.Constant v)) = Some (amount_of v)
named_amount (Some _) = None

-- the value of a number behind a minus
abbrev pub below : ℕ → Amount
below zero = amount.Number 0
below (suc n) = amount.BelowZero

abbrev pub negated_amount : tree.ExprTree → Option Amount
negated_amount (tree.Number n) = Some (below n)
negated_amount _ = None

abbrev pub target_amount : (ℕ → Option What) → tree.TargetTree → Option Amount
target_amount means (tree.Variable n) = named_amount (means n.mark.place)
target_amount means (tree.Element n m e) = None

-- the value of an expression behind a sign, by its own
abbrev pub signed_amount : operator.Unary → Option Amount → tree.ExprTree → Option Amount
signed_amount signs.Minus v e = negated_amount e
signed_amount signs.Plus v e = v
signed_amount signs.Not v e = None
signed_amount signs.Invert v e = None

-- The value of a number, with a sign or without, or of a constant.
abbrev pub amount_in : (ℕ → Option What) → tree.ExprTree → Option Amount
amount_in means (tree.Number n) = Some (amount.Number n)
amount_in means (tree.Wide n) = Some (amount.Number n)
amount_in means (tree.Place t) = target_amount means t
amount_in means (tree.ExprTree.Call f args) = None
amount_in means (tree.Paren e) = amount_in means e
amount_in means (tree.Unary op m e) = signed_amount op (amount_in means e) e
amount_in means (tree.Chain l first links) = None
amount_in means (tree.Choice c a b) = None

abbrev pub index_amount : (ℕ → Option What) → Option tree.IndexTree → Option Amount
index_amount means None = None
index_amount means (Some i) = amount_in means i.value

abbrev pub extent_of : ℕ → Bracket → Option Amount → List Extent
extent_of place b None = []
extent_of place b (Some v) = record { place = place; bracket = b; amount = v } ∷ []

abbrev pub declarators_extents : (ℕ → Option What) → List tree.DeclaratorTree → List Extent
declarators_extents means [] = []
declarators_extents means (d ∷ ds) = extent_of d.name.mark.place bracket.Size (index_amount means d.size) ++ declarators_extents means ds

abbrev pub join_extents : (ℕ → Option What) → Option tree.JoinTree → List Extent
join_extents means None = []
join_extents means (Some j) = extent_of j.name.mark.place bracket.Burst (index_amount means j.burst)

abbrev pub items_extents : (ℕ → Option What) → List tree.ClauseItemTree → List Extent
items_extents means [] = []
items_extents means (i ∷ is) = join_extents means i.window ++ items_extents means is

abbrev pub kind_extents : (ℕ → Option What) → tree.ClauseKindTree → List Extent
kind_extents means (tree.Input items) = []
kind_extents means (tree.Output items) = items_extents means items
kind_extents means (tree.Firstprivate names) = []

abbrev pub clauses_extents : (ℕ → Option What) → List tree.ClauseTree → List Extent
clauses_extents means [] = []
clauses_extents means (c ∷ cs) = kind_extents means c.kind ++ clauses_extents means cs

-- Nothing in the head of a `for` is a window, and no window is declared in a task's body.
abbrev mutual
  pub stmt_extents : (ℕ → Option What) → tree.StmtTree → List Extent
  stmt_extents means tree.StmtTree.Empty = []
  stmt_extents means (tree.Block ss) = stmts_extents means ss
  stmt_extents means (tree.StmtTree.Declare t ds) = declarators_extents means ds
  stmt_extents means (tree.StmtTree.Change c) = []
  stmt_extents means (tree.StmtTree.Call f args) = []
  stmt_extents means (tree.If c a) = stmt_extents means a
  stmt_extents means (tree.IfElse c a b) = stmt_extents means a ++ stmt_extents means b
  stmt_extents means (tree.While c a) = stmt_extents means a
  stmt_extents means (tree.For start test step a) = stmt_extents means a
  stmt_extents means (tree.Break m) = []
  stmt_extents means (tree.Continue m) = []
  stmt_extents means (tree.Return m e) = []
  stmt_extents means (tree.Task m cs a) = clauses_extents means cs
  stmt_extents means (tree.Tick m t arrow e) = []
  stmt_extents means (tree.Taskwait m) = []

  pub stmts_extents : (ℕ → Option What) → tree.Stmts → List Extent
  stmts_extents means tree.no_stmts = []
  stmts_extents means (tree.stmt a rest) = stmt_extents means a ++ stmts_extents means rest

abbrev pub item_extents : (ℕ → Option What) → tree.ItemTree → List Extent
item_extents means (tree.ItemTree.Constant c) = []
item_extents means (tree.ItemTree.Function f) = stmts_extents means f.body

abbrev pub extents : (ℕ → Option What) → tree.ProgramTree → List Extent
extents means [] = []
extents means (i ∷ rest) = item_extents means i ++ extents means rest
