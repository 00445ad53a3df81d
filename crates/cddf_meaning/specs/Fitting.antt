-- What stands for 32 bits is an `int`: in states, in files and in the numbers of a text.
use Rattle.std.specs.Prelude.{◌≡◌, ⊤, ℕ, ◌^◌, ◌&&◌, Bool, true, ltb, leb, List, [], ◌∷◌, length, Option, Some, None, Ok, Err, ℤ}
use Rattle.std.specs.List.{list_all}
use Rattle.c_int.specs.Operators.{is_int}
use Rattle.cddf_meaning.specs.Answers.{Answer, Left}
use Rattle.cddf_meaning.specs.File.{File}
use Rattle.cddf_meaning.specs.Flow.{Ran, Went, Ended}
use Rattle.cddf_meaning.specs.BodyState.{BodyState}
use Rattle.cddf_meaning.specs.declared.flow.Flow.TheVariants.{GoesOn, Breaks, Continues, Returns}
use Rattle.cddf_meaning.specs.declared.flow.Flow.{Flow}
use Rattle.cddf_meaning.specs.declared.variable.Binding.{Binding}
use Rattle.cddf_meaning.specs.declared.variable.Variable.TheVariants.{Constant, Function, Scalar, Array, Window, Stream, Item}
use Rattle.cddf_meaning.specs.declared.variable.Variable.{Variable}
use Rattle.os_ast.specs.Trees as tree

-- elements, of which there are no more than an `int` counts
abbrev pub elements_fit : List ℤ → Bool
elements_fit vs = leb (length vs) (2 ^ 31) && list_all is_int vs

abbrev pub variable_fits : Variable → Bool
variable_fits (Constant v) = is_int v
variable_fits (Function place) = true
variable_fits (Scalar v) = is_int v
variable_fits (Array vs) = elements_fit vs
variable_fits (Window horizon) = true
variable_fits (Stream first count) = true
variable_fits (Item item) = true

abbrev pub bound_fits : List Binding → Bool
bound_fits bound = list_all (λ (b : Binding). variable_fits b.variable) bound

-- the values of a state's variables and the elements of its items are within an `int`
pub record StateFits (s : BodyState) : Type 0 where
  pub variables : bound_fits s.bound ≡ true
  pub items : list_all elements_fit s.items ≡ true

-- where something is given, it is an `int`
abbrev pub GivesInt : Answer (Left ℤ) → Type 0
GivesInt (Ok n) = is_int n.value ≡ true
GivesInt (Err ending) = ⊤

-- the constants of a file, and what its functions give of `int`s
pub record FileFits (file : File) : Type 0 where
  pub constants : bound_fits file.names ≡ true
  pub calls : (place : ℕ) (args : List ℤ) (turns : ℕ) → list_all is_int args ≡ true → GivesInt (file.calls place args turns)

-- The numbers of an expression are those of the tokens: one that isn't wide is an `int`, and a wide one has 32 bits.
abbrev mutual
  pub numbers_fit : tree.ExprTree → Bool
  numbers_fit (tree.Number n) = ltb n (2 ^ 31)
  numbers_fit (tree.Wide n) = ltb n (2 ^ 32)
  numbers_fit (tree.Place t) = target_fits t
  numbers_fit (tree.ExprTree.Call f args) = args_fit args
  numbers_fit (tree.Paren e) = numbers_fit e
  numbers_fit (tree.Unary op m e) = numbers_fit e
  numbers_fit (tree.Chain l first links) = numbers_fit first && links_fit links
  numbers_fit (tree.Choice c a b) = numbers_fit c && (numbers_fit a && numbers_fit b)

  pub target_fits : tree.TargetTree → Bool
  target_fits (tree.Variable n) = true
  target_fits (tree.Element n m e) = numbers_fit e

  pub args_fit : tree.Args → Bool
  args_fit tree.no_args = true
  args_fit (tree.arg e es) = numbers_fit e && args_fit es

  pub links_fit : tree.Links → Bool
  links_fit tree.no_links = true
  links_fit (tree.link op m e rest) = numbers_fit e && links_fit rest

abbrev pub value_fits : Option tree.ExprTree → Bool
value_fits None = true
value_fits (Some e) = numbers_fit e

abbrev pub index_fits : Option tree.IndexTree → Bool
index_fits None = true
index_fits (Some i) = numbers_fit i.value

abbrev pub declarators_fit : List tree.DeclaratorTree → Bool
declarators_fit [] = true
declarators_fit (d ∷ ds) = (index_fits d.size && value_fits d.first) && declarators_fit ds

abbrev pub change_fits : tree.ChangeTree → Bool
change_fits (tree.Set t a m e) = target_fits t && numbers_fit e
change_fits (tree.After t p m) = target_fits t
change_fits (tree.Before t p m) = target_fits t

abbrev pub start_fits : tree.StartTree → Bool
start_fits tree.StartTree.Empty = true
start_fits (tree.StartTree.Declare ty ds) = declarators_fit ds
start_fits (tree.StartTree.Change c) = change_fits c

abbrev pub step_fits : Option tree.ChangeTree → Bool
step_fits None = true
step_fits (Some c) = change_fits c

-- the numbers of a statement whose values are stored or returned
abbrev mutual
  pub stmt_fits : tree.StmtTree → Bool
  stmt_fits tree.StmtTree.Empty = true
  stmt_fits (tree.Block ss) = stmts_fit ss
  stmt_fits (tree.StmtTree.Declare ty ds) = declarators_fit ds
  stmt_fits (tree.StmtTree.Change c) = change_fits c
  stmt_fits (tree.StmtTree.Call f args) = args_fit args
  stmt_fits (tree.If c a) = numbers_fit c && stmt_fits a
  stmt_fits (tree.IfElse c a b) = numbers_fit c && (stmt_fits a && stmt_fits b)
  stmt_fits (tree.While c a) = numbers_fit c && stmt_fits a
  stmt_fits (tree.For start test step a) = (start_fits start && value_fits test) && (step_fits step && stmt_fits a)
  stmt_fits (tree.Break m) = true
  stmt_fits (tree.Continue m) = true
  stmt_fits (tree.Return m e) = numbers_fit e
  stmt_fits (tree.Task m cs a) = stmt_fits a
  stmt_fits (tree.Tick m t arrow e) = target_fits t && numbers_fit e
  stmt_fits (tree.Taskwait m) = true

  pub stmts_fit : tree.Stmts → Bool
  stmts_fit tree.no_stmts = true
  stmts_fit (tree.stmt a rest) = stmt_fits a && stmts_fit rest

abbrev pub items_fit : List tree.ItemTree → Bool
items_fit [] = true
items_fit (tree.Constant c ∷ is) = items_fit is
items_fit (tree.Function f ∷ is) = stmts_fit f.body && items_fit is

-- what a `return` returns is an `int`
abbrev pub FlowFits : Flow → Type 0
FlowFits (Returns v) = is_int v ≡ true
FlowFits GoesOn = ⊤
FlowFits Breaks = ⊤
FlowFits Continues = ⊤

-- what a statement leaves behind it
abbrev pub RanFits : Ran → Type 0
RanFits (Went flow s turns) = StateFits s × FlowFits flow
RanFits (Ended ending activations) = ⊤
