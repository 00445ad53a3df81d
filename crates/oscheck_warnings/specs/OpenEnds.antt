-- Functions that can end without `return`, as far as their statements tell, whatever the conditions are.
use Rattle.std.specs.Prelude.{◌≡◌, ◌≢◌, ◌&&◌, ◌||◌, ltb, not, ℕ, Bool, true, false, Option, Some, None}
use Rattle.std.specs.List.{slice_get}
use Rattle.os_ast.specs.Trees as tree
use Rattle.os_lexer.specs.Names.{main_id}
use Rattle.oscheck_warnings.specs.Places.{has}
use Rattle.oscheck_warnings.specs.declared.places.Places.{Places}

-- A `break` in a statement leaves a loop round it, and not one of its own.
abbrev mutual
  pub breaks : tree.StmtTree → Bool
  breaks tree.StmtTree.Empty = false
  breaks (tree.Block ss) = some_break ss
  breaks (tree.StmtTree.Declare t ds) = false
  breaks (tree.StmtTree.Change c) = false
  breaks (tree.StmtTree.Call f args) = false
  breaks (tree.If c a) = breaks a
  breaks (tree.IfElse c a b) = breaks a || breaks b
  breaks (tree.While c a) = false
  breaks (tree.For start test step a) = false
  breaks (tree.Break m) = true
  breaks (tree.Continue m) = false
  breaks (tree.Return m e) = false
  breaks (tree.Task m cs a) = false
  breaks (tree.Tick m t arrow e) = false
  breaks (tree.Taskwait m) = false

  pub some_break : tree.Stmts → Bool
  some_break tree.no_stmts = false
  some_break (tree.stmt a rest) = breaks a || some_break rest

-- a number other than 0
abbrev pub is_some_number : tree.ExprTree → Bool
is_some_number (tree.Number n) = ltb 0 n
is_some_number (tree.Wide n) = ltb 0 n
is_some_number _ = false

-- The condition of a loop is such a number, or none.
abbrev pub holds_always : Option tree.ExprTree → Bool
holds_always None = true
holds_always (Some e) = is_some_number e

-- Nothing comes behind a statement: it returns, both of its branches do, or it is a loop that goes on always and that no `break` leaves.
abbrev mutual
  pub stays : tree.StmtTree → Bool
  stays tree.StmtTree.Empty = false
  stays (tree.Block ss) = some_stay ss
  stays (tree.StmtTree.Declare t ds) = false
  stays (tree.StmtTree.Change c) = false
  stays (tree.StmtTree.Call f args) = false
  stays (tree.If c a) = false
  stays (tree.IfElse c a b) = stays a && stays b
  stays (tree.While c a) = is_some_number c && not (breaks a)
  stays (tree.For start test step a) = holds_always test && not (breaks a)
  stays (tree.Break m) = false
  stays (tree.Continue m) = false
  stays (tree.Return m e) = true
  stays (tree.Task m cs a) = false
  stays (tree.Tick m t arrow e) = false
  stays (tree.Taskwait m) = false

  pub some_stay : tree.Stmts → Bool
  some_stay tree.no_stmts = false
  some_stay (tree.stmt a rest) = stays a || some_stay rest

-- At a place a function other than `main` is declared, and no statement of its body is one behind which nothing comes: so it can end
-- without `return`, and then its value is 0.
pub record IsOpenEnd (p : tree.ProgramTree) (place : ℕ) : Type 0 where
  pub index : ℕ
  pub function : tree.FunctionTree
  pub stands : slice_get p index ≡ Some (tree.ItemTree.Function function)
  pub there : function.name.mark.place ≡ place
  pub called : function.name.id ≢ main_id
  pub open_end : some_stay function.body ≡ false

-- the marked places are those of such functions
pub record AreOpenEnds (p : tree.ProgramTree) (places : Places) : Type 0 where
  pub sound : (place : ℕ) → has places place ≡ true → IsOpenEnd p place
  pub complete : (place : ℕ) → IsOpenEnd p place → has places place ≡ true
