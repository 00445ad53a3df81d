-- Which instructions stand for a statement, from one place to another. Behind it the code goes on at `next`, which need
-- not be the place behind it; `break` goes to `broke`, and `continue` to `continued`.
use Rattle.std.specs.Prelude.{◌≡◌, ℕ, ◌+◌, List, [], ◌∷◌, Option, Some, None}
use Rattle.os_ast.specs.ClauseMembers.{members, target_name}
use Rattle.os_ast.specs.Trees as tree
use Rattle.os_ast.specs.declared.names.Resolved.{Resolved}
use Rattle.os_code.specs.declared.instr.Instr.{Instr}
use Rattle.os_code.specs.declared.instr.Instr.TheVariants.{Drop, Jump, Turn, BurstIn, Spawn, Tick}
use Rattle.os_code.specs.declared.parts.Parts.{Parts}
use Rattle.os_code.specs.Parts.{instr_at}
use Rattle.lowering_relation.specs.Changes.{HasChange}
use Rattle.lowering_relation.specs.Declarators.{HasDeclarators, HasStart}
use Rattle.lowering_relation.specs.Expressions.{Stands, HasExpr, HasCondition}
use Rattle.lowering_relation.specs.Names.{first_of}
use Rattle.lowering_relation.specs.Tasks.{TaskTree, task_index, HasStream, HasItems}

-- What the instructions of a body need to know of the program round it.
pub record Body : Type 0 where
  -- what the name at a place means, and of which type that is
  pub tells : ℕ → Resolved
  -- the tasks of the program
  pub tasks : List TaskTree
  -- what ends it by `return`: `Return`, or the `End` of `main`
  pub leaves : Instr

-- A part whose last statement goes on elsewhere: by itself, or by a jump behind it.
pub data Ends (code : Parts) (part : (next from to : ℕ) → Type 0) (next : ℕ) : (from to : ℕ) → Type 0 where
  by_itself : {from to : ℕ} → part next from to → Ends code part next from to
  by_jump : {from : ℕ} (end : ℕ) → part end from end → instr_at code end ≡ Some (Jump next) → Ends code part next from (end + 1)

-- A test of a loop. Without one it goes on.
abbrev pub HasTest : Parts → (ℕ → Resolved) → Option tree.ExprTree → (fails from to : ℕ) → Type 0
HasTest code tells None fails from to = from ≡ to
HasTest code tells (Some e) fails from to = HasCondition code tells e fails from to

-- The body and the step of a loop that begins at `again`; `part` is the body, by where `continue` goes to. Without a step
-- both the body and `continue` go to the beginning; else they go to the step, which stands behind the body.
abbrev pub HasRound : Parts → (ℕ → Resolved) → (part : (continued next from to : ℕ) → Type 0) → Option tree.ChangeTree → (again from to : ℕ)
    → Type 0
HasRound code tells part None again from to = Ends code (part again) again from to
HasRound code tells part (Some c) again from to =
    (step end : ℕ) × part step step from step × HasChange code tells c step end × Stands code (Jump again ∷ []) end to

-- A loop begins with its turn. It goes on at `next` where its condition is 0.
abbrev pub HasLoop : Parts → (ℕ → Resolved) → Option tree.ExprTree → (part : (continued next from to : ℕ) → Type 0) → Option tree.ChangeTree
    → (next from to : ℕ) → Type 0
HasLoop code tells test part step next from to =
    (begin : ℕ) × (instr_at code from ≡ Some Turn) × HasTest code tells test next (from + 1) begin × HasRound code tells part step from begin to

abbrev mutual
  pub HasStmt : Parts → Body → tree.StmtTree → (broke continued next from to : ℕ) → Type 0
  HasStmt code b tree.StmtTree.Empty broke continued next from to = (from ≡ to) × (next ≡ to)
  HasStmt code b (tree.Block ss) broke continued next from to = HasStmts code b ss broke continued next from to
  HasStmt code b (tree.StmtTree.Declare ty ds) broke continued next from to = HasDeclarators code b.tells ds from to × (next ≡ to)
  HasStmt code b (tree.StmtTree.Change c) broke continued next from to = HasChange code b.tells c from to × (next ≡ to)
  HasStmt code b (tree.StmtTree.Call f args) broke continued next from to =
      (end : ℕ) × HasExpr code b.tells (tree.ExprTree.Call f args) from end × Stands code (Drop ∷ []) end to × (next ≡ to)
  HasStmt code b (tree.If c a) broke continued next from to =
      (test : ℕ) × HasCondition code b.tells c next from test × Ends code (HasStmt code b a broke continued) next test to
  HasStmt code b (tree.IfElse c a b2) broke continued next from to =
      (test otherwise : ℕ) × HasCondition code b.tells c otherwise from test × Ends code (HasStmt code b a broke continued) next test otherwise
      × Ends code (HasStmt code b b2 broke continued) next otherwise to
  HasStmt code b (tree.While c a) broke continued next from to =
      HasLoop code b.tells (Some c) (HasStmt code b a next) None next from to
  HasStmt code b (tree.For start test step a) broke continued next from to =
      (begin : ℕ) × HasStart code b.tells start from begin × HasLoop code b.tells test (HasStmt code b a next) step next begin to
  HasStmt code b (tree.Break m) broke continued next from to = Stands code (Jump broke ∷ []) from to
  HasStmt code b (tree.Continue m) broke continued next from to = Stands code (Jump continued ∷ []) from to
  HasStmt code b (tree.Return m e) broke continued next from to = (end : ℕ) × HasExpr code b.tells e from end × Stands code (b.leaves ∷ []) end to
  HasStmt code b (tree.Task m cs a) broke continued next from to =
      (number end : ℕ) × (task_index b.tasks m ≡ Some number) × HasItems code b.tells (members cs) from end
      × Stands code (Spawn number ∷ []) end to × (next ≡ to)
  HasStmt code b (tree.Tick m t arrow e) broke continued next from to =
      (mid end : ℕ) × HasStream code b.tells t from mid × HasExpr code b.tells e mid end
      × Stands code (BurstIn arrow.line ∷ Turn ∷ Tick (first_of (b.tells (target_name t).mark.place).what) ∷ []) end to × (next ≡ to)
  HasStmt code b (tree.Taskwait m) broke continued next from to = (from ≡ to) × (next ≡ to)

  -- The statements of a block; the last one goes on where the block does.
  pub HasStmts : Parts → Body → tree.Stmts → (broke continued next from to : ℕ) → Type 0
  HasStmts code b tree.no_stmts broke continued next from to = (from ≡ to) × (next ≡ to)
  HasStmts code b (tree.stmt a tree.no_stmts) broke continued next from to = HasStmt code b a broke continued next from to
  HasStmts code b (tree.stmt a (tree.stmt c rest)) broke continued next from to =
      (end : ℕ) × HasStmt code b a broke continued end from end × HasStmts code b (tree.stmt c rest) broke continued next end to
