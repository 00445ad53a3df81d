-- What a code is that a draft of a part of a program becomes: it stands for that part.
use Rattle.std.specs.Prelude.{◌≡◌, ℕ, ◌+◌, List, length, Option}
use Rattle.lowering_draft.specs.Draft.{Becomes}
use Rattle.lowering_draft.specs.Emission.Changes.{change_code}
use Rattle.lowering_draft.specs.Emission.Conditions.{condition_code}
use Rattle.lowering_draft.specs.Emission.Declarators.{declarators_code}
use Rattle.lowering_draft.specs.Emission.Expressions.{Emission, expr_code}
use Rattle.lowering_draft.specs.Emission.Statements.{StmtPart, block_code, stmt_code}
use Rattle.lowering_draft.specs.Emission.Tasks.{items_code}
use Rattle.lowering_draft.specs.Given.{HasLeveledExprs, IsItem}
use Rattle.lowering_draft.specs.Going.{AreNumbered, GoesOn, IsLeave}
use Rattle.lowering_draft.specs.declared.draft.Draft.{Draft}
use Rattle.lowering_draft.specs.declared.draft.Label.{Label}
use Rattle.lowering_draft.specs.declared.exits.Exits.{Exits}
use Rattle.os_ast.specs.Leveled.{AreAll, AreStmts, IsChange, IsExpr, IsStmt}
use Rattle.os_ast.specs.ClauseMembers.{ClauseMember}
use Rattle.os_ast.specs.Trees as tree
use Rattle.os_ast.specs.declared.names.Resolved.{Resolved}
use Rattle.os_code.specs.declared.parts.Parts.{Parts}
use Rattle.lowering_relation.specs.Changes.{HasChange}
use Rattle.lowering_relation.specs.Declarators.{HasDeclarators}
use Rattle.lowering_relation.specs.Expressions.{HasCondition, HasExpr}
use Rattle.lowering_relation.specs.Statements.{Body, HasStmt, HasStmts}
use Rattle.lowering_relation.specs.Tasks.{HasItems, TaskTree, all_tasks_of, tasks_of}

-- What an emission adds to a draft has something, in each code that the draft becomes.
abbrev pub Makes : Parts → (ℕ → ℕ) → Emission → ((from to : ℕ) → Type 0) → Type 0
Makes code place_of f has = (d : Draft) → Becomes (f d) code place_of → has (length d.instrs) (length (f d).instrs)

abbrev pub ExpressionsStand : Type 0
ExpressionsStand = (code : Parts) (place_of : ℕ → ℕ) (tells : ℕ → Resolved) (e : tree.ExprTree) → IsExpr e →
    Makes code place_of (expr_code tells e) (HasExpr code tells e)

abbrev pub ConditionsStand : Type 0
ConditionsStand = (code : Parts) (place_of : ℕ → ℕ) (tells : ℕ → Resolved) (fails : Label) (e : tree.ExprTree) → IsExpr e →
    Makes code place_of (condition_code tells e fails) (HasCondition code tells e (place_of fails.number))

abbrev pub ChangesStand : Type 0
ChangesStand = (code : Parts) (place_of : ℕ → ℕ) (tells : ℕ → Resolved) (c : tree.ChangeTree) → IsChange c →
    Makes code place_of (change_code tells c) (HasChange code tells c)

abbrev pub DeclaratorsStand : Type 0
DeclaratorsStand = (code : Parts) (place_of : ℕ → ℕ) (tells : ℕ → Resolved) (ds : List tree.DeclaratorTree) → AreAll HasLeveledExprs ds →
    Makes code place_of (declarators_code tells ds) (HasDeclarators code tells ds)

abbrev pub ItemsStand : Type 0
ItemsStand = (code : Parts) (place_of : ℕ → ℕ) (tells : ℕ → Resolved) (ps : List ClauseMember) → AreAll IsItem ps →
    Makes code place_of (items_code tells ps) (HasItems code tells ps)

-- What the code of a statement or a block adds to a draft has something, by where `break` and `continue` go and where the
-- code goes on, in each code that the draft becomes. Its tasks are numbered from those on that were spawned before.
abbrev pub MakesGoingOn : Parts → (ℕ → ℕ) → Body → StmtPart → (tasks : List TaskTree)
    → (has : (broke continued next from to : ℕ) → Type 0) → Type 0
MakesGoingOn code place_of b f tasks has = IsLeave b.leaves → (x : Exits) → x.leaves ≡ b.leaves → (next : Option Label) (d : Draft) →
    AreNumbered b.tasks d.spawned tasks → Becomes (f x next d) code place_of →
    GoesOn code place_of next (has (place_of x.broke.number) (place_of x.continued.number)) (length d.instrs) (length (f x next d).instrs)

abbrev pub StatementsStand : Type 0
StatementsStand = (code : Parts) (place_of : ℕ → ℕ) (b : Body) (s : tree.StmtTree) → IsStmt s →
    MakesGoingOn code place_of b (stmt_code b.tells s) (tasks_of s) (HasStmt code b s)

abbrev pub BlocksStand : Type 0
BlocksStand = (code : Parts) (place_of : ℕ → ℕ) (b : Body) (ss : tree.Stmts) → AreStmts ss →
    MakesGoingOn code place_of b (block_code b.tells ss) (all_tasks_of ss) (HasStmts code b ss)

-- A draft spawns the tasks of a statement, one by one.
abbrev pub TasksAreSpawned : Type 0
TasksAreSpawned = (tells : ℕ → Resolved) (s : tree.StmtTree) (x : Exits) (next : Option Label) (d : Draft) →
    (stmt_code tells s x next d).spawned ≡ d.spawned + length (tasks_of s)

abbrev pub BlocksAreSpawned : Type 0
BlocksAreSpawned = (tells : ℕ → Resolved) (ss : tree.Stmts) (x : Exits) (next : Option Label) (d : Draft) →
    (block_code tells ss x next d).spawned ≡ d.spawned + length (all_tasks_of ss)
