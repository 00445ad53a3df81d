-- The tasks of a program by the tree alone, and which instructions stand for the items of a task.
use Rattle.std.specs.Prelude.{◌≡◌, ℕ, ◌==◌, Bool, true, false, if◌then◌else◌, List, [], ◌∷◌, ◌++◌, position, Option, Some, None, pos}
use Rattle.os_ast.specs.Names.{main_id}
use Rattle.os_ast.specs.ClauseMembers.{ClauseMember, Item, Private, members, target_name}
use Rattle.os_ast.specs.Trees as tree
use Rattle.os_ast.specs.declared.expr.Mark.{Mark}
use Rattle.os_ast.specs.declared.names.Direction.{Direction}
use Rattle.os_ast.specs.declared.names.Direction.TheVariants as direction
use Rattle.os_ast.specs.declared.names.Resolved.{Resolved}
use Rattle.os_ast.specs.declared.names.What.{What}
use Rattle.os_ast.specs.declared.names.What.TheVariants as what
use Rattle.os_code.specs.declared.instr.Instr.{Instr}
use Rattle.os_code.specs.declared.instr.Instr.TheVariants.{Push, CheckAt, BurstIn, BurstOut}
use Rattle.os_code.specs.declared.parts.Parts.{Parts}
use Rattle.os_code.specs.declared.site.SiteItem.{SiteItem}
use Rattle.lowering_relation.specs.Expressions.{Stands, HasExpr}
use Rattle.lowering_relation.specs.Names.{first_of, count_of}

pub record TaskTree : Type 0 where
  -- the token that begins its pragma
  pub mark : Mark
  pub members : List ClauseMember
  pub body : tree.StmtTree

-- the tasks of a statement, in the order of the text
abbrev mutual
  pub tasks_of : tree.StmtTree → List TaskTree
  tasks_of (tree.Block ss) = all_tasks_of ss
  tasks_of (tree.If c a) = tasks_of a
  tasks_of (tree.IfElse c a b) = tasks_of a ++ tasks_of b
  tasks_of (tree.While c a) = tasks_of a
  tasks_of (tree.For start test step a) = tasks_of a
  tasks_of (tree.Task m cs a) = record { mark = m; members = members cs; body = a } ∷ []
  tasks_of _ = []

  pub all_tasks_of : tree.Stmts → List TaskTree
  all_tasks_of tree.no_stmts = []
  all_tasks_of (tree.stmt a rest) = tasks_of a ++ all_tasks_of rest

-- the tasks of `main`
abbrev pub program_tasks : List tree.ItemTree → List TaskTree
program_tasks [] = []
program_tasks (tree.Constant c ∷ is) = program_tasks is
program_tasks (tree.Function f ∷ is) = if f.name.id == main_id then all_tasks_of f.body else program_tasks is

-- the number of the task with this PragmaStart
abbrev pub task_index : List TaskTree → Mark → Option ℕ
task_index tasks m = position (λ (t : TaskTree). t.mark.place == m.place) tasks

-- The stream of an item or a tick: its index, counted from the first number. That of a single stream is 0.
abbrev pub HasStream : Parts → (ℕ → Resolved) → tree.TargetTree → (from to : ℕ) → Type 0
HasStream code tells (tree.Variable n) from to = Stands code (Push (pos 0) ∷ []) from to
HasStream code tells (tree.Element n m e) from to =
    (end : ℕ) × HasExpr code tells e from end × Stands code (CheckAt (count_of (tells n.mark.place).what) m.line ∷ []) end to

-- what checks a burst: that of an output item is its window's horizon
abbrev pub bursting : Direction → What → (line : ℕ) → Instr
bursting direction.Reads w line = BurstIn line
bursting direction.Writes (what.Window slot) line = BurstOut slot line
bursting direction.Writes _ line = BurstIn line

-- the burst of an item, 1 where none is written
abbrev pub HasBurst : Parts → (ℕ → Resolved) → Direction → What → Option tree.IndexTree → (from to : ℕ) → Type 0
HasBurst code tells d w None from to = Stands code (Push (pos 1) ∷ []) from to
HasBurst code tells d w (Some i) from to =
    (end : ℕ) × HasExpr code tells i.value from end × Stands code (bursting d w i.mark.line ∷ []) end to

abbrev pub HasJoin : Parts → (ℕ → Resolved) → Direction → Option tree.JoinTree → (from to : ℕ) → Type 0
HasJoin code tells d None from to = Stands code (Push (pos 1) ∷ []) from to
HasJoin code tells d (Some j) from to = HasBurst code tells d (tells j.name.mark.place).what j.burst from to

-- the items of a task, one after another: the stream's index, then the burst
abbrev pub HasItems : Parts → (ℕ → Resolved) → List ClauseMember → (from to : ℕ) → Type 0
HasItems code tells [] from to = from ≡ to
HasItems code tells (Private n ∷ ps) from to = HasItems code tells ps from to
HasItems code tells (Item d i ∷ ps) from to =
    (mid end : ℕ) × HasStream code tells i.stream from mid × HasJoin code tells d i.window mid end × HasItems code tells ps end to

-- whether an item of this direction writes
abbrev pub is_write : Direction → Bool
is_write direction.Reads = false
is_write direction.Writes = true

abbrev pub slot_of : What → Option ℕ
slot_of (what.Window slot) = Some slot
slot_of _ = None

abbrev pub window_of : (ℕ → Resolved) → Option tree.JoinTree → Option ℕ
window_of tells None = None
window_of tells (Some j) = slot_of (tells j.name.mark.place).what

abbrev pub site_item : (ℕ → Resolved) → Direction → tree.ClauseItemTree → SiteItem
site_item tells d i = record {
  write = is_write d;
  stream = first_of (tells (target_name i.stream).mark.place).what;
  window = window_of tells i.window;
}

-- the items of a task's site
abbrev pub site_items : (ℕ → Resolved) → List ClauseMember → List SiteItem
site_items tells [] = []
site_items tells (Private n ∷ ps) = site_items tells ps
site_items tells (Item d i ∷ ps) = site_item tells d i ∷ site_items tells ps
