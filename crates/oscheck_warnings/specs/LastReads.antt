-- Where tasks read their scalars last, as it is kept.
use Rattle.std.specs.Prelude.{◌≡◌, ◌==◌, ◌&&◌, ◌<◌, ◌≤◌, ℕ, Bool, true, false, not, ltb, List, Option, Some, None}
use Rattle.std.specs.BTreeMap.{get}
use Rattle.os_ast.specs.declared.names.What.{What}
use Rattle.os_ast.specs.declared.names.What.TheVariants as what
use Rattle.oscheck_warnings.specs.DeadStores.{IsReadAt}
use Rattle.oscheck_warnings.specs.contracts.last_reads.CellOrd.TheImpl as cell_order
use Rattle.oscheck_warnings.specs.declared.access.Access.{Access}
use Rattle.oscheck_warnings.specs.declared.access.Effect.{Effect}
use Rattle.oscheck_warnings.specs.declared.access.Effect.TheVariants as effect
use Rattle.oscheck_warnings.specs.declared.last_reads.Cell.{Cell}
use Rattle.oscheck_warnings.specs.declared.last_reads.LastReads.{LastReads}

abbrev pub last_read : LastReads → ℕ → ℕ → Option ℕ
last_read reads task slot = get (cell_order.ghosts).cmp reads.last record { task = task; slot = slot }

abbrev pub is_cell : Option Cell → ℕ → ℕ → Bool
is_cell None task slot = false
is_cell (Some c) task slot = (c.task == task) && (c.slot == slot)

-- the scalar of a task that a name means
abbrev pub cell_of : ℕ → Option What → Option Cell
cell_of task None = None
cell_of task (Some (what.Scalar slot)) = Some record { task = task; slot = slot }
cell_of task (Some _) = None

abbrev pub cell_read : Effect → ℕ → Option What → Option Cell
cell_read effect.Read task w = cell_of task w
cell_read effect.Change task w = None

abbrev pub cell_changed : Effect → ℕ → Option What → Option Cell
cell_changed effect.Read task w = None
cell_changed effect.Change task w = cell_of task w

abbrev pub read_by : (ℕ → Option What) → Access → Option Cell
read_by means a = cell_read a.effect a.site.task (means a.place)

abbrev pub changed_by : (ℕ → Option What) → Access → Option Cell
changed_by means a = cell_changed a.effect a.site.task (means a.place)

-- by where it is read last, nothing reads a scalar that is changed at an index
abbrev pub is_unread : Option ℕ → Bool → ℕ → Bool
is_unread None looped index = true
is_unread (Some read) looped index = not looped && not (ltb index read)

abbrev pub is_dead_cell : (ℕ → ℕ → Option ℕ) → Option Cell → Bool → ℕ → Bool
is_dead_cell reads None looped index = false
is_dead_cell reads (Some c) looped index = ltb 0 c.task && is_unread (reads c.task c.slot) looped index

-- an access changes a scalar of a task that nothing reads after it
abbrev pub is_dead : (ℕ → ℕ → Option ℕ) → (ℕ → Option What) → Access → ℕ → Bool
is_dead reads means a index = is_dead_cell reads (changed_by means a) a.site.looped index

-- of the first accesses it is kept where each scalar is read last
pub record AreLastReads (list : List Access) (means : ℕ → Option What) (reads : LastReads) (count : ℕ) : Type 0 where
  pub sound : (task slot index : ℕ) → last_read reads task slot ≡ Some index → IsReadAt list means task slot index
  pub complete : (task slot other : ℕ) → other < count → IsReadAt list means task slot other →
      (index : ℕ) × (last_read reads task slot ≡ Some index) × (other ≤ index)
