-- Changes of scalars in tasks that nothing reads.
use Rattle.std.specs.Prelude.{◌≡◌, ◌<◌, ◌⊎◌, ℕ, true, List, Option, Some}
use Rattle.std.specs.List.{slice_get}
use Rattle.os_ast.specs.declared.names.What.{What}
use Rattle.os_ast.specs.declared.names.What.TheVariants as what
use Rattle.oscheck_warnings.specs.Places.{has}
use Rattle.oscheck_warnings.specs.declared.access.Access.{Access}
use Rattle.oscheck_warnings.specs.declared.access.Effect.TheVariants as effect
use Rattle.oscheck_warnings.specs.declared.places.Places.{Places}

-- At an index of some accesses a task reads a scalar, by its slot there.
pub record IsReadAt (list : List Access) (means : ℕ → Option What) (task slot index : ℕ) : Type 0 where
  pub access : Access
  pub stands : slice_get list index ≡ Some access
  pub reads : access.effect ≡ effect.Read
  pub there : access.site.task ≡ task
  pub is : means access.place ≡ Some (what.Scalar slot)

-- At a place a task changes a scalar, and nothing reads that after the change: nothing of the task that comes later, and where a loop
-- of the task is round the change, nothing of the task at all. That a change uses the old value is no read. No two scalars of a task
-- have one slot.
pub record IsDeadStore (list : List Access) (means : ℕ → Option What) (place : ℕ) : Type 0 where
  pub index : ℕ
  pub change : Access
  pub slot : ℕ
  pub stands : slice_get list index ≡ Some change
  pub changes : change.effect ≡ effect.Change
  pub there : change.place ≡ place
  pub in_task : 0 < change.site.task
  pub is : means place ≡ Some (what.Scalar slot)
  pub unread : (other : ℕ) → IsReadAt list means change.site.task slot other → (index < other) ⊎ (change.site.looped ≡ true) → ⊥

-- the marked places are those of dead stores
pub record AreDeadStores (list : List Access) (means : ℕ → Option What) (places : Places) : Type 0 where
  pub sound : (place : ℕ) → has places place ≡ true → IsDeadStore list means place
  pub complete : (place : ℕ) → IsDeadStore list means place → has places place ≡ true
