-- Where the code goes on behind a statement, how a body is left, and which numbers its tasks have.
use Rattle.std.specs.Prelude.{◌≡◌, ℕ, ◌+◌, List, Option, Some, None, slice_get}
use Rattle.lowering_draft.specs.declared.draft.Label.{Label}
use Rattle.os_code.specs.declared.instr.Instr.{Instr}
use Rattle.os_code.specs.declared.instr.Instr.TheVariants.{End, Return}
use Rattle.os_code.specs.declared.parts.Parts.{Parts}
use Rattle.lowering_relation.specs.Statements.{Ends}
use Rattle.lowering_relation.specs.Tasks.{TaskTree, task_index}

-- Behind a part the code goes on at the next place, or at that of a label.
abbrev pub GoesOn : Parts → (ℕ → ℕ) → Option Label → (part : (next from to : ℕ) → Type 0) → (from to : ℕ) → Type 0
GoesOn code place_of None part from to = part to from to
GoesOn code place_of (Some next) part from to = Ends code part (place_of next.number) from to

-- A `return` leaves a function with a value, and ends `main` and a task.
pub data IsLeave : Instr → Type 0 where
  returns : IsLeave Return
  ends : IsLeave End

-- Tasks that stand one after another among all tasks, from the one with this number on.
abbrev pub AreNumbered : (all : List TaskTree) → (first : ℕ) → List TaskTree → Type 0
AreNumbered all first tasks = (k : ℕ) (t : TaskTree) → slice_get tasks k ≡ Some t → task_index all t.mark ≡ Some (first + k)
