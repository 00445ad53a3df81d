-- The ends of activations by their numbers.
use Rattle.std.specs.Prelude.{◌≡◌, ℕ, ◌+◌, List, Option, Some, None, slice_index_or}
use Rattle.flow_core_laws.specs.declared.task_end.TaskEnd.{TaskEnd}
use Rattle.epoch_run_batches.specs.Meant.{Run, end_meant}

-- Of the ends of activations from a number on each that is there is the one that it means.
abbrev pub AreEndsFrom : Run → (first : ℕ) → List (Option TaskEnd) → Type 0
AreEndsFrom run first ends = (k : ℕ) (e : TaskEnd) → slice_index_or ends k None ≡ Some e → end_meant run (first + k) ≡ Some e
