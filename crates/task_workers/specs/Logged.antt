-- The frames that workers ran, in a list for each worker.
use Rattle.std.specs.Prelude.{◌≡◌, ℕ, List, Option}
use Rattle.flow_core_laws.specs.declared.task_end.TaskEnd.{TaskEnd}
use Rattle.flow_core_laws.specs.Outcome.{has_end_at}
use Rattle.flow_core_concurrent.specs.Counted.{one}
use Rattle.task_workers_crew.specs.Crew.{times_in}

-- The lists put together have no repeats and hold exactly the frames with an end: each of these stands in them once, and no
-- other number stands there.
abbrev pub HoldTheEnded : List (Option TaskEnd) → List (List ℕ) → Type 0
HoldTheEnded ends lists = (f : ℕ) → times_in lists f ≡ one (has_end_at ends f)
