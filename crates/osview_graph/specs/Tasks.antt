-- The boxes of tasks.
use Rattle.std.specs.Prelude.{ℕ, ◌==◌, true, if◌then◌else◌, List, [], ◌++◌, codes, length, slice_index_or}
use Rattle.std.specs.Fmt.{decimal}
use Rattle.std.specs.List.{flat_map, range_with_len}
use Rattle.collector.specs.Status.{has_done}
use Rattle.osview_graph.specs.DrawnRun.{DrawnRun, ended_so, is_over_budget, is_poisoned, is_starved, is_trapped}

-- how many activations a task has
abbrev pub activations_text : ℕ → List ℕ
activations_text count = if count == 1 then codes "1 activation" else decimal count ++ codes " activations"

-- how many of them ended so, where some did
abbrev pub part_text : (count : ℕ) → (what : List ℕ) → List ℕ
part_text count what = if count == 0 then [] else codes ", " ++ decimal count ++ what

-- how many ended how; those that are done always come first
abbrev pub ends_text : (done trapped over_budget poisoned starved : ℕ) → List ℕ
ends_text done trapped over_budget poisoned starved =
    decimal done ++ codes " done" ++ part_text trapped (codes " trapped") ++ part_text over_budget (codes " out of turns")
    ++ part_text poisoned (codes " poisoned") ++ part_text starved (codes " starved")

-- what stands in the box of a task before its counts: the line of its pragma
abbrev pub task_head : DrawnRun → (task : ℕ) → List ℕ
task_head run task =
    codes "  task" ++ decimal task ++ codes " [shape=box, label=\"task in line " ++ decimal (slice_index_or run.lines task 0) ++ codes "\\n"

-- how many activations of a task ended how
abbrev pub task_ends : DrawnRun → (task : ℕ) → List ℕ
task_ends run task =
    ends_text (ended_so run has_done task) (ended_so run is_trapped task) (ended_so run is_over_budget task)
    (ended_so run is_poisoned task) (ended_so run is_starved task)

-- The box of a task: the line of its pragma, how many activations it has, and how many of them ended how.
abbrev pub task_box : DrawnRun → (task : ℕ) → List ℕ
task_box run task =
    task_head run task ++ activations_text (ended_so run (λ _. true) task) ++ codes "\\n" ++ task_ends run task ++ codes "\"];\n"

-- The boxes of all tasks, in the order of the text.
abbrev pub task_boxes : DrawnRun → List ℕ
task_boxes run = flat_map (task_box run) (range_with_len 0 (length run.lines))
