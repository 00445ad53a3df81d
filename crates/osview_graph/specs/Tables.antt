-- Tables of what is counted: a row for each task, or for each stream.
use Rattle.std.specs.Prelude.{◌≡◌, ℕ, ◌+◌, ◌-◌, if◌then◌else◌, List, true, length, map, max}
use Rattle.std.specs.List.{range_with_len}
use Rattle.collector.specs.Status.{has_done}
use Rattle.osview_graph.specs.DrawnRun.{DrawnRun, ended_so, is_over_budget, is_poisoned, is_starved, is_trapped}
use Rattle.flow_core_laws.specs.Window.{Window}
use Rattle.osview_graph.specs.Streams.{has_read, read, window_count, element_count}
use Rattle.osview_graph.specs.declared.streams.StreamCounts.{StreamCounts}
use Rattle.osview_graph.specs.declared.tasks.TaskCounts.{TaskCounts}

-- a table with `count` rows, each what `f` gives for its number
abbrev pub table : (ℕ → ℕ) → (count : ℕ) → List ℕ
table f count = map f (range_with_len 0 count)

-- how many activations of each task ended how
pub record AreTaskCounts (run : DrawnRun) (counts : TaskCounts) : Type 0 where
  pub all : counts.all.items ≡ table (ended_so run (λ _. true)) (length run.lines)
  pub done : counts.done.items ≡ table (ended_so run has_done) (length run.lines)
  pub trapped : counts.trapped.items ≡ table (ended_so run is_trapped) (length run.lines)
  pub over_budget : counts.over_budget.items ≡ table (ended_so run is_over_budget) (length run.lines)
  pub poisoned : counts.poisoned.items ≡ table (ended_so run is_poisoned) (length run.lines)
  pub starved : counts.starved.items ≡ table (ended_so run is_starved) (length run.lines)

-- how many windows are on each stream, and how many elements were written and read
pub record AreStreamCounts (run : DrawnRun) (counts : StreamCounts) : Type 0 where
  pub windows : counts.windows.items ≡ table (window_count run) run.streams
  pub written : counts.written.items ≡ table (element_count run) run.streams
  pub read : counts.read.items ≡ table (read run) run.streams

-- how many positions of a window stand behind those that were read before
abbrev pub newly_behind : DrawnRun → Window → (before : ℕ) → ℕ
newly_behind run w before = if has_read run w then (w.first + w.claim.horizon) - max w.first before else 0

-- before which position elements were read with one more window
abbrev pub read_to : DrawnRun → Window → (before : ℕ) → ℕ
read_to run w before = if has_read run w then max (w.first + w.claim.horizon) before else before
