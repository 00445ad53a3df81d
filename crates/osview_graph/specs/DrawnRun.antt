-- What is drawn: a run, and what of the program's text belongs to it.
use Rattle.std.specs.Prelude.{ℕ, ◌==◌, Bool, true, false, if◌then◌else◌, List, Option, None, Some, length, slice_get, slice_index_or, sum_by, codes}
use Rattle.std.specs.List.{range_with_len}
use Rattle.std.specs.Option.{option_map_or}
use Rattle.flow_core_laws.specs.declared.activation.Activation.{Activation}
use Rattle.flow_core_laws.specs.declared.task_end.TaskEnd.{TaskEnd}
use Rattle.flow_core_laws.specs.declared.task_end.TaskEnd.TheVariants.{Done, OverBudget, Poisoned, Trapped}
use Rattle.osview_sentences.specs.declared.stream_name.StreamName.{StreamName}

-- A run: the text of its program, where the names of streams stand in it, the line of each task's pragma, how many streams there
-- are, the activations that `main` created, how many elements the input has, and how each activation ended.
pub record DrawnRun : Type 0 where
  pub text : List ℕ
  pub names : List StreamName
  pub lines : List ℕ
  pub streams : ℕ
  pub activations : List Activation
  pub input_len : ℕ
  pub ends : List (Option TaskEnd)

-- how an activation ended, if it did
abbrev pub end_at : DrawnRun → ℕ → Option TaskEnd
end_at run a = slice_index_or run.ends a None

-- the task of an activation; 0 where there is no activation
abbrev pub task_at : DrawnRun → ℕ → ℕ
task_at run a = option_map_or (λ (x : Activation). x.site) (slice_get run.activations a) 0

-- whether an activation with this end, or none, trapped
abbrev pub is_trapped : Option TaskEnd → Bool
is_trapped None = false
is_trapped (Some Done) = false
is_trapped (Some (Trapped code line)) = true
is_trapped (Some OverBudget) = false
is_trapped (Some (Poisoned root)) = false

-- whether an activation with this end used up its turns
abbrev pub is_over_budget : Option TaskEnd → Bool
is_over_budget None = false
is_over_budget (Some Done) = false
is_over_budget (Some (Trapped code line)) = false
is_over_budget (Some OverBudget) = true
is_over_budget (Some (Poisoned root)) = false

-- whether an activation with this end never ran, since what it reads is poison
abbrev pub is_poisoned : Option TaskEnd → Bool
is_poisoned None = false
is_poisoned (Some Done) = false
is_poisoned (Some (Trapped code line)) = false
is_poisoned (Some OverBudget) = false
is_poisoned (Some (Poisoned root)) = true

-- whether an activation is starved: it has no end
abbrev pub is_starved : Option TaskEnd → Bool
is_starved None = true
is_starved (Some end) = false

-- whether an activation with this end ran, so that it read all elements of its input windows
abbrev pub has_run : Option TaskEnd → Bool
has_run None = false
has_run (Some Done) = true
has_run (Some (Trapped code line)) = true
has_run (Some OverBudget) = true
has_run (Some (Poisoned root)) = false

-- the word for how an activation ended
abbrev pub end_word : Option TaskEnd → List ℕ
end_word None = codes "starved"
end_word (Some Done) = codes "done"
end_word (Some (Trapped code line)) = codes "trapped"
end_word (Some OverBudget) = codes "out of turns"
end_word (Some (Poisoned root)) = codes "poisoned"

-- the sum of the amounts of those that belong to `one`, of the `count` that are numbered from 0 on
abbrev pub total : (belongs_to amount : ℕ → ℕ) → (count one : ℕ) → ℕ
total belongs_to amount count one = sum_by (λ k. if belongs_to k == one then amount k else 0) (range_with_len 0 count)

-- How many activations of a task have an end, or none, of which `so` is true.
abbrev pub ended_so : DrawnRun → (Option TaskEnd → Bool) → (task : ℕ) → ℕ
ended_so run so task = total (task_at run) (λ a. if so (end_at run a) then 1 else 0) (length run.activations) task
