-- What is counted of a task.
use Rattle.std.specs.Prelude.{ℕ, ◌+◌, ◌*◌, ◌/◌, ◌%◌, ◌==◌, max, List, None, count_by, filter_map, fold, if◌then◌else◌, map}
use Rattle.osview_steps.specs.declared.runs.Taken.{Taken}
use Rattle.osview_steps.specs.declared.runs.TaskRun.{TaskRun}

-- how many activations a task has
abbrev pub activation_count : ℕ → List TaskRun → ℕ
activation_count task runs = count_by (λ (r : TaskRun). r.task == task) runs

-- what those of its activations took that ran
abbrev pub taken_by : ℕ → List TaskRun → List Taken
taken_by task runs = filter_map (λ (r : TaskRun). if r.task == task then r.took else None) runs

-- the steps of these, and their turns
abbrev pub steps_in : List Taken → List ℕ
steps_in all = map (λ (taken : Taken). taken.steps) all

abbrev pub turns_in : List Taken → List ℕ
turns_in all = map (λ (taken : Taken). taken.turns) all

-- the steps of all that ran
abbrev pub all_steps : List TaskRun → List ℕ
all_steps runs = steps_in (filter_map (λ (r : TaskRun). r.took) runs)

-- the greatest of some numbers; 0 where there is none
abbrev pub most : List ℕ → ℕ
most ns = fold max 0 ns

-- the mean of `count` numbers whose sum is `whole`, rounded down; 0 where there is none
abbrev pub mean : (whole count : ℕ) → ℕ
mean whole count = if count == 0 then 0 else whole / count

-- a share in thousandths of the whole, rounded down
abbrev pub share : (part whole : ℕ) → ℕ
share part whole = if whole == 0 then 0 else part * 1000 / whole

-- how many times as much one number is as another, in hundredths, rounded up; of nothing it is as much
abbrev pub ratio : (all one : ℕ) → ℕ
ratio all one = if one == 0 then 100 else all * 100 / one + (if all * 100 % one == 0 then 0 else 1)
