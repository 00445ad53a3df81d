-- The lines that tell of steps.
use Rattle.std.specs.Prelude.{ℕ, ◌+◌, ◌/◌, ◌%◌, ◌==◌, List, [], ◌++◌, codes, if◌then◌else◌, length, slice_index_or, sum}
use Rattle.std.specs.Fmt.{decimal}
use Rattle.std.specs.List.{flat_map, range_with_len}
use Rattle.os_io.specs.Lines.{ended_line}
use Rattle.osview_steps.specs.Tallies.{activation_count, all_steps, mean, most, ratio, share, steps_in, taken_by, turns_in}
use Rattle.osview_steps.specs.declared.runs.Taken.{Taken}
use Rattle.osview_steps.specs.declared.runs.TaskRun.{TaskRun}
use Rattle.osview_text.specs.Numbers.{least}
use Rattle.osview_text.specs.Words.{activation_word}

-- a number of tenths, and of hundredths
abbrev pub tenths : ℕ → List ℕ
tenths n = decimal (n / 10) ++ codes "." ++ decimal (n % 10)

abbrev pub hundredths : ℕ → List ℕ
hundredths n = decimal (n / 100) ++ codes "." ++ decimal (n / 10 % 10) ++ decimal (n % 10)

-- how many activations a task has, by the line of its pragma, and how many of them ran
abbrev pub counts_text : (at activations ran : ℕ) → List ℕ
counts_text at activations ran =
    codes "line " ++ decimal at ++ codes ": " ++ decimal activations ++ activation_word activations ++ codes ", " ++ decimal ran
    ++ codes " of them ran"

-- of the steps of those that ran the least and the most, the mean, the sum, and its share of the steps of the run
abbrev pub range_text : (low high : ℕ) → List ℕ
range_text low high = (codes ", " ++ decimal low) ++ (codes " to " ++ decimal high) ++ codes " steps each"

abbrev pub mean_text : ℕ → List ℕ
mean_text middle = codes ", " ++ decimal middle ++ codes " on average"

abbrev pub sum_text : ℕ → List ℕ
sum_text whole = codes ", " ++ decimal whole ++ codes " in all"

abbrev pub share_text : ℕ → List ℕ
share_text part = codes ", " ++ tenths part ++ codes " % of the steps of the run"

-- steps of the machine
abbrev pub step_count : ℕ → List ℕ
step_count steps = decimal steps ++ (if steps == 1 then codes " step" else codes " steps")

-- turns of a budget
abbrev pub turns_text : ℕ → List ℕ
turns_text turns = decimal turns ++ (if turns == 1 then codes " turn of its budget" else codes " turns of its budget")

abbrev pub taken_text : (low high middle whole part turns : ℕ) → List ℕ
taken_text low high middle whole part turns =
    range_text low high ++ mean_text middle ++ sum_text whole ++ share_text part ++ (codes ", at most " ++ turns_text turns)

-- the line of a task by these numbers
abbrev pub numbers_line : (at activations ran low high whole turns all : ℕ) → List ℕ
numbers_line at activations ran low high whole turns all =
    ended_line (counts_text at activations ran ++ (if ran == 0 then [] else taken_text low high (mean whole ran) whole (share whole all) turns))

-- The steps of the run: those of all tasks, and of `main`.
abbrev pub run_steps : List TaskRun → Taken → ℕ
run_steps runs main = sum (all_steps runs) + main.steps

-- The line of `main`: its steps, their share of the steps of the run, and how many turns of its budget it took.
abbrev pub main_line : Taken → (all : ℕ) → List ℕ
main_line main all =
    ended_line (codes "main: " ++ step_count main.steps ++ share_text (share main.steps all) ++ (codes ", " ++ turns_text main.turns))

-- The line of a task: how many activations it has and how many of them ran; of these the least, the most and the mean of their steps,
-- their sum, its share of the steps of the run, and the most turns of its budget that one of them took. `lines` has the line of each
-- task's pragma.
abbrev pub task_line : (lines : List ℕ) → List TaskRun → Taken → (task : ℕ) → List ℕ
task_line lines runs main task =
    let taken = taken_by task runs in
    numbers_line (slice_index_or lines task 0) (activation_count task runs) (length taken) (least (steps_in taken)) (most (steps_in taken))
    (sum (steps_in taken))
    (most (turns_in taken)) (run_steps runs main)

-- The steps of all tasks, those of a longest chain, and how many times as fast more workers can make the tasks at most.
abbrev pub all_line : ℕ → List ℕ
all_line all = ended_line (codes "all tasks: " ++ step_count all)

abbrev pub longest_line : ℕ → List ℕ
longest_line longest = ended_line (codes "the longest chain of activations that wait for one another: " ++ step_count longest)

abbrev pub speed_line : (all longest : ℕ) → List ℕ
speed_line all longest = codes "more workers can make the tasks " ++ hundredths (ratio all longest) ++ ended_line (codes " times as fast at most")

-- The lines: that of `main`, one for each task, in the order of the text, and those of the whole.
abbrev pub steps_lines : (lines : List ℕ) → List TaskRun → Taken → (longest : ℕ) → List ℕ
steps_lines lines runs main longest =
    main_line main (run_steps runs main) ++ flat_map (task_line lines runs main) (range_with_len 0 (length lines))
    ++ (all_line (sum (all_steps runs)) ++ longest_line longest ++ speed_line (sum (all_steps runs)) longest)
