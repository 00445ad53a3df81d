use Rattle.std.proofs.Common.{◌≡◌, ◌++◌}
use Rattle.std.specs.List.{flat_map, range_with_len}
use Rattle.osview_steps.specs.Lines.{main_line, run_steps, task_line}
use Rattle.osview_steps.proofs.telling.steps_text.Given as goal

-- the line of `main` and those of the tasks before this one were added
abbrev pub invariant-loop-task : goal.invariant-loop-task
invariant-loop-task l =
    l.told ≡ main_line l.fn.main (run_steps l.runs l.fn.main) ++ flat_map (task_line l.lines l.runs l.fn.main) (range_with_len 0 l.task)
