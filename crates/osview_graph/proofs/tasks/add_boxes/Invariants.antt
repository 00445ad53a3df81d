use Rattle.std.proofs.Common.{◌≡◌, ◌++◌}
use Rattle.std.specs.List.{flat_map, range_with_len}
use Rattle.osview_graph.specs.Drawing.{run_of}
use Rattle.osview_graph.specs.Tasks.{task_box}
use Rattle.osview_graph.proofs.tasks.add_boxes.Given as goal

-- the boxes so far were added
abbrev pub invariant-loop-task : goal.invariant-loop-task
invariant-loop-task l = l.told ≡ l.initial.told ++ flat_map (task_box (run_of l.drawn)) (range_with_len 0 l.task)
