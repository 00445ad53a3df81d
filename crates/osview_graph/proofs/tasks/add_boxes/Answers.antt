use Rattle.std.proofs.Common.{◌∙◌}
use Rattle.osview_graph.specs.Drawing.{run_of}
use Rattle.osview_graph.specs.Tasks.{task_box}
use Rattle.osview_graph.proofs.Joined.{one_more_from_none}
use Rattle.osview_graph.proofs.tasks.add_boxes.Goals as goal

pub loop-task-preserved : goal.loop-task-preserved
loop-task-preserved c =
    c.in_ok-add_box.ensures ∙ one_more_from_none (task_box (run_of c.args.drawn.now)) c.loop-task.task c.args.told.now c.loop-task.told c.loop-task.invariant
