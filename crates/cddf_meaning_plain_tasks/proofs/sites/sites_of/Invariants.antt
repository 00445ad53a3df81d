use Rattle.std.proofs.Common.{◌≡◌, ◌++◌, drop, map}
use Rattle.cddf_meaning_plain_tasks.specs.Sought.{task_of}
use Rattle.cddf_meaning.specs.Tasks.{sites_of}
use Rattle.cddf_meaning_plain_tasks.proofs.sites.sites_of.Given as goal

abbrev pub invariant-loop-task : goal.invariant-loop-task
invariant-loop-task l =
    l.sites ++ sites_of (map task_of (drop l.task-index l.tasks)) ≡ sites_of (map task_of l.tasks)
