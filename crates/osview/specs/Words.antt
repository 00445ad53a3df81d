-- What words ask for.
use Rattle.std.specs.Prelude.{◌≤◌, IfSome}
use Rattle.flow_core_laws.specs.Limits.{budget_limit, workers_limit}
use Rattle.osrun_core_jobs.specs.Jobs.{IsWithin, job_of}
use Rattle.osview.specs.declared.options.Options.{Options}
use Rattle.osview.specs.declared.request.Request.{Request}
use Rattle.osview.specs.declared.request.Request.TheVariants as request

-- the numbers of a job are within their bounds
abbrev pub IsLawful : Request → Type 0
IsLawful (request.Report job) = IsWithin (job_of job)
IsLawful (request.Stream asked) = IsWithin (job_of asked.job)
IsLawful (request.Steps job) = IsWithin (job_of job)
IsLawful (request.Graph asked) = IsWithin (job_of asked.job)
IsLawful (request.Explain asked) = IsWithin (job_of asked.job)
IsLawful request.Help = Unit {0}
IsLawful request.Version = Unit {0}

-- the numbers of options are within their bounds
pub record AreWithin (options : Options) : Type 0 where
  pub some_workers : IfSome options.workers (λ n. 1 ≤ n)
  pub few_workers : IfSome options.workers (λ n. n ≤ workers_limit)
  pub task_turns : IfSome options.task_budget (λ n. n ≤ budget_limit)
  pub control_turns : IfSome options.control_budget (λ n. n ≤ budget_limit)
