use Rattle.std.proofs.Common.{◌≡◌, ℕ, ap}
use Rattle.clap.specs.Words.{Text}
use Rattle.osrun_core_jobs.specs.Jobs.{Job, Run, Trace}
use Rattle.osrun_core_words.proofs.read.run_of.Goals as goal

same_job : (program p input i : Text) (workers w task t control k : ℕ) → p ≡ program → i ≡ input → w ≡ workers → t ≡ task → k ≡ control
    → ◌≡◌ {A = Job} (record { program = program; input = input; workers = workers; task_budget = task; control_budget = control })
    (record { program = p; input = i; workers = w; task_budget = t; control_budget = k })
same_job program p input i workers w task t control k a b c d e = cc

pub returns-clause-run : goal.returns-clause-run
returns-clause-run c =
    ap Run (same_job _ _ _ _ _ _ _ _ _ _ c.name_of.ensures c.name_of-2.ensures c.terms_of.ensures.workers c.terms_of.ensures.task_budget
    c.terms_of.ensures.control_budget)

pub returns-clause-trace : goal.returns-clause-trace
returns-clause-trace c =
    ap Trace (same_job _ _ _ _ _ _ _ _ _ _ c.name_of.ensures c.name_of-2.ensures c.terms_of.ensures.workers c.terms_of.ensures.task_budget
    c.terms_of.ensures.control_budget)
