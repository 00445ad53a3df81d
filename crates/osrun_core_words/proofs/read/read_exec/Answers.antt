use Rattle.std.proofs.Common.{◌≡◌, ℕ}
use Rattle.clap.specs.Words.{Text}
use Rattle.osrun_core_jobs.specs.Jobs.{Exec, Request}
use Rattle.osrun_core_words.specs.Command.{exec_form, texts}
use Rattle.osrun_core_words.proofs.CommandJobs.{request_read, refused}
use Rattle.osrun_core_words.proofs.read.read_exec.Goals as goal

same_exec : (object o input i : Text) (workers w task t control k : ℕ) → o ≡ object → i ≡ input → w ≡ workers → t ≡ task → k ≡ control
    → ◌≡◌ {A = Request} (Exec (record { object = object; input = input; workers = workers; task_budget = task; control_budget = control }))
    (Exec (record { object = o; input = i; workers = w; task_budget = t; control_budget = k }))
same_exec object o input i workers w task t control k a b c d e = cc

pub returns-clause-request : goal.returns-clause-request
returns-clause-request c =
    request_read exec_form (texts c.args.words.now) c.in_ok-matches.matches _ c.in_ok-matches.ensures.parsed
    (same_exec _ _ _ _ _ _ _ _ _ _ c.name_of.ensures c.name_of-2.ensures c.terms_of.ensures.workers c.terms_of.ensures.task_budget
    c.terms_of.ensures.control_budget)

pub returns-in_err-matches-clause-refused : goal.returns-in_err-matches-clause-refused
returns-in_err-matches-clause-refused c =
    refused exec_form (texts c.args.words.now) c.from_residual.result c.in_err-matches.field-0.0 c.from_residual.ensures.1 c.in_err-matches.ensures.refused
