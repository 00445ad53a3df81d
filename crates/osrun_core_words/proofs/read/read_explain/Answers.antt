use Rattle.std.proofs.Common.{◌≡◌, ℕ}
use Rattle.clap.specs.Words.{Text}
use Rattle.osrun_core_jobs.specs.Jobs.{Explain, Request}
use Rattle.osrun_core_words.specs.Command.{explain_form, texts}
use Rattle.osrun_core_words.proofs.CommandJobs.{request_read, refused}
use Rattle.osrun_core_words.proofs.read.read_explain.Goals as goal

same_explain : (program p input i : Text) (activation a workers w task t control k : ℕ) → p ≡ program → i ≡ input → a ≡ activation
    → w ≡ workers → t ≡ task → k ≡ control
    → ◌≡◌ {A = Request}
    (Explain (record { program = program; input = input; activation = activation; workers = workers; task_budget = task; control_budget = control }))
    (Explain (record { program = p; input = i; activation = a; workers = w; task_budget = t; control_budget = k }))
same_explain program p input i activation a workers w task t control k e0 e1 e2 e3 e4 e5 = cc

pub returns-clause-request : goal.returns-clause-request
returns-clause-request c =
    request_read explain_form (texts c.args.words.now) c.in_ok-matches.matches _ c.in_ok-matches.ensures.parsed
    (same_explain _ _ _ _ _ _ _ _ _ _ _ _ c.name_of.ensures c.name_of-2.ensures c.number_of.ensures.value c.terms_of.ensures.workers
    c.terms_of.ensures.task_budget c.terms_of.ensures.control_budget)

pub returns-in_err-matches-clause-refused : goal.returns-in_err-matches-clause-refused
returns-in_err-matches-clause-refused c =
    refused explain_form (texts c.args.words.now) c.from_residual.result c.in_err-matches.field-0.0 c.from_residual.ensures.1 c.in_err-matches.ensures.refused
