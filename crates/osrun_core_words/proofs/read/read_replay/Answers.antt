use Rattle.std.proofs.Common.{◌≡◌, ℕ}
use Rattle.clap.specs.Words.{Text}
use Rattle.osrun_core_jobs.specs.Jobs.{Replay, Request}
use Rattle.osrun_core_words.specs.Command.{replay_form, texts}
use Rattle.osrun_core_words.proofs.CommandJobs.{request_read, refused}
use Rattle.osrun_core_words.proofs.read.read_replay.Goals as goal

same_replay : (program p input i trace r : Text) (task t control k : ℕ) → p ≡ program → i ≡ input → r ≡ trace → t ≡ task → k ≡ control
    → ◌≡◌ {A = Request} (Replay (record { program = program; input = input; trace = trace; task_budget = task; control_budget = control }))
    (Replay (record { program = p; input = i; trace = r; task_budget = t; control_budget = k }))
same_replay program p input i trace r task t control k a b c d e = cc

pub returns-clause-request : goal.returns-clause-request
returns-clause-request c =
    request_read replay_form (texts c.args.words.now) c.in_ok-matches.matches _ c.in_ok-matches.ensures.parsed
    (same_replay _ _ _ _ _ _ _ _ _ _ c.name_of.ensures c.name_of-2.ensures c.name_of-3.ensures c.number_of.ensures.value c.number_of-2.ensures.value)

pub returns-in_err-matches-clause-refused : goal.returns-in_err-matches-clause-refused
returns-in_err-matches-clause-refused c =
    refused replay_form (texts c.args.words.now) c.from_residual.result c.in_err-matches.field-0.0 c.from_residual.ensures.1 c.in_err-matches.ensures.refused
