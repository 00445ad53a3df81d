use Rattle.std.proofs.Common.{◌≡◌}
use Rattle.clap.specs.Words.{Text}
use Rattle.osrun_core_jobs.specs.Jobs.{Compile, Request}
use Rattle.osrun_core_words.specs.Command.{compile_form, texts}
use Rattle.osrun_core_words.proofs.CommandJobs.{request_read, refused}
use Rattle.osrun_core_words.proofs.read.read_compile.Goals as goal

same_compile : (program p : Text) → p ≡ program → ◌≡◌ {A = Request} (Compile (record { program = program })) (Compile (record { program = p }))
same_compile program p a = cc

pub returns-clause-request : goal.returns-clause-request
returns-clause-request c =
    request_read compile_form (texts c.args.words.now) c.in_ok-matches.matches _ c.in_ok-matches.ensures.parsed
    (same_compile _ _ c.name_of-program.ensures)

pub returns-in_err-matches-clause-refused : goal.returns-in_err-matches-clause-refused
returns-in_err-matches-clause-refused c =
    refused compile_form (texts c.args.words.now) c.from_residual.result c.in_err-matches.field-0.0 c.from_residual.ensures.1 c.in_err-matches.ensures.refused
