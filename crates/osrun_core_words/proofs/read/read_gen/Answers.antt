use Rattle.std.proofs.Common.{◌≡◌, ℕ}
use Rattle.osrun_core_jobs.specs.Jobs.{Gen, Request}
use Rattle.osrun_core_words.specs.Command.{gen_form, texts}
use Rattle.osrun_core_words.proofs.CommandJobs.{request_read, refused}
use Rattle.osrun_core_words.proofs.read.read_gen.Goals as goal

same_gen : (seed s blocks b workers w : ℕ) → s ≡ seed → b ≡ blocks → w ≡ workers
    → ◌≡◌ {A = Request} (Gen (record { seed = seed; blocks = blocks; workers = workers })) (Gen (record { seed = s; blocks = b; workers = w }))
same_gen seed s blocks b workers w d e f = cc

pub returns-clause-request : goal.returns-clause-request
returns-clause-request c =
    request_read gen_form (texts c.args.words.now) c.in_ok-matches.matches _ c.in_ok-matches.ensures.parsed
    (same_gen _ _ _ _ _ _ c.number_of.ensures.value c.number_of-2.ensures.value c.number_of-3.ensures.value)

pub returns-in_err-matches-clause-refused : goal.returns-in_err-matches-clause-refused
returns-in_err-matches-clause-refused c =
    refused gen_form (texts c.args.words.now) c.from_residual.result c.in_err-matches.field-0.0 c.from_residual.ensures.1 c.in_err-matches.ensures.refused
