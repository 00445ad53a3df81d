use Rattle.osrun_core_words.specs.Command.{trace_form, texts}
use Rattle.osrun_core_words.proofs.CommandJobs.{request_read, refused}
use Rattle.osrun_core_words.proofs.read.read_trace.Goals as goal

pub returns-clause-request : goal.returns-clause-request
returns-clause-request c =
    request_read trace_form (texts c.args.words.now) c.in_ok-matches.matches _ c.in_ok-matches.ensures.parsed c.run_of.ensures.trace

pub returns-in_err-matches-clause-refused : goal.returns-in_err-matches-clause-refused
returns-in_err-matches-clause-refused c =
    refused trace_form (texts c.args.words.now) c.from_residual.result c.in_err-matches.field-0.0 c.from_residual.ensures.1 c.in_err-matches.ensures.refused
