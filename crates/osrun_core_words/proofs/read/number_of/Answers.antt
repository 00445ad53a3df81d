use Rattle.std.proofs.Common.{◌∙◌}
use Rattle.std.specs.Str.Parse.{ParsesUnsigned, ExplainsUnsignedError, HasUnsignedDigitsIfOk}
use Rattle.osrun_core_words.specs.Arguments.{argument_of}
use Rattle.osrun_core_words.proofs.CommandJobs.{number_read}
use Rattle.osrun_core_words.proofs.read.number_of.Goals as goal

pub returns-clause-value : goal.returns-clause-value
returns-clause-value c =
    c.unwrap_or.ensures ∙ number_read _ (λ bs r. ParsesUnsigned 64 10 bs r × ExplainsUnsignedError 10 bs r × HasUnsignedDigitsIfOk bs r)
    c.args.matches.now (argument_of c.args.argument) c.get_one.result c.requires
    (λ t is. c.get_one.ensures.value t (rw c.id.ensures is)) (λ u x g. g.0)
