use Rattle.std.proofs.Common.{◌∙◌, sym}
use Rattle.osrun_core_words.proofs.CommandNames.{none_named}
use Rattle.osrun_core_words.proofs.read.command.Goals as goal

pub returns-in_default-as_str-clause-refused : goal.returns-in_default-as_str-clause-refused
returns-in_default-as_str-clause-refused c is =
    none_named c.args.words.now c.in-Some.first.now (sym c.in-Some.ensures.value)
    (λ e. c.in_default-as_str.not-run (c.as_str.ensures.value ∙ e))
    (λ e. c.in_default-as_str.not-gen (c.as_str.ensures.value ∙ e))
    (λ e. c.in_default-as_str.not-compile (c.as_str.ensures.value ∙ e))
    (λ e. c.in_default-as_str.not-exec (c.as_str.ensures.value ∙ e))
    (λ e. c.in_default-as_str.not-explain (c.as_str.ensures.value ∙ e))
    (λ e. c.in_default-as_str.not-trace (c.as_str.ensures.value ∙ e))
    (λ e. c.in_default-as_str.not-replay (c.as_str.ensures.value ∙ e))
