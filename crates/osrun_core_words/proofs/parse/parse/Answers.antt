use Rattle.std.proofs.Common.{◌∙◌}
use Rattle.osrun_core_words.specs.Arguments.{arguments_of}
use Rattle.osrun_core_words.proofs.GivenNumbers.{table_given, table_simple}
use Rattle.osrun_core_words.proofs.CommandParses.{has_fault, parsed_by}
use Rattle.osrun_core_words.proofs.parse.parse.Goals as goal

pub returns-in-Ok-clause-parsed : goal.returns-in-Ok-clause-parsed
returns-in-Ok-clause-parsed c =
    let told = c.in-Ok.ensures in
    parsed_by _ _ c.in_ok-command.command _ c.in-Ok.matches (table_simple c.args.form.word.now (arguments_of c.args.form.arguments.now) c.requires) c.in_ok-command.ensures told.ok told.kinds told.after told.fails

pub returns-in-Ok-clause-given : goal.returns-in-Ok-clause-given
returns-in-Ok-clause-given c =
    let told = c.in-Ok.ensures in
    table_given c.args.form.word.now (arguments_of c.args.form.arguments.now) _ c.in-Ok.matches c.requires
    (parsed_by _ _ c.in_ok-command.command _ c.in-Ok.matches (table_simple c.args.form.word.now (arguments_of c.args.form.arguments.now) c.requires) c.in_ok-command.ensures told.ok told.kinds told.after told.fails)

pub returns : goal.returns
returns c =
    let told = c.in-Err.ensures in
    record {
      parsed = tt;
      given = tt;
      refused = λ _. has_fault _ _ c.in_ok-command.command c.in-Err.error (table_simple c.args.form.word.now (arguments_of c.args.form.arguments.now) c.requires) c.in_ok-command.ensures told.kinds (λ h. c.in_default.not-OutOfMemory (c.kind.ensures ∙ h));
    }
