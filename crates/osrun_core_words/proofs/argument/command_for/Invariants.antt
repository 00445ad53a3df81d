use Rattle.std.proofs.Common.{◌≡◌, take}
use Rattle.clap.specs.Words.{app_of}
use Rattle.osrun_core_words.specs.Arguments.{arguments_of, simple_command}
use Rattle.osrun_core_words.proofs.argument.command_for.Given as goal

abbrev pub invariant-loop-argument : goal.invariant-loop-argument
invariant-loop-argument l = app_of l.command ≡ simple_command l.fn.form.word.now (arguments_of (take l.argument-index l.fn.form.arguments.now))
