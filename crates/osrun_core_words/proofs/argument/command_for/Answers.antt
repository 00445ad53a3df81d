use Rattle.std.proofs.Common.{◌≡◌, ◌∙◌, ◌+◌, ◌<◌, ◌∷◌, [], ℕ, List, ap, ap₂, sym, length, map, take, slice_index_or}
use Rattle.std.proofs.lemmas.List.{map_more, map-append}
use Rattle.clap.specs.Words.{App, Rule, Text, new_app, with_rule}
use Rattle.osrun_core_words.specs.declared.argument.Argument.{Argument}
use Rattle.osrun_core_words.specs.Arguments.{argument_of, arguments_of, rule_for, simple_command}
use Rattle.osrun_core_words.proofs.argument.command_for.Goals as goal

abbrev with_rules : Text → List Rule → App
with_rules word rules = record (new_app word) { top = record (new_app word).top { rules = rules } }

one_more : (word : Text) (xs : List Argument) (i : ℕ) (d : Argument) → i < length xs
    → with_rule (simple_command word (arguments_of (take i xs))) (rule_for (argument_of (slice_index_or xs i d)))
    ≡ simple_command word (arguments_of (take (i + 1) xs))
one_more word xs i d lt = ap (with_rules word) (sym (
    ap (map rule_for) (map_more argument_of xs i d lt)
    ∙ map-append rule_for (arguments_of (take i xs)) (argument_of (slice_index_or xs i d) ∷ [])
    ))

pub loop-argument-preserved : goal.loop-argument-preserved
loop-argument-preserved c =
    c.in_ok-command.ensures.shape c.arg_for.ensures.local
    ∙ (ap₂ with_rule c.loop-argument.invariant c.arg_for.ensures.rule
    ∙ one_more c.args.form.word.now c.args.form.arguments.now c.loop-argument.argument-index _ c.loop-argument-test.true)
