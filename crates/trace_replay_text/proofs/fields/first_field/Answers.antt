use Rattle.std.proofs.Common.{ℕ, List, ap, drop, ◌∙◌}
use Rattle.std.proofs.lemmas.List.{take_rest}
use Rattle.trace_replay_text.proofs.Cutting.{no_field}
use Rattle.trace_replay_text.proofs.fields.first_field.Goals as goal

pub returns-in_default-parse_decimal-clause-none : goal.returns-in_default-parse_decimal-clause-none
returns-in_default-parse_decimal-clause-none c = λ n rest small begins is.
    no_field _ c.place_of-end.result c.place_of-end.ensures c.in_default-parse_decimal.ensures.none n rest small begins
    (take_rest c.args.text.now 1 ∙ ap (λ (t : List ℕ). drop 1 t) is)
