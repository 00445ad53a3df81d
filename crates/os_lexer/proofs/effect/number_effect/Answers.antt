use Rattle.std.proofs.Common.{sym, ap, ◌∙◌}
use Rattle.os_lexer.specs.Effects.{number_effect}
use Rattle.os_lexer.specs.Numbers.{number_value}
use Rattle.os_lexer.proofs.NumberEffects.{effect_capped}
use Rattle.os_lexer.proofs.effect.number_effect.Goals as goal

pub returns-in-Some : goal.returns-in-Some
returns-in-Some c =
    c.value_effect.ensures ∙ ap (number_effect c.args.mode c.args.bytes.now) (sym c.in-Some.is ∙ c.number_value.ensures) ∙ effect_capped c.args.mode c.args.bytes.now (number_value c.args.bytes.now)
