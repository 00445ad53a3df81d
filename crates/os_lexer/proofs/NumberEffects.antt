-- What a number does, where its value is read up to a cap alone.
use Rattle.std.proofs.Common.{◌≡◌, ℕ, min, ◌≤◌, ◌&&◌, cond, Bool, true, false, List, Option, Some, None, refl, sym, ap, ap₂, ◌∙◌, ⊎_elim, arith}
use Rattle.std.proofs.lemmas.Bool.{cases_lt}
use Rattle.std.proofs.lemmas.Bool.Decides.{nat_tests}
use Rattle.std.specs.Prelude.{nat_le}
use Rattle.os_lexer.specs.Effects.{number_effect, mode_after_token}
use Rattle.os_lexer.specs.Numbers.{may_be_int, may_be_unsigned}
use Rattle.os_lexer.specs.Reading.{capped}
use Rattle.os_lexer.specs.declared.effect.Effect.TheVariants.{Give, Fail}
use Rattle.os_lexer.specs.declared.fault.Fault.TheVariants as fault
use Rattle.os_lexer.specs.declared.mode.Mode.{Mode}
use Rattle.os_lexer.specs.declared.token.Kind.TheVariants as kind

pub and_false : (b : Bool) → (b && false) ≡ false
and_false true = refl
and_false false = refl

-- a value past the cap is a big number
big : (mode : Mode) (bytes : List ℕ) (v : ℕ) → 4294967296 ≤ v → number_effect mode bytes (Some v) ≡ Fail fault.BigNumber
big mode bytes v past =
    let no_int : nat_le v 2147483647 ≡ false = grind (arith, nat_tests) in
    let no_unsigned : nat_le v 4294967295 ≡ false = grind (arith, nat_tests) in
    ap₂ (λ a b. cond a (Give (kind.Number v) (mode_after_token mode)) (cond b (Give (kind.Wide v) (mode_after_token mode)) (Fail fault.BigNumber)))
    (ap (λ b. may_be_int bytes && b) no_int ∙ and_false (may_be_int bytes)) (ap (λ b. may_be_unsigned bytes && b) no_unsigned ∙ and_false (may_be_unsigned bytes))

pub effect_capped : (mode : Mode) (bytes : List ℕ) (o : Option ℕ) → number_effect mode bytes (capped o) ≡ number_effect mode bytes o
effect_capped mode bytes None = refl
effect_capped mode bytes (Some v) =
    ⊎_elim
    (λ below. let same : min v 4294967296 ≡ v = omega (arith, below) in ap (λ k. number_effect mode bytes (Some k)) same)
    (λ past. big mode bytes (min v 4294967296) (omega (arith, past)) ∙ sym (big mode bytes v past))
    (cases_lt v 4294967296)
