-- That elements are kept as activations get outcomes, and over which numbers a plan's poison names its roots.
use Rattle.std.proofs.Common.{◌≡◌, ℕ, zero, suc, ◌+◌, List, Option, Some, None, length, get_or, refl, sym, ap, ◌∙◌, arith}
use Rattle.std.proofs.Math.Path.{fun_ext}
use Rattle.std.specs.Prelude.{option_and_then}
use Rattle.std.specs.List.{range_with_len}
use Rattle.flow_core_laws.specs.declared.activation.Activation.{Activation}
use Rattle.flow_core_laws.specs.Outcome.{outcome_at}
use Rattle.flow_core_laws.specs.Laws.{IsKept}
use Rattle.flow_core_laws.specs.declared.elem.Elem.{Elem}
use Rattle.flow_core_laws.specs.declared.outcome.Outcome.{Outcome}
use Rattle.flow_core_laws.specs.declared.plan.Plan.{Plan}
use Rattle.flow_core_laws.specs.Element.{initial, fed, nobody, element_written, element}
use Rattle.flow_core_laws.specs.Streams.{own_number}
use Rattle.flow_core_laws.specs.Plans.{number_at}
use Rattle.flow_core_laws.specs.StandsFor.{StandsFor}

-- an element that is there stays as more activations get outcomes
pub element_kept : (numbers : ℕ → ℕ) → IsKept (element numbers)
element_kept numbers s t e (initial w) v h = h
element_kept numbers s t e (fed a k) v h = output_more (outcome_at s a) refl
  where
    output_more : (o : Option Outcome) → outcome_at s a ≡ o → option_and_then (λ (q : Outcome). element_written (numbers a) q k) (outcome_at t a) ≡ Some v
    output_more None is = let z : ◌≡◌ {A = Option Elem} None (Some v) = sym (ap (option_and_then (λ (q : Outcome). element_written (numbers a) q k)) is) ∙ h in absurd (cc)
    output_more (Some o) is = ap (option_and_then (λ (q : Outcome). element_written (numbers a) q k)) (e a o is) ∙ sym (ap (option_and_then (λ (q : Outcome). element_written (numbers a) q k)) is) ∙ h
element_kept numbers s t e nobody v h = absurd (cc)

-- a stretch of numbers at its places
at_itself : (from n f : ℕ) → get_or (range_with_len from n) f (from + f) ≡ from + f
at_itself from zero f = refl
at_itself from (suc n) zero = omega arith
at_itself from (suc n) (suc f) =
    let e : from + suc f ≡ from + 1 + f = omega arith in
    ap (get_or (range_with_len (from + 1) n) f) e ∙ at_itself (from + 1) n f ∙ sym e

-- the frames of a plan that stands for activations have the activations' own numbers
pub number_at_own : (plan : Plan) (activations : List Activation) (input : List ℕ) → StandsFor plan activations input → number_at plan ≡ own_number
number_at_own plan activations input s = fun_ext (λ (f : ℕ). ap (λ (numbers : List ℕ). get_or numbers f f) s.numbers_are_their_own ∙ own f)
  where
    own : (f : ℕ) → get_or (range_with_len 0 (length activations)) f f ≡ f
    own f = let e : 0 + f ≡ f = omega arith in ap (get_or (range_with_len 0 (length activations)) f) (sym e) ∙ at_itself 0 (length activations) f ∙ e
