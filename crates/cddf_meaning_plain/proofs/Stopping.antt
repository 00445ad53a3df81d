-- An ending passes through what would come next.
use Rattle.std.proofs.Common.{◌≡◌, ℕ, List, Result, Ok, Err, ℤ, ap, ◌∙◌, sym, subst}
use Rattle.cddf_meaning.specs.Answers.{Answer, Left, and_then, over}
use Rattle.cddf_meaning.specs.Flow.{Ran}
use Rattle.cddf_meaning.specs.Functions.{returned}
use Rattle.cddf_meaning_plain_state.specs.Stops.{Evaluates, Stops, StopsIn}
use Rattle.cddf_meaning_plain_state.specs.Claimed.{behind}
use Rattle.cddf_meaning.specs.declared.ending.Ending.{Ending}
use Rattle.cddf_meaning.specs.declared.ending.Ending.TheVariants.{OverBudget}
use Rattle.cddf_meaning_plain_state.specs.declared.stop.Stop.{Stop}
use Rattle.cddf_meaning_plain_state.specs.declared.stop.Stop.TheVariants as stop
use Rattle.flow_core_laws.specs.declared.activation.Activation.{Activation}
use Rattle.flow_core_laws.specs.declared.claim.Claim.{Claim}

ended-is : {a b : Ending} → stop.Ended a ≡ stop.Ended b → a ≡ b
ended-is h = cc

pub stops-over : {A : Type 0} (reason : Stop) (a : Answer A) → reason ≡ stop.Ended OverBudget → a ≡ over → Stops reason a
stops-over (stop.Ended ending) a r e = e ∙ ap Err (sym (ended-is r))
stops-over stop.Memory a r e = tt

pub stops-as : {A : Type 0} (reason : Stop) (a b : Answer A) → a ≡ b → Stops reason b → Stops reason a
stops-as (stop.Ended ending) a b e h = e ∙ h
stops-as stop.Memory a b e h = tt

pub stops-then : {A B : Type 0} (reason : Stop) (a : Answer A) (next : A → Answer B) → Stops reason a → Stops reason (and_then a next)
stops-then (stop.Ended ending) a next h = ap (λ x. and_then x next) h
stops-then stop.Memory a next h = tt

-- an answer that ends behind claims, ends without them
pub stops-behind : (reason : Stop) (before : List Claim) (a : Answer (Left (List Claim))) → Stops reason (behind before a) → Stops reason a
stops-behind (stop.Ended ending) before (Ok cs) h = cc
stops-behind (stop.Ended ending) before (Err e) h = h
stops-behind stop.Memory before a h = tt

pub stops-returned : (reason : Stop) (acts : List Activation) (r : Ran) → StopsIn reason acts r → Stops reason (returned r)
stops-returned (stop.Ended ending) acts r h = ap returned h
stops-returned stop.Memory acts r h = tt

pub then-gives : (result : Result ℤ Stop) (turns : ℕ) (a : Answer (Left ℤ)) (n : Left ℤ) (next : Left ℤ → Answer (Left ℤ)) → a ≡ Ok n →
    Evaluates result turns (next n) → Evaluates result turns (and_then a next)
then-gives result turns a n next e h =
    let P : Answer (Left ℤ) → Type 0 = λ x. Evaluates result turns (and_then x next) in subst P (sym e) h
