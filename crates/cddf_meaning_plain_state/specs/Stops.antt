-- What the functions of the program answer, as the definitions have it. Want of memory says nothing.
use Rattle.std.specs.Prelude.{◌≡◌, ⊤, ℕ, Bool, not, List, Option, Some, None, Result, Ok, Err, ℤ}
use Rattle.c_int.specs.Operators.{is_zero}
use Rattle.c_int.specs.declared.control_limit.ControlLimit.{ControlLimit}
use Rattle.cddf_meaning.specs.Answers.{Answer, Left, left}
use Rattle.cddf_meaning.specs.Flow.{Ran, Went, Ended, goes_on}
use Rattle.cddf_meaning.specs.BodyState.{BodyState}
use Rattle.cddf_meaning_plain_state.specs.Claimed.{behind}
use Rattle.cddf_meaning.specs.declared.ending.Ending.TheVariants.{Limited}
use Rattle.cddf_meaning.specs.declared.flow.Flow.{Flow}
use Rattle.cddf_meaning_plain_state.specs.declared.stop.Stop.{Stop}
use Rattle.cddf_meaning_plain_state.specs.declared.stop.Stop.TheVariants as stop
use Rattle.flow_core_laws.specs.declared.activation.Activation.{Activation}
use Rattle.flow_core_laws.specs.declared.claim.Claim.{Claim}

-- an evaluation ends by this stop; where memory was wanting, nothing is said of it
abbrev pub Stops : {A : Type 0} → Stop → Answer A → Type 0
Stops (stop.Ended ending) answer = answer ≡ Err ending
Stops stop.Memory answer = ⊤

-- a statement ends so, and these activations stand
abbrev pub StopsIn : Stop → List Activation → Ran → Type 0
StopsIn (stop.Ended ending) activations r = r ≡ Ended ending activations
StopsIn stop.Memory activations r = ⊤

-- an evaluation that takes no turns
abbrev pub Comes : {A : Type 0} → Result A Stop → Answer A → Type 0
Comes (Ok a) answer = answer ≡ Ok a
Comes (Err stop) answer = Stops stop answer

-- an evaluation that leaves these turns
abbrev pub Evaluates : {A : Type 0} → Result A Stop → ℕ → Answer (Left A) → Type 0
Evaluates (Ok v) turns answer = answer ≡ Ok (left v turns)
Evaluates (Err stop) turns answer = Stops stop answer

-- a statement that leaves this state and these turns
abbrev pub Leaves : Result Flow Stop → BodyState → ℕ → Ran → Type 0
Leaves (Ok flow) s turns r = r ≡ Went flow s turns
Leaves (Err stop) s turns r = StopsIn stop s.activations r

-- a statement without `break`, `continue` or `return`
abbrev pub GoesOn : {A : Type 0} → Result A Stop → BodyState → ℕ → Ran → Type 0
GoesOn (Ok done) s turns r = r ≡ goes_on s turns
GoesOn (Err stop) s turns r = StopsIn stop s.activations r

-- a change of the state went through, or stopped and left the activations as they were
abbrev pub Now : {A : Type 0} → Result A Stop → BodyState → BodyState → Answer BodyState → Type 0
Now (Ok done) new old answer = answer ≡ Ok new
Now (Err stop) new old answer = Stops stop answer × (new.activations ≡ old.activations)

-- a change of the state that nothing but want of memory stops
abbrev pub Made : {A : Type 0} → Result A Stop → BodyState → BodyState → Type 0
Made (Ok done) new wanted = new ≡ wanted
Made (Err reason) new wanted = reason ≡ stop.Memory

-- a condition was evaluated: it holds where its value isn't 0
abbrev pub Tests : Result Bool Stop → ℕ → Answer (Left ℤ) → Type 0
Tests (Ok holds) turns answer = (n : ℤ) × (answer ≡ Ok (left n turns)) × (holds ≡ not (is_zero n))
Tests (Err stop) turns answer = Stops stop answer

-- claims that are added to others
abbrev pub Adds : {A : Type 0} → Result A Stop → List Claim → List Claim → ℕ → Answer (Left (List Claim)) → Type 0
Adds (Ok done) old new turns answer = behind old answer ≡ Ok (left new turns)
Adds (Err stop) old new turns answer = Stops stop answer

-- no limit is passed, or this one
abbrev pub Limits : {A : Type 0} → Result A Stop → Option ControlLimit → Type 0
Limits (Ok done) passed = passed ≡ None
Limits (Err (stop.Ended ending)) passed = (limit : ControlLimit) × (passed ≡ Some limit) × (ending ≡ Limited limit)
Limits (Err stop.Memory) passed = ⊤
