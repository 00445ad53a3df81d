-- What a statement comes to, and what follows it. C11, 6.8.
use Rattle.std.specs.Prelude.{ℕ, List, Ok, Err}
use Rattle.cddf_meaning.specs.Answers.{Answer}
use Rattle.cddf_meaning.specs.BodyState.{BodyState}
use Rattle.cddf_meaning.specs.Variables.{leave}
use Rattle.cddf_meaning.specs.declared.ending.Ending.{Ending}
use Rattle.cddf_meaning.specs.declared.flow.Flow.TheVariants.{GoesOn, Breaks, Continues}
use Rattle.cddf_meaning.specs.declared.flow.Flow.{Flow}
use Rattle.flow_core_laws.specs.declared.activation.Activation.{Activation}

-- A statement leaves a state and turns behind it, or the body ends in it. What the control program created before its
-- end stands.
pub data Ran : Type 0 where
  Went : Flow → BodyState → (turns : ℕ) → Ran
  Ended : Ending → List Activation → Ran

-- a statement in its place: from a state and the turns that are left
abbrev pub Runs : Type 0
Runs = BodyState → ℕ → Ran

-- where something is given, what follows; and else the end of the body
abbrev pub with_value : {A : Type 0} → Answer A → BodyState → (A → Ran) → Ran
with_value (Ok a) s next = next a
with_value (Err ending) s next = Ended ending s.activations

abbrev pub goes_on : BodyState → ℕ → Ran
goes_on s turns = Went GoesOn s turns

-- what follows, where nothing leaves it
abbrev pub flows : Runs → Ran → Ran
flows next (Went GoesOn s turns) = next s turns
flows next ran = ran

-- Behind the body of a loop: `continue` goes on with it, and `break` leaves it. C11, 6.8.6.2 and 6.8.6.3.
abbrev pub loops : Runs → Ran → Ran
loops next (Went GoesOn s turns) = next s turns
loops next (Went Breaks s turns) = Went GoesOn s turns
loops next (Went Continues s turns) = next s turns
loops next ran = ran

abbrev pub left_state : BodyState → BodyState → BodyState
left_state outer inner = record inner { bound = leave outer.bound inner.bound }

-- behind a scope: what was declared in it is gone
abbrev pub left_from : BodyState → Ran → Ran
left_from outer (Went flow inner turns) = Went flow (left_state outer inner) turns
left_from outer (Ended ending activations) = Ended ending activations
