-- What budgets pay for: an evaluation or a statement takes a number of turns of its own, whatever is left behind it; and an end
-- that isn't that of the budget comes with more turns as well.
use Rattle.std.specs.Prelude.{◌≡◌, ⊤, ℕ, ◌+◌, ◌<◌, List, Ok, Err}
use Rattle.cddf_meaning.specs.Answers.{Answer, Left, left, over}
use Rattle.cddf_meaning.specs.Flow.{Ran, Went, Ended}
use Rattle.cddf_meaning.specs.BodyState.{BodyState}
use Rattle.cddf_meaning.specs.declared.ending.Ending.{Ending}
use Rattle.cddf_meaning.specs.declared.ending.Ending.TheVariants.{Trapped, OverBudget, Limited}
use Rattle.cddf_meaning.specs.declared.flow.Flow.{Flow}
use Rattle.flow_core_laws.specs.declared.activation.Activation.{Activation}

-- An evaluation that gives a value spends some of its turns. With as many, and any more, it gives the same value and leaves the
-- rest; with fewer it is over budget.
pub record Spends (A : Type 0) (evaluate : ℕ → Answer (Left A)) (turns : ℕ) (n : Left A) : Type 0 where
  pub spent : ℕ
  pub all : turns ≡ spent + n.turns
  pub enough : (more : ℕ) → evaluate (spent + more) ≡ Ok (left n.value more)
  pub fewer : (less : ℕ) → less < spent → evaluate less ≡ over

-- A trap or a limit ends it in the same way with as many turns, and any more.
abbrev pub Stays : {R : Type 0} → (ℕ → R) → ℕ → Ending → R → Type 0
Stays evaluate turns (Trapped why line) came = (more : ℕ) → evaluate (turns + more) ≡ came
Stays evaluate turns (Limited limit) came = (more : ℕ) → evaluate (turns + more) ≡ came
Stays evaluate turns OverBudget came = ⊤

-- where an evaluation gives something, it spends its turns exactly, and where it traps it does so with more turns too
abbrev pub IsExact : (A : Type 0) → (ℕ → Answer (Left A)) → ℕ → Answer (Left A) → Type 0
IsExact A evaluate turns (Ok n) = Spends A evaluate turns n
IsExact A evaluate turns (Err ending) = Stays evaluate turns ending (Err ending)

-- a statement that leaves a state spends some of its turns as such an evaluation does
pub record SpendsIn (run : ℕ → Ran) (turns : ℕ) (flow : Flow) (behind : BodyState) (rest : ℕ) : Type 0 where
  pub spent : ℕ
  pub all : turns ≡ spent + rest
  pub enough : (more : ℕ) → run (spent + more) ≡ Went flow behind more
  pub fewer : (less : ℕ) → less < spent → (made : List Activation) × (run less ≡ Ended OverBudget made)

-- where a statement leaves a state, it spends its turns exactly, and where it traps or meets a limit it does so with more turns too
abbrev pub RunsExactly : (ℕ → Ran) → ℕ → Ran → Type 0
RunsExactly run turns (Went flow behind rest) = SpendsIn run turns flow behind rest
RunsExactly run turns (Ended ending made) = Stays run turns ending (Ended ending made)
