-- What an evaluation comes to.
use Rattle.std.specs.Prelude.{ℕ, Bool, if◌then◌else◌, ℤ, pos, negsuc, Result, Ok, Err}
use Rattle.c_int.specs.declared.trap.OperatorTrap.{OperatorTrap}
use Rattle.c_int.specs.declared.trap.Trap.{Trap}
use Rattle.c_int.specs.declared.trap.Trap.TheVariants.{Operator}
use Rattle.cddf_meaning.specs.declared.ending.Ending.{Ending}
use Rattle.cddf_meaning.specs.declared.ending.Ending.TheVariants.{Trapped, OverBudget}

-- What an evaluation comes to: it gives something, or the body ends in it, by a trap with its line or because the turns are used up.
abbrev pub Answer : Type 0 → Type 0
Answer A = Result A Ending

abbrev pub traps : {A : Type 0} → (why : Trap) (line : ℕ) → Answer A
traps why line = Err (Trapped why line)

-- a number that isn't negative and passes a test, and else the trap
abbrev pub passing : (ℕ → Bool) → (why : Trap) (line : ℕ) → ℤ → Answer ℕ
passing test why line (pos n) = if test n then Ok n else traps why line
passing test why line (negsuc n) = traps why line

abbrev pub over : {A : Type 0} → Answer A
over = Err OverBudget

-- what comes next, where something is given
abbrev pub and_then : {A B : Type 0} → Answer A → (A → Answer B) → Answer B
and_then (Ok a) next = next a
and_then (Err ending) next = Err ending

-- what an operator gives, or its trap with the line of the operator
abbrev pub at_line : {A : Type 0} → ℕ → Result A OperatorTrap → Answer A
at_line line (Ok v) = Ok v
at_line line (Err why) = traps (Operator why) line

-- Something, and the turns that are left behind it. A turn is a unit of the budget.
pub record Left (A : Type 0) : Type 0 where
  pub value : A
  pub turns : ℕ

abbrev pub left : {A : Type 0} → A → ℕ → Left A
left v turns = record { value = v; turns = turns }

abbrev pub with_turns : {A : Type 0} → ℕ → Answer A → Answer (Left A)
with_turns turns a = and_then a (λ v. Ok (left v turns))
