-- What an operator gives: a number or a trap.
use Rattle.std.specs.Prelude.{ℕ, Bool, true, false, if◌then◌else◌, ltb, ℤ, pos, negsuc, Result, Err}
use Rattle.c_int.specs.declared.trap.OperatorTrap.{OperatorTrap}
use Rattle.c_int.specs.declared.trap.OperatorTrap.TheVariants.{Shift}

-- a number, or a trap
abbrev pub Operated : Type 0
Operated = Result ℤ OperatorTrap

-- 1 where something holds, and else 0
abbrev pub truth : Bool → ℤ
truth true = pos 1
truth false = pos 0

-- the amount of a shift is 0 to 31
abbrev pub by_amount : ℤ → (ℕ → Operated) → Operated
by_amount (pos n) shift = if ltb n 32 then shift n else Err Shift
by_amount (negsuc n) shift = Err Shift
