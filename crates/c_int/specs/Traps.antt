-- The codes of the traps that end a run of a program.
use Rattle.std.specs.Prelude.{ℕ}
use Rattle.c_int.specs.declared.trap.OperatorTrap.TheVariants.{Overflow, DivisorZero, Shift}
use Rattle.c_int.specs.declared.trap.Trap.{Trap}
use Rattle.c_int.specs.declared.trap.Trap.TheVariants.{Operator, Index, NoByte, WindowSize, Move, OutputBurst}

-- the code that a report shows
abbrev pub trap_code : Trap → ℕ
-- the result of `+`, `-`, `*`, `/`, `%`, unary `-`, `++` or `--` is no `int`; for `%`, the quotient isn't
trap_code (Operator Overflow) = 1
-- the divisor of `/` or `%` is 0
trap_code (Operator DivisorZero) = 2
-- a shift by an amount outside 0 to 31, or a left shift of a negative number or past an `int`
trap_code (Operator Shift) = 3
-- an index is out of range, that of a stream too
trap_code Index = 4
-- an activation that ended normally gives `osout` an element that is no byte
trap_code NoByte = 5
-- the size of a window isn't 1 to 65,536
trap_code WindowSize = 6
-- the burst of an input item, or the amount of a tick, isn't 0 to 65,536
trap_code Move = 7
-- the burst of an output window isn't its horizon
trap_code OutputBurst = 8
