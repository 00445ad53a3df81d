-- Indices, sizes, bursts and amounts are judged in their own type: a negative `int` is out of range, and an `unsigned` above 2^31 - 1 is
-- too. So their bits suffice.
use Rattle.std.specs.Prelude.{◌≡◌, Bool, true, ℤ}
use Rattle.c_int.specs.Operators.{is_int}
use Rattle.c_int.specs.Typed.{converted}

-- a judgement of numbers comes out the same for a number of either type as for the `int` with its bits
abbrev pub JudgedByBits : {A : Type 0} → (ℤ → A) → Type 0
JudgedByBits judge = (unsigned : Bool) (bits : ℤ) → is_int bits ≡ true → judge (converted unsigned bits) ≡ judge bits
