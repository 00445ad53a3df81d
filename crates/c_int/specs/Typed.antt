-- Values with their types, `int` and `unsigned`, and the operators between them. C11, 6.3.1.3, 6.3.1.8 and 6.5.3 to 6.5.12; what C leaves
-- undefined is a trap here, and what it leaves to the implementation the two's complement result.
use Rattle.std.specs.Prelude.{ℕ, ◌^◌, Bool, true, false, ◌||◌, if◌then◌else◌, not, ltb, ℤ, pos, negsuc, ◌+ℤ◌}
use Rattle.std.specs.Prelude.{◌-ℤ◌, ◌*ℤ◌, neg_ℤ, int_lt, int_le, int_div, unsigned_abs, Result, Ok, Err}
use Rattle.std.specs.Int.{w32, int_bit_and, int_bit_or, int_bit_xor, int_bit_not, int_div_euclid, int_rem_euclid}
use Rattle.c_int.specs.Operators.{is_int, is_zero, is_equal}
use Rattle.c_int.specs.Trapping.{truth}
use Rattle.c_int.specs.Unsigned.{signed}
use Rattle.c_int.specs.declared.operators.Binary.{Binary}
use Rattle.c_int.specs.declared.operators.Binary.TheVariants as binary
use Rattle.c_int.specs.declared.operators.Unary.{Unary}
use Rattle.c_int.specs.declared.operators.Unary.TheVariants as unary
use Rattle.c_int.specs.declared.trap.OperatorTrap.{OperatorTrap}
use Rattle.c_int.specs.declared.trap.OperatorTrap.TheVariants.{Overflow, DivisorZero, Shift}

-- A value is a number of the type `unsigned`, or else of `int`.
pub record Typed : Type 0 where
  pub number : ℤ
  pub unsigned : Bool

-- An `unsigned` is a number from 0 to 2^32 - 1.
abbrev pub is_unsigned : ℤ → Bool
is_unsigned (pos n) = ltb n (2 ^ 32)
is_unsigned (negsuc n) = false

-- The number is one of the type.
abbrev pub is_of : Bool → ℤ → Bool
is_of true number = is_unsigned number
is_of false number = is_int number

abbrev pub is_typed : Typed → Bool
is_typed a = is_of a.unsigned a.number

-- A conversion keeps the 32 bits: it gives the number of the type that is the same modulo 2^32.
abbrev pub converted : Bool → ℤ → ℤ
converted true number = int_rem_euclid number (pos (2 ^ 32))
converted false number = signed (unsigned_abs (int_rem_euclid number (pos (2 ^ 32))))

abbrev pub of_type : Bool → ℤ → Typed
of_type unsigned number = record { number = converted unsigned number; unsigned = unsigned }

abbrev pub as_unsigned : Typed → Typed
as_unsigned a = of_type true a.number

-- the 32 bits of a value, as an `int`
abbrev pub bits : Typed → ℤ
bits a = converted false a.number

-- 0 or 1 of a comparison or `!`: an `int`
abbrev pub truth_value : Bool → Typed
truth_value holds = record { number = truth holds; unsigned = false }

-- a value, or a trap
abbrev pub Valued : Type 0
Valued = Result Typed OperatorTrap

-- Where one operand is `unsigned`, the other one is converted, and the work is `unsigned`.
abbrev pub common : Typed → Typed → Bool
common a b = a.unsigned || b.unsigned

-- what works on both operands in their common type
abbrev pub in_common : {R : Type 0} → (Bool → ℤ → ℤ → R) → Typed → Typed → R
in_common work a b = work (common a b) (converted (common a b) a.number) (converted (common a b) b.number)

-- an exact result modulo 2^32 with `unsigned`; with `int` where it is one, and else the trap
abbrev pub fitted : OperatorTrap → Bool → ℤ → Valued
fitted trap true exact = Ok (of_type true exact)
fitted trap false exact = if is_int exact then Ok (record { number = exact; unsigned = false }) else Err trap

-- `+` `-` `*` and unary `-`
abbrev pub sum : Bool → ℤ → ℤ → Valued
sum unsigned a b = fitted Overflow unsigned (a +ℤ b)

abbrev pub difference : Bool → ℤ → ℤ → Valued
difference unsigned a b = fitted Overflow unsigned (a -ℤ b)

abbrev pub product : Bool → ℤ → ℤ → Valued
product unsigned a b = fitted Overflow unsigned (a *ℤ b)

abbrev pub negation : Typed → Valued
negation a = fitted Overflow a.unsigned (neg_ℤ a.number)

-- `/` truncates toward zero. Divisor 0 is the trap `DivisorZero`; with `int`, a quotient that is no `int` is `Overflow`.
abbrev pub quotient : Bool → ℤ → ℤ → Valued
quotient unsigned a b = if is_zero b then Err DivisorZero else fitted Overflow unsigned (int_div a b)

-- `a % b` is `a - (a / b) * b`, with the traps of `/`.
abbrev pub remainder : Bool → ℤ → ℤ → Valued
remainder unsigned a b =
    if is_zero b then Err DivisorZero
    else if is_of unsigned (int_div a b) then Ok (record { number = a -ℤ (int_div a b *ℤ b); unsigned = unsigned })
    else Err Overflow

-- A shift has the type of its left operand. The amount is 0 to 31, or it is the trap `Shift`.
abbrev pub by_amount : (ℕ → Valued) → ℤ → Valued
by_amount shift (pos n) = if ltb n 32 then shift n else Err Shift
by_amount shift (negsuc n) = Err Shift

abbrev pub shifted : (Bool → ℤ → ℕ → Valued) → Typed → Typed → Valued
shifted shift a amount = by_amount (shift a.unsigned a.number) amount.number

-- `a << n` is `a` times 2 to the n: modulo 2^32 with `unsigned`; with `int` the trap
-- `Shift` where `a` is negative or the result is no `int`.
abbrev pub doubled : Bool → ℤ → ℕ → Valued
doubled unsigned (pos a) n = fitted Shift unsigned (pos a *ℤ pos (2 ^ n))
doubled unsigned (negsuc a) n = Err Shift

-- `a >> n` is the floor of `a` divided by 2 to the n.
abbrev pub halved : Bool → ℤ → ℕ → Valued
halved unsigned a n = Ok (record { number = int_div_euclid a (pos (2 ^ n)); unsigned = unsigned })

-- `&` `|` `^` `~` work on the 32 bits.
abbrev pub on_bits : (ℤ → ℤ → ℤ) → Typed → Typed → Valued
on_bits work a b = Ok (of_type (common a b) (work (bits a) (bits b)))

abbrev pub inversion : Typed → Valued
inversion a = Ok (of_type a.unsigned (int_bit_not w32 (bits a)))

-- A comparison gives 0 or 1.
abbrev pub compared : (ℤ → ℤ → Bool) → Typed → Typed → Valued
compared test a b = Ok (truth_value (in_common (λ _ x y. test x y) a b))

-- The operators with one operand. The form of `-` for `unsigned` is that of the operand that is converted.
abbrev pub unary_typed : Unary → Typed → Valued
unary_typed unary.Minus a = negation a
unary_typed unary.Plus a = Ok a
unary_typed unary.Not a = Ok (truth_value (is_zero a.number))
unary_typed unary.Invert a = inversion a
unary_typed unary.MinusUnsigned a = negation (as_unsigned a)

-- The operators with two operands. A form for `unsigned` is the operator between operands that are converted.
abbrev pub binary_typed : Binary → Typed → Typed → Valued
binary_typed binary.BitOr a b = on_bits (int_bit_or w32) a b
binary_typed binary.BitXor a b = on_bits (int_bit_xor w32) a b
binary_typed binary.BitAnd a b = on_bits (int_bit_and w32) a b
binary_typed binary.Equal a b = compared is_equal a b
binary_typed binary.Unequal a b = compared (λ x y. not (is_equal x y)) a b
binary_typed binary.Less a b = compared int_lt a b
binary_typed binary.LessEqual a b = compared int_le a b
binary_typed binary.Greater a b = compared (λ x y. int_lt y x) a b
binary_typed binary.GreaterEqual a b = compared (λ x y. int_le y x) a b
binary_typed binary.ShiftLeft a b = shifted doubled a b
binary_typed binary.ShiftRight a b = shifted halved a b
binary_typed binary.Add a b = in_common sum a b
binary_typed binary.Subtract a b = in_common difference a b
binary_typed binary.Multiply a b = in_common product a b
binary_typed binary.Divide a b = in_common quotient a b
binary_typed binary.Remainder a b = in_common remainder a b
binary_typed binary.LessUnsigned a b = compared int_lt (as_unsigned a) (as_unsigned b)
binary_typed binary.LessEqualUnsigned a b = compared int_le (as_unsigned a) (as_unsigned b)
binary_typed binary.GreaterUnsigned a b = compared (λ x y. int_lt y x) (as_unsigned a) (as_unsigned b)
binary_typed binary.GreaterEqualUnsigned a b = compared (λ x y. int_le y x) (as_unsigned a) (as_unsigned b)
binary_typed binary.ShiftLeftUnsigned a b = shifted doubled (as_unsigned a) b
binary_typed binary.ShiftRightUnsigned a b = shifted halved (as_unsigned a) b
binary_typed binary.AddUnsigned a b = in_common sum (as_unsigned a) (as_unsigned b)
binary_typed binary.SubtractUnsigned a b = in_common difference (as_unsigned a) (as_unsigned b)
binary_typed binary.MultiplyUnsigned a b = in_common product (as_unsigned a) (as_unsigned b)
binary_typed binary.DivideUnsigned a b = in_common quotient (as_unsigned a) (as_unsigned b)
binary_typed binary.RemainderUnsigned a b = in_common remainder (as_unsigned a) (as_unsigned b)
