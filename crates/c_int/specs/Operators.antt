-- The operators of C's `int` over whole numbers, and their traps. C11, 6.5.3 to 6.5.12; what C leaves undefined or to
-- the implementation is a trap here, or the two's complement result. Behind them the operators by name, those of `unsigned` included.
use Rattle.std.specs.Prelude.{ℕ, ◌^◌, Bool, false, not, ◌&&◌, if◌then◌else◌, ltb, ℤ, pos, negsuc, ◌+ℤ◌, ◌-ℤ◌, ◌*ℤ◌, neg_ℤ, int_lt, int_le, int_div, Ok, Err}
use Rattle.std.specs.Int.{w32, int_bit_and, int_bit_or, int_bit_xor, int_bit_not, int_div_euclid}
use Rattle.c_int.specs.declared.operators.Binary.{Binary}
use Rattle.c_int.specs.declared.operators.Binary.TheVariants as binary
use Rattle.c_int.specs.declared.operators.Unary.{Unary}
use Rattle.c_int.specs.declared.operators.Unary.TheVariants as unary
use Rattle.c_int.specs.Unsigned as unsigned
use Rattle.c_int.specs.declared.trap.OperatorTrap.{OperatorTrap}
pub use Rattle.c_int.specs.Trapping.{Operated, truth, by_amount}
use Rattle.c_int.specs.declared.trap.OperatorTrap.TheVariants.{Overflow, DivisorZero, Shift}

-- An `int` is a number from -2^31 to 2^31 - 1.
abbrev pub is_int : ℤ → Bool
is_int (pos n) = ltb n (2 ^ 31)
is_int (negsuc n) = ltb n (2 ^ 31)

-- A condition holds where it isn't 0.
abbrev pub is_zero : ℤ → Bool
is_zero (pos n) = ltb n 1
is_zero (negsuc n) = false

-- an exact result where it is an `int`, and else the trap
abbrev pub fitting : OperatorTrap → ℤ → Operated
fitting trap number = if is_int number then Ok number else Err trap

-- `+` `-` `*` and unary `-`: the exact result, or the trap `Overflow`
abbrev pub sum : ℤ → ℤ → Operated
sum a b = fitting Overflow (a +ℤ b)

abbrev pub difference : ℤ → ℤ → Operated
difference a b = fitting Overflow (a -ℤ b)

abbrev pub product : ℤ → ℤ → Operated
product a b = fitting Overflow (a *ℤ b)

abbrev pub negation : ℤ → Operated
negation a = fitting Overflow (neg_ℤ a)

-- `/` truncates toward zero. Divisor 0 is the trap `DivisorZero`, a quotient that is no `int` the trap `Overflow`.
abbrev pub quotient : ℤ → ℤ → Operated
quotient a b = if is_zero b then Err DivisorZero else fitting Overflow (int_div a b)

-- `a % b` is `a - (a / b) * b`, with the traps of `/`.
abbrev pub remainder : ℤ → ℤ → Operated
remainder a b = if is_zero b then Err DivisorZero else if is_int (int_div a b) then Ok (a -ℤ (int_div a b *ℤ b)) else Err Overflow

-- `a << n` is `a` times 2 to the n, where `a` isn't negative and the result is an `int`; else it is the trap `Shift`.
abbrev pub doubled : ℤ → ℕ → Operated
doubled (pos a) n = fitting Shift (pos a *ℤ pos (2 ^ n))
doubled (negsuc a) n = Err Shift

abbrev pub shift_left : ℤ → ℤ → Operated
shift_left a amount = by_amount amount (doubled a)

-- `a >> n` is the floor of `a` divided by 2 to the n: the quotient whose remainder isn't negative.
abbrev pub halved : ℤ → ℕ → Operated
halved a n = Ok (int_div_euclid a (pos (2 ^ n)))

abbrev pub shift_right : ℤ → ℤ → Operated
shift_right a amount = by_amount amount (halved a)

-- `&` `|` `^` `~` work on the 32 bits.
abbrev pub bit_and : ℤ → ℤ → ℤ
bit_and a b = int_bit_and w32 a b

abbrev pub bit_or : ℤ → ℤ → ℤ
bit_or a b = int_bit_or w32 a b

abbrev pub bit_xor : ℤ → ℤ → ℤ
bit_xor a b = int_bit_xor w32 a b

abbrev pub inversion : ℤ → ℤ
inversion a = int_bit_not w32 a

-- Comparisons and `!` give 0 or 1.
abbrev pub is_equal : ℤ → ℤ → Bool
is_equal a b = int_le a b && int_le b a

abbrev pub equality : ℤ → ℤ → ℤ
equality a b = truth (is_equal a b)

abbrev pub inequality : ℤ → ℤ → ℤ
inequality a b = truth (not (is_equal a b))

abbrev pub less : ℤ → ℤ → ℤ
less a b = truth (int_lt a b)

abbrev pub less_equal : ℤ → ℤ → ℤ
less_equal a b = truth (int_le a b)

abbrev pub complement : ℤ → ℤ
complement a = truth (is_zero a)

-- The operators with one operand.
abbrev pub unary_value : Unary → ℤ → Operated
unary_value unary.Minus a = negation a
unary_value unary.Plus a = Ok a
unary_value unary.Not a = Ok (complement a)
unary_value unary.Invert a = Ok (inversion a)
unary_value unary.MinusUnsigned a = Ok (unsigned.negation a)

-- The operators with two operands.
abbrev pub binary_value : Binary → ℤ → ℤ → Operated
binary_value binary.BitOr a b = Ok (bit_or a b)
binary_value binary.BitXor a b = Ok (bit_xor a b)
binary_value binary.BitAnd a b = Ok (bit_and a b)
binary_value binary.Equal a b = Ok (equality a b)
binary_value binary.Unequal a b = Ok (inequality a b)
binary_value binary.Less a b = Ok (less a b)
binary_value binary.LessEqual a b = Ok (less_equal a b)
binary_value binary.Greater a b = Ok (less b a)
binary_value binary.GreaterEqual a b = Ok (less_equal b a)
binary_value binary.ShiftLeft a b = shift_left a b
binary_value binary.ShiftRight a b = shift_right a b
binary_value binary.Add a b = sum a b
binary_value binary.Subtract a b = difference a b
binary_value binary.Multiply a b = product a b
binary_value binary.Divide a b = quotient a b
binary_value binary.Remainder a b = remainder a b
binary_value binary.LessUnsigned a b = Ok (unsigned.less a b)
binary_value binary.LessEqualUnsigned a b = Ok (unsigned.less_equal a b)
binary_value binary.GreaterUnsigned a b = Ok (unsigned.less b a)
binary_value binary.GreaterEqualUnsigned a b = Ok (unsigned.less_equal b a)
binary_value binary.ShiftLeftUnsigned a b = unsigned.shift_left a b
binary_value binary.ShiftRightUnsigned a b = unsigned.shift_right a b
binary_value binary.AddUnsigned a b = Ok (unsigned.sum a b)
binary_value binary.SubtractUnsigned a b = Ok (unsigned.difference a b)
binary_value binary.MultiplyUnsigned a b = Ok (unsigned.product a b)
binary_value binary.DivideUnsigned a b = unsigned.quotient a b
binary_value binary.RemainderUnsigned a b = unsigned.remainder a b
