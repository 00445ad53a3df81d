-- The operators of C's `unsigned`, which has 32 bits, on the `int`s that have the same bits. C11, 6.2.5, 9 and 6.3.1.3, 2: what no
-- `unsigned` has is taken modulo 2^32. C11, 6.5.5 to 6.5.8; where C leaves something undefined it is a trap here.
use Rattle.std.specs.Prelude.{ℕ, ◌+◌, ◌-◌, ◌*◌, ◌/◌, ◌%◌, ◌^◌, ◌==◌, ltb, leb, if◌then◌else◌, ℤ, Ok, Err}
use Rattle.std.specs.Int.{w32, cast_unsigned, cast_signed}
use Rattle.c_int.specs.Trapping.{Operated, by_amount, truth}
use Rattle.c_int.specs.declared.trap.OperatorTrap.TheVariants.{DivisorZero}

-- the `unsigned` with the bits of an `int`: its value modulo 2^32
abbrev pub word : ℤ → ℕ
word a = cast_unsigned w32 a

-- the `int` with the bits of an `unsigned`
abbrev pub signed : ℕ → ℤ
signed n = cast_signed w32 n

-- `+` `-` `*` and unary `-`, modulo 2^32
abbrev pub sum : ℤ → ℤ → ℤ
sum a b = signed ((word a + word b) % 2 ^ 32)

abbrev pub difference : ℤ → ℤ → ℤ
difference a b = signed ((word a + (2 ^ 32 - word b)) % 2 ^ 32)

abbrev pub product : ℤ → ℤ → ℤ
product a b = signed ((word a * word b) % 2 ^ 32)

abbrev pub negation : ℤ → ℤ
negation a = signed ((2 ^ 32 - word a) % 2 ^ 32)

-- `/` is the quotient rounded down, `%` what it leaves; divisor 0 is the trap `DivisorZero`.
abbrev pub quotient : ℤ → ℤ → Operated
quotient a b = if word b == 0 then Err DivisorZero else Ok (signed (word a / word b))

abbrev pub remainder : ℤ → ℤ → Operated
remainder a b = if word b == 0 then Err DivisorZero else Ok (signed (word a % word b))

-- `a << n` is `a` times 2 to the n, modulo 2^32.
abbrev pub doubled : ℤ → ℕ → Operated
doubled a n = Ok (signed ((word a * 2 ^ n) % 2 ^ 32))

abbrev pub shift_left : ℤ → ℤ → Operated
shift_left a amount = by_amount amount (doubled a)

-- `a >> n` is the floor of `a` divided by 2 to the n.
abbrev pub halved : ℤ → ℕ → Operated
halved a n = Ok (signed (word a / 2 ^ n))

abbrev pub shift_right : ℤ → ℤ → Operated
shift_right a amount = by_amount amount (halved a)

-- Comparisons give 0 or 1.
abbrev pub less : ℤ → ℤ → ℤ
less a b = truth (ltb (word a) (word b))

abbrev pub less_equal : ℤ → ℤ → ℤ
less_equal a b = truth (leb (word a) (word b))
