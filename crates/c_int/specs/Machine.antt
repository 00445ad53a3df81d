-- Which operator on bits stands for an operator between values of known types.
use Rattle.std.specs.Prelude.{◌≡◌, Bool, true, ◌||◌, if◌then◌else◌, Ok, Err}
use Rattle.c_int.specs.Operators.{unary_value, binary_value}
use Rattle.c_int.specs.Trapping.{Operated}
use Rattle.c_int.specs.Typed.{Typed, Valued, is_typed, bits, unary_typed, binary_typed}
use Rattle.c_int.specs.declared.operators.Binary.{Binary}
use Rattle.c_int.specs.declared.operators.Binary.TheVariants as binary
use Rattle.c_int.specs.declared.operators.Unary.{Unary}
use Rattle.c_int.specs.declared.operators.Unary.TheVariants as unary

-- The operators that have a form for `unsigned`, with it. The others are the same for both types.
abbrev pub unsigned_unary : Unary → Unary
unsigned_unary unary.Minus = unary.MinusUnsigned
unsigned_unary op = op

abbrev pub unsigned_binary : Binary → Binary
unsigned_binary binary.Less = binary.LessUnsigned
unsigned_binary binary.LessEqual = binary.LessEqualUnsigned
unsigned_binary binary.Greater = binary.GreaterUnsigned
unsigned_binary binary.GreaterEqual = binary.GreaterEqualUnsigned
unsigned_binary binary.ShiftLeft = binary.ShiftLeftUnsigned
unsigned_binary binary.ShiftRight = binary.ShiftRightUnsigned
unsigned_binary binary.Add = binary.AddUnsigned
unsigned_binary binary.Subtract = binary.SubtractUnsigned
unsigned_binary binary.Multiply = binary.MultiplyUnsigned
unsigned_binary binary.Divide = binary.DivideUnsigned
unsigned_binary binary.Remainder = binary.RemainderUnsigned
unsigned_binary op = op

-- A shift works in the type of its left operand, every other operator in `unsigned` where one operand is.
abbrev pub works_unsigned : Binary → Bool → Bool → Bool
works_unsigned binary.ShiftLeft left right = left
works_unsigned binary.ShiftRight left right = left
works_unsigned op left right = left || right

abbrev pub unary_for : Bool → Unary → Unary
unary_for unsigned op = if unsigned then unsigned_unary op else op

abbrev pub binary_for : Bool → Bool → Binary → Binary
binary_for left right op = if works_unsigned op left right then unsigned_binary op else op

-- what an operator gives, by its bits
abbrev pub given_bits : Valued → Operated
given_bits (Ok a) = Ok (bits a)
given_bits (Err trap) = Err trap

-- The operator for the types works on the bits of the operands: it gives the bits of what the operator between the values gives, or
-- the same trap.
pub record WorksOnBits : Type 0 where
  pub one_operand : (op : Unary) (a : Typed) → is_typed a ≡ true → unary_value (unary_for a.unsigned op) (bits a) ≡ given_bits (unary_typed op a)
  pub two_operands : (op : Binary) (a b : Typed) → is_typed a ≡ true → is_typed b ≡ true →
      binary_value (binary_for a.unsigned b.unsigned op) (bits a) (bits b) ≡ given_bits (binary_typed op a b)
