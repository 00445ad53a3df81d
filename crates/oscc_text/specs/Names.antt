-- What the runtime, `runtime/osrt.h`, calls the operators.
use Rattle.std.specs.Prelude.{ℕ, List, codes}
use Rattle.c_int.specs.declared.operators.Unary.{Unary}
use Rattle.c_int.specs.declared.operators.Unary.TheVariants as unary
use Rattle.c_int.specs.declared.operators.Binary.{Binary}
use Rattle.c_int.specs.declared.operators.Binary.TheVariants as binary

-- The operators with one operand.
abbrev pub unary_name : Unary → List ℕ
unary_name unary.Minus = codes "os_minus"
unary_name unary.Plus = codes "os_plus"
unary_name unary.Not = codes "os_not"
unary_name unary.Invert = codes "os_invert"
unary_name unary.MinusUnsigned = codes "os_minus_unsigned"

-- The operators with two operands.
abbrev pub binary_name : Binary → List ℕ
binary_name binary.BitOr = codes "os_bit_or"
binary_name binary.BitXor = codes "os_bit_xor"
binary_name binary.BitAnd = codes "os_bit_and"
binary_name binary.Equal = codes "os_equal"
binary_name binary.Unequal = codes "os_unequal"
binary_name binary.Less = codes "os_less"
binary_name binary.LessEqual = codes "os_less_equal"
binary_name binary.Greater = codes "os_greater"
binary_name binary.GreaterEqual = codes "os_greater_equal"
binary_name binary.ShiftLeft = codes "os_shift_left"
binary_name binary.ShiftRight = codes "os_shift_right"
binary_name binary.Add = codes "os_add"
binary_name binary.Subtract = codes "os_subtract"
binary_name binary.Multiply = codes "os_multiply"
binary_name binary.Divide = codes "os_divide"
binary_name binary.Remainder = codes "os_remainder"
binary_name binary.LessUnsigned = codes "os_less_unsigned"
binary_name binary.LessEqualUnsigned = codes "os_less_equal_unsigned"
binary_name binary.GreaterUnsigned = codes "os_greater_unsigned"
binary_name binary.GreaterEqualUnsigned = codes "os_greater_equal_unsigned"
binary_name binary.ShiftLeftUnsigned = codes "os_shift_left_unsigned"
binary_name binary.ShiftRightUnsigned = codes "os_shift_right_unsigned"
binary_name binary.AddUnsigned = codes "os_add_unsigned"
binary_name binary.SubtractUnsigned = codes "os_subtract_unsigned"
binary_name binary.MultiplyUnsigned = codes "os_multiply_unsigned"
binary_name binary.DivideUnsigned = codes "os_divide_unsigned"
binary_name binary.RemainderUnsigned = codes "os_remainder_unsigned"
