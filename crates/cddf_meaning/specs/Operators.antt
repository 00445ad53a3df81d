-- The operators of the trees as operators on bits, chosen by the types of the operands. The line of a trap is the operator's.
use Rattle.std.specs.Prelude.{ℕ, Bool, ℤ, pos, Option, Some, None, Ok}
use Rattle.std.specs.Option.{option_map_or}
use Rattle.c_int.specs.Machine.{unary_for, binary_for}
use Rattle.c_int.specs.Operators.{unary_value, binary_value}
use Rattle.c_int.specs.declared.operators.Binary as int_binary
use Rattle.c_int.specs.declared.operators.Binary.TheVariants as two
use Rattle.c_int.specs.declared.operators.Unary as int_unary
use Rattle.c_int.specs.declared.operators.Unary.TheVariants as one
use Rattle.cddf_meaning.specs.Answers.{Answer, at_line}
use Rattle.os_ast.specs.declared.expr.Binary.TheVariants as binary
use Rattle.os_ast.specs.declared.expr.Binary.{Binary}
use Rattle.os_ast.specs.declared.expr.Unary.TheVariants as unary
use Rattle.os_ast.specs.declared.expr.Unary.{Unary}
use Rattle.os_ast.specs.declared.stmt.Step.TheVariants as step
use Rattle.os_ast.specs.declared.stmt.Step.{Step}

abbrev pub operator_of_one : Unary → int_unary.Unary
operator_of_one unary.Minus = one.Minus
operator_of_one unary.Plus = one.Plus
operator_of_one unary.Not = one.Not
operator_of_one unary.Invert = one.Invert

-- `&&` and `||` are none: they evaluate their right side only where they need it.
abbrev pub operator_of_two : Binary → Option int_binary.Binary
operator_of_two binary.BitOr = Some two.BitOr
operator_of_two binary.BitXor = Some two.BitXor
operator_of_two binary.BitAnd = Some two.BitAnd
operator_of_two binary.Equal = Some two.Equal
operator_of_two binary.Unequal = Some two.Unequal
operator_of_two binary.Less = Some two.Less
operator_of_two binary.LessEqual = Some two.LessEqual
operator_of_two binary.Greater = Some two.Greater
operator_of_two binary.GreaterEqual = Some two.GreaterEqual
operator_of_two binary.ShiftLeft = Some two.ShiftLeft
operator_of_two binary.ShiftRight = Some two.ShiftRight
operator_of_two binary.Add = Some two.Add
operator_of_two binary.Subtract = Some two.Subtract
operator_of_two binary.Multiply = Some two.Multiply
operator_of_two binary.Divide = Some two.Divide
operator_of_two binary.Remainder = Some two.Remainder
operator_of_two _ = None

-- what an operator with one operand gives, by the type of the operand
abbrev pub unary_answer : Unary → ℕ → Bool → ℤ → Answer ℤ
unary_answer op line unsigned a = at_line line (unary_value (unary_for unsigned (operator_of_one op)) a)

-- `&&` and `||` have no operator of numbers; they are evaluated elsewhere.
abbrev pub operated_by : Option int_binary.Binary → ℕ → (left right : Bool) → ℤ → ℤ → Answer ℤ
operated_by op line left right a b = option_map_or (λ op. at_line line (binary_value (binary_for left right op) a b)) op (Ok (pos 0))

-- what an operator with two operands gives that are both evaluated, by their types
abbrev pub binary_answer : Binary → ℕ → (left right : Bool) → ℤ → ℤ → Answer ℤ
binary_answer op line left right a b = operated_by (operator_of_two op) line left right a b

-- `++` adds 1, and `--` takes 1, in the type of the target: 1 is an `int`.
abbrev pub step_operator : Step → Binary
step_operator step.Up = binary.Add
step_operator step.Down = binary.Subtract
