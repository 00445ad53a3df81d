-- The marks that spell the operators, and their levels.
use Rattle.std.specs.Prelude.{ℕ}
use Rattle.os_ast.specs.declared.expr.Binary.{Binary}
use Rattle.os_ast.specs.declared.expr.Binary.TheVariants as binary
use Rattle.os_ast.specs.declared.expr.Level.{Level}
use Rattle.os_ast.specs.declared.expr.Level.TheVariants as level
use Rattle.os_ast.specs.declared.expr.Unary.{Unary}
use Rattle.os_ast.specs.declared.expr.Unary.TheVariants as unary
use Rattle.os_ast.specs.declared.stmt.Assign.{Assign}
use Rattle.os_ast.specs.declared.stmt.Assign.TheVariants as assign
use Rattle.os_ast.specs.declared.stmt.Step.{Step}
use Rattle.os_ast.specs.declared.stmt.Step.TheVariants as step
use Rattle.os_lexer.specs.declared.token.Punct.{Punct}
use Rattle.os_lexer.specs.declared.token.Punct.TheVariants as punct

-- `-` `+` `!` `~`
abbrev pub unary_mark : Unary → Punct
unary_mark unary.Minus = punct.Minus
unary_mark unary.Plus = punct.Plus
unary_mark unary.Not = punct.Not
unary_mark unary.Invert = punct.Invert

-- `||` `&&` `|` `^` `&` `==` `!=` `<` `<=` `>` `>=` `<<` `>>` `+` `-` `*` `/` `%`
abbrev pub binary_mark : Binary → Punct
binary_mark binary.Or = punct.Or
binary_mark binary.And = punct.And
binary_mark binary.BitOr = punct.BitOr
binary_mark binary.BitXor = punct.BitXor
binary_mark binary.BitAnd = punct.BitAnd
binary_mark binary.Equal = punct.Equal
binary_mark binary.Unequal = punct.Unequal
binary_mark binary.Less = punct.Less
binary_mark binary.LessEqual = punct.LessEqual
binary_mark binary.Greater = punct.Greater
binary_mark binary.GreaterEqual = punct.GreaterEqual
binary_mark binary.ShiftLeft = punct.ShiftLeft
binary_mark binary.ShiftRight = punct.ShiftRight
binary_mark binary.Add = punct.Plus
binary_mark binary.Subtract = punct.Minus
binary_mark binary.Multiply = punct.Star
binary_mark binary.Divide = punct.Slash
binary_mark binary.Remainder = punct.Percent

-- the level at which a binary operator stands
abbrev pub level_of : Binary → Level
level_of binary.Or = level.Or
level_of binary.And = level.And
level_of binary.BitOr = level.BitOr
level_of binary.BitXor = level.BitXor
level_of binary.BitAnd = level.BitAnd
level_of binary.Equal = level.Equal
level_of binary.Unequal = level.Equal
level_of binary.Less = level.Order
level_of binary.LessEqual = level.Order
level_of binary.Greater = level.Order
level_of binary.GreaterEqual = level.Order
level_of binary.ShiftLeft = level.Shift
level_of binary.ShiftRight = level.Shift
level_of binary.Add = level.Sum
level_of binary.Subtract = level.Sum
-- `*` `/` `%`
level_of _ = level.Product

-- The levels of chains by number. A choice is at 0, a unary at 11, and a number, a target, a call or
-- parentheses at 12. A higher number binds closer.
abbrev pub precedence : Level → ℕ
precedence level.Or = 1
precedence level.And = 2
precedence level.BitOr = 3
precedence level.BitXor = 4
precedence level.BitAnd = 5
precedence level.Equal = 6
precedence level.Order = 7
precedence level.Shift = 8
precedence level.Sum = 9
precedence level.Product = 10

-- the operators that have an assigning form
pub data HasAssigningForm : Binary → Type 0 where
  add : HasAssigningForm binary.Add
  subtract : HasAssigningForm binary.Subtract
  multiply : HasAssigningForm binary.Multiply
  divide : HasAssigningForm binary.Divide
  remainder : HasAssigningForm binary.Remainder
  shift_left : HasAssigningForm binary.ShiftLeft
  shift_right : HasAssigningForm binary.ShiftRight
  bit_and : HasAssigningForm binary.BitAnd
  bit_or : HasAssigningForm binary.BitOr
  bit_xor : HasAssigningForm binary.BitXor

-- `=` or an assigning form: `+=` `-=` `*=` `/=` `%=` `<<=` `>>=` `&=` `|=` `^=`
pub data IsAssign : Assign → Type 0 where
  plain : IsAssign assign.Plain
  with : {op : Binary} → HasAssigningForm op → IsAssign (assign.With op)

-- The mark of an assigning form. An operator without one keeps its own mark, and no program that means
-- something holds it.
abbrev pub assigning_mark : Binary → Punct
assigning_mark binary.BitOr = punct.BitOrSet
assigning_mark binary.BitXor = punct.BitXorSet
assigning_mark binary.BitAnd = punct.BitAndSet
assigning_mark binary.ShiftLeft = punct.ShiftLeftSet
assigning_mark binary.ShiftRight = punct.ShiftRightSet
assigning_mark binary.Add = punct.AddSet
assigning_mark binary.Subtract = punct.SubtractSet
assigning_mark binary.Multiply = punct.MultiplySet
assigning_mark binary.Divide = punct.DivideSet
assigning_mark binary.Remainder = punct.RemainderSet
assigning_mark op = binary_mark op

abbrev pub assign_mark : Assign → Punct
assign_mark assign.Plain = punct.Set
assign_mark (assign.With op) = assigning_mark op

-- `++` `--`
abbrev pub step_mark : Step → Punct
step_mark step.Up = punct.Up
step_mark step.Down = punct.Down
