-- The types of expressions. A type is told by whether it is `unsigned`; else it is `int`. C11, 6.3.1.8; 6.5.3.3, 3 and 5; 6.5.7, 3;
-- 6.5.8 and 6.5.9; 6.5.13 to 6.5.15. What is evaluated makes no difference.
use Rattle.std.specs.Prelude.{Bool, true, false, ◌||◌}
use Rattle.os_ast.specs.ClauseMembers.{target_name}
use Rattle.os_ast.specs.Trees as tree
use Rattle.os_ast.specs.declared.expr.Binary.TheVariants as binary
use Rattle.os_ast.specs.declared.expr.Binary.{Binary}
use Rattle.os_ast.specs.declared.expr.Name.{Name}
use Rattle.os_ast.specs.declared.expr.Unary.TheVariants as unary
use Rattle.os_ast.specs.declared.expr.Unary.{Unary}

-- which names stand for something of the type `unsigned`, where they stand
abbrev pub Flags : Type 0
Flags = Name → Bool

-- `!` gives an `int`, and every other operator with one operand the type of that.
abbrev pub type_of_one : Unary → Bool → Bool
type_of_one unary.Not operand = false
type_of_one _ operand = operand

-- `&&`, `||` and comparisons give an `int`, a shift the type of its left operand, and every other operator with two operands
-- `unsigned` where one of them is.
abbrev pub type_of_two : Binary → (left right : Bool) → Bool
type_of_two binary.Or left right = false
type_of_two binary.And left right = false
type_of_two binary.Equal left right = false
type_of_two binary.Unequal left right = false
type_of_two binary.Less left right = false
type_of_two binary.LessEqual left right = false
type_of_two binary.Greater left right = false
type_of_two binary.GreaterEqual left right = false
type_of_two binary.ShiftLeft left right = left
type_of_two binary.ShiftRight left right = left
type_of_two _ left right = left || right

abbrev mutual
  -- A number with an ending, or past 2^31 - 1, is `unsigned`; a name, an element or a call has the type of what it names; and
  -- `a ? b : c` is `unsigned` where `b` or `c` is.
  pub type_of : Flags → tree.ExprTree → Bool
  type_of names (tree.Number n) = false
  type_of names (tree.Wide n) = true
  type_of names (tree.Place t) = names (target_name t)
  type_of names (tree.ExprTree.Call f args) = names f
  type_of names (tree.Paren e) = type_of names e
  type_of names (tree.Unary op m e) = type_of_one op (type_of names e)
  type_of names (tree.Chain l first links) = type_behind names links (type_of names first)
  type_of names (tree.Choice c a b) = type_of names a || type_of names b

  -- the type behind the links of a chain, where what stands on their left has this one
  pub type_behind : Flags → tree.Links → Bool → Bool
  type_behind names tree.no_links left = left
  type_behind names (tree.link op m e rest) left = type_behind names rest (type_of_two op left (type_of names e))
