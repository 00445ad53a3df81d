-- Expressions and statements with `unsigned` operands, and what they come to, worked out by hand.
use Rattle.std.specs.Prelude.{ℕ, Bool, true, false, [], ◌∷◌, ℤ, pos, Ok, Err}
use Rattle.c_int.specs.Typed.{Typed}
use Rattle.c_int.specs.declared.trap.OperatorTrap.{OperatorTrap}
use Rattle.c_int.specs.declared.trap.Trap.TheVariants.{Operator}
use Rattle.cddf_meaning.specs.Answers.{Answer, Left, left, traps}
use Rattle.cddf_meaning.specs.Flow.{Ran, Went, Ended}
use Rattle.cddf_meaning.specs.File.{type_in}
use Rattle.cddf_meaning.specs.Functions.{empty_file, in_function}
use Rattle.cddf_meaning.specs.Run.{run}
use Rattle.cddf_meaning.specs.BodyState.{BodyState, state_of}
use Rattle.cddf_meaning.specs.TypedValue.{typed_value}
use Rattle.cddf_meaning.specs.Value.{scalar_value, value}
use Rattle.cddf_meaning.specs.Variables.{bind, find}
use Rattle.cddf_meaning.specs.declared.variable.Variable.TheVariants.{Scalar}
use Rattle.os_ast.specs.Examples.{block, mark, named, scalar_of, variable}
use Rattle.os_ast.specs.Trees as tree
use Rattle.os_ast.specs.declared.expr.Binary.{Binary}
use Rattle.os_ast.specs.declared.expr.Binary.TheVariants as op
use Rattle.os_ast.specs.declared.expr.Level.TheVariants as level
use Rattle.os_ast.specs.declared.expr.Unary.TheVariants as one
use Rattle.os_ast.specs.declared.stmt.Assign.TheVariants as assign
use Rattle.os_ast.specs.declared.stmt.Step.TheVariants as step
use Rattle.os_ast.specs.declared.ty.Ty.TheVariants as ty

-- A chain with one operator, on line 1. What level a chain has makes no difference to its value.
abbrev pub two : tree.ExprTree → Binary → tree.ExprTree → tree.ExprTree
two a o b = tree.Chain level.Sum a (tree.link o (mark 0 1) b tree.no_links)

abbrev pub minus_one : tree.ExprTree
minus_one = tree.Unary one.Minus (mark 0 1) (tree.Number 1)

-- the value of an expression without names, with its type
abbrev pub typed_alone : tree.ExprTree → Answer (Left Typed)
typed_alone e = typed_value empty_file e (state_of [] []) 0

-- the value of an expression by its bits, in the same state
abbrev pub bits_alone : tree.ExprTree → Answer (Left ℤ)
bits_alone e = value empty_file e (state_of [] []) 0

-- both of them: a number of a type, and the `int` with the same bits
pub record Both : Type 0 where
  pub typed : Answer (Left Typed)
  pub bits : Answer (Left ℤ)
  pub type : Bool

abbrev pub both_of : tree.ExprTree → Both
both_of e = record { typed = typed_alone e; bits = bits_alone e; type = type_in empty_file (state_of [] []) e }

abbrev pub int : ℤ → Both
int n = record { typed = Ok (left (record { number = n; unsigned = false }) 0); bits = Ok (left n 0); type = false }

abbrev pub unsigned : (number bits : ℤ) → Both
unsigned number bits = record { typed = Ok (left (record { number = number; unsigned = true }) 0); bits = Ok (left bits 0); type = true }

abbrev pub trapped : OperatorTrap → Bool → Both
trapped why type = record { typed = traps (Operator why) 1; bits = traps (Operator why) 1; type = type }

-- `-1 < 1u` compares 4,294,967,295 with 1.
abbrev pub mixed_less : tree.ExprTree
mixed_less = two minus_one op.Less (tree.Wide 1)

-- `-1 / 2u >> 23` is 2,147,483,647 divided by 8,388,608.
abbrev pub mixed_quotient : tree.ExprTree
mixed_quotient = two (two minus_one op.Divide (tree.Wide 2)) op.ShiftRight (tree.Number 23)

-- `0u - 1`
abbrev pub below_zero : tree.ExprTree
below_zero = two (tree.Wide 0) op.Subtract (tree.Number 1)

-- `1 ? -1 : 0u`
abbrev pub choice : tree.ExprTree
choice = tree.Choice (tree.Number 1) minus_one (tree.Wide 0)

-- `(1 ? -1 : 0u) < 0`
abbrev pub choice_less : tree.ExprTree
choice_less = two (tree.Paren choice) op.Less (tree.Number 0)

-- `4294967295u == -1`
abbrev pub greatest_equal : tree.ExprTree
greatest_equal = two (tree.Wide 4294967295) op.Equal minus_one

-- `~0u >> 31`
abbrev pub greatest_halved : tree.ExprTree
greatest_halved = two (tree.Unary one.Invert (mark 0 1) (tree.Wide 0)) op.ShiftRight (tree.Number 31)

-- `-1 >> 31` keeps the sign.
abbrev pub negative_halved : tree.ExprTree
negative_halved = two minus_one op.ShiftRight (tree.Number 31)

-- `2147483647 + 1` and `2147483647 + 1u`
abbrev pub past_int : tree.ExprTree
past_int = two (tree.Number 2147483647) op.Add (tree.Number 1)

abbrev pub mixed_sum : tree.ExprTree
mixed_sum = two (tree.Number 2147483647) op.Add (tree.Wide 1)

-- `0xffffffff % 256`
abbrev pub mixed_rest : tree.ExprTree
mixed_rest = two (tree.Wide 4294967295) op.Remainder (tree.Number 256)

-- `1u / 0`
abbrev pub by_zero : tree.ExprTree
by_zero = two (tree.Wide 1) op.Divide (tree.Number 0)

-- `-1 < 1u && 1`, which is an `int`, and `!0u`
abbrev pub both_hold : tree.ExprTree
both_hold = tree.Chain level.And mixed_less (tree.link op.And (mark 0 1) (tree.Number 1) tree.no_links)

abbrev pub complement : tree.ExprTree
complement = tree.Unary one.Not (mark 0 1) (tree.Wide 0)

-- A variable `y` of the type `int`, with the number 40, and `unsigned u` in it, with the number 41.
abbrev pub y_id : ℕ
y_id = 40

abbrev pub u_id : ℕ
u_id = 41

abbrev pub start : BodyState
start = state_of (bind y_id false (Scalar (pos 0)) []) []

abbrev pub name : ℕ → tree.ExprTree
name id = tree.Place (variable id 0 1)

abbrev pub set : ℕ → tree.ExprTree → tree.StmtTree
set id e = tree.StmtTree.Change (tree.Set (variable id 0 1) assign.Plain (mark 0 1) e)

abbrev pub declare_u : tree.ExprTree → tree.StmtTree
declare_u e = tree.StmtTree.Declare ty.Unsigned (scalar_of (named u_id 0 1) e ∷ [])

-- `{ unsigned u = 0; u = u - 1; y = u >> 24; }`
abbrev pub wrapping : tree.StmtTree
wrapping = tree.Block (block (declare_u (tree.Number 0)
    ∷ set u_id (two (name u_id) op.Subtract (tree.Number 1)) ∷ set y_id (two (name u_id) op.ShiftRight (tree.Number 24)) ∷ []))

-- `{ unsigned u = 2; while (u - 1 < 3) { u--; y += 5; } }`: once `u` is 0, `u - 1` is no more below 3.
abbrev pub counting_down : tree.StmtTree
counting_down = tree.Block (block (declare_u (tree.Number 2)
    ∷ tree.While (two (two (name u_id) op.Subtract (tree.Number 1)) op.Less (tree.Number 3))
    (tree.Block (block (tree.StmtTree.Change (tree.After (variable u_id 0 1) step.Down (mark 0 1))
    ∷ tree.StmtTree.Change (tree.Set (variable y_id 0 1) (assign.With op.Add) (mark 0 1) (tree.Number 5)) ∷ []))) ∷ []))

-- `{ y = -7; y /= 2u; }` divides 4,294,967,289 by 2: the target is converted as an operand, and what is stored is an `int`.
abbrev pub mixed_change : tree.StmtTree
mixed_change = tree.Block (block (set y_id (tree.Unary one.Minus (mark 0 1) (tree.Number 7))
    ∷ tree.StmtTree.Change (tree.Set (variable y_id 0 1) (assign.With op.Divide) (mark 0 1) (tree.Wide 2)) ∷ []))

-- what `y` is behind a statement, and the turns that are left
abbrev pub y_behind : Ran → Answer (Left ℤ)
y_behind (Went flow s turns) = Ok (left (scalar_value s (find s.bound y_id)) turns)
y_behind (Ended ending made) = Err ending

abbrev pub y_after : tree.StmtTree → ℕ → Answer (Left ℤ)
y_after a turns = y_behind (run (in_function empty_file) a start turns)
