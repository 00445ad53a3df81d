-- The value of an expression with its type: each operator works on values of `int` and `unsigned`. C11, 6.5, with the conversions of
-- 6.3.1.3 and 6.3.1.8. What a name holds stands by its 32 bits, and is the number of the name's type that has them; what is stored,
-- passed or returned is converted to the type of where it goes, which keeps the bits. The meaning of a program is made of `Value`,
-- which gives the bits of this.
use Rattle.std.specs.Prelude.{ℕ, ◌||◌, if◌then◌else◌, not, List, [], ◌∷◌, Bool, true, false, Option, Some, None, ℤ, pos, Ok}
use Rattle.c_int.specs.Operators.{is_zero}
use Rattle.c_int.specs.Typed.{Typed, bits, of_type, truth_value, unary_typed, binary_typed}
use Rattle.c_int.specs.declared.operators.Binary as int_binary
use Rattle.cddf_meaning.specs.Answers.{Answer, Left, and_then, at_line, left, with_turns}
use Rattle.cddf_meaning.specs.File.{File, flags, type_in, variable}
use Rattle.cddf_meaning.specs.Operators.{operator_of_one, operator_of_two}
use Rattle.cddf_meaning.specs.BodyState.{BodyState}
use Rattle.cddf_meaning.specs.Value.{call_value, element_at, elements, scalar_value}
use Rattle.cddf_meaning.specs.Variables.{find}
use Rattle.os_ast.specs.Trees as tree
use Rattle.os_ast.specs.declared.expr.Binary.TheVariants as binary
use Rattle.os_ast.specs.declared.expr.Binary.{Binary}
use Rattle.os_ast.specs.declared.expr.Unary.{Unary}

-- what an operator with one operand gives; the line of a trap is the operator's
abbrev pub typed_unary : Unary → ℕ → Typed → Answer Typed
typed_unary op line a = at_line line (unary_typed (operator_of_one op) a)

-- `&&` and `||` have no operator of numbers; they are evaluated elsewhere.
abbrev pub typed_by : Option int_binary.Binary → ℕ → Typed → Typed → Answer Typed
typed_by None line a b = Ok (truth_value false)
typed_by (Some op) line a b = at_line line (binary_typed op a b)

-- what an operator with two operands gives that are both evaluated
abbrev pub typed_binary : Binary → ℕ → Typed → Typed → Answer Typed
typed_binary op line a b = typed_by (operator_of_two op) line a b

-- 1 where the number isn't 0, and else 0
abbrev pub typed_truth : Left Typed → Answer (Left Typed)
typed_truth n = Ok (left (truth_value (not (is_zero n.value.number))) n.turns)

-- An operator between a value and what stands on its right.
abbrev pub typed_linked : Binary → ℕ → Left Typed → (ℕ → Answer (Left Typed)) → Answer (Left Typed)
typed_linked binary.And line a right =
    if is_zero a.value.number then Ok (left (truth_value false) a.turns) else and_then (right a.turns) typed_truth
typed_linked binary.Or line a right =
    if is_zero a.value.number then and_then (right a.turns) typed_truth else Ok (left (truth_value true) a.turns)
typed_linked op line a right = and_then (right a.turns) (λ b. with_turns b.turns (typed_binary op line a.value b.value))

-- a value that is converted to a type
abbrev pub as_type : Bool → Left Typed → Answer (Left Typed)
as_type unsigned n = Ok (left (of_type unsigned n.value.number) n.turns)

-- the number of a type that has these bits
abbrev pub with_type : Bool → Left ℤ → Answer (Left Typed)
with_type unsigned n = Ok (left (of_type unsigned n.value) n.turns)

abbrev pub element_with_type : Bool → ℤ → Answer Typed
element_with_type unsigned v = Ok (of_type unsigned v)

abbrev mutual
  pub typed_value : File → tree.ExprTree → BodyState → ℕ → Answer (Left Typed)
  typed_value file (tree.Number n) s turns = Ok (left (record { number = pos n; unsigned = false }) turns)
  typed_value file (tree.Wide n) s turns = Ok (left (record { number = pos n; unsigned = true }) turns)
  typed_value file (tree.Place t) s turns = typed_place file t s turns
  typed_value file (tree.ExprTree.Call f args) s turns =
      and_then (passed file args s turns)
      (λ vs. and_then (call_value file.calls (variable file s f.id) vs) (with_type (flags file s f)))
  typed_value file (tree.Paren e) s turns = typed_value file e s turns
  typed_value file (tree.Unary op m e) s turns =
      and_then (typed_value file e s turns) (λ n. with_turns n.turns (typed_unary op m.line n.value))
  typed_value file (tree.Chain l first links) s turns = and_then (typed_value file first s turns) (typed_chained file links s)
  -- One of the two is evaluated, and both count for the type.
  typed_value file (tree.Choice c a b) s turns =
      and_then (typed_value file c s turns)
      (λ n. and_then (if is_zero n.value.number then typed_value file b s n.turns else typed_value file a s n.turns)
      (as_type (type_in file s a || type_in file s b)))

  -- a name, without an index or with one
  pub typed_place : File → tree.TargetTree → BodyState → ℕ → Answer (Left Typed)
  typed_place file (tree.Variable n) s turns = Ok (left (of_type (flags file s n) (scalar_value s (variable file s n.id))) turns)
  typed_place file (tree.Element n m e) s turns =
      and_then (typed_value file e s turns)
      (λ i. with_turns i.turns
      (and_then (element_at (elements s (find s.bound n.id)) m.line i.value.number) (element_with_type (flags file s n))))

  -- the bits of the arguments of a call
  pub passed : File → tree.Args → BodyState → ℕ → Answer (Left (List ℤ))
  passed file tree.no_args s turns = Ok (left [] turns)
  passed file (tree.arg e es) s turns =
      and_then (typed_value file e s turns)
      (λ n. and_then (passed file es s n.turns) (λ ns. Ok (left (bits n.value ∷ ns.value) ns.turns)))

  -- the links of a chain behind a value
  pub typed_chained : File → tree.Links → BodyState → Left Typed → Answer (Left Typed)
  typed_chained file tree.no_links s n = Ok n
  typed_chained file (tree.link op m e rest) s n =
      and_then (typed_linked op m.line n (typed_value file e s)) (typed_chained file rest s)
