-- The value of an expression, by its 32 bits: as the `int` that has them. C11, 6.5; operands and arguments are evaluated from left
-- to right. Its type is that of `ExpressionTypes`, and `TypedValue` has both in one, by the operators between values with types.
use Rattle.std.specs.Prelude.{ℕ, Bool, not, if◌then◌else◌, ltb, List, [], ◌∷◌, length, get_or, Option, Some, ℤ, pos, Ok}
use Rattle.std.specs.Int.{w32, cast_signed}
use Rattle.c_int.specs.Operators.{is_zero, truth}
use Rattle.c_int.specs.declared.trap.Trap.TheVariants.{Index}
use Rattle.cddf_meaning.specs.Answers.{Answer, Left, passing, and_then, left, with_turns}
use Rattle.cddf_meaning.specs.File.{Calls, File, variable, type_in}
use Rattle.cddf_meaning.specs.Operators.{binary_answer, unary_answer}
use Rattle.cddf_meaning.specs.BodyState.{BodyState, item_elements}
use Rattle.cddf_meaning.specs.ExpressionTypes.{type_of_two}
use Rattle.cddf_meaning.specs.Variables.{find}
use Rattle.cddf_meaning.specs.declared.variable.Variable.TheVariants.{Constant, Function, Scalar, Array, Item}
use Rattle.cddf_meaning.specs.declared.variable.Variable.{Variable}
use Rattle.os_ast.specs.Trees as tree
use Rattle.os_ast.specs.declared.expr.Binary.TheVariants as binary
use Rattle.os_ast.specs.declared.expr.Binary.{Binary}

-- A name without an index: a constant, a scalar, or an item's one element. Nothing else stands so.
abbrev pub scalar_value : BodyState → Option Variable → ℤ
scalar_value s (Some (Constant v)) = v
scalar_value s (Some (Scalar v)) = v
scalar_value s (Some (Item item)) = get_or (item_elements s item) 0 (pos 0)
scalar_value s _ = pos 0

-- A name with an index: a local array, or a task's view of a window. Nothing else stands so, and the file declares none.
abbrev pub elements : BodyState → Option Variable → List ℤ
elements s (Some (Array vs)) = vs
elements s (Some (Item item)) = item_elements s item
elements s _ = []

-- An index outside 0 to size - 1 is the trap `Index`, with the line of the `[`.
abbrev pub checked : ℕ → ℕ → ℤ → Answer ℕ
checked size line i = passing (λ i. ltb i size) Index line i

-- the element at an index
abbrev pub element_at : List ℤ → ℕ → ℤ → Answer ℤ
element_at vs line i = and_then (checked (length vs) line i) (λ k. Ok (get_or vs k (pos 0)))

-- A call of a function. Nothing else is called.
abbrev pub call_value : Calls → Option Variable → Left (List ℤ) → Answer (Left ℤ)
call_value calls (Some (Function f)) args = calls f args.value args.turns
call_value calls _ args = Ok (left (pos 0) args.turns)

-- 1 where the number isn't 0, and else 0
abbrev pub as_truth : Left ℤ → Answer (Left ℤ)
as_truth n = Ok (left (truth (not (is_zero n.value))) n.turns)

-- An operator between a number of type `u` and what stands on its right, of type `v`. The right side of `&&` is evaluated where
-- the left one isn't 0, that of `||` where it is 0, and that of every other operator always. C11, 6.5.13 and 6.5.14.
abbrev pub linked : Binary → ℕ → (u v : Bool) → Left ℤ → (ℕ → Answer (Left ℤ)) → Answer (Left ℤ)
linked binary.And line u v a right = if is_zero a.value then Ok (left (pos 0) a.turns) else and_then (right a.turns) as_truth
linked binary.Or line u v a right = if is_zero a.value then and_then (right a.turns) as_truth else Ok (left (pos 1) a.turns)
linked op line u v a right = and_then (right a.turns) (λ b. with_turns b.turns (binary_answer op line u v a.value b.value))

abbrev mutual
  -- The value of an expression, which changes no name. A wide number stands by its 32 bits.
  pub value : File → tree.ExprTree → BodyState → ℕ → Answer (Left ℤ)
  value file (tree.Number n) s turns = Ok (left (pos n) turns)
  value file (tree.Wide n) s turns = Ok (left (cast_signed w32 n) turns)
  value file (tree.Place t) s turns = place_value file t s turns
  value file (tree.ExprTree.Call f args) s turns = and_then (values file args s turns) (call_value file.calls (variable file s f.id))
  value file (tree.Paren e) s turns = value file e s turns
  value file (tree.Unary op m e) s turns = and_then (value file e s turns) (λ n. with_turns n.turns (unary_answer op m.line (type_in file s e) n.value))
  value file (tree.Chain l first links) s turns = and_then (value file first s turns) (chained file links s (type_in file s first))
  -- `condition ? first : second` evaluates one of the two. C11, 6.5.15.
  value file (tree.Choice c a b) s turns = and_then (value file c s turns) (λ n. if is_zero n.value then value file b s n.turns else value file a s n.turns)

  -- a name, without an index or with one
  pub place_value : File → tree.TargetTree → BodyState → ℕ → Answer (Left ℤ)
  place_value file (tree.Variable n) s turns = Ok (left (scalar_value s (variable file s n.id)) turns)
  place_value file (tree.Element n m e) s turns =
      and_then (value file e s turns) (λ i. with_turns i.turns (element_at (elements s (find s.bound n.id)) m.line i.value))

  -- the arguments of a call
  pub values : File → tree.Args → BodyState → ℕ → Answer (Left (List ℤ))
  values file tree.no_args s turns = Ok (left [] turns)
  values file (tree.arg e es) s turns = and_then (value file e s turns)
      (λ n. and_then (values file es s n.turns) (λ ns. Ok (left (n.value ∷ ns.value) ns.turns)))

  -- the links of a chain behind a number of type `u`
  pub chained : File → tree.Links → BodyState → (u : Bool) → Left ℤ → Answer (Left ℤ)
  chained file tree.no_links s u n = Ok n
  chained file (tree.link op m e rest) s u n =
      and_then (linked op m.line u (type_in file s e) n (value file e s)) (chained file rest s (type_of_two op u (type_in file s e)))
