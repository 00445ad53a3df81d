-- Which instructions stand for an expression, from one place to another: its code pushes its value. `tells` says what
-- the name at a place means, and of which type that is; an operator stands by the types of its operands.
use Rattle.std.specs.Prelude.{◌≡◌, ℕ, suc, ◌+◌, Bool, false, List, [], ◌∷◌, Option, Some, None, Ok, ℤ, pos}
use Rattle.std.specs.Int.{w32, cast_signed}
use Rattle.c_int.specs.Machine.{unary_for, binary_for}
use Rattle.c_int.specs.declared.operators.Binary as int_binary
use Rattle.c_int.specs.declared.operators.Unary.TheVariants as int_unary
use Rattle.cddf_meaning.specs.Operators.{operator_of_one, operator_of_two, unary_answer}
use Rattle.cddf_meaning.specs.ExpressionTypes.{type_of, type_of_two}
use Rattle.os_ast.specs.Trees as tree
use Rattle.os_ast.specs.declared.expr.Binary.{Binary}
use Rattle.os_ast.specs.declared.expr.Binary.TheVariants as binary
use Rattle.os_ast.specs.declared.expr.Level.{Level}
use Rattle.os_ast.specs.declared.expr.Mark.{Mark}
use Rattle.os_ast.specs.declared.expr.Unary as tree_unary
use Rattle.os_ast.specs.declared.names.Resolved.{Resolved}
use Rattle.os_code.specs.declared.instr.Instr.{Instr}
use Rattle.os_code.specs.declared.instr.Instr.TheVariants.{Push, Drop, Jump, JumpZero, Turn}
use Rattle.os_code.specs.declared.instr.Instr.TheVariants as instr
use Rattle.os_code.specs.declared.parts.Parts.{Parts}
use Rattle.os_code.specs.Parts.{instr_at}
use Rattle.lowering_relation.specs.Names.{flags_by, reading, reading_at, calling}

-- the code has these instructions from one place on, and goes on at another
abbrev pub Stands : Parts → List Instr → (from to : ℕ) → Type 0
Stands code [] from to = from ≡ to
Stands code (i ∷ is) from to = (instr_at code from ≡ Some i) × Stands code is (from + 1) to

-- An operator on two numbers on the stack, by their types. `&&` and `||` are none: they are never asked.
abbrev pub operation_of : Option int_binary.Binary → (line : ℕ) → (left right : Bool) → List Instr
operation_of None line left right = Drop ∷ Drop ∷ Push (pos 0) ∷ []
operation_of (Some op) line left right = instr.Binary (binary_for left right op) line ∷ []

abbrev pub operation : Binary → (line : ℕ) → (left right : Bool) → List Instr
operation op line left right = operation_of (operator_of_two op) line left right

-- the type of an expression, by what its names mean
abbrev pub type_by : (ℕ → Resolved) → tree.ExprTree → Bool
type_by tells e = type_of (flags_by tells) e

-- An operator with one operand, of this type. Of a number that is an `int` it may be worked out.
pub data HasUnary (code : Parts) (op : tree_unary.Unary) (line : ℕ) (unsigned : Bool) (e : tree.ExprTree) (has : (from to : ℕ) → Type 0)
    : (from to : ℕ) → Type 0 where
  operated : {from : ℕ} (end : ℕ) → has from end → instr_at code end ≡ Some (instr.Unary (unary_for unsigned (operator_of_one op)) line) →
      HasUnary code op line unsigned e has from (end + 1)
  worked_out : {from n : ℕ} {v : ℤ} → e ≡ tree.Number n → unary_answer op line false (pos n) ≡ Ok v → instr_at code from ≡ Some (Push v) →
      HasUnary code op line unsigned e has from (from + 1)

-- An operator behind the number on its left, with the code of its right side, by the types of both. Two `!` make 1 of what isn't 0.
abbrev pub HasLink : Parts → Binary → (line : ℕ) → (u v : Bool) → ((from to : ℕ) → Type 0) → (from to : ℕ) → Type 0
HasLink code binary.And line u v right from to =
    (end : ℕ) × (instr_at code from ≡ Some (JumpZero (end + 1 + 1 + 1))) × right (from + 1) end
    × Stands code (instr.Unary int_unary.Not line ∷ instr.Unary int_unary.Not line ∷ Jump to ∷ Push (pos 0) ∷ []) end to
HasLink code binary.Or line u v right from to =
    (end : ℕ) × (instr_at code from ≡ Some (JumpZero (from + 1 + 1 + 1)))
    × Stands code (Push (pos 1) ∷ Jump to ∷ []) (from + 1) (from + 1 + 1 + 1) × right (from + 1 + 1 + 1) end
    × Stands code (instr.Unary int_unary.Not line ∷ instr.Unary int_unary.Not line ∷ []) end to
HasLink code op line u v right from to = (end : ℕ) × right from end × Stands code (operation op line u v) end to

abbrev mutual
  pub HasExpr : Parts → (ℕ → Resolved) → tree.ExprTree → (from to : ℕ) → Type 0
  HasExpr code tells (tree.Number n) from to = Stands code (Push (pos n) ∷ []) from to
  HasExpr code tells (tree.Wide n) from to = Stands code (Push (cast_signed w32 n) ∷ []) from to
  HasExpr code tells (tree.Place t) from to = HasPlace code tells t from to
  HasExpr code tells (tree.ExprTree.Call f args) from to =
      (end : ℕ) × HasArgs code tells args from end × Stands code (Turn ∷ calling (tells f.mark.place).what ∷ []) end to
  HasExpr code tells (tree.Paren e) from to = HasExpr code tells e from to
  HasExpr code tells (tree.Unary op m e) from to = HasUnary code op m.line (type_by tells e) e (HasExpr code tells e) from to
  HasExpr code tells (tree.Chain l first links) from to =
      (end : ℕ) × HasExpr code tells first from end × HasLinks code tells links (type_by tells first) end to
  HasExpr code tells (tree.Choice c a b) from to =
      (test end : ℕ) × HasExpr code tells c from test × (instr_at code test ≡ Some (JumpZero (end + 1)))
      × HasExpr code tells a (test + 1) end × (instr_at code end ≡ Some (Jump to)) × HasExpr code tells b (end + 1) to

  -- a name, without an index or with one
  pub HasPlace : Parts → (ℕ → Resolved) → tree.TargetTree → (from to : ℕ) → Type 0
  HasPlace code tells (tree.Variable n) from to = Stands code (reading (tells n.mark.place).what n.mark.line) from to
  HasPlace code tells (tree.Element n m e) from to =
      (end : ℕ) × HasExpr code tells e from end × Stands code (reading_at (tells n.mark.place).what m.line ∷ []) end to

  -- the links of a chain, behind the number on the left of the first one, which has the type `u`
  pub HasLinks : Parts → (ℕ → Resolved) → tree.Links → (u : Bool) → (from to : ℕ) → Type 0
  HasLinks code tells tree.no_links u from to = from ≡ to
  HasLinks code tells (tree.link op m e rest) u from to =
      (end : ℕ) × HasLink code op m.line u (type_by tells e) (HasExpr code tells e) from end
      × HasLinks code tells rest (type_of_two op u (type_by tells e)) end to

  -- the arguments of a call, from the first one on
  pub HasArgs : Parts → (ℕ → Resolved) → tree.Args → (from to : ℕ) → Type 0
  HasArgs code tells tree.no_args from to = from ≡ to
  HasArgs code tells (tree.arg e es) from to = (end : ℕ) × HasExpr code tells e from end × HasArgs code tells es end to

mutual
  -- A condition: its code goes on to `to` where the value isn't 0, and to `fails` where it is.
  pub data HasCondition (code : Parts) (tells : ℕ → Resolved) : tree.ExprTree → (fails from to : ℕ) → Type 0 where
    tested : {e : tree.ExprTree} {fails from : ℕ} (end : ℕ) → HasExpr code tells e from end → instr_at code end ≡ Some (JumpZero fails) →
        HasCondition code tells e fails from (end + 1)
    -- a number that isn't 0
    always : {n fails at : ℕ} → HasCondition code tells (tree.Number (suc n)) fails at at
    in_parens : {e : tree.ExprTree} {fails from to : ℕ} → HasCondition code tells e fails from to → HasCondition code tells (tree.Paren e) fails from to
    -- one after another, until one is 0
    each : {l : Level} {first : tree.ExprTree} {links : tree.Links} {fails from mid to : ℕ} → HasCondition code tells first fails from mid →
        HaveConditions code tells links fails mid to → HasCondition code tells (tree.Chain l first links) fails from to

  -- the right sides of `&&` stand as conditions one behind another, which all go to `fails` at 0
  pub data HaveConditions (code : Parts) (tells : ℕ → Resolved) : tree.Links → (fails from to : ℕ) → Type 0 where
    no_more : {fails at : ℕ} → HaveConditions code tells tree.no_links fails at at
    one_more : {m : Mark} {e : tree.ExprTree} {rest : tree.Links} {fails from mid to : ℕ} → HasCondition code tells e fails from mid →
        HaveConditions code tells rest fails mid to → HaveConditions code tells (tree.link binary.And m e rest) fails from to
