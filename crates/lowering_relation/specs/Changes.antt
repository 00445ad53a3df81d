-- Which instructions stand for a change.
use Rattle.std.specs.Prelude.{◌≡◌, ℕ, ◌+◌, ◌&&◌, Bool, true, false, List, [], ◌∷◌, ◌++◌, Some, pos}
use Rattle.cddf_meaning.specs.Operators.{step_operator}
use Rattle.os_ast.specs.ClauseMembers.{target_name}
use Rattle.os_ast.specs.Trees as tree
use Rattle.os_ast.specs.declared.expr.Binary.{Binary}
use Rattle.os_ast.specs.declared.expr.Binary.TheVariants as binary
use Rattle.os_ast.specs.declared.expr.Mark.{Mark}
use Rattle.os_ast.specs.declared.expr.Name.{Name}
use Rattle.os_ast.specs.declared.expr.Unary.{Unary}
use Rattle.os_ast.specs.declared.expr.Unary.TheVariants as unary
use Rattle.os_ast.specs.declared.names.Resolved.{Resolved}
use Rattle.os_ast.specs.declared.stmt.Assign.{Assign}
use Rattle.os_ast.specs.declared.stmt.Assign.TheVariants as assign_of
use Rattle.os_ast.specs.declared.stmt.Step.{Step}
use Rattle.os_code.specs.declared.instr.Instr.{Instr}
use Rattle.os_code.specs.declared.instr.Instr.TheVariants.{Push}
use Rattle.os_code.specs.declared.parts.Parts.{Parts}
use Rattle.os_code.specs.Parts.{instr_at}
use Rattle.lowering_relation.specs.Expressions.{Stands, operation, type_by, HasExpr}
use Rattle.lowering_relation.specs.Names.{flags_by, aiming, fetching, fetching_at, storing, storing_at}

-- Operators that never trap.
abbrev pub is_quiet_one : Unary → Bool
is_quiet_one unary.Minus = false
is_quiet_one unary.Plus = true
is_quiet_one unary.Not = true
is_quiet_one unary.Invert = true

abbrev pub is_quiet_two : Binary → Bool
is_quiet_two binary.Or = true
is_quiet_two binary.And = true
is_quiet_two binary.BitOr = true
is_quiet_two binary.BitXor = true
is_quiet_two binary.BitAnd = true
is_quiet_two binary.Equal = true
is_quiet_two binary.Unequal = true
is_quiet_two binary.Less = true
is_quiet_two binary.LessEqual = true
is_quiet_two binary.Greater = true
is_quiet_two binary.GreaterEqual = true
is_quiet_two _ = false

-- An expression that can neither trap nor take a turn.
abbrev mutual
  pub is_quiet : tree.ExprTree → Bool
  is_quiet (tree.Number n) = true
  is_quiet (tree.Wide n) = true
  is_quiet (tree.Place (tree.Variable n)) = true
  is_quiet (tree.Place (tree.Element n m e)) = false
  is_quiet (tree.ExprTree.Call f args) = false
  is_quiet (tree.Paren e) = is_quiet e
  is_quiet (tree.Unary op m e) = is_quiet_one op && is_quiet e
  is_quiet (tree.Chain l first links) = is_quiet first && are_quiet links
  is_quiet (tree.Choice c a b) = is_quiet c && (is_quiet a && is_quiet b)

  pub are_quiet : tree.Links → Bool
  are_quiet tree.no_links = true
  are_quiet (tree.link op m e rest) = is_quiet_two op && (is_quiet e && are_quiet rest)

-- A target, what is stored there, and its store; `old` says whether the old value is fetched first.
abbrev pub HasChanged : Parts → (ℕ → Resolved) → (old : Bool) → tree.TargetTree → (right : (from to : ℕ) → Type 0)
    → (from to : ℕ) → Type 0
HasChanged code tells old (tree.Variable n) right from to =
    (a b : ℕ) × Stands code (aiming (tells n.mark.place).what ++ fetching old (tells n.mark.place).what n.mark.line) from a
    × right a b × Stands code (storing (tells n.mark.place).what n.mark.line ∷ []) b to
HasChanged code tells old (tree.Element n m e) right from to =
    (i a b : ℕ) × HasExpr code tells e from i × Stands code (fetching_at old (tells n.mark.place).what m.line) i a
    × right a b × Stands code (storing_at (tells n.mark.place).what m.line ∷ []) b to

abbrev pub needs_old : Assign → Bool
needs_old assign_of.Plain = false
needs_old (assign_of.With op) = true

-- what operates on the old value and the right side, by the types of the target and of the right side
abbrev pub operating : Assign → (line : ℕ) → (target right : Bool) → List Instr
operating assign_of.Plain line target right = []
operating (assign_of.With op) line target right = operation op line target right

abbrev pub HasAssigned : Parts → (ℕ → Resolved) → Assign → (line : ℕ) → (target : Bool) → tree.ExprTree → (from to : ℕ) → Type 0
HasAssigned code tells a line target e from to =
    (end : ℕ) × HasExpr code tells e from end × Stands code (operating a line target (type_by tells e)) end to

-- The 1 of a step is an `int`.
abbrev pub HasStepped : Parts → Binary → (line : ℕ) → (target : Bool) → (from to : ℕ) → Type 0
HasStepped code op line target from to = Stands code (Push (pos 1) ∷ operation op line target false) from to

-- the type of a target, by what its name means
abbrev pub target_by : (ℕ → Resolved) → tree.TargetTree → Bool
target_by tells t = flags_by tells (target_name t)

-- Where the right side is quiet and no old value is needed, the store alone checks the index.
pub data HasChange (code : Parts) (tells : ℕ → Resolved) : tree.ChangeTree → (from to : ℕ) → Type 0 where
  set : {t : tree.TargetTree} {a : Assign} {m : Mark} {e : tree.ExprTree} {from to : ℕ} →
      HasChanged code tells (needs_old a) t (HasAssigned code tells a m.line (target_by tells t) e) from to → HasChange code tells (tree.Set t a m e) from to
  set_unchecked : {n : Name} {open_mark m : Mark} {i e : tree.ExprTree} {from : ℕ} (mid end : ℕ) → is_quiet e ≡ true →
      HasExpr code tells i from mid → HasExpr code tells e mid end →
      instr_at code end ≡ Some (storing_at (tells n.mark.place).what open_mark.line) →
      HasChange code tells (tree.Set (tree.Element n open_mark i) assign_of.Plain m e) from (end + 1)
  after : {t : tree.TargetTree} {p : Step} {m : Mark} {from to : ℕ} →
      HasChanged code tells true t (HasStepped code (step_operator p) m.line (target_by tells t)) from to → HasChange code tells (tree.After t p m) from to
  before : {t : tree.TargetTree} {p : Step} {m : Mark} {from to : ℕ} →
      HasChanged code tells true t (HasStepped code (step_operator p) m.line (target_by tells t)) from to → HasChange code tells (tree.Before t p m) from to
