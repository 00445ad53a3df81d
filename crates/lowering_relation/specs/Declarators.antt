-- Which instructions stand for declarations.
use Rattle.std.specs.Prelude.{◌≡◌, ℕ, ◌+◌, false, List, [], ◌∷◌, Option, Some, None, pos}
use Rattle.os_ast.specs.FreeNames.{expr_names}
use Rattle.os_ast.specs.ClauseMembers.{is_in}
use Rattle.os_ast.specs.Trees as tree
use Rattle.os_ast.specs.declared.names.Resolved.{Resolved}
use Rattle.os_ast.specs.declared.names.What.{What}
use Rattle.os_ast.specs.declared.names.What.TheVariants as what
use Rattle.os_code.specs.declared.instr.Instr.TheVariants.{Push, Store, Zero, Window}
use Rattle.os_code.specs.declared.parts.Parts.{Parts}
use Rattle.os_code.specs.Parts.{instr_at}
use Rattle.lowering_relation.specs.Changes.{HasChange}
use Rattle.lowering_relation.specs.Expressions.{Stands, HasExpr}

-- A scalar is 0 while its own first value is evaluated. A value that doesn't name it needs no 0.
pub data HasFirst (code : Parts) (tells : ℕ → Resolved) (id slot : ℕ) (e : tree.ExprTree) : (from to : ℕ) → Type 0 where
  cleared : {from : ℕ} (zeros end : ℕ) → Stands code (Push (pos 0) ∷ Store slot ∷ []) from zeros → HasExpr code tells e zeros end →
      instr_at code end ≡ Some (Store slot) → HasFirst code tells id slot e from (end + 1)
  named_elsewhere : {from : ℕ} (end : ℕ) → is_in id (expr_names e) ≡ false → HasExpr code tells e from end →
      instr_at code end ≡ Some (Store slot) → HasFirst code tells id slot e from (end + 1)

abbrev pub HasScalar : Parts → (ℕ → Resolved) → (id slot : ℕ) → Option tree.ExprTree → (from to : ℕ) → Type 0
HasScalar code tells id slot None from to = Stands code (Push (pos 0) ∷ Store slot ∷ []) from to
HasScalar code tells id slot (Some e) from to = HasFirst code tells id slot e from to

-- the size of a window is evaluated, and `Window` puts it into its slot; where no size stands, nothing is done
abbrev pub HasWindow : Parts → (ℕ → Resolved) → (slot : ℕ) → Option tree.IndexTree → (from to : ℕ) → Type 0
HasWindow code tells slot None from to = from ≡ to
HasWindow code tells slot (Some i) from to = (end : ℕ) × HasExpr code tells i.value from end × Stands code (Window slot i.mark.line ∷ []) end to

-- what a declarator does, by what its name means; streams are there from the start
abbrev pub HasDeclared : Parts → (ℕ → Resolved) → What → tree.DeclaratorTree → (from to : ℕ) → Type 0
HasDeclared code tells (what.Scalar slot) d from to = HasScalar code tells d.name.id slot d.first from to
HasDeclared code tells (what.Array first size) d from to = Stands code (Zero first size ∷ []) from to
HasDeclared code tells (what.Window slot) d from to = HasWindow code tells slot d.size from to
HasDeclared code tells _ d from to = from ≡ to

abbrev pub HasDeclarators : Parts → (ℕ → Resolved) → List tree.DeclaratorTree → (from to : ℕ) → Type 0
HasDeclarators code tells [] from to = from ≡ to
HasDeclarators code tells (d ∷ ds) from to =
    (end : ℕ) × HasDeclared code tells (tells d.name.mark.place).what d from end × HasDeclarators code tells ds end to

abbrev pub HasStart : Parts → (ℕ → Resolved) → tree.StartTree → (from to : ℕ) → Type 0
HasStart code tells tree.StartTree.Empty from to = from ≡ to
HasStart code tells (tree.StartTree.Declare ty ds) from to = HasDeclarators code tells ds from to
HasStart code tells (tree.StartTree.Change c) from to = HasChange code tells c from to
