-- The code of declarations.
use Rattle.std.specs.Prelude.{ℕ, Bool, true, false, List, [], ◌∷◌, Option, Some, None, pos}
use Rattle.lowering_draft.specs.Draft.{with_instr, with_instrs}
use Rattle.lowering_draft.specs.Emission.Changes.{change_code}
use Rattle.lowering_draft.specs.Emission.Expressions.{Emission, expr_code}
use Rattle.os_ast.specs.FreeNames.{expr_names}
use Rattle.os_ast.specs.ClauseMembers.{is_in}
use Rattle.os_ast.specs.Trees as tree
use Rattle.os_ast.specs.declared.names.Resolved.{Resolved}
use Rattle.os_ast.specs.declared.names.What.{What}
use Rattle.os_ast.specs.declared.names.What.TheVariants as what
use Rattle.os_code.specs.declared.instr.Instr.TheVariants.{Push, Store, Window, Zero}

abbrev pub zeroed_code : (slot : ℕ) → Emission
zeroed_code slot draft = with_instrs draft (Push (pos 0) ∷ Store slot ∷ [])

-- A first value that names its own scalar reads 0 there.
abbrev pub cleared_code : (named : Bool) → (slot : ℕ) → Emission
cleared_code true slot draft = zeroed_code slot draft
cleared_code false slot draft = draft

abbrev pub scalar_code : (ℕ → Resolved) → (id slot : ℕ) → Option tree.ExprTree → Emission
scalar_code tells id slot None draft = zeroed_code slot draft
scalar_code tells id slot (Some e) draft = with_instr (expr_code tells e (cleared_code (is_in id (expr_names e)) slot draft)) (Store slot)

abbrev pub window_code : (ℕ → Resolved) → (slot : ℕ) → Option tree.IndexTree → Emission
window_code tells slot None draft = draft
window_code tells slot (Some i) draft = with_instr (expr_code tells i.value draft) (Window slot i.mark.line)

-- what a declarator does, by what its name means; streams are there from the start
abbrev pub declared_code : (ℕ → Resolved) → What → tree.DeclaratorTree → Emission
declared_code tells (what.Scalar slot) d draft = scalar_code tells d.name.id slot d.first draft
declared_code tells (what.Array first size) d draft = with_instr draft (Zero first size)
declared_code tells (what.Window slot) d draft = window_code tells slot d.size draft
declared_code tells _ d draft = draft

abbrev pub declarators_code : (ℕ → Resolved) → List tree.DeclaratorTree → Emission
declarators_code tells [] draft = draft
declarators_code tells (d ∷ ds) draft = declarators_code tells ds (declared_code tells (tells d.name.mark.place).what d draft)

abbrev pub start_code : (ℕ → Resolved) → tree.StartTree → Emission
start_code tells tree.StartTree.Empty draft = draft
start_code tells (tree.StartTree.Declare ty ds) draft = declarators_code tells ds draft
start_code tells (tree.StartTree.Change c) draft = change_code tells c draft
