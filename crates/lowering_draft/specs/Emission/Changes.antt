-- The code of changes.
use Rattle.std.specs.Prelude.{ℕ, Bool, true, false, pos}
use Rattle.cddf_meaning.specs.Operators.{step_operator}
use Rattle.lowering_draft.specs.Draft.{with_instr, with_instrs}
use Rattle.lowering_draft.specs.Emission.Expressions.{Emission, expr_code}
use Rattle.os_ast.specs.Trees as tree
use Rattle.os_ast.specs.declared.expr.Binary.{Binary}
use Rattle.os_ast.specs.declared.names.Resolved.{Resolved}
use Rattle.os_ast.specs.declared.stmt.Assign.TheVariants as assign
use Rattle.os_ast.specs.declared.stmt.Assign.{Assign}
use Rattle.os_code.specs.declared.instr.Instr.TheVariants.{Push}
use Rattle.lowering_relation.specs.Changes.{is_quiet, target_by}
use Rattle.lowering_relation.specs.Expressions.{operation, type_by}
use Rattle.lowering_relation.specs.Names.{aiming, fetching, fetching_at, storing, storing_at}

-- What stands before a value that is to be stored; `old` says whether the old value is fetched.
abbrev pub aim_code : (ℕ → Resolved) → (old : Bool) → tree.TargetTree → Emission
aim_code tells old (tree.Variable n) draft =
    with_instrs (with_instrs draft (aiming (tells n.mark.place).what)) (fetching old (tells n.mark.place).what n.mark.line)
aim_code tells old (tree.Element n m e) draft = with_instrs (expr_code tells e draft) (fetching_at old (tells n.mark.place).what m.line)

-- the instruction that stores the value on the stack in a target
abbrev pub store_code : (ℕ → Resolved) → tree.TargetTree → Emission
store_code tells (tree.Variable n) draft = with_instr draft (storing (tells n.mark.place).what n.mark.line)
store_code tells (tree.Element n m e) draft = with_instr draft (storing_at (tells n.mark.place).what m.line)

-- a target, what is stored there, and its store
abbrev pub changed_code : (ℕ → Resolved) → (old : Bool) → tree.TargetTree → (right : Emission) → Emission
changed_code tells old t right draft = store_code tells t (right (aim_code tells old t draft))

-- what an operator gives of an old value of type `u`
abbrev pub operated_code : (ℕ → Resolved) → Binary → (line : ℕ) → (u : Bool) → tree.ExprTree → Emission
operated_code tells op line u e draft = with_instrs (expr_code tells e draft) (operation op line u (type_by tells e))

abbrev pub stepped_code : Binary → (line : ℕ) → (u : Bool) → Emission
stepped_code op line u draft = with_instrs (with_instr draft (Push (pos 1))) (operation op line u false)

-- Where the value is quiet, the store alone checks the index.
abbrev pub plain_aim : (ℕ → Resolved) → (quiet : Bool) → tree.TargetTree → Emission
plain_aim tells true (tree.Element n m i) draft = expr_code tells i draft
plain_aim tells true (tree.Variable n) draft = aim_code tells false (tree.Variable n) draft
plain_aim tells false t draft = aim_code tells false t draft

abbrev pub plain_code : (ℕ → Resolved) → tree.TargetTree → tree.ExprTree → Emission
plain_code tells t e draft = store_code tells t (expr_code tells e (plain_aim tells (is_quiet e) t draft))

abbrev pub set_code : (ℕ → Resolved) → Assign → tree.TargetTree → tree.ExprTree → (line : ℕ) → Emission
set_code tells assign.Plain t e line draft = plain_code tells t e draft
set_code tells (assign.With op) t e line draft = changed_code tells true t (operated_code tells op line (target_by tells t) e) draft

abbrev pub change_code : (ℕ → Resolved) → tree.ChangeTree → Emission
change_code tells (tree.Set t a m e) draft = set_code tells a t e m.line draft
change_code tells (tree.After t p m) draft =
    changed_code tells true t (stepped_code (step_operator p) m.line (target_by tells t)) draft
change_code tells (tree.Before t p m) draft =
    changed_code tells true t (stepped_code (step_operator p) m.line (target_by tells t)) draft
