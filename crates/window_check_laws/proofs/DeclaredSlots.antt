-- The slots that declarators take are paid by what they declare and by the elements of arrays.
use Rattle.std.proofs.Common.{◌≡◌, ◌∙◌, ℕ, suc, ◌+◌, ◌≤◌, List, [], ◌∷◌, length, refl, arith}
use Rattle.os_ast.specs.declared.program.Param.{Param}
use Rattle.os_ast.specs.Names.{Scope, enter, in_unit, typed}
use Rattle.os_ast.specs.Notes.Clauses.{with_items}
use Rattle.os_ast.specs.Notes.Declarators.{after_declarator, after_declarators, after_start, declarator_notes, declarators_notes, form, start_notes, taken}
use Rattle.os_ast.specs.Notes.Programs.{after_param, after_params, in_body, in_function, owner_of, param_list, params_notes, round_body}
use Rattle.os_ast.specs.ClauseMembers.{Item, ClauseMember, Private}
use Rattle.os_ast.specs.Trees as tree
use Rattle.os_ast.specs.declared.names.Form.{Form}
use Rattle.os_ast.specs.declared.names.Form.TheVariants as form_of
use Rattle.os_ast.specs.declared.names.Owner.{Owner}
use Rattle.os_ast.specs.declared.names.Owner.TheVariants as owner
use Rattle.window_check_laws.proofs.NameCounts.{declared_in, declared_in-append}

pub items_arrays : (ps : List ClauseMember) (s inner : Scope) (item : ℕ) → (with_items s inner item ps).arrays ≡ inner.arrays
items_arrays [] s inner item = refl
items_arrays (Item d i ∷ ps) s inner item = items_arrays ps s _ (suc item)
items_arrays (Private n ∷ ps) s inner item = items_arrays ps s inner item

form_paid : (s : Scope) (f : Form) → (taken s f).slots + s.arrays ≤ s.slots + 1 + (taken s f).arrays
form_paid s form_of.Scalar = omega arith
form_paid s (form_of.Array size) = omega arith
form_paid s form_of.Window = omega arith
form_paid s form_of.Stream = omega arith
form_paid s (form_of.Streams size) = omega arith

pub declarators_paid : (ds : List tree.DeclaratorTree) (s : Scope) →
    (after_declarators s ds).slots + s.arrays ≤ s.slots + declared_in (declarators_notes s ds) + (after_declarators s ds).arrays
declarators_paid [] s = omega arith
declarators_paid (d ∷ ds) s =
    let after = after_declarator s d in
    omega (arith, form_paid s (form s d), declarators_paid ds after, declared_in-append (declarator_notes s d) (declarators_notes after ds))

pub start_paid : (t : tree.StartTree) (s : Scope) → (after_start s t).slots + s.arrays ≤ s.slots + declared_in (start_notes s t) + (after_start s t).arrays
start_paid tree.StartTree.Empty s = omega arith
start_paid (tree.StartTree.Declare t ds) s = declarators_paid ds (typed t s)
start_paid (tree.StartTree.Change c) s = omega arith

-- parameters
pub params_paid : (ns : List Param) (s : Scope) → length ns ≤ declared_in (params_notes s ns)
params_paid [] s = omega arith
params_paid (n ∷ ns) s = omega (arith, params_paid ns (after_param s n))

params_arrays : (ns : List Param) (s : Scope) → (after_params s ns).arrays ≡ s.arrays
params_arrays [] s = refl
params_arrays (n ∷ ns) s = params_arrays ns (after_param s n)

round_arrays : (o : Owner) (s : Scope) → (enter (round_body o (enter (in_unit o s)))).arrays ≡ s.arrays
round_arrays owner.OfMain s = refl
round_arrays owner.OfFunction s = refl
round_arrays owner.OfTask s = refl

pub body_arrays : (s : Scope) (f : tree.FunctionTree) → (in_body s f).arrays ≡ s.arrays
body_arrays s f = params_arrays (param_list f.params) (in_function s f.name.id) ∙ round_arrays (owner_of f.name.id) s
