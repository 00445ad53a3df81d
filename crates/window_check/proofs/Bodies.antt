-- A function step by step, and the items of a program one after another.
use Rattle.std.proofs.Common.{◌≡◌, ◌+◌, ◌≤◌, List, ◌∷◌, length, refl, ap, sym, ◌∙◌, arith}
use Rattle.os_ast.specs.Unsigned.{is_unsigned}
use Rattle.os_ast.specs.declared.program.Param.{Param}
use Rattle.os_ast.specs.Leveled.{AreAll, cons, IsItem}
use Rattle.os_ast.specs.Names.{Scope, is_declared}
use Rattle.os_ast.specs.Notes.Kinds.{Global}
use Rattle.os_ast.specs.Notes.Programs.{param_list, in_function, in_body, after_params, params_notes, after_item, after_items, item_notes, items_notes}
use Rattle.os_ast.specs.Notes.Statements.{after_stmts, stmts_notes}
use Rattle.os_ast.specs.Trees as tree
use Rattle.os_ast.specs.Rules.{when}
use Rattle.os_ast.specs.declared.names.Owner.TheVariants as owner
use Rattle.window_check_laws.proofs.HasRoom.{room_less, room_stmts, room_in_body, room_item, owner_item}
use Rattle.window_check.proofs.Loops.{noted-loop}
use Rattle.window_check_names.proofs.AddedViolations.{with_violation-global}
use Rattle.window_check_names.proofs.Noted.{noted-append}
use Rattle.window_check.proofs.Restored.{ended_function}
use Rattle.window_check_names.specs.BrokenRules.{least_rule}
use Rattle.window_check_names.specs.Findings.{note, noted, with_violation}
use Rattle.window_check_names.specs.declared.found.Found.{Found}
use Rattle.window_check_laws.specs.Room.{HasRoom, stmts_weight, item_weight, items_weight, room_end}
use Rattle.window_check_names.specs.Scopes.{around_of, ended, with_function}
use Rattle.os_ast.specs.declared.rule.Rule.TheVariants as rule

pub body-scope : (s begun inside : Scope) (names : List Param) (f : tree.FunctionTree) → names ≡ param_list f.params → begun ≡ in_function s f.name.id → inside ≡ after_params begun names → inside ≡ in_body s f
body-scope s begun inside names f params begin given = rw (given, begin, params)

-- the counts have room for the function itself
pub function-room : (s inside after end : Scope) (f : tree.FunctionTree) → s.owner ≡ owner.OfFunction → HasRoom s (item_weight (tree.Function f)) →
    inside ≡ in_body s f → after ≡ after_stmts inside f.body → end ≡ ended (around_of s) after → end.functions + 1 ≤ room_end
function-room s inside after end f is room body stmts ending =
    let l = length (param_list f.params) in
    let w = stmts_weight f.body in
    let behind = room_stmts (in_body s f) f.body 1 (room_in_body s f (w + 1) is (room_less s (6 + l + w) (4 + l + (w + 1)) room (omega arith))) in
    rw (ending, stmts, body) behind.functions

pub function-scope : (s inside after end : Scope) (names : List Param) (f : tree.FunctionTree) → names ≡ param_list f.params →
    inside ≡ in_body s f → after ≡ after_stmts inside f.body → end ≡ ended (around_of s) after →
    with_function end (is_unsigned f.ty) f.name.id (length names) ≡ after_item s (tree.Function f)
function-scope s inside after end names f params body stmts ending =
    rw (ending, stmts, body, params) (ap (λ (e : Scope). with_function e (is_unsigned f.ty) f.name.id (length (param_list f.params))) (ended_function s f))

pub function-found : (f named given found : Found) (s begun inside : Scope) (names : List Param) (t : tree.FunctionTree) →
    names ≡ param_list t.params → begun ≡ in_function s t.name.id → inside ≡ in_body s t →
    named ≡ with_violation f t.name.mark (least_rule (when (is_declared s t.name.id) rule.DeclaredTwice)) → given ≡ noted named (params_notes begun names) →
    found ≡ noted given (stmts_notes inside t.body) → found ≡ noted f (item_notes s (tree.Function t))
function-found f named given found s begun inside names t params begin body adding giving finding =
    let ps = params_notes (in_function s t.name.id) (param_list t.params) in
    let ss = stmts_notes (in_body s t) t.body in
    rw (finding, giving, adding, body, begin, params)
    (ap (λ (g : Found). noted (noted g ps) ss) (with_violation-global f s t.name) ∙ sym (noted-append (note f (Global s t.name)) ps ss))

-- an item, and those behind it
pub items_room-first : (s : Scope) (is rest : List tree.ItemTree) (i : tree.ItemTree) → is ≡ i ∷ rest → HasRoom s (items_weight is) → HasRoom s (item_weight i)
items_room-first s is rest i split room = room_less s (items_weight (i ∷ rest)) (item_weight i) (rw split at room) (omega arith)

pub items_room-rest : (s after : Scope) (is rest : List tree.ItemTree) (i : tree.ItemTree) → is ≡ i ∷ rest → s.owner ≡ owner.OfFunction → HasRoom s (items_weight is) →
    after ≡ after_item s i → HasRoom after (items_weight rest)
items_room-rest s after is rest i split o room step = rw step (room_item s i (items_weight rest) o (rw split at room))

leveled_first : {i : tree.ItemTree} {rest : List tree.ItemTree} → AreAll IsItem (i ∷ rest) → IsItem i
leveled_first (cons h k) = h

leveled_rest : {i : tree.ItemTree} {rest : List tree.ItemTree} → AreAll IsItem (i ∷ rest) → AreAll IsItem rest
leveled_rest (cons h k) = k

pub items_leveled-first : (is rest : List tree.ItemTree) (i : tree.ItemTree) → is ≡ i ∷ rest → AreAll IsItem is → IsItem i
items_leveled-first is rest i split leveled = leveled_first (rw split at leveled)

pub items_leveled-rest : (is rest : List tree.ItemTree) (i : tree.ItemTree) → is ≡ i ∷ rest → AreAll IsItem is → AreAll IsItem rest
items_leveled-rest is rest i split leveled = leveled_rest (rw split at leveled)

pub items_scopes-rest : (s after end : Scope) (is rest : List tree.ItemTree) (i : tree.ItemTree) → is ≡ i ∷ rest →
    after_items s is ≡ end → after ≡ after_item s i → after_items after rest ≡ end
items_scopes-rest s after end is rest i split sofar step = rw step (rw split at sofar)

pub items_found-rest : (s after : Scope) (f found end : Found) (is rest : List tree.ItemTree) (i : tree.ItemTree) → is ≡ i ∷ rest →
    noted f (items_notes s is) ≡ end → after ≡ after_item s i → found ≡ noted f (item_notes s i) → noted found (items_notes after rest) ≡ end
items_found-rest s after f found end is rest i split sofar step noting =
    rw step
    (noted-loop f found (items_notes s (i ∷ rest)) (item_notes s i) (items_notes (after_item s i) rest) refl noting
    ∙ rw split at sofar)

pub items_owner-rest : (s after : Scope) (i : tree.ItemTree) → s.owner ≡ owner.OfFunction → after ≡ after_item s i → after.owner ≡ owner.OfFunction
items_owner-rest s after i is step = rw step (owner_item s i ∙ is)
