-- A code while it is made: one unit for each function, then one for each task of `main`, each in the order of the text.
use Rattle.std.specs.Prelude.{ℕ, ◌+◌, ◌-◌, ◌==◌, ◌^◌, min, Bool, true, false, List, [], ◌∷◌, ◌++◌, map, length, get_or, Option, Some, None, slice_get, pos}
use Rattle.lowering_draft.specs.Draft.{next_label, with_instrs, with_label, with_place, with_places}
use Rattle.lowering_draft.specs.Emission.Expressions.{Emission}
use Rattle.lowering_draft.specs.Emission.Statements.{StmtPart, block_code, stmt_code}
use Rattle.lowering_draft.specs.declared.draft.Draft.{Draft}
use Rattle.lowering_draft.specs.declared.draft.Label.{Label}
use Rattle.lowering_draft.specs.declared.exits.Exits.{Exits}
use Rattle.lowering_draft.specs.declared.units.Units.{Units}
use Rattle.os_ast.specs.Names.{main_id}
use Rattle.os_ast.specs.Notes.Programs.{param_list}
use Rattle.os_ast.specs.ClauseMembers.{members}
use Rattle.os_ast.specs.Trees as tree
use Rattle.os_ast.specs.Views.{clause_tree, stmt_tree}
use Rattle.os_ast.specs.declared.names.Owner.TheVariants as owner
use Rattle.os_ast.specs.declared.names.Resolved.{Resolved}
use Rattle.os_ast.specs.declared.pragma.TaskSite.{TaskSite}
use Rattle.os_code.specs.declared.instr.Instr.{Instr}
use Rattle.os_code.specs.declared.instr.Instr.TheVariants.{Push, Return, End}
use Rattle.os_code.specs.declared.parts.Parts.{Parts}
use Rattle.os_code.specs.declared.site.Site.{Site}
use Rattle.lowering_relation.specs.Programs.{size_by}
use Rattle.lowering_relation.specs.Tasks.{TaskTree, program_tasks, site_items}
use Rattle.window_check_laws.specs.Sums.{stmt_slots, stmts_slots}

-- the tree of a task's pragma
abbrev pub task_tree : TaskSite → TaskTree
task_tree t = record { mark = t.mark; members = members (map clause_tree t.clauses); body = stmt_tree t.body }

-- `break` and `continue` outside loops go to the end of the body.
abbrev pub exits_of : (end : Label) → (leaves : Instr) → Exits
exits_of end leaves = record { broke = end; continued = end; leaves = leaves }

-- a body, its end, and what stands behind it
abbrev pub framed_code : (end : Label) → (leaves : Instr) → StmtPart → (falls : List Instr) → Emission
framed_code end leaves body falls draft = with_instrs (with_place (body (exits_of end leaves) None draft) end) falls

abbrev pub body_code : (leaves : Instr) → StmtPart → (falls : List Instr) → Emission
body_code leaves body falls draft = framed_code (next_label draft) leaves body falls (with_label draft)

abbrev pub function_code : (ℕ → Resolved) → tree.Stmts → Emission
function_code tells body = body_code Return (block_code tells body) (Push (pos 0) ∷ Return ∷ [])

abbrev pub main_code : (ℕ → Resolved) → tree.Stmts → Emission
main_code tells body = body_code End (block_code tells body) (End ∷ [])

abbrev pub task_code : (ℕ → Resolved) → tree.StmtTree → Emission
task_code tells body = body_code End (stmt_code tells body) (End ∷ [])

-- the greatest number of slots that a unit may name
abbrev pub capped : ℕ → ℕ
capped n = min n (2 ^ 32 - 1)

abbrev pub with_draft : Emission → Units → Units
with_draft code made = record made { draft = code made.draft }

-- A unit's region is from a place to where the draft ends; its stack is never higher than its region is long.
abbrev pub unit_from : (start args slots : ℕ) → Units → Units
unit_from start args slots made = record made {
  units = made.units ++ record { start = start; args = args; slots = slots; stack = length made.draft.instrs - start } ∷ [];
}

abbrev pub with_unit : Emission → (args slots : ℕ) → Units → Units
with_unit code args slots made = unit_from (length made.draft.instrs) args slots (with_draft code made)

abbrev pub with_main : (ℕ → Resolved) → tree.FunctionTree → Units → Units
with_main tells f made =
    record (with_unit (main_code tells f.body) 1 (capped (1 + stmts_slots owner.OfMain (size_by tells) f.body)) made) { main = length made.units }

abbrev pub with_plain : (ℕ → Resolved) → tree.FunctionTree → Units → Units
with_plain tells f made =
    with_unit (function_code tells f.body) (length (param_list f.params))
    (capped (length (param_list f.params) + stmts_slots owner.OfFunction (size_by tells) f.body)) made

abbrev pub with_function : (is_main : Bool) → (ℕ → Resolved) → tree.FunctionTree → Units → Units
with_function true tells f made = with_main tells f made
with_function false tells f made = with_plain tells f made

abbrev pub with_item : (ℕ → Resolved) → tree.ItemTree → Units → Units
with_item tells (tree.Constant c) made = made
with_item tells (tree.Function f) made = with_function (f.name.id == main_id) tells f made

abbrev pub with_functions : (ℕ → Resolved) → List tree.ItemTree → Units → Units
with_functions tells [] made = made
with_functions tells (i ∷ is) made = with_functions tells is (with_item tells i made)

abbrev pub with_site : Site → Units → Units
with_site site made = record made { sites = made.sites ++ site ∷ [] }

-- a task that captures these slots of `main`
abbrev pub with_capturing : (ℕ → Resolved) → (slots : List ℕ) → TaskTree → Units → Units
with_capturing tells slots t made =
    with_site (record { unit = length made.units; line = t.mark.line; captured = slots; items = site_items tells t.members })
    (with_unit (task_code tells t.body) (length slots) (capped (length slots + stmt_slots owner.OfTask (size_by tells) t.body)) made)

abbrev pub with_task : (ℕ → Resolved) → (captured : List (List ℕ)) → TaskTree → Units → Units
with_task tells captured t made = with_capturing tells (get_or captured (length made.sites) []) t made

abbrev pub with_tasks : (ℕ → Resolved) → (captured : List (List ℕ)) → List TaskTree → Units → Units
with_tasks tells captured [] made = made
with_tasks tells captured (t ∷ ts) made = with_tasks tells captured ts (with_task tells captured t made)

abbrev pub no_units : Units
no_units = record { draft = record { instrs = []; places = []; spawned = 0 }; units = []; sites = []; main = 0 }

-- all units of a program
abbrev pub program_units : (ℕ → Resolved) → (captured : List (List ℕ)) → List tree.ItemTree → Units
program_units tells captured p = with_tasks tells captured (program_tasks p) (with_functions tells p no_units)

-- the place of a label, or 0 where it has none
abbrev pub place_or : Option (Option ℕ) → ℕ
place_or (Some (Some at)) = at
place_or _ = 0

abbrev pub place_in : List (Option ℕ) → (label : ℕ) → ℕ
place_in places label = place_or (slice_get places label)

-- Each label gives way to its place.
abbrev pub resolved : Draft → List Instr
resolved draft = map (with_places (place_in draft.places)) draft.instrs

abbrev pub parts_made : (streams : ℕ) → Units → Parts
parts_made streams made = record { instrs = resolved made.draft; units = made.units; sites = made.sites; main = made.main; streams = streams }
