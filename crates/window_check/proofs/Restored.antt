-- Behind a block, a `for`, a task and a function what was entered is restored.
use Rattle.std.proofs.Common.{◌≡◌, ℕ, List, [], ◌∷◌}
use Rattle.os_ast.specs.declared.program.Param.{Param}
use Rattle.os_ast.proofs.Kept.{keeps-declarators, keeps-stmt, keeps-stmts, keeps-then}
use Rattle.os_ast.specs.Kept.{Keeps, same, more}
use Rattle.os_ast.specs.Names.{Scope, declare, enter, in_loop, in_unit, leave, after_unit, typed, flagged}
use Rattle.os_ast.specs.Notes.Clauses.{in_task}
use Rattle.os_ast.specs.Notes.Declarators.{after_start}
use Rattle.os_ast.specs.Notes.Programs.{in_body, in_function, after_param, after_params, round_body, owner_of, param_list}
use Rattle.os_ast.specs.Notes.Statements.{after_stmt, after_stmts}
use Rattle.os_ast.specs.Trees as tree
use Rattle.os_ast.specs.declared.names.Owner.{Owner}
use Rattle.os_ast.specs.declared.names.Owner.TheVariants as owner
use Rattle.window_check_names.proofs.Restored.{returned_leave, ended_unit}
use Rattle.window_check_names.specs.Scopes.{outer_of, around_of, returned, ended}
use Rattle.window_check_names.specs.Members.{after_names}
use Rattle.window_check.specs.Statements.{in_named_task}
use Rattle.window_check_names.specs.declared.members.ItemName.{ItemName}

-- a block
pub returned_block : (s : Scope) (ss : tree.Stmts) → returned (outer_of s) (after_stmts (enter s) ss) ≡ leave s (after_stmts (enter s) ss)
returned_block s ss = returned_leave s (after_stmts (enter s) ss) (keeps-stmts (enter s) ss)

keeps_start : (s : Scope) (start : tree.StartTree) → Keeps s.entries (after_start s start).entries
keeps_start s tree.StartTree.Empty = same
keeps_start s (tree.StartTree.Declare t ds) = keeps-declarators (typed t s) ds
keeps_start s (tree.StartTree.Change c) = same

-- a `for`
pub returned_for : (s : Scope) (start : tree.StartTree) (a : tree.StmtTree) →
    returned (outer_of s) (after_stmt (in_loop (after_start (enter s) start)) a) ≡ leave s (after_stmt (in_loop (after_start (enter s) start)) a)
returned_for s start a =
    let head = after_start (enter s) start in
    returned_leave s (after_stmt (in_loop head) a) (keeps-then (keeps_start (enter s) start) (keeps-stmt (in_loop head) a))

keeps_names : (s : Scope) (is : List ItemName) → Keeps s.entries (after_names s is).entries
keeps_names s [] = same
keeps_names s (i ∷ is) =
    let named = declare (flagged i.unsigned s) i.id i.entity in
    keeps-then {a = s.entries} {b = named.entries} (more same) (keeps_names named is)

-- a task
pub ended_task : (s : Scope) (slots : List ℕ) (is : List ItemName) (a : tree.StmtTree) →
    ended (around_of s) (after_stmt (in_named_task s slots is) a) ≡ after_unit s (after_stmt (in_named_task s slots is) a)
ended_task s slots is a =
    let inner = in_named_task s slots is in
    ended_unit s (after_stmt inner a) (keeps-then (keeps_names (in_task s slots) is) (keeps-stmt inner a))

keeps_params : (s : Scope) (ns : List Param) → Keeps s.entries (after_params s ns).entries
keeps_params s [] = same
keeps_params s (n ∷ ns) = keeps-then {a = s.entries} {b = (after_param s n).entries} (more same) (keeps_params (after_param s n) ns)

keeps_round : (o : Owner) (s : Scope) → Keeps s.entries (round_body o s).entries
keeps_round owner.OfMain s = more (more (more same))
keeps_round owner.OfFunction s = same
keeps_round owner.OfTask s = same

keeps_in_body : (s : Scope) (f : tree.FunctionTree) → Keeps s.entries (in_body s f).entries
keeps_in_body s f =
    let o = owner_of f.name.id in
    keeps-then (keeps_round o (enter (in_unit o s))) (keeps_params (in_function s f.name.id) (param_list f.params))

-- a function
pub ended_function : (s : Scope) (f : tree.FunctionTree) →
    ended (around_of s) (after_stmts (in_body s f) f.body) ≡ after_unit s (after_stmts (in_body s f) f.body)
ended_function s f =
    ended_unit s (after_stmts (in_body s f) f.body) (keeps-then (keeps_in_body s f) (keeps-stmts (in_body s f) f.body))
