-- Functions, constants and whole programs: what is in scope in them and after them, and what stands in them.
use Rattle.std.specs.Prelude.{ℕ, ◌+◌, ◌==◌, false, if◌then◌else◌, List, [], ◌∷◌, ◌++◌, length, fold}
use Rattle.os_ast.specs.Names.{Scope, declare, flagged, typed, enter, in_unit, after_unit, constant_value, main_id, osin_id, osout_id, osin_len_id}
use Rattle.os_ast.specs.Notes.Declarators.{scalar_entity}
use Rattle.os_ast.specs.Notes.Kinds.{Note, Parameter, Global}
use Rattle.os_ast.specs.Notes.Statements.{after_stmts, stmts_notes}
use Rattle.os_ast.specs.Trees as tree
use Rattle.os_ast.specs.declared.program.Param.{Param}
use Rattle.os_ast.specs.declared.program.Params.TheVariants as params_of
use Rattle.os_ast.specs.declared.program.Params.{Params}
use Rattle.os_ast.specs.declared.names.Owner.{Owner}
use Rattle.os_ast.specs.declared.names.Owner.TheVariants as owner
use Rattle.os_ast.specs.declared.names.Entity.TheVariants as entity

-- The control program is the function `main`.
abbrev pub owner_of : ℕ → Owner
owner_of id = if id == main_id then owner.OfMain else owner.OfFunction

abbrev pub param_list : Params → List Param
param_list (params_of.Names ps) = ps
param_list _ = []

-- The scope round the body of `main`, with `osin_len` in slot 0.
abbrev pub round_body : Owner → Scope → Scope
round_body owner.OfMain s =
    record (declare (declare (declare (flagged false s) osin_id (entity.Stream 0)) osout_id (entity.Stream 1)) osin_len_id entity.InputLength) { slots = 1 }
round_body _ s = s

-- the scope of a function's parameters and of its outermost block, before the parameters
abbrev pub in_function : Scope → ℕ → Scope
in_function s id = enter (round_body (owner_of id) (enter (in_unit (owner_of id) s)))

abbrev pub after_param : Scope → Param → Scope
after_param s p = declare (typed p.ty (record s { slots = s.slots + 1 })) p.name.id (scalar_entity s.owner s.slots)

abbrev pub after_params : Scope → List Param → Scope
after_params s ps = fold after_param s ps

abbrev pub params_notes : Scope → List Param → List Note
params_notes s [] = []
params_notes s (p ∷ ps) = Parameter s p ∷ params_notes (after_param s p) ps

-- A function is in scope from its body's end.
abbrev pub after_function : Scope → Scope → tree.FunctionTree → Scope
after_function s inner f = let after = after_unit s inner in
    declare (typed f.ty (record after { functions = after.functions + 1 })) f.name.id (entity.Function after.functions (length (param_list f.params)))

abbrev pub in_body : Scope → tree.FunctionTree → Scope
in_body s f = after_params (in_function s f.name.id) (param_list f.params)

-- the name that a constant or a function is declared by
abbrev pub global_id : tree.ItemTree → ℕ
global_id (tree.Constant c) = c.name.id
global_id (tree.Function f) = f.name.id

abbrev pub after_item : Scope → tree.ItemTree → Scope
after_item s (tree.Constant c) = declare (typed c.ty s) c.name.id (entity.Constant (constant_value c))
after_item s (tree.Function f) = after_function s (after_stmts (in_body s f) f.body) f

abbrev pub item_notes : Scope → tree.ItemTree → List Note
item_notes s (tree.Constant c) = Global s c.name ∷ []
item_notes s (tree.Function f) = Global s f.name ∷ params_notes (in_function s f.name.id) (param_list f.params) ++ stmts_notes (in_body s f) f.body

abbrev pub after_items : Scope → List tree.ItemTree → Scope
after_items s is = fold after_item s is

abbrev pub items_notes : Scope → List tree.ItemTree → List Note
items_notes s [] = []
items_notes s (i ∷ is) = item_notes s i ++ items_notes (after_item s i) is

-- the scope of the file, before its first item; it is no part of `main`
abbrev pub file : Scope
file = record {
  entries = [];
  depth = 0;
  owner = owner.OfFunction;
  loop = false;
  captured = [];
  slots = 0;
  elements = 0;
  arrays = 0;
  streams = 0;
  functions = 0;
  unsigned = false;
}

-- what stands at a program's tokens
abbrev pub program_notes : tree.ProgramTree → List Note
program_notes p = items_notes file p
