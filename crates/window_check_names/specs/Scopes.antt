-- What the ends of scopes and bodies restore.
use Rattle.std.specs.Prelude.{ℕ, Bool, ◌+◌, ◌-◌, length, drop}
use Rattle.os_ast.specs.Names.{Scope, flagged, declare}
use Rattle.os_ast.specs.declared.names.Entity.TheVariants as entity
use Rattle.window_check_names.specs.declared.scopes.EnclosingBody.{EnclosingBody}
use Rattle.window_check_names.specs.declared.scopes.Outer.{Outer}
use Rattle.window_check_names.specs.declared.scopes.Totals.{Totals}

abbrev pub outer_of : Scope → Outer
outer_of s = record { declared = length s.entries; depth = s.depth; in_loop = s.loop }

abbrev pub around_of : Scope → EnclosingBody
around_of s = record { outer = outer_of s; owner = s.owner; captured = s.captured; slots = s.slots; elements = s.elements }

abbrev pub returned : Outer → Scope → Scope
returned o s = record s { entries = drop (length s.entries - o.declared) s.entries; depth = o.depth; loop = o.in_loop }

abbrev pub ended : EnclosingBody → Scope → Scope
ended a s = record (returned a.outer s) { owner = a.owner; captured = a.captured; slots = a.slots; elements = a.elements }

-- the scope with so much taken of the program
abbrev pub with_totals : Totals → Scope → Scope
with_totals t s = record s { arrays = t.arrays; streams = t.streams; functions = t.functions }

-- the scope with one more function
abbrev pub with_function : Scope → Bool → ℕ → ℕ → Scope
with_function s unsigned id params = declare (flagged unsigned (record s { functions = s.functions + 1 })) id (entity.Function s.functions params)
