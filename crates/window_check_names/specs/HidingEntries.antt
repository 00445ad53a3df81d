-- Declarations as they are kept: each with the one that it hides.
use Rattle.std.specs.Prelude.{◌≡◌, ⊤, List, [], ◌∷◌}
use Rattle.os_ast.specs.Names.{lookup}
use Rattle.os_ast.specs.declared.names.Entry.{Entry}
use Rattle.window_check_names.specs.declared.declared.HidingEntry.{HidingEntry}

-- the declarations, from the newest on
abbrev pub entries_onto : List Entry → List HidingEntry → List Entry
entries_onto es [] = es
entries_onto es (r ∷ rs) = entries_onto (r.entry ∷ es) rs

abbrev pub entries : List HidingEntry → List Entry
entries rows = entries_onto [] rows

-- each hides what was the newest of its name before it
abbrev pub HidesFrom : List Entry → List HidingEntry → Type 0
HidesFrom es [] = ⊤
HidesFrom es (r ∷ rs) = (r.hidden ≡ lookup es r.entry.id) × HidesFrom (r.entry ∷ es) rs

abbrev pub Hides : List HidingEntry → Type 0
Hides rows = HidesFrom [] rows
