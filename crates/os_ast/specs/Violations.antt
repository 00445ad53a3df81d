-- The violations of a program, its refusal, and what its names mean where there is none.
use Rattle.std.specs.Prelude.{◌≡◌, ℕ, ◌+◌, ◌<◌, ◌≤◌, ◌==◌, ◌&&◌, Bool, true, false, not, List, []}
use Rattle.std.specs.Prelude.{◌∷◌, ◌++◌, length, map, All, Contains, if◌then◌else◌, Option, Some, None, ℤ}
use Rattle.std.specs.List.{flat_map, list_any}
use Rattle.os_ast.specs.Captured.{slots_of}
use Rattle.os_ast.specs.Codes.{code}
use Rattle.os_ast.specs.Meanings.{what_declared, meaning_in, resolved}
use Rattle.os_ast.specs.Names.{lookup, entity_of, flag_of, main_id}
use Rattle.os_ast.specs.Notes.Declarators.{constant_of, declared_entity, scalar_entity}
use Rattle.os_ast.specs.Notes.Kinds.{Note, Used, Sized, Declared, Parameter, Task, mark_of}
use Rattle.os_ast.specs.Notes.Programs.{program_notes, after_items, file, param_list}
use Rattle.os_ast.specs.Rules.{broken}
use Rattle.os_ast.specs.Spelling.{spell}
use Rattle.os_ast.specs.Trees as tree
use Rattle.os_ast.specs.Unsigned.{is_unsigned}
use Rattle.os_ast.specs.declared.expr.Mark.{Mark}
use Rattle.os_ast.specs.declared.names.Entity.{Entity}
use Rattle.os_ast.specs.declared.names.Owner.{Owner}
use Rattle.os_ast.specs.declared.names.Owner.TheVariants as owner
use Rattle.os_ast.specs.declared.names.Resolved.{Resolved}
use Rattle.os_ast.specs.declared.names.What.TheVariants as what
use Rattle.os_ast.specs.declared.rule.Rule.{Rule}
use Rattle.os_ast.specs.declared.rule.Rule.TheVariants as rule
use Rattle.os_ast.specs.declared.ty.Ty.{Ty}
use Rattle.os_ast.specs.declared.violation.Violation.{Violation}

-- a violation by its parts
abbrev pub violated : ℕ → Rule → ℕ → Violation
violated place r line = record { place = place; rule = r; line = line }

-- the violations of one token
abbrev pub violations_at : Mark → List Rule → List Violation
violations_at m rules = map (λ r. violated m.place r m.line) rules

-- the violations of what stands in a program, or in a part of it
abbrev pub violations_of : List Note → List Violation
violations_of notes = flat_map (λ n. violations_at (mark_of n) (broken n)) notes

abbrev pub declared_meaning : Mark → Bool → Owner → List ℕ → Option Entity → List Resolved
declared_meaning m unsigned o captured None = []
declared_meaning m unsigned o captured (Some e) = resolved m.place (meaning_in o captured e) unsigned ∷ []

abbrev pub constant_meaning : Mark → Bool → Option ℤ → List Resolved
constant_meaning m unsigned None = []
constant_meaning m unsigned (Some v) = resolved m.place (what.Constant v) unsigned ∷ []

-- What a name means that is used, or is the size of an array, or declares a variable, and whether that is of the type `unsigned`
abbrev pub resolutions_of : Note → List Resolved
resolutions_of (Used s n u) = declared_meaning n.mark (flag_of (lookup s.entries n.id)) s.owner s.captured (entity_of (lookup s.entries n.id))
resolutions_of (Sized s n) = constant_meaning n.mark (flag_of (lookup s.entries n.id)) (constant_of (entity_of (lookup s.entries n.id)))
resolutions_of (Declared s d) = resolved d.name.mark.place (what_declared (declared_entity s d)) s.unsigned ∷ []
resolutions_of (Parameter s p) = resolved p.name.mark.place (what_declared (scalar_entity s.owner s.slots)) (is_unsigned p.ty) ∷ []
resolutions_of _ = []

abbrev pub resolutions : List Note → List Resolved
resolutions [] = []
resolutions (n ∷ rest) = resolutions_of n ++ resolutions rest

-- the captured scalars of a task that stands in `main`
abbrev pub main_task : Owner → List ℕ → List (List ℕ)
main_task owner.OfMain slots = slots ∷ []
main_task owner.OfFunction slots = []
main_task owner.OfTask slots = []

abbrev pub captures_of : Note → List (List ℕ)
captures_of (Task s m items captured) = main_task s.owner (slots_of captured)
captures_of _ = []

abbrev pub captures : List Note → List (List ℕ)
captures [] = []
captures (n ∷ rest) = captures_of n ++ captures rest

abbrev pub is_empty : {A : Type 0} → List A → Bool
is_empty [] = true
is_empty (x ∷ xs) = false

abbrev pub is_int : Ty → Bool
is_int t = not (is_unsigned t)

-- a function `main` of type `int` without parameters
abbrev pub is_main : tree.ItemTree → Bool
is_main (tree.Constant c) = false
is_main (tree.Function f) = (f.name.id == main_id) && is_int f.ty && is_empty (param_list f.params)

abbrev pub has_main : List tree.ItemTree → Bool
has_main items = list_any is_main items

-- 23: there is none; the place is the number of tokens, and the line 1
abbrev pub no_main : tree.ProgramTree → List Violation
no_main p = if has_main p then [] else violated (length (spell p)) rule.NoMain 1 ∷ []

-- The violations of a program. The list stands for the set of its members.
abbrev pub violations : tree.ProgramTree → List Violation
violations p = violations_of (program_notes p) ++ no_main p

-- v stands before w, or at the same place with a code that is no greater
pub data IsNotAbove (v w : Violation) : Type 0 where
  earlier : v.place < w.place → IsNotAbove v w
  same_place : v.place ≡ w.place → code v.rule ≤ code w.rule → IsNotAbove v w

-- the refusal is the least violation
pub record IsRefusal (p : tree.ProgramTree) (v : Violation) : Type 0 where
  pub among : Contains (violations p) v
  pub least : All (IsNotAbove v) (violations p)

-- What the names of a program without violations mean, in the order of places: each name that is used, or that
-- declares a parameter, or is a declarator's name.
abbrev pub names : tree.ProgramTree → List Resolved
names p = resolutions (program_notes p)

-- the slots in `main` of what each task captures, in the order of the text
abbrev pub captured_by_tasks : tree.ProgramTree → List (List ℕ)
captured_by_tasks p = captures (program_notes p)

-- `osin`, `osout`, and the streams that the program declares
abbrev pub streams : tree.ProgramTree → ℕ
streams p = 2 + (after_items file p).streams
