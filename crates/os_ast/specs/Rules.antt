-- The rules over what stands at a token: what they speak of first, then the table of them by their codes. 23 is a rule for the whole
-- program, and stands with the violations.
use Rattle.std.specs.Prelude.{ℕ, ◌==◌, ◌&&◌, ◌||◌, Bool, true, false, not, if◌then◌else◌, ltb, List, [], ◌∷◌, length, Option, is_none, ℤ}
use Rattle.std.specs.List.{flat_map}
use Rattle.std.specs.Option.{option_map_or}
use Rattle.os_ast.specs.Limits.{is_size, elements_limit, arrays_limit, streams_limit, items_limit, captured_limit}
pub use Rattle.os_ast.specs.Names.{is_main_body}
use Rattle.os_ast.specs.Names.{Scope, lookup, entity_of, is_declared, main_id}
use Rattle.os_ast.specs.Notes.Declarators.{form, size_told, after_declarator}
use Rattle.os_ast.specs.Notes.Kinds.{Note, Used, Declared, Parameter, Global, Left, Returned, Pragma, Task, Listed}
use Rattle.os_ast.specs.ClauseMembers.{is_in}
use Rattle.os_ast.specs.declared.names.Direction.TheVariants as direction
use Rattle.os_ast.specs.declared.names.Entity.{Entity}
use Rattle.os_ast.specs.declared.names.Entity.TheVariants as entity
use Rattle.os_ast.specs.declared.names.Form.{Form}
use Rattle.os_ast.specs.declared.names.Form.TheVariants as form_of
use Rattle.os_ast.specs.declared.names.Owner.{Owner}
use Rattle.os_ast.specs.declared.names.Owner.TheVariants as owner
use Rattle.os_ast.specs.declared.names.Role.TheVariants as role
use Rattle.os_ast.specs.declared.names.Shape.{Shape}
use Rattle.os_ast.specs.declared.names.Shape.TheVariants as shape
use Rattle.os_ast.specs.declared.names.Use.{Use}
use Rattle.os_ast.specs.declared.names.Use.TheVariants as usage
use Rattle.os_ast.specs.declared.rule.Rule.{Rule}
use Rattle.os_ast.specs.declared.rule.Rule.TheVariants as rule

-- a rule for the used names that are declared, by the name's number, how it is used, and what it is declared as
abbrev pub UseRule : Type 0
UseRule = ℕ → Use → Entity → Bool

abbrev pub if_declared : (Entity → Bool) → Option Entity → Bool
if_declared test e = option_map_or test e false

-- what stands at a token is a used name, which violates such a rule
abbrev pub violates : UseRule → Note → Bool
violates rule (Used s n u) = if_declared (rule n.id u) (entity_of (lookup s.entries n.id))
violates rule _ = false

abbrev pub has_index : Shape → Bool
has_index shape.Bare = false
has_index shape.Indexed = true

-- a local array, a view or an array of streams
abbrev pub is_array : Entity → Bool
is_array (entity.Array first size) = true
is_array (entity.View item d) = true
is_array (entity.Streams first count) = true
is_array _ = false

abbrev pub is_function : Entity → Bool
is_function (entity.Function number params) = true
is_function _ = false

abbrev pub is_stream : Entity → Bool
is_stream (entity.Stream number) = true
is_stream (entity.Streams first count) = true
is_stream _ = false

abbrev pub is_a_window : Entity → Bool
is_a_window (entity.Window slot) = true
is_a_window _ = false

-- a scalar, an element, a constant, `osin_len` or a single stream: what is left
abbrev pub is_single : Entity → Bool
is_single e = not (is_array e || is_function e || is_a_window e)

-- a scalar that is declared in the control program
abbrev pub is_control : Entity → Bool
is_control (entity.Control slot) = true
is_control _ = false

abbrev pub is_input_length : Entity → Bool
is_input_length entity.InputLength = true
is_input_length _ = false

-- something that is no array with an index, or an array without
abbrev pub has_wrong_shape : Shape → Entity → Bool
has_wrong_shape s e = (is_single e && has_index s) || (is_array e && not (has_index s))

-- 11: a name of the wrong kind
abbrev pub is_wrong_kind : UseRule
-- the stream of an item or a tick is no stream, or has an index where it is single, or none where it is an array
is_wrong_kind id (usage.Place (role.Flow d) s) e = not (is_stream e) || has_wrong_shape s e
-- elsewhere: a function that isn't called; a local array, a view or an array of streams without an index; a scalar, an element,
-- a constant or a single stream with one
is_wrong_kind id (usage.Place r s) e = is_function e || has_wrong_shape s e
-- a call of what is no function, or of `main`
is_wrong_kind id (usage.Called args) e = not (is_function e) || (id == main_id)
-- what stands behind an arrow is neither a scalar of the control program nor a window; there a scalar has a burst, or a
-- window has none
is_wrong_kind id (usage.Joined s) e = (not (is_control e) && not (is_a_window e)) || (is_control e && has_index s) || (is_a_window e && not (has_index s))
-- a `firstprivate` name is neither a scalar of the control program nor `osin_len`
is_wrong_kind id usage.Private e = not (is_control e) && not (is_input_length e)

-- 13: a call has another number of arguments than the function has parameters
abbrev pub has_other_count : UseRule
has_other_count id (usage.Called args) (entity.Function number params) = not (args == params)
has_other_count id u e = false

-- an element or a view of an input item, a constant, `osin_len`, or a stream that is no element there
abbrev pub is_fixed : Entity → Bool
is_fixed (entity.Constant v) = true
is_fixed (entity.Element item direction.Reads) = true
is_fixed (entity.View item direction.Reads) = true
is_fixed e = is_input_length e || is_stream e

-- 14: a change of what may not be changed
abbrev pub is_changed : UseRule
is_changed id (usage.Place role.Changed s) e = is_fixed e
is_changed id u e = false

-- a local array or an array of streams whose size is neither a number nor the name of a constant, or isn't from 1 to
-- 65,536
abbrev pub has_no_size : Form → Option ℤ → Bool
has_no_size (form_of.Array n) told = not (is_size told)
has_no_size (form_of.Streams n) told = not (is_size told)
has_no_size _ told = false

-- in this scope the arrays of the function or task, those of the program, or its streams are too many
abbrev pub has_too_many : Scope → Form → Bool
has_too_many s (form_of.Array n) = ltb elements_limit s.elements || ltb arrays_limit s.arrays
has_too_many s form_of.Stream = ltb streams_limit s.streams
has_too_many s (form_of.Streams n) = ltb streams_limit s.streams
has_too_many s _ = false

-- directly in the outermost block of `main`, whose scope stands in the one that holds `osin`, in that of the file
abbrev pub is_outermost : Owner → ℕ → Bool
is_outermost o depth = is_main_body o && depth == 2

abbrev pub is_task_body : Owner → Bool
is_task_body owner.OfTask = true
is_task_body _ = false

-- 19: a stream is named where it is neither that of an item or a tick nor changed, which is 14
abbrev pub is_misplaced_stream : UseRule
is_misplaced_stream id (usage.Place role.Changed s) e = false
is_misplaced_stream id (usage.Place (role.Flow d) s) e = false
is_misplaced_stream id u e = is_stream e

-- 20: `osin`, which is stream 0, as the stream of an output item; `osout`, which is stream 1, as that of an input item
-- or a tick
abbrev pub is_wrong_end : UseRule
is_wrong_end id (usage.Place (role.Flow direction.Writes) s) (entity.Stream number) = number == 0
is_wrong_end id (usage.Place (role.Flow direction.Reads) s) (entity.Stream number) = number == 1
is_wrong_end id u e = false

-- more than 8 items, or more than 64 captured scalars
abbrev pub takes_more : ℕ → ℕ → Bool
takes_more items scalars = ltb items_limit items || ltb captured_limit scalars

-- 24: a window is named outside an item's window
abbrev pub is_misplaced_window : UseRule
is_misplaced_window id (usage.Joined s) e = false
is_misplaced_window id u e = is_a_window e

-- whether what stands at a token violates a rule
abbrev pub is_violated_by : Rule → Note → Bool
-- 10: a name that is used has no declaration in scope
is_violated_by rule.Unknown (Used s n u) = is_none (entity_of (lookup s.entries n.id))
-- 11: a name of the wrong kind
is_violated_by rule.WrongKind note = violates is_wrong_kind note
-- 12: a name is declared a second time in one scope
is_violated_by rule.DeclaredTwice (Declared s d) = is_declared s d.name.id
is_violated_by rule.DeclaredTwice (Parameter s p) = is_declared s p.name.id
is_violated_by rule.DeclaredTwice (Global s n) = is_declared s n.id
-- 13: a call has another number of arguments; 14: a change of what may not be changed
is_violated_by rule.ArgumentCount note = violates has_other_count note
is_violated_by rule.FixedChanged note = violates is_changed note
-- 15: the size is wrong, or with this declarator a limit is passed
is_violated_by rule.WrongSize (Declared s d) = has_no_size (form s d) (size_told s d.size) || has_too_many (after_declarator s d) (form s d)
-- 16: `break` or `continue` outside a loop of the same function or task
is_violated_by rule.OutsideLoop (Left s m) = not s.loop
-- 17: a pragma outside `main` or inside a task; a stream anywhere but directly in the outermost block of `main`
is_violated_by rule.Misplaced (Pragma s m) = not (is_main_body s.owner)
is_violated_by rule.Misplaced (Task s m items captured) = not (is_main_body s.owner)
is_violated_by rule.Misplaced (Declared s d) = d.stream && not (is_outermost s.owner s.depth)
-- 18: `return` in a task
is_violated_by rule.ReturnInTask (Returned s m) = is_task_body s.owner
-- 19: a stream is named elsewhere; 20: `osin` is written, or `osout` read
is_violated_by rule.MisplacedStream note = violates is_misplaced_stream note
is_violated_by rule.WrongEnd note = violates is_wrong_end note
-- 21: a name stands a second time in the clauses of a task
is_violated_by rule.ListedTwice (Listed before n) = is_in n.id before
-- 22: a task has too many items, or captures too many scalars
is_violated_by rule.TaskLimit (Task s m items captured) = takes_more items (length captured)
-- 24: a window is named elsewhere
is_violated_by rule.MisplacedWindow note = violates is_misplaced_window note
-- no other token violates a rule
is_violated_by _ _ = false

-- the rule, where it is violated
abbrev pub when : Bool → Rule → List Rule
when holds r = if holds then r ∷ [] else []

-- the rules for what stands at a token
abbrev pub note_rules : List Rule
note_rules =
    rule.Unknown ∷ rule.WrongKind ∷ rule.DeclaredTwice ∷ rule.ArgumentCount ∷ rule.FixedChanged ∷ rule.WrongSize ∷
    rule.OutsideLoop ∷ rule.Misplaced ∷ rule.ReturnInTask ∷ rule.MisplacedStream ∷ rule.WrongEnd ∷
    rule.ListedTwice ∷ rule.TaskLimit ∷ rule.MisplacedWindow ∷ []

-- the rules that what stands at a token violates
abbrev pub broken : Note → List Rule
broken n = flat_map (λ r. when (is_violated_by r n) r) note_rules
