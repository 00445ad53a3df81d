-- The rules that a used name violates, use by use, as the code finds them. Each comment tells them by their codes.
use Rattle.std.specs.Prelude.{ℕ, ◌==◌, not, List, [], ◌∷◌, ◌++◌}
use Rattle.os_ast.specs.Names.{main_id}
use Rattle.os_ast.specs.Rules.{when}
use Rattle.os_ast.specs.declared.names.Role.{Role}
use Rattle.os_ast.specs.declared.names.Role.TheVariants as role
use Rattle.os_ast.specs.declared.names.Shape.{Shape}
use Rattle.os_ast.specs.declared.names.Shape.TheVariants as shape
use Rattle.os_ast.specs.declared.names.Entity.{Entity}
use Rattle.os_ast.specs.declared.names.Entity.TheVariants as entity
use Rattle.os_ast.specs.declared.names.Direction.{Direction}
use Rattle.os_ast.specs.declared.names.Direction.TheVariants as direction
use Rattle.os_ast.specs.declared.names.Use.{Use}
use Rattle.os_ast.specs.declared.names.Use.TheVariants as usage
use Rattle.os_ast.specs.declared.rule.Rule.{Rule}
use Rattle.os_ast.specs.declared.rule.Rule.TheVariants as rule

-- 11: something that isn't an array stands with an index
abbrev pub no_index : Shape → List Rule
no_index shape.Bare = []
no_index shape.Indexed = rule.WrongKind ∷ []

-- 11: something that is an array stands without one
abbrev pub one_index : Shape → List Rule
one_index shape.Bare = rule.WrongKind ∷ []
one_index shape.Indexed = []

-- A name as a value. 11: a function that isn't called; a local array or view without index; a scalar, element,
-- constant or single stream with one; a stream array without one. 19: a stream that is no clause item's or tick's.
-- 24: a window.
abbrev pub value_rules : Shape → Entity → List Rule
value_rules s (entity.Constant v) = no_index s
value_rules s (entity.Function number params) = rule.WrongKind ∷ []
value_rules s (entity.Scalar slot) = no_index s
value_rules s (entity.Control slot) = no_index s
value_rules s entity.InputLength = no_index s
value_rules s (entity.Array first size) = one_index s
value_rules s (entity.Window slot) = rule.MisplacedWindow ∷ []
value_rules s (entity.Stream number) = no_index s ++ rule.MisplacedStream ∷ []
value_rules s (entity.Streams first count) = one_index s ++ rule.MisplacedStream ∷ []
value_rules s (entity.Element item d) = no_index s
value_rules s (entity.View item d) = one_index s

-- 14: an element of an input item is changed
abbrev pub only_read : Direction → List Rule
only_read direction.Reads = rule.FixedChanged ∷ []
only_read direction.Writes = []

-- A name as the target of a change. 14: an element or view of an input item, a constant, `osin_len`, or a stream.
-- 11 and 24 as for a value.
abbrev pub target_rules : Shape → Entity → List Rule
target_rules s (entity.Constant v) = no_index s ++ rule.FixedChanged ∷ []
target_rules s (entity.Function number params) = rule.WrongKind ∷ []
target_rules s (entity.Scalar slot) = no_index s
target_rules s (entity.Control slot) = no_index s
target_rules s entity.InputLength = no_index s ++ rule.FixedChanged ∷ []
target_rules s (entity.Array first size) = one_index s
target_rules s (entity.Window slot) = rule.MisplacedWindow ∷ []
target_rules s (entity.Stream number) = no_index s ++ rule.FixedChanged ∷ []
target_rules s (entity.Streams first count) = one_index s ++ rule.FixedChanged ∷ []
target_rules s (entity.Element item d) = no_index s ++ only_read d
target_rules s (entity.View item d) = one_index s ++ only_read d

-- 19 and 24 of a name where neither a stream nor a window may stand, beside 11
abbrev pub misplaced : Entity → List Rule
misplaced (entity.Stream number) = rule.WrongKind ∷ rule.MisplacedStream ∷ []
misplaced (entity.Streams first count) = rule.WrongKind ∷ rule.MisplacedStream ∷ []
misplaced (entity.Window slot) = rule.WrongKind ∷ rule.MisplacedWindow ∷ []
misplaced _ = rule.WrongKind ∷ []

-- A called name, by its number and the count of arguments. 11: it is no function, or it is `main`. 13: the function
-- has another number of parameters.
abbrev pub call_rules : ℕ → ℕ → Entity → List Rule
call_rules id args (entity.Function number params) = when (id == main_id) rule.WrongKind ++ when (not (args == params)) rule.ArgumentCount
call_rules id args e = misplaced e

-- what gives a stream its elements, or takes them: an input item or a tick, an output item
-- 20: `osout`, which is stream 1, is read, or `osin`, which is stream 0, is written
abbrev pub end_rules : Direction → ℕ → List Rule
end_rules direction.Reads number = when (number == 1) rule.WrongEnd
end_rules direction.Writes number = when (number == 0) rule.WrongEnd

-- The stream of an item or of a tick. 11: it is no stream, a single stream with index, or a stream array without.
abbrev pub stream_rules : Direction → Shape → Entity → List Rule
stream_rules d s (entity.Stream number) = no_index s ++ end_rules d number
stream_rules d s (entity.Streams first count) = one_index s
stream_rules d s (entity.Window slot) = rule.WrongKind ∷ rule.MisplacedWindow ∷ []
stream_rules d s _ = rule.WrongKind ∷ []

-- What follows `>>` or `<<` in an item, with a burst or without. 11: it is neither a scalar of the control program,
-- which has no burst, nor a window, which has one.
abbrev pub item_rules : Shape → Entity → List Rule
item_rules s (entity.Control slot) = no_index s
item_rules s (entity.Window slot) = one_index s
item_rules s e = misplaced e

-- A `firstprivate` name. 11: it is neither a scalar of the control program nor `osin_len`.
abbrev pub private_rules : Entity → List Rule
private_rules (entity.Control slot) = []
private_rules entity.InputLength = []
private_rules e = misplaced e

-- the rules that a name with an index or without violates, by where it stands
abbrev pub role_rules : Role → Shape → Entity → List Rule
role_rules role.Value = value_rules
role_rules role.Changed = target_rules
role_rules (role.Flow d) = stream_rules d

-- the rules that a used name violates, by its number
abbrev pub use_rules : ℕ → Use → Entity → List Rule
use_rules id (usage.Place r s) = role_rules r s
use_rules id (usage.Called args) = call_rules id args
use_rules id (usage.Joined s) = item_rules s
use_rules id usage.Private = private_rules
