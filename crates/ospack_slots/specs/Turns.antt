-- What one turn of packing or unpacking leaves, and all turns so far.
use Rattle.std.specs.Prelude.{◌≡◌, ℕ, ◌<◌, List, [], length, take, flat_map, Result, Ok, Err}
use Rattle.std.specs.Io.KnownBytes.{IsAtEnd}
use Rattle.ospack_slots.specs.Slots.{AreParts}
use Rattle.ospack_slots.specs.Formats.{Format, IsUnended}
use Rattle.ospack_slots.specs.Answers.{Moment, Went}
use Rattle.ospack_slots.specs.declared.errors.SlotFault.TheVariants.{EndsEarly}
use Rattle.ospack_slots.specs.declared.errors.PackError.{PackError}
use Rattle.ospack_slots.specs.declared.errors.PackError.TheVariants.{Slot, Read, Write, Memory, Uncounted}
use Rattle.ospack_slots.specs.declared.turn.Turn.{Turn}
use Rattle.ospack_slots.specs.declared.turn.Turn.TheVariants.{Done, End}

-- what the turn for the part with this number leaves
abbrev pub IsTurn : Format → ℕ → Moment → Moment → Result Turn PackError → Type 0
IsTurn f number before after (Ok Done) =
    (part payload : List ℕ) × f.IsPart part payload × Went part (f.written payload) before after
IsTurn f number before after (Ok End) = Went [] [] before after × IsAtEnd after.left
IsTurn f number before after (Err (Slot n fault)) =
    (rest : List ℕ) × f.IsRefused rest fault × Went rest [] before after × (n ≡ number) × (fault ≡ EndsEarly → IsAtEnd after.left)
IsTurn f number before after (Err Read) = (rest : List ℕ) × IsUnended f rest × Went rest [] before after
IsTurn f number before after (Err (Write e)) =
    (part payload : List ℕ) × (n : ℕ) × f.IsPart part payload × (n < length (f.written payload))
    × Went part (take n (f.written payload)) before after
IsTurn f number before after (Err Memory) = ⊥
IsTurn f number before after (Err Uncounted) = ⊥

-- `number` parts were read, and all that is to be written of them was written
pub record WentSoFar (f : Format) (number : ℕ) (before after : Moment) : Type 0 where
  pub payloads : List (List ℕ)
  pub whole : List ℕ
  pub parts : AreParts f.IsPart whole payloads
  pub counted : length payloads ≡ number
  pub went : Went whole (flat_map f.written payloads) before after
