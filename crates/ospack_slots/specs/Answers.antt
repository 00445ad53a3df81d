-- What packing and unpacking leave, answer by answer.
use Rattle.std.specs.Prelude.{◌≡◌, ℕ, ◌<◌, List, [], ◌++◌, length, take, flat_map, Option, Result, Ok, Err}
use Rattle.std.specs.Io.KnownBytes.{append_known, prepend_known, IsAtEnd}
use Rattle.os_io.specs.Counts.{raised, last_count}
use Rattle.ospack_slots.specs.Slots.{AreParts}
use Rattle.ospack_slots.specs.Formats.{Format, IsUnended}
use Rattle.ospack_slots.specs.declared.errors.SlotFault.TheVariants.{EndsEarly}
use Rattle.ospack_slots.specs.declared.errors.PackError.{PackError}
use Rattle.ospack_slots.specs.declared.errors.PackError.TheVariants.{Slot, Read, Write, Memory, Uncounted}

pub record Moment : Type 0 where
  -- what is left of the file, where that is told
  pub left : Option (List ℕ)
  -- how many bytes the file gave
  pub given : ℕ
  -- what the sink took, where that is told
  pub taken : Option (List ℕ)

-- between two moments these bytes were read and these were written; counts stand still at their last value
pub record Went (read written : List ℕ) (before after : Moment) : Type 0 where
  pub left : before.left ≡ prepend_known read after.left
  pub given : raised after.given 0 ≡ raised before.given (length read)
  pub taken : after.taken ≡ append_known before.taken written

-- whole parts with these payloads were read and then `rest`; of the payloads all was written, and then `more`
pub record Reached (f : Format) (before after : Moment) (payloads : List (List ℕ)) (rest more : List ℕ) : Type 0 where
  pub whole : List ℕ
  pub parts : AreParts f.IsPart whole payloads
  pub went : Went (whole ++ rest) (flat_map f.written payloads ++ more) before after

-- what each answer says of the bytes that were read and written
abbrev pub AnswersFor : {A : Type 0} → Format → Moment → Moment → Result A PackError → Type 0
-- where all went well, the file has been read to its end and holds nothing but parts
AnswersFor f before after (Ok _) =
    (payloads : List (List ℕ)) × Reached f before after payloads [] [] × IsAtEnd after.left
-- behind the parts before it stands one that is refused; where that ends early, so does the file
AnswersFor f before after (Err (Slot number fault)) =
    (payloads : List (List ℕ)) × (rest : List ℕ) × Reached f before after payloads rest []
    × f.IsRefused rest fault × (number ≡ length payloads) × (fault ≡ EndsEarly → IsAtEnd after.left)
-- what was read of a further part isn't written, and didn't reach that part's end
AnswersFor f before after (Err Read) =
    (payloads : List (List ℕ)) × (rest : List ℕ) × Reached f before after payloads rest [] × IsUnended f rest
-- of the last part that was read, not all was written
AnswersFor f before after (Err (Write _)) =
    (payloads : List (List ℕ)) × (part payload : List ℕ) × (n : ℕ)
    × Reached f before after payloads part (take n (f.written payload))
    × f.IsPart part payload × (n < length (f.written payload))
-- nothing was read
AnswersFor f before after (Err Memory) = Went [] [] before after
-- as many parts as can be counted were written
AnswersFor f before after (Err Uncounted) =
    (payloads : List (List ℕ)) × Reached f before after payloads [] [] × (length payloads ≡ last_count)
