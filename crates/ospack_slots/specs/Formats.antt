-- What packing and unpacking take, what they write of it, and what they refuse.
use Rattle.std.specs.Prelude.{◌≡◌, ℕ, ◌+◌, ◌<◌, ◌≤◌, ◌⊎◌, List, [], length}
use Rattle.ospack_slots.specs.Slots.{IsSlotOf, IsPieceOf, HasLength, piece, slot_of}
use Rattle.ospack_slots.specs.declared.errors.SlotFault.{SlotFault}
use Rattle.ospack_slots.specs.declared.errors.SlotFault.TheVariants.{EndsEarly, TooLong}
use Rattle.ospack_slots.specs.declared.way.Way.{Way}
use Rattle.ospack_slots.specs.declared.way.Way.TheVariants.{Packing, Unpacking}

pub record Format : Type 1 where
  -- whether bytes are one part of the input, and its payload
  pub IsPart : List ℕ → List ℕ → Type 0
  -- what is written of a payload
  pub written : List ℕ → List ℕ
  -- what is wrong with bytes that stand where a part would
  pub IsRefused : List ℕ → SlotFault → Type 0

-- no whole slot: the bytes end inside it, or it is whole and its length passes what it holds
abbrev pub IsNoSlot : ℕ → List ℕ → SlotFault → Type 0
IsNoSlot size bytes EndsEarly = (0 < length bytes) × (length bytes < size)
IsNoSlot size bytes (TooLong n) = (size ≤ length bytes) × HasLength bytes n × (size < n + 2)

-- no whole piece: the bytes end inside its length, or inside as many bytes as that says; or the length passes what a slot
-- holds
abbrev pub IsNoPiece : ℕ → List ℕ → SlotFault → Type 0
IsNoPiece size bytes EndsEarly =
    (length bytes ≡ 1) ⊎ ((n : ℕ) × HasLength bytes n × (n + 2 ≤ size) × (length bytes < n + 2))
IsNoPiece size bytes (TooLong n) = HasLength bytes n × (size < n + 2)

-- from slots to pieces
abbrev pub packing : ℕ → Format
packing size = record { IsPart = IsSlotOf size; written = piece; IsRefused = IsNoSlot size }

-- from pieces to slots
abbrev pub unpacking : ℕ → Format
unpacking size = record { IsPart = IsPieceOf size; written = slot_of size; IsRefused = IsNoPiece size }

abbrev pub format_of : Way → ℕ → Format
format_of Packing size = packing size
format_of Unpacking size = unpacking size

-- bytes that are none, or those of a part that hasn't ended
abbrev pub IsUnended : Format → List ℕ → Type 0
IsUnended f bytes = (bytes ≡ []) ⊎ f.IsRefused bytes EndsEarly
