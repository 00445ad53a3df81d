-- What packing and unpacking are to one another.
use Rattle.std.specs.Prelude.{◌≡◌, ℕ, ◌<◌, ◌≤◌, List, [], ◌++◌, length, flat_map, Option, None, Some}
use Rattle.ospack_slots.specs.Slots.{IsSlotOf, IsPieceOf, AreParts, piece, slot_of}
use Rattle.ospack_slots.specs.Formats.{Format, IsUnended}
use Rattle.ospack_slots.specs.declared.errors.SlotFault.{SlotFault}

-- what is packed of slots are pieces, with the same payloads
abbrev pub PacksToPieces : Type 0
PacksToPieces = (size : ℕ) (bytes : List ℕ) (payloads : List (List ℕ)) → AreParts (IsSlotOf size) bytes payloads →
    AreParts (IsPieceOf size) (flat_map piece payloads) payloads

-- what is unpacked of pieces are slots, with the same payloads
abbrev pub UnpacksToSlots : Type 0
UnpacksToSlots = (size : ℕ) (bytes : List ℕ) (payloads : List (List ℕ)) → AreParts (IsPieceOf size) bytes payloads →
    AreParts (IsSlotOf size) (flat_map (slot_of size) payloads) payloads

-- packing what was unpacked gives the packed bytes back
abbrev pub PacksBack : Type 0
PacksBack = (size : ℕ) (bytes : List ℕ) (payloads : List (List ℕ)) → AreParts (IsPieceOf size) bytes payloads →
    flat_map piece payloads ≡ bytes

-- what is packed of slots is never longer than they are
abbrev pub NeverGrows : Type 0
NeverGrows = (size : ℕ) (bytes : List ℕ) (payloads : List (List ℕ)) → AreParts (IsSlotOf size) bytes payloads →
    length (flat_map piece payloads) ≤ length bytes

-- nothing more, or bytes that are refused for this
abbrev pub IsEnd : Format → List ℕ → Option SlotFault → Type 0
IsEnd f rest None = rest ≡ []
IsEnd f rest (Some fault) = f.IsRefused rest fault

-- the bytes are whole parts with these payloads, and then such an end
pub record Divides (f : Format) (bytes : List ℕ) (payloads : List (List ℕ)) (end : Option SlotFault) : Type 0 where
  pub whole : List ℕ
  pub rest : List ℕ
  pub parts : AreParts f.IsPart whole payloads
  pub holds : bytes ≡ whole ++ rest
  pub ends : IsEnd f rest end

-- bytes are divided in one way, and so have one list of payloads and one end
abbrev pub DividesOnce : (ℕ → Format) → Type 0
DividesOnce f = (size : ℕ) → 2 ≤ size → (bytes : List ℕ) (one other : List (List ℕ)) (end end' : Option SlotFault) →
    Divides (f size) bytes one end → Divides (f size) bytes other end' → (one ≡ other) × (end ≡ end')

-- a part that hasn't ended has fewer bytes than a slot
abbrev pub UnendedIsShort : (ℕ → Format) → Type 0
UnendedIsShort f = (size : ℕ) → 2 ≤ size → (bytes : List ℕ) → IsUnended (f size) bytes → length bytes < size
