-- What slots hold, what is packed of them, and how a list of bytes is made of such parts.
use Rattle.std.specs.Prelude.{◌≡◌, ℕ, ◌+◌, ◌-◌, ◌/◌, ◌%◌, ◌≤◌, List, [], ◌∷◌, ◌++◌, length, replicate}

-- a length as two bytes, the lowest first
abbrev pub length_bytes : ℕ → List ℕ
length_bytes n = n % 256 ∷ n / 256 ∷ []

-- what is packed of a payload: its length and its bytes, and nothing else
abbrev pub piece : List ℕ → List ℕ
piece payload = length_bytes (length payload) ++ payload

-- a slot of this size has the payload: it begins with its piece, and what stands behind that is ignored
pub record IsSlotOf (size : ℕ) (slot payload : List ℕ) : Type 0 where
  pub long : length slot ≡ size
  pub ignored : List ℕ
  pub holds : slot ≡ piece payload ++ ignored

-- the bytes are the piece of the payload, which fits into a slot of this size
pub record IsPieceOf (size : ℕ) (bytes payload : List ℕ) : Type 0 where
  pub fits : length payload + 2 ≤ size
  pub holds : bytes ≡ piece payload

-- the slot of this size that has the payload and zeros behind it
abbrev pub slot_of : ℕ → List ℕ → List ℕ
slot_of size payload = piece payload ++ replicate (size - length (piece payload)) 0

-- the bytes begin with this length
pub record HasLength (bytes : List ℕ) (n : ℕ) : Type 0 where
  pub behind : List ℕ
  pub holds : bytes ≡ length_bytes n ++ behind

-- the bytes are parts one after another, which have these payloads
pub data AreParts (IsPart : List ℕ → List ℕ → Type 0) : List ℕ → List (List ℕ) → Type 0 where
  none : AreParts IsPart [] []
  more : (part payload rest : List ℕ) (payloads : List (List ℕ)) → IsPart part payload → AreParts IsPart rest payloads →
      AreParts IsPart (part ++ rest) (payload ∷ payloads)
