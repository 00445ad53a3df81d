-- What parts are to their input.
use Rattle.std.specs.Prelude.{◌≡◌, ℕ, suc, ◌+◌, ◌<◌, ◌≤◌, List, [], ◌∷◌, length, take, flat_map, All, ◌++◌}
use Rattle.osparts_parts.specs.declared.terms.Terms.{Terms}
use Rattle.osparts_parts.specs.Terms.{AreLawful}
use Rattle.osparts_parts.specs.Parts.{count_of, part_at, parts_of, past_overlaps}
use Rattle.osparts_parts.specs.Joined.{inputs_of, joined, last_bytes, state_after}

-- one after the other, the parts past their overlaps are the input: nothing of it is left out, doubled or out of order
abbrev pub PartsAreTheInput : Type 0
PartsAreTheInput = (bytes : List ℕ) (terms : Terms) → AreLawful terms →
    flat_map (λ part. part) (past_overlaps terms (parts_of bytes terms)) ≡ bytes

-- without an overlap the parts themselves are
abbrev pub PlainPartsAreTheInput : Type 0
PlainPartsAreTheInput = (bytes : List ℕ) (terms : Terms) → AreLawful terms → terms.overlap ≡ 0 →
    flat_map (λ part. part) (parts_of bytes terms) ≡ bytes

-- no part is longer than a part with its overlap
abbrev pub PartsAreShort : Type 0
PartsAreShort = (bytes : List ℕ) (terms : Terms) → All (λ part. length part ≤ terms.part + terms.overlap) (parts_of bytes terms)

-- what stands in front of a part is the end of the part before it
abbrev pub OverlapsAreEnds : Type 0
OverlapsAreEnds = (bytes : List ℕ) (terms : Terms) → AreLawful terms → (n : ℕ) → suc n < count_of terms.part (length bytes) →
    take terms.overlap (part_at bytes terms (suc n)) ≡ last_bytes terms.overlap (part_at bytes terms n)

-- an input without bytes has one part, and so has one that is no longer than a part, which is that part
abbrev pub ShortInputsAreOnePart : Type 0
ShortInputsAreOnePart = (bytes : List ℕ) (terms : Terms) → AreLawful terms → length bytes ≤ terms.part →
    parts_of bytes terms ≡ bytes ∷ []

-- where nothing is skipped and there is no state, outputs are joined as they are
abbrev pub PlainOutputsAreJoined : Type 0
PlainOutputsAreJoined = (outputs : List (List ℕ)) (terms : Terms) → terms.skip ≡ 0 → terms.state ≡ 0 →
    joined outputs terms ≡ flat_map (λ output. output) outputs

-- the state after outputs is the end of the last one
abbrev pub StatesAreEnds : Type 0
StatesAreEnds = (begin : List ℕ) (outputs : List (List ℕ)) (output : List ℕ) (terms : Terms) →
    state_after begin (outputs ++ output ∷ []) terms ≡ last_bytes terms.state output

-- after as many parts as outputs one more part is given with the state after these outputs
abbrev pub PartsAreGivenStates : Type 0
PartsAreGivenStates = (begin : List ℕ) (parts outputs : List (List ℕ)) (part : List ℕ) (terms : Terms) → length outputs ≡ length parts →
    inputs_of begin (parts ++ part ∷ []) outputs terms ≡ inputs_of begin parts outputs terms ++ (state_after begin outputs terms ++ part) ∷ []

-- an output changes nothing of what its part and those before it were given
abbrev pub InputsStay : Type 0
InputsStay = (begin : List ℕ) (parts outputs : List (List ℕ)) (output : List ℕ) (terms : Terms) → length parts ≤ suc (length outputs) →
    inputs_of begin parts (outputs ++ output ∷ []) terms ≡ inputs_of begin parts outputs terms
