-- Slots and pieces one after another, and what becomes of them.
use Rattle.std.proofs.Common.{◌≡◌, ℕ, ◌+◌, ◌-◌, ◌≤◌, List, [], ◌∷◌, ◌++◌, length, replicate, refl, sym, ap, ◌∙◌, subst, append_assoc, append-nil, length-append, arith}
use Rattle.std.proofs.lemmas.List.{length-replicate}
use Rattle.std.specs.Prelude.{flat_map}
use Rattle.ospack_slots.specs.Slots.{IsSlotOf, IsPieceOf, AreParts, piece, slot_of}
use Rattle.ospack_slots.specs.Slots.AreParts.{none, more}

-- one more part
pub parts_then : {IsPart : List ℕ → List ℕ → Type 0} {bytes : List ℕ} {payloads : List (List ℕ)} → AreParts IsPart bytes payloads
    → (part payload : List ℕ) → IsPart part payload → AreParts IsPart (bytes ++ part) (payloads ++ payload ∷ [])
parts_then {IsPart = P} none part payload is =
    subst (λ (b : List ℕ). AreParts P b (payload ∷ [])) (append-nil part) (more part payload [] [] is none)
parts_then {IsPart = P} (more p q r qs here parts) part payload is =
    subst (λ (b : List ℕ). AreParts P b (q ∷ (qs ++ payload ∷ []))) (sym (append_assoc p r part)) (more p q (r ++ part) (qs ++ payload ∷ []) here (parts_then parts part payload is))

-- a slot has at least the bytes of its piece
pub slot_length : (size : ℕ) (slot payload : List ℕ) → IsSlotOf size slot payload → length payload + 2 ≤ size
slot_length size slot payload is =
    let long : length slot ≡ size = is.long in
    let whole : length slot ≡ length (piece payload ++ is.ignored) = ap length is.holds in
    let parts : length (piece payload ++ is.ignored) ≡ length (piece payload) + length is.ignored = length-append (piece payload) is.ignored in
    omega arith

pub packs : {size : ℕ} {bytes : List ℕ} {payloads : List (List ℕ)} → AreParts (IsSlotOf size) bytes payloads
    → AreParts (IsPieceOf size) (flat_map piece payloads) payloads
packs none = none
packs {size = size} (more p q r qs here parts) =
    more (piece q) q (flat_map piece qs) qs (record { fits = slot_length size p q here; holds = refl }) (packs parts)

-- with `n` zeros behind them the bytes are `n` more
padded : (n : ℕ) (xs : List ℕ) → length (xs ++ replicate n 0) ≡ length xs + n
padded n xs = length-append xs (replicate n 0) ∙ ap (λ (k : ℕ). length xs + k) (length-replicate {A = ℕ} n 0)

slot_long : (size : ℕ) (payload : List ℕ) → length payload + 2 ≤ size → length (slot_of size payload) ≡ size
slot_long size payload fits =
    let long : length (payload ++ replicate (size - length (piece payload)) 0) ≡ length payload + (size - length (piece payload)) =
    padded (size - length (piece payload)) payload in
    omega arith

is_slot : (size : ℕ) (payload : List ℕ) → length payload + 2 ≤ size → IsSlotOf size (slot_of size payload) payload
is_slot size payload fits =
    record { long = slot_long size payload fits; ignored = replicate (size - length (piece payload)) 0; holds = refl }

pub unpacks : {size : ℕ} {bytes : List ℕ} {payloads : List (List ℕ)} → AreParts (IsPieceOf size) bytes payloads
    → AreParts (IsSlotOf size) (flat_map (slot_of size) payloads) payloads
unpacks none = none
unpacks {size = size} (more p q r qs here parts) =
    more (slot_of size q) q (flat_map (slot_of size) qs) qs (is_slot size q here.fits) (unpacks parts)

pub back : {size : ℕ} {bytes : List ℕ} {payloads : List (List ℕ)} → AreParts (IsPieceOf size) bytes payloads
    → flat_map piece payloads ≡ bytes
back none = refl
back (more p q r qs here parts) =
    ap (λ (x : List ℕ). x ++ flat_map piece qs) (sym here.holds) ∙ ap (λ (x : List ℕ). p ++ x) (back parts)

pub saves : {size : ℕ} {bytes : List ℕ} {payloads : List (List ℕ)} → AreParts (IsSlotOf size) bytes payloads
    → length (flat_map piece payloads) ≤ length bytes
saves none = omega arith
saves {size = size} (more p q r qs here parts) =
    let short : length q + 2 ≤ size = slot_length size p q here in
    let long : length p ≡ size = here.long in
    let rest : length (flat_map piece qs) ≤ length r = saves parts in
    let one : length (piece q ++ flat_map piece qs) ≡ length (piece q) + length (flat_map piece qs) = length-append (piece q) (flat_map piece qs) in
    let two : length (p ++ r) ≡ length p + length r = length-append p r in
    omega arith
