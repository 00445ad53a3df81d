-- A slot that was read, and what is packed of it.
use Rattle.std.proofs.Common.{◌≡◌, ℕ, suc, ◌+◌, ◌-◌, ◌/◌, ◌%◌, ◌≤◌, Option, List, [], ◌∷◌, ◌++◌, length, take, drop, sym, ap, ◌∙◌, subst, take_all, take-append-drop, length-take-le, arith}
use Rattle.std.specs.Io.KnownBytes.{append_known, prepend_known}
use Rattle.os_io.specs.Counts.{raised}
use Rattle.ospack_slots.specs.Slots.{IsSlotOf, HasLength, piece}
use Rattle.ospack_slots.specs.Answers.{Moment, Went}
use Rattle.ospack_slots.proofs.Turns.{read_went, wrote, read_then_wrote}

-- how many bytes stand behind the length
behind_long : (size n : ℕ) (slot : List ℕ) (h : HasLength slot n) → length slot ≡ size → n + 2 ≤ size → n ≤ length h.behind
behind_long size n slot h long fits =
    let whole : length slot ≡ suc (suc (length h.behind)) = ap length h.holds in
    omega arith

pub slot_read : (size n : ℕ) (slot : List ℕ) (h : HasLength slot n) → length slot ≡ size → n + 2 ≤ size
    → IsSlotOf size slot (take n h.behind)
slot_read size n slot h long fits =
    let count : length (take n h.behind) ≡ n = length-take-le n h.behind (behind_long size n slot h long fits) in
    record {
      long = long;
      ignored = drop n h.behind;
      holds = h.holds
          ∙ ap (λ (b : List ℕ). n % 256 ∷ n / 256 ∷ b) (sym (take-append-drop n h.behind))
          ∙ ap (λ (k : ℕ). k % 256 ∷ k / 256 ∷ (take n h.behind ++ drop n h.behind)) (sym count);
    }

pub piece_read : (size n m : ℕ) (slot : List ℕ) (h : HasLength slot n) → length slot ≡ size → n + 2 ≤ size → m ≡ n + 2
    → take m slot ≡ piece (take n h.behind)
piece_read size n m slot h long fits is =
    let count : length (take n h.behind) ≡ n = length-take-le n h.behind (behind_long size n slot h long fits) in
    let two : m ≡ suc (suc n) = omega arith in
    ap (λ (k : ℕ). take k slot) two
    ∙ ap (take (suc (suc n))) h.holds
    ∙ ap (λ (k : ℕ). k % 256 ∷ k / 256 ∷ take n h.behind) (sym count)

-- a slot that fills the buffer was read
pub whole_went : (count g h : ℕ) (told left taken : Option (List ℕ)) (slot : List ℕ) → count ≤ length slot → length slot ≤ count
    → told ≡ prepend_known (drop 0 (take count slot)) left → raised h 0 ≡ raised g (count - 0)
    → Went slot [] (record { left = told; given = g; taken = taken }) (record { left = left; given = h; taken = taken })
whole_went count g h told left taken slot low high read given =
    let a : Moment = record { left = told; given = g; taken = taken } in
    let b : Moment = record { left = left; given = h; taken = taken } in
    subst (λ (r : List ℕ). Went r [] a b) (take_all count slot high) (read_went 0 count g h told left taken slot read given low)

-- the slot was read, and its piece written
pub packed_turn : (size count n m g h : ℕ) (told left before after : Option (List ℕ)) (slot : List ℕ) → (has : HasLength slot n)
    → length slot ≡ size → n + 2 ≤ size → count ≤ length slot → length slot ≤ count
    → told ≡ prepend_known (drop 0 (take count slot)) left → raised h 0 ≡ raised g (count - 0)
    → m ≡ n + 2 → after ≡ append_known before (take m slot)
    → (part : List ℕ) × (payload : List ℕ) × IsSlotOf size part payload
    × Went part (piece payload) (record { left = told; given = g; taken = before }) (record { left = left; given = h; taken = after })
packed_turn size count n m g h told left before after slot has long fits low high read given is taken =
    let a : Moment = record { left = told; given = g; taken = before } in
    let c : Moment = record { left = left; given = h; taken = after } in
    let went : Went slot (take m slot) a c =
    read_then_wrote (whole_went count g h told left before slot low high read given) (wrote left before after h (take m slot) taken) in
    (slot, take n has.behind, slot_read size n slot has long fits, subst (λ (w : List ℕ). Went slot w a c) (piece_read size n m slot has long fits is) went)
