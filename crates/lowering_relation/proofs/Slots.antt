-- Lists of slots, and what is as it was below a number and from a number on.
use Rattle.std.proofs.Common.{◌≡◌, ℕ, ◌+◌, ◌-◌, ◌<◌, ◌≤◌, List, ◌++◌, length, set, take, drop, replicate, get_or, ℤ, pos, sym, ap, ◌∙◌, ⊎_elim, arith, get_or-set_same, get_or-set_other, length-append}
use Rattle.std.proofs.lemmas.Bool.{cases_eq}
use Rattle.std.proofs.lemmas.List.{get_or-replicate, get_or_append_left, get_or-append_right, length-drop, length-replicate, get_or-take, length-take-le}
use Rattle.os_code.specs.Machine.{zeroed}
use Rattle.lowering_relation.specs.Alignment.{slot_at}

abbrev pub SameBelow : ℕ → List ℤ → List ℤ → Type 0
SameBelow top slots after = (i : ℕ) → i < top → slot_at after i ≡ slot_at slots i

abbrev pub SameFrom : ℕ → List ℤ → List ℤ → Type 0
SameFrom top slots after = (i : ℕ) → top ≤ i → slot_at after i ≡ slot_at slots i

-- an element of a list that stands in slots is set
pub set_at : (xs : List ℤ) (i k : ℕ) (x : ℤ) (slots : List ℤ) (first : ℕ) → k < length xs → first + k < length slots → i < length xs →
    slot_at slots (first + i) ≡ slot_at xs i → slot_at (set slots (first + k) x) (first + i) ≡ slot_at (set xs k x) i
set_at xs i k x slots first in_xs in_slots lt same =
    ⊎_elim
    (λ e. ap (λ j. slot_at (set slots (first + k) x) (first + j)) e ∙ get_or-set_same slots (first + k) x (pos 0) in_slots
    ∙ sym (ap (λ j. slot_at (set xs k x) j) e ∙ get_or-set_same xs k x (pos 0) in_xs))
    (λ ne. get_or-set_other slots (first + k) (first + i) x (pos 0) (λ e. ne (omega (arith, e))) ∙ same
    ∙ sym (get_or-set_other xs k i x (pos 0) ne))
    (cases_eq i k)

module _ (slots : List ℤ) (first n : ℕ) (fits : first + n ≤ length slots) where
  kept : length (take first slots) ≡ first
  kept = length-take-le first slots (omega (arith, fits))

  zeros : length (replicate n (pos 0)) ≡ n
  zeros = length-replicate n (pos 0)

  front : length (take first slots ++ replicate n (pos 0)) ≡ first + n
  front = let a : length (take first slots ++ replicate n (pos 0)) ≡ length (take first slots) + length (replicate n (pos 0)) = length-append (take first slots) (replicate n (pos 0)) in
      omega (arith, a, kept, zeros)

  pub zeroed_length : length (zeroed slots first n) ≡ length slots
  zeroed_length =
      let a : length (zeroed slots first n) ≡ length (take first slots ++ replicate n (pos 0)) + length (drop (first + n) slots) =
      length-append (take first slots ++ replicate n (pos 0)) (drop (first + n) slots) in
      let d : length (drop (first + n) slots) ≡ length slots - (first + n) = length-drop (first + n) slots in
      omega (arith, a, d, front, fits)

  pub zeroed_below : (i : ℕ) → i < first → slot_at (zeroed slots first n) i ≡ slot_at slots i
  zeroed_below i lt =
      get_or_append_left (take first slots ++ replicate n (pos 0)) (drop (first + n) slots) (pos 0) i (omega (arith, lt, front))
      ∙ get_or_append_left (take first slots) (replicate n (pos 0)) (pos 0) i (omega (arith, lt, kept)) ∙ get_or-take first slots i (pos 0) lt

  pub zeroed_at : (i : ℕ) → i < n → slot_at (zeroed slots first n) (first + i) ≡ pos 0
  zeroed_at i lt =
      get_or_append_left (take first slots ++ replicate n (pos 0)) (drop (first + n) slots) (pos 0) (first + i) (omega (arith, lt, front))
      ∙ get_or-append_right (take first slots) (replicate n (pos 0)) first (first + i) (pos 0) kept (omega arith)
      ∙ ap (λ k. get_or (replicate n (pos 0)) k (pos 0)) (let x : first + i - first ≡ i = omega arith in x) ∙ get_or-replicate n i (pos 0) (pos 0) lt
