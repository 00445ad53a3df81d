-- A search of ascending slots finds the one place at which the slot stands.
use Rattle.std.proofs.Common.{◌≡◌, ℕ, ◌<◌, ◌≤◌, ◌==◌, List, length, get_or, Result, Ok, Err, MatchResult, sym, inl, inr, arith, eq-eqb}
use Rattle.std.specs.List.{position_or_len}
use Rattle.std.specs.List.Sorted.{IsStrictlySortedBy, IsBinarySearchResult}
use Rattle.std.specs.Ordering.{nat_cmp}
use Rattle.std.proofs.lemmas.Bool.{ne_eqb, lt-ltb, le-ltb, cases_lt}
use Rattle.std.proofs.lemmas.List.Sorted.{searched}
use Rattle.std.proofs.lemmas.List.Sums.{position_or_len_is}
use Rattle.std.proofs.lemmas.Map.Keys.{below_from_sorted}
use Rattle.os_ast.specs.Meanings.{place_in}
use Rattle.window_check_names.proofs.captures.Slots.place_of.Goals as goal

module _ (slots : List ℕ) (slot : ℕ) where
  ascends : IsStrictlySortedBy nat_cmp slots → (i j : ℕ) → i ≤ j → j < length slots → get_or slots i 0 ≤ get_or slots j 0
  ascends sorted i j within below = elim (cases_lt i j) [
    | inl less ↦ omega (arith, below_from_sorted slots i j 0 sorted less below)
    | inr not_less ↦ (let same : i ≡ j = omega arith in rw same (omega arith))
  ]

  place-is : (i : ℕ) → i < length slots → position_or_len (λ s. s == slot) slots ≡ i → place_in slots slot ≡ i
  place-is i below is = rw (is, lt-ltb i (length slots) below)

  place-none : position_or_len (λ s. s == slot) slots ≡ length slots → place_in slots slot ≡ 0
  place-none is = rw (is, le-ltb (length slots) (length slots) (omega arith))

  place-found : IsStrictlySortedBy nat_cmp slots → (i : ℕ) → (i < length slots) × (get_or slots i 0 ≡ slot) → place_in slots slot ≡ i
  place-found sorted i found =
      place-is i found.0
      (position_or_len_is (λ s. s == slot) slots i 0 (omega arith)
      (λ k less. ne_eqb (get_or slots k 0) slot (λ same. absurd (omega (arith, below_from_sorted slots k i 0 sorted less found.0))))
      (λ below. eq-eqb (get_or slots i 0) slot found.1))

  place-missed : (i : ℕ) → (i ≤ length slots) × ((k : ℕ) → k < i → get_or slots k 0 < slot) × ((k : ℕ) → i ≤ k → k < length slots → slot < get_or slots k 0) →
      place_in slots slot ≡ 0
  place-missed i missed =
      place-none
      (position_or_len_is (λ s. s == slot) slots (length slots) 0 (omega arith)
      (λ k below. ne_eqb (get_or slots k 0) slot
      (λ same. elim (cases_lt k i) [
        | inl less ↦ absurd (omega (arith, missed.1 k less))
        | inr not_less ↦ absurd (omega (arith, missed.2 k not_less below))
      ]))
      (λ below. absurd (omega arith)))

  place-searched : IsStrictlySortedBy nat_cmp slots → (r : Result ℕ ℕ) → IsBinarySearchResult (λ y. nat_cmp y slot) slots r →
      MatchResult r (λ i. place_in slots slot ≡ i) (λ i. place_in slots slot ≡ 0)
  place-searched sorted (Ok i) found = place-found sorted i (searched slots slot (Ok i) found (ascends sorted))
  place-searched sorted (Err i) found = place-missed i (searched slots slot (Err i) found (ascends sorted))

pub returns-in-Ok : goal.returns-in-Ok
returns-in-Ok c =
    rw (← c.self.view_is, ← c.as_slice.ensures)
    (sym (place-searched c.as_slice.result.now c.args.slot (rw (sym c.as_slice.ensures) at c.self.invariant.0) (Ok c.in-Ok.place) c.in-Ok.ensures.position))

pub returns-in-Err : goal.returns-in-Err
returns-in-Err c =
    rw (← c.self.view_is, ← c.as_slice.ensures)
    (sym (place-searched c.as_slice.result.now c.args.slot (rw (sym c.as_slice.ensures) at c.self.invariant.0) (Err c.in-Err.field-0) c.in-Err.ensures.position))
