-- Places that are kept of those elements of a list that pass a test, where some were gone over.
use Rattle.std.proofs.Common.{◌≡◌, ◌≢◌, ◌∙◌, ℕ, ◌+◌, ◌<◌, ◌⊎◌, inl, inr, Bool, true, false, ◌&&◌, ◌||◌, List, [], ◌∷◌, zero, suc, length, get_or, Some, refl, sym, ap, arith}
use Rattle.std.proofs.lemmas.Bool.{cases_eq}
use Rattle.std.proofs.lemmas.Bool.Decides.{nat_tests}
use Rattle.std.proofs.lemmas.Option.{slice_get-get_or}
use Rattle.std.specs.Prelude.{◌==◌}
use Rattle.std.specs.List.{slice_get}
use Rattle.oscheck_warnings.specs.Places.{has}
use Rattle.oscheck_warnings.proofs.SoFar.{get_or-default}
use Rattle.oscheck_warnings.specs.declared.places.Places.{Places}

pub record AreMarked {A : Type 0} (list : List A) (place_of : A → ℕ) (test : A → ℕ → Bool) (places : Places) (count : ℕ) : Type 0 where
  pub sound : (place : ℕ) → has places place ≡ true →
      (index : ℕ) × (a : A) × (slice_get list index ≡ Some a) × (place_of a ≡ place) × (test a index ≡ true)
  pub complete : (index : ℕ) (a : A) → index < count → slice_get list index ≡ Some a → test a index ≡ true → has places (place_of a) ≡ true

-- none was gone over
pub none_marked : {A : Type 0} (list : List A) (place_of : A → ℕ) (test : A → ℕ → Bool) (places : Places) → ((place : ℕ) → has places place ≡ false) →
    AreMarked list place_of test places 0
none_marked list place_of test places none = record {
  sound = λ place is. let no = none place in cc;
  complete = λ index a l r d. absurd (omega (arith, l));
}

either_marked : (b c d : Bool) → ((b && c) || d) ≡ true → ((b ≡ true) × (c ≡ true)) ⊎ (d ≡ true)
either_marked true true d h = inl (refl, refl)
either_marked true false d h = inr h
either_marked false c d h = inr h

marked_still : (b c d : Bool) → d ≡ true → ((b && c) || d) ≡ true
marked_still true true d h = refl
marked_still true false d h = h
marked_still false c d h = h

marked_now : (b c d : Bool) → b ≡ true → c ≡ true → ((b && c) || d) ≡ true
marked_now true true d h k = refl
marked_now true false d h k = cc
marked_now false c d h k = cc

same_number : (a b : ℕ) → (a == b) ≡ true → a ≡ b
same_number a b h = grind (arith, nat_tests)

itself : (a : ℕ) → (a == a) ≡ true
itself a = grind (arith, nat_tests)

-- one more
pub one_more : {A : Type 0} (list : List A) (place_of : A → ℕ) (test : A → ℕ → Bool) (old new : Places) (count : ℕ) (a : A) →
    AreMarked list place_of test old count → count < length list → a ≡ get_or list count a →
    ((place : ℕ) → has new place ≡ ((test a count && (place_of a == place)) || has old place)) →
    AreMarked list place_of test new (count + 1)
one_more {A = A} list place_of test old new count a h l at next = record {
  sound = λ place is. sound_of place (either_marked (test a count) (place_of a == place) (has old place) (sym (next place) ∙ is));
  complete = λ index b below stands passed. complete_of index b below stands passed (cases_eq index count);
}
  where
    here : slice_get list count ≡ Some a
    here = slice_get-get_or list count a l ∙ ap Some (sym at)

    sound_of : (place : ℕ) → ((test a count ≡ true) × ((place_of a == place) ≡ true)) ⊎ (has old place ≡ true) →
        (index : ℕ) × (b : A) × (slice_get list index ≡ Some b) × (place_of b ≡ place) × (test b index ≡ true)
    sound_of place (inl d) = (count, a, here, same_number (place_of a) place d.1, d.0)
    sound_of place (inr d) = h.sound place d

    complete_of : (index : ℕ) (b : A) → index < count + 1 → slice_get list index ≡ Some b → test b index ≡ true →
        (index ≡ count) ⊎ (index ≢ count) → has new (place_of b) ≡ true
    complete_of index b below stands passed (inl o) =
        let same : Some b ≡ Some a = sym stands ∙ ap (slice_get list) o ∙ here in
        let one : b ≡ a = cc same in
        let now : test a count ≡ true = sym (ap (λ (x : A). test x index) one ∙ ap (test a) o) ∙ passed in
        let there : (place_of a == place_of b) ≡ true = ap (λ (x : A). place_of a == place_of x) one ∙ itself (place_of a) in
        next (place_of b) ∙ marked_now (test a count) (place_of a == place_of b) (has old (place_of b)) now there
    complete_of index b below stands passed (inr o) =
        next (place_of b) ∙ marked_still (test a count) (place_of a == place_of b) (has old (place_of b)) (h.complete index b (omega (arith, below, o)) stands passed)

-- the same of the element at an index
pub one_more_marked : {A : Type 0} (list : List A) (place_of : A → ℕ) (test : A → ℕ → Bool) (old new : Places) (count : ℕ) (d : A) (passed : Bool) →
    AreMarked list place_of test old count → count < length list → passed ≡ test (get_or list count d) count →
    ((place : ℕ) → has new place ≡ ((passed && (place_of (get_or list count d) == place)) || has old place)) →
    AreMarked list place_of test new (count + 1)
one_more_marked list place_of test old new count d passed h l is next =
    one_more list place_of test old new count (get_or list count d) h l (get_or-default list count d (get_or list count d) l)
    (λ place. next place ∙ ap (λ (b : Bool). (b && (place_of (get_or list count d) == place)) || has old place) is)

-- an element that is there stands within the list
pub slice_within : {A : Type 0} (xs : List A) (index : ℕ) (a : A) → slice_get xs index ≡ Some a → index < length xs
slice_within [] index a is = cc
slice_within (x ∷ xs) zero a is = omega arith
slice_within (x ∷ xs) (suc index) a is = let rest = slice_within xs index a is in omega (arith, rest)
