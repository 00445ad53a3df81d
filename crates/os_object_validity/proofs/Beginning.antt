-- The starts of units have the height 0.
use Rattle.std.proofs.Common.{◌≡◌, ℕ, zero, suc, ◌+◌, ◌<◌, ◌≤◌, ◌⊎◌, inl, inr, List, [], ◌∷◌, ◌++◌, length, set, replicate, Option, Some, None, refl, sym, ap, subst, ◌∙◌, arith, length-set}
use Rattle.std.specs.Prelude.{slice_get, IsTrue}
use Rattle.std.proofs.lemmas.Bool.{cases_eq, cases_lt}
use Rattle.std.proofs.lemmas.List.{get_or-set_same, get_or-set_other}
use Rattle.std.proofs.lemmas.Option.{slice_get_within}
use Rattle.os_code.specs.Checking.{height_in}
use Rattle.os_code.specs.declared.parts.Parts.{Parts}
use Rattle.os_code.specs.declared.unit.CodeUnit.{CodeUnit}
use Rattle.os_code.specs.IsValid.{HasRegions, Reaches, Starts}
use Rattle.os_code.specs.Parts.{unit_at, is_within}
use Rattle.os_code.proofs.Regions.{is_within-from, next_start-above}
use Rattle.os_object_validity.specs.declared.heights.Waiting.{Waiting}
use Rattle.os_object_validity.specs.Tables.{IsWaiting, IsEntry, IsExplored, IsStart, IsBegun}
use Rattle.os_object_validity.proofs.Exploring.{get-append, get-last, get-push, unit-is}

none-replicate : (n place : ℕ) → height_in (replicate n None) place ≡ None
none-replicate zero place = refl
none-replicate (suc n) zero = refl
none-replicate (suc n) (suc place) = none-replicate n place

pub unknown-all : (heights : List (Option ℕ)) (n : ℕ) → heights ≡ replicate n None → (place : ℕ) → height_in heights place ≡ None
unknown-all heights n is place = ap (λ (hs : List (Option ℕ)). height_in hs place) is ∙ none-replicate n place

pub begun-none : (code : Parts) (heights : List (Option ℕ)) (waiting : List Waiting) → length heights ≡ length code.instrs → ((place : ℕ) → height_in heights place ≡ None)
    → waiting ≡ [] → IsBegun code heights waiting 0
begun-none code heights waiting counted none empty = record {
  counted = counted;
  entries = λ index w at. let no : slice_get [] index ≡ Some w = ap (λ (l : List Waiting). slice_get l index) (sym empty) ∙ at in cc;
  starts = λ number unit low is. absurd (omega arith);
  known = λ place height is. let no : None ≡ Some height = sym (none place) ∙ is in cc;
  waits = λ number unit low is. absurd (omega arith);
}

module _ (code : Parts) (regions : HasRegions code) (heights : List (Option ℕ)) (waiting : List Waiting) (count : ℕ) (unit : CodeUnit) (w : Waiting)
    (begun : IsBegun code heights waiting count) (is_unit : unit_at code count ≡ Some unit) (number_is : w.number ≡ count)
    (place_is : w.place ≡ unit.start) (height_is : w.height ≡ 0) where
  abbrev new : List (Option ℕ)
  new = set heights unit.start (Some 0)

  abbrev more : List Waiting
  more = waiting ++ w ∷ []

  start : IsStart code w
  start = record { unit = unit; is_unit = ap (unit_at code) number_is ∙ is_unit; place = place_is; height = height_is }

  is_new : height_in new unit.start ≡ Some 0
  is_new = get_or-set_same heights unit.start (Some 0) None (let low = regions.starts_inside count unit is_unit in let e = begun.counted in omega (arith, low, e))

  entry_of : (index : ℕ) (v : Waiting) → (slice_get waiting index ≡ Some v) ⊎ (v ≡ w) → IsStart code v
  entry_of index v (inl at) = begun.entries index v at
  entry_of index v (inr same) = let P : Waiting → Type 0 = λ v. IsStart code v in subst P (sym same) start

  same : (number : ℕ) (other : CodeUnit) → number ≡ count → unit_at code number ≡ Some other → unit ≡ other
  same number other e is = let both : Some unit ≡ Some other = sym is_unit ∙ ap (unit_at code) (sym e) ∙ is in cc

  start_of : (number : ℕ) (other : CodeUnit) → number < count + 1 → unit_at code number ≡ Some other → (number < count) ⊎ (count ≤ number)
      → (other.start ≡ unit.start) ⊎ (other.start ≡ unit.start → ⊥) → height_in new other.start ≡ Some 0
  start_of number other low is by (inl e) = ap (height_in new) e ∙ is_new
  start_of number other low is (inl before) (inr apart) = get_or-set_other heights unit.start other.start (Some 0) None apart ∙ begun.starts number other before is
  start_of number other low is (inr high) (inr apart) = absurd (apart (ap (λ (u : CodeUnit). u.start) (sym (same number other (omega arith) is))))

  waits_of : (number : ℕ) (other : CodeUnit) → number < count + 1 → unit_at code number ≡ Some other → (number < count) ⊎ (count ≤ number)
      → IsWaiting more other.start
  waits_of number other low is (inl before) =
      let old = begun.waits number other before is in
      (old.0, old.1, get-append waiting (w ∷ []) old.0 old.1 old.2, old.3)
  waits_of number other low is (inr high) =
      (length waiting, w, get-last waiting w, place_is ∙ ap (λ (u : CodeUnit). u.start) (same number other (omega arith) is))

  known_of : (place height : ℕ) → height_in new place ≡ Some height → (place ≡ unit.start) ⊎ (place ≡ unit.start → ⊥)
      → (v : Waiting) × IsStart code v × (v.place ≡ place) × (height ≡ 0)
  known_of place height told (inl e) =
      let heights_are : Some 0 ≡ Some height = sym is_new ∙ ap (height_in new) (sym e) ∙ told in
      let zero_is : 0 ≡ height = cc in
      (w, start, place_is ∙ sym e, sym zero_is)
  known_of place height told (inr apart) = begun.known place height (sym (get_or-set_other heights unit.start place (Some 0) None apart) ∙ told)

  pub begun-more : IsBegun code new more (count + 1)
  begun-more = record {
    counted = length-set heights unit.start (Some 0) ∙ begun.counted;
    entries = λ index v at. entry_of index v (get-push waiting w index v at);
    starts = λ number other low is. start_of number other low is (cases_lt number count) (cases_eq other.start unit.start);
    known = λ place height told. known_of place height told (cases_eq place unit.start);
    waits = λ number other low is. waits_of number other low is (cases_lt number count);
  }

-- once all units have begun
pub explored-begun : (code : Parts) → HasRegions code → (heights : List (Option ℕ)) (waiting : List Waiting) (count : ℕ) → length code.units ≤ count
    → IsBegun code heights waiting count → IsExplored code heights waiting (λ place. ⊥)
explored-begun code regions heights waiting count all begun = record {
  counted = begun.counted;
  entries = λ index w at. entry w (begun.entries index w at);
  reached = λ number place height unit is x told. reach number place height unit is x (begun.known place height told);
  fits = λ number place height unit instr has told. inl (inl (waits_at place (begun.known place height told)));
  starts = λ number unit is. begun.starts number unit (low number unit is) is;
}
  where
    low : (number : ℕ) (unit : CodeUnit) → unit_at code number ≡ Some unit → number < count
    low number unit is = let inside = slice_get_within code.units number unit is in omega (arith, inside)

    about : (number : ℕ) (unit : CodeUnit) → unit_at code number ≡ Some unit → IsTrue (is_within code unit unit.start)
    about number unit is =
        is_within-from code unit unit.start (omega arith) (next_start-above (length code.instrs) unit.start code.units (regions.starts_inside number unit is))

    entry : (w : Waiting) → IsStart code w → IsEntry code heights w
    entry w start = record {
      unit = start.unit;
      is_unit = start.is_unit;
      is_within = let P : ℕ → Type 0 = λ p. IsTrue (is_within code start.unit p) in subst P (sym start.place) (about w.number start.unit start.is_unit);
      height = ap (height_in heights) start.place ∙ begun.starts w.number start.unit (low w.number start.unit start.is_unit) start.is_unit
          ∙ ap (λ (h : ℕ). Some h) (sym start.height);
    }

    reach : (number place height : ℕ) (unit : CodeUnit) → unit_at code number ≡ Some unit → IsTrue (is_within code unit place)
        → ((w : Waiting) × IsStart code w × (w.place ≡ place) × (height ≡ 0)) → Reaches code unit place height
    reach number place height unit is x (w, start, at, zero_is) =
        let begins : start.unit.start ≡ place = sym start.place ∙ at in
        let y : IsTrue (is_within code start.unit place) = (let P : ℕ → Type 0 = λ p. IsTrue (is_within code start.unit p) in subst P begins (about w.number start.unit start.is_unit)) in
        let same_is : start.unit ≡ unit = unit-is code regions w.number number start.unit unit place start.is_unit is y x in
        let from : Reaches code start.unit place 0 = (let P : ℕ → Type 0 = λ p. Reaches code start.unit p 0 in subst P begins Starts) in
        subst (λ (u : CodeUnit). Reaches code u place height) same_is (subst (λ (h : ℕ). Reaches code start.unit place h) (sym zero_is) from)

    waits_at : (place : ℕ) {height : ℕ} → ((w : Waiting) × IsStart code w × (w.place ≡ place) × (height ≡ 0)) → IsWaiting waiting place
    waits_at place (w, start, at, zero_is) =
        let old = begun.waits w.number start.unit (low w.number start.unit start.is_unit) start.is_unit in
        (old.0, old.1, old.2, old.3 ∙ sym start.place ∙ at)
