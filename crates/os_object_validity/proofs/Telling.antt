-- The sites of units that are tasks, one for each.
use Rattle.std.proofs.Common.{◌≡◌, ℕ, zero, suc, ◌+◌, ◌<◌, ◌≤◌, ◌⊎◌, inl, inr, Bool, true, false, List, [], ◌∷◌, length, set, take, replicate, cond, Option, Some, None, refl, sym, ap, ◌∙◌, arith, length-set}
use Rattle.std.specs.Prelude.{slice_get, find, ◌==◌}
use Rattle.std.proofs.lemmas.Bool.{cases_eq, cases_lt, cases_Bool, eqb-true, eq-eqb, ne_eqb}
use Rattle.std.proofs.lemmas.List.{get_or-set_same, get_or-set_other, take_all}
use Rattle.std.proofs.lemmas.Option.{slice_get_within}
use Rattle.os_code.specs.declared.parts.Parts.{Parts}
use Rattle.os_code.specs.declared.site.Site.{Site}
use Rattle.os_code.specs.IsValid.{IsValid}
use Rattle.os_code.specs.Parts.{site_at}
use Rattle.os_code.proofs.Lists.{there}
use Rattle.os_object_validity.specs.Tables.{task_in, site_told, AreTasks, TasksDistinct, IsTold}

abbrev is_of : ℕ → Site → Bool
is_of number site = site.unit == number

-- the first element that passes, of one more
find-no : {A : Type 0} (test : A → Bool) (xs : List A) (count : ℕ) (x : A) → slice_get xs count ≡ Some x → test x ≡ false
    → find test (take (suc count) xs) ≡ find test (take count xs)
find-no test [] count x is h = cc
find-no test (y ∷ xs) zero x is h = let same : y ≡ x = cc in by_test (test y) (ap test same ∙ h)
  where
    by_test : (b : Bool) → b ≡ false → cond b (Some y) None ≡ None
    by_test true e = cc
    by_test false e = refl
find-no test (y ∷ xs) (suc count) x is h = ap (λ o. cond (test y) (Some y) o) (find-no test xs count x is h)

find-yes : {A : Type 0} (test : A → Bool) (xs : List A) (count : ℕ) (x : A) → slice_get xs count ≡ Some x → test x ≡ true
    → find test (take count xs) ≡ None → find test (take (suc count) xs) ≡ Some x
find-yes test [] count x is h none = cc
find-yes test (y ∷ xs) zero x is h none = let same : y ≡ x = cc in by_test (test y) (ap test same ∙ h) same
  where
    by_test : (b : Bool) → b ≡ true → y ≡ x → cond b (Some y) None ≡ Some x
    by_test true e same = ap (λ z. Some z) same
    by_test false e same = cc
find-yes test (y ∷ xs) (suc count) x is h none = by_test (test y) none (find-yes test xs count x is h)
  where
    by_test : (b : Bool) → cond b (Some y) (find test (take count xs)) ≡ None → (find test (take count xs) ≡ None → find test (take (suc count) xs) ≡ Some x)
        → cond b (Some y) (find test (take (suc count) xs)) ≡ Some x
    by_test true none rest = cc
    by_test false none rest = rest none

record Found {A : Type 0} (test : A → Bool) (xs : List A) (count : ℕ) : Type 0 where
  pub index : ℕ
  pub item : A
  pub low : index < count
  pub is_item : slice_get xs index ≡ Some item
  pub passes : test item ≡ true

find-is : {A : Type 0} (test : A → Bool) (xs : List A) (count : ℕ) (x : A) → find test (take count xs) ≡ Some x → Found test xs count
find-is test xs zero x is = cc
find-is test [] (suc count) x is = cc
find-is test (y ∷ xs) (suc count) x is = by_test (cases_Bool (test y)) (find-is test xs count x)
  where
    by_test : (test y ≡ true) ⊎ (test y ≡ false) → (find test (take count xs) ≡ Some x → Found test xs count) → Found test (y ∷ xs) (suc count)
    by_test (inl h) rest = record { index = 0; item = y; low = omega arith; is_item = refl; passes = h }
    by_test (inr h) rest =
        let at = rest (sym (ap (λ b. cond b (Some y) (find test (take count xs))) h) ∙ is) in
        let below = at.low in
        record { index = suc at.index; item = at.item; low = omega (arith, below); is_item = at.is_item; passes = at.passes }

find-some : {A : Type 0} (test : A → Bool) (xs : List A) (count index : ℕ) (x : A) → index < count → slice_get xs index ≡ Some x → test x ≡ true
    → find test (take count xs) ≡ None → ⊥
find-some test xs zero index x low is h none = absurd (omega arith)
find-some test [] (suc count) index x low is h none = cc
find-some test (y ∷ xs) (suc count) zero x low is h none =
    let same : y ≡ x = cc in
    let some : Some y ≡ None = sym (ap (λ b. cond b (Some y) (find test (take count xs))) (ap test same ∙ h)) ∙ none in
    cc
find-some test (y ∷ xs) (suc count) (suc index) x low is h none = by_test (cases_Bool (test y)) (find-some test xs count index x (omega arith) is h)
  where
    by_test : (test y ≡ true) ⊎ (test y ≡ false) → (find test (take count xs) ≡ None → ⊥) → ⊥
    by_test (inl p) rest = let some : Some y ≡ None = sym (ap (λ b. cond b (Some y) (find test (take count xs))) p) ∙ none in cc
    by_test (inr p) rest = rest (sym (ap (λ b. cond b (Some y) (find test (take count xs))) p) ∙ none)

none-replicate : (n place : ℕ) → task_in (replicate n None) place ≡ None
none-replicate zero place = refl
none-replicate (suc n) zero = refl
none-replicate (suc n) (suc place) = none-replicate n place

pub told-none : (code : Parts) (tasks : List (Option ℕ)) → tasks ≡ replicate (length code.units) None → length tasks ≡ length code.units → IsTold code tasks 0
told-none code tasks is counted = record {
  counted = counted;
  inside = λ number site at. let no : None ≡ Some site = sym (none number) ∙ at in cc;
  found = λ number low. ap (site_told code) (sym (none number));
  distinct = λ number other site one low below at also e. absurd (omega arith);
}
  where
    none : (number : ℕ) → task_in tasks number ≡ None
    none number = ap (λ (ts : List (Option ℕ)). task_in ts number) is ∙ none-replicate (length code.units) number

module _ (code : Parts) (tasks : List (Option ℕ)) (count : ℕ) (site : Site) (told : IsTold code tasks count) (is_site : site_at code count ≡ Some site)
    (low : site.unit < length tasks) (free : task_in tasks site.unit ≡ None) where
  abbrev new : List (Option ℕ)
  new = set tasks site.unit (Some count)

  is_new : task_in new site.unit ≡ Some count
  is_new = get_or-set_same tasks site.unit (Some count) None low

  inside_unit : site.unit < length code.units
  inside_unit = let e = told.counted in omega (arith, low, e)

  nobody : find (is_of site.unit) (take count code.sites) ≡ None
  nobody = told.found site.unit inside_unit ∙ ap (site_told code) free

  inside_of : (number one : ℕ) → task_in new number ≡ Some one → (number ≡ site.unit) ⊎ (number ≡ site.unit → ⊥) → one < length code.sites
  inside_of number one is (inl e) =
      let both : Some count ≡ Some one = sym is_new ∙ ap (task_in new) (sym e) ∙ is in
      let same : count ≡ one = cc in
      let at = slice_get_within code.sites count site is_site in
      omega (arith, same, at)
  inside_of number one is (inr apart) = told.inside number one (sym (get_or-set_other tasks site.unit number (Some count) None apart) ∙ is)

  found_of : (number : ℕ) → number < length code.units → (number ≡ site.unit) ⊎ (number ≡ site.unit → ⊥)
      → find (is_of number) (take (suc count) code.sites) ≡ site_told code (task_in new number)
  found_of number inside (inl e) =
      ap (λ (n : ℕ). find (is_of n) (take (suc count) code.sites)) e
      ∙ find-yes (is_of site.unit) code.sites count site is_site (eq-eqb site.unit site.unit refl) nobody
      ∙ sym is_site ∙ ap (site_told code) (sym is_new) ∙ ap (λ (n : ℕ). site_told code (task_in new n)) (sym e)
  found_of number inside (inr apart) =
      find-no (is_of number) code.sites count site is_site (ne_eqb site.unit number (λ e. apart (sym e)))
      ∙ told.found number inside ∙ ap (site_told code) (sym (get_or-set_other tasks site.unit number (Some count) None apart))

  same_site : (number : ℕ) (one : Site) → number ≡ count → site_at code number ≡ Some one → site ≡ one
  same_site number one e is = let both : Some site ≡ Some one = sym is_site ∙ ap (site_at code) (sym e) ∙ is in cc

  earlier : (number : ℕ) (one : Site) → number < count → site_at code number ≡ Some one → one.unit ≡ site.unit → ⊥
  earlier number one before is e = find-some (is_of site.unit) code.sites count number one before is (eq-eqb one.unit site.unit e) nobody

  distinct_of : (number other : ℕ) (one two : Site) → number < count + 1 → other < count + 1 → site_at code number ≡ Some one → site_at code other ≡ Some two
      → one.unit ≡ two.unit → (number < count) ⊎ (count ≤ number) → (other < count) ⊎ (count ≤ other) → number ≡ other
  distinct_of number other one two below also is too e (inl before) (inl sooner) = told.distinct number other one two before sooner is too e
  distinct_of number other one two below also is too e (inl before) (inr after) =
      absurd (earlier number one before is (e ∙ ap (λ (s : Site). s.unit) (sym (same_site other two (omega arith) too))))
  distinct_of number other one two below also is too e (inr after) (inl sooner) =
      absurd (earlier other two sooner too (sym e ∙ ap (λ (s : Site). s.unit) (sym (same_site number one (omega arith) is))))
  distinct_of number other one two below also is too e (inr after) (inr later) = omega arith

  pub told-more : IsTold code new (count + 1)
  told-more = record {
    counted = length-set tasks site.unit (Some count) ∙ told.counted;
    inside = λ number one is. inside_of number one is (cases_eq number site.unit);
    found = λ number inside. ap (λ (n : ℕ). find (is_of number) (take n code.sites)) (let e : count + 1 ≡ suc count = omega arith in e)
        ∙ found_of number inside (cases_eq number site.unit);
    distinct = λ number other one two below also is too e. distinct_of number other one two below also is too e (cases_lt number count) (cases_lt other count);
  }

-- a unit that is a task's already, or isn't there, refuses the code
pub task_taken : (code : Parts) (tasks : List (Option ℕ)) (count : ℕ) (site : Site) (before : ℕ) → IsTold code tasks count → site_at code count ≡ Some site
    → site.unit < length tasks → task_in tasks site.unit ≡ Some before → IsValid code → ⊥
task_taken code tasks count site before told is_site low taken valid =
    let inside = told.inside site.unit before taken in
    let first = there code.sites before inside in
    let counted = told.counted in
    let at = find-is (is_of site.unit) code.sites count first.0 (told.found site.unit (omega (arith, low, counted)) ∙ ap (site_told code) taken ∙ first.1) in
    let equal = valid.sites.tasks_distinct at.index count at.item site at.is_item is_site (eqb-true at.item.unit site.unit at.passes) in
    let below = at.low in
    omega (arith, equal, below)

pub task_outside : (code : Parts) (tasks : List (Option ℕ)) (count : ℕ) (site : Site) → IsTold code tasks count → site_at code count ≡ Some site
    → length tasks ≤ site.unit → IsValid code → ⊥
task_outside code tasks count site told is_site high valid =
    let inside = valid.sites.tasks_there count site is_site in
    let counted = told.counted in
    omega (arith, inside, counted, high)

pub all_told : (code : Parts) (tasks : List (Option ℕ)) (count : ℕ) → length code.sites ≤ count → IsTold code tasks count → AreTasks code tasks
all_told code tasks count all told = record {
  counted = told.counted;
  inside = told.inside;
  found = λ number low. ap (find (is_of number)) (sym (take_all count code.sites all)) ∙ told.found number low;
}

pub all_distinct : (code : Parts) (tasks : List (Option ℕ)) (count : ℕ) → length code.sites ≤ count → IsTold code tasks count → TasksDistinct code
all_distinct code tasks count all told number other site one is also e =
    let a = slice_get_within code.sites number site is in
    let b = slice_get_within code.sites other one also in
    told.distinct number other site one (omega (arith, a, all)) (omega (arith, b, all)) is also e
