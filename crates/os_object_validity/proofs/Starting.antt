-- The starts of units, marked, and the regions that they begin.
use Rattle.std.proofs.Common.{◌≡◌, ℕ, zero, suc, ◌+◌, ◌<◌, ◌≤◌, ◌⊎◌, inl, inr, Bool, true, false, ◌||◌, List, [], ◌∷◌, ◌++◌, length, get_or, set, take, replicate, min, ◌^◌, Some, refl, sym, ap, ◌∙◌, arith, length-set}
use Rattle.std.specs.Prelude.{slice_get, ◌==◌, nat_lt}
use Rattle.std.proofs.lemmas.Bool.{cases_eq, cases_lt, cases_Bool, or_cases, or_parts, or_right, eqb-true, eq-eqb, ne_eqb, both_ways, cond-true, cond-false}
use Rattle.std.proofs.lemmas.List.{get_or-set_same, get_or-set_other, take_all, length_push, get_or_push, get_or_append_left}
use Rattle.std.proofs.lemmas.Option.{slice_get_within}
use Rattle.os_io.proofs.Repeated.{get_or-repeated}
use Rattle.os_code.specs.declared.parts.Parts.{Parts}
use Rattle.os_code.specs.declared.unit.CodeUnit.{CodeUnit}
use Rattle.os_code.specs.IsValid.{HasRegions, IsValid}
use Rattle.os_code.specs.NeedTables.{IsMarked}
use Rattle.os_code.specs.Needs.{starts_at}
use Rattle.os_code.specs.Parts.{unit_at, next_start, region_end, is_within}
use Rattle.os_code.proofs.Ends.{end-region}
use Rattle.os_code.proofs.Lists.{there}
use Rattle.os_code.proofs.Regions.{within, is_within-from, next_start-above}
use Rattle.os_code.proofs.Spans.{found}
use Rattle.os_object_validity.specs.Tables.{IsApart, AreEnds}
use Rattle.os_object_validity.proofs.Tests.{list_any-from}

-- a unit that starts at a place, among the first ones
record StartsIn (units : List CodeUnit) (count place : ℕ) : Type 0 where
  pub number : ℕ
  pub unit : CodeUnit
  pub is_unit : slice_get units number ≡ Some unit
  pub low : number < count
  pub start : unit.start ≡ place

starts_in : (units : List CodeUnit) (count place : ℕ) → starts_at (take count units) place ≡ true → StartsIn units count place
starts_in units zero place h = cc
starts_in [] (suc count) place h = cc
starts_in (one ∷ units) (suc count) place h = by_case (or_cases (one.start == place) (starts_at (take count units) place) h) (starts_in units count place)
  where
    by_case : (one.start == place ≡ true) ⊎ (starts_at (take count units) place ≡ true) → (starts_at (take count units) place ≡ true → StartsIn units count place)
        → StartsIn (one ∷ units) (suc count) place
    by_case (inl e) rest = record { number = 0; unit = one; is_unit = refl; low = omega arith; start = eqb-true one.start place e }
    by_case (inr e) rest =
        let at = rest e in
        let below = at.low in
        record { number = suc at.number; unit = at.unit; is_unit = at.is_unit; low = omega (arith, below); start = at.start }

no_start_in : (units : List CodeUnit) (count place number : ℕ) (unit : CodeUnit) → starts_at (take count units) place ≡ false → number < count
    → slice_get units number ≡ Some unit → unit.start ≡ place → ⊥
no_start_in units zero place number unit h low is e = absurd (omega arith)
no_start_in [] (suc count) place number unit h low is e = cc
no_start_in (one ∷ units) (suc count) place zero unit h low is e =
    let same : one ≡ unit = cc in
    let parts = or_parts (one.start == place) (starts_at (take count units) place) h in
    both_ways (one.start == place) parts.0 (eq-eqb one.start place (ap (λ (u : CodeUnit). u.start) same ∙ e))
no_start_in (one ∷ units) (suc count) place (suc number) unit h low is e =
    no_start_in units count place number unit (or_parts (one.start == place) (starts_at (take count units) place) h).1 (omega arith) is e

or_false : (a : Bool) → (a || false) ≡ (false || a)
or_false true = refl
or_false false = refl

or_assoc : (a b c : Bool) → (a || (b || c)) ≡ ((a || b) || c)
or_assoc true b c = refl
or_assoc false b c = refl

starts-more : (units : List CodeUnit) (count place : ℕ) (unit : CodeUnit) → slice_get units count ≡ Some unit
    → starts_at (take (suc count) units) place ≡ (starts_at (take count units) place || unit.start == place)
starts-more [] count place unit is = cc
starts-more (one ∷ units) zero place unit is =
    let same : one ≡ unit = cc in
    or_false (one.start == place) ∙ ap (λ (u : CodeUnit). false || u.start == place) same
starts-more (one ∷ units) (suc count) place unit is =
    ap (λ (b : Bool). one.start == place || b) (starts-more units count place unit is)
    ∙ or_assoc (one.start == place) (starts_at (take count units) place) (unit.start == place)

pub apart-none : (code : Parts) (marks : List Bool) → marks ≡ replicate (length code.instrs) false → length marks ≡ length code.instrs → IsApart code marks 0
apart-none code marks is counted = record {
  counted = counted;
  marked = λ place low. ap (λ (ms : List Bool). get_or ms place false) is ∙ get_or-repeated (length code.instrs) place false;
  inside = λ number unit low at. absurd (omega arith);
  distinct = λ number other unit one low below at also e. absurd (omega arith);
}

module _ (code : Parts) (marks : List Bool) (count : ℕ) (unit : CodeUnit) (apart : IsApart code marks count) (is_unit : unit_at code count ≡ Some unit)
    (low : unit.start < length marks) (free : get_or marks unit.start false ≡ false) where
  inside_start : unit.start < length code.instrs
  inside_start = let e = apart.counted in omega (arith, low, e)

  unmarked : starts_at (take count code.units) unit.start ≡ false
  unmarked = sym (apart.marked unit.start inside_start) ∙ free

  mark_of : (place : ℕ) → place < length code.instrs → (place ≡ unit.start) ⊎ (place ≡ unit.start → ⊥)
      → get_or (set marks unit.start true) place false ≡ starts_at (take (suc count) code.units) place
  mark_of place inside (inl e) =
      ap (λ (p : ℕ). get_or (set marks unit.start true) p false) e ∙ get_or-set_same marks unit.start true false low
      ∙ sym (starts-more code.units count place unit is_unit ∙ or_right (starts_at (take count code.units) place) (unit.start == place) (eq-eqb unit.start place (sym e)))
  mark_of place inside (inr other) =
      get_or-set_other marks unit.start place true false other ∙ apart.marked place inside
      ∙ sym (starts-more code.units count place unit is_unit ∙ or_no (starts_at (take count code.units) place) (unit.start == place) (ne_eqb unit.start place (λ e. other (sym e))))
    where
      or_no : (a b : Bool) → b ≡ false → (a || b) ≡ a
      or_no true b e = refl
      or_no false b e = e

  same : (number : ℕ) (other : CodeUnit) → number ≡ count → unit_at code number ≡ Some other → unit ≡ other
  same number other e is = let both : Some unit ≡ Some other = sym is_unit ∙ ap (unit_at code) (sym e) ∙ is in cc

  inside_of : (number : ℕ) (other : CodeUnit) → number < count + 1 → unit_at code number ≡ Some other → (number < count) ⊎ (count ≤ number)
      → other.start < length code.instrs
  inside_of number other below is (inl before) = apart.inside number other before is
  inside_of number other below is (inr after) =
      let e = ap (λ (u : CodeUnit). u.start) (same number other (omega arith) is) in
      let at = inside_start in
      omega (arith, e, at)

  distinct_of : (number other : ℕ) (one two : CodeUnit) → number < count + 1 → other < count + 1 → unit_at code number ≡ Some one → unit_at code other ≡ Some two
      → one.start ≡ two.start → (number < count) ⊎ (count ≤ number) → (other < count) ⊎ (count ≤ other) → number ≡ other
  distinct_of number other one two below also is too e (inl before) (inl sooner) = apart.distinct number other one two before sooner is too e
  distinct_of number other one two below also is too e (inl before) (inr after) =
      absurd (no_start_in code.units count unit.start number one unmarked before is (e ∙ ap (λ (u : CodeUnit). u.start) (sym (same other two (omega arith) too))))
  distinct_of number other one two below also is too e (inr after) (inl sooner) =
      absurd (no_start_in code.units count unit.start other two unmarked sooner too (sym e ∙ ap (λ (u : CodeUnit). u.start) (sym (same number one (omega arith) is))))
  distinct_of number other one two below also is too e (inr after) (inr later) = omega arith

  pub apart-more : IsApart code (set marks unit.start true) (count + 1)
  apart-more = record {
    counted = length-set marks unit.start true ∙ apart.counted;
    marked = λ place inside. mark_of place inside (cases_eq place unit.start) ∙ ap (λ (n : ℕ). starts_at (take n code.units) place) (let e : suc count ≡ count + 1 = omega arith in e);
    inside = λ number other below is. inside_of number other below is (cases_lt number count);
    distinct = λ number other one two below also is too e. distinct_of number other one two below also is too e (cases_lt number count) (cases_lt other count);
  }

-- a start that is marked already is another unit's
pub start_taken : (code : Parts) (marks : List Bool) (count : ℕ) (unit : CodeUnit) → IsApart code marks count → unit_at code count ≡ Some unit
    → get_or marks unit.start false ≡ true → IsValid code → ⊥
start_taken code marks count unit apart is_unit taken valid =
    let inside = valid.regions.starts_inside count unit is_unit in
    let at = starts_in code.units count unit.start (sym (apart.marked unit.start inside) ∙ taken) in
    let equal = valid.regions.starts_distinct at.number count at.unit unit at.is_unit is_unit at.start in
    let below = at.low in
    omega (arith, equal, below)

pub start_outside : (code : Parts) (marks : List Bool) (count : ℕ) (unit : CodeUnit) → IsApart code marks count → unit_at code count ≡ Some unit
    → length marks ≤ unit.start → IsValid code → ⊥
start_outside code marks count unit apart is_unit high valid =
    let inside = valid.regions.starts_inside count unit is_unit in
    let e = apart.counted in
    omega (arith, inside, e, high)

pub all_marked : (code : Parts) (marks : List Bool) (count : ℕ) → length code.units ≤ count → IsApart code marks count → IsMarked code marks
all_marked code marks count all apart = record {
  counted = apart.counted;
  marked = λ place low. apart.marked place low ∙ ap (λ (us : List CodeUnit). starts_at us place) (take_all count code.units all);
}

-- where no unit starts at the first place, or there is none, the code is not valid
pub no_code : (code : Parts) → length code.instrs ≡ 0 → IsValid code → ⊥
no_code code none valid =
    let main = there code.units code.main valid.sites.main_there in
    let inside = valid.regions.starts_inside code.main main.0 main.1 in
    omega (arith, none, inside)

pub no_first : (code : Parts) (marks : List Bool) → IsMarked code marks → 0 < length code.instrs → get_or marks 0 false ≡ false → IsValid code → ⊥
no_first code marks marked some free valid =
    let about = found code code.units 0 (valid.regions.covered 0 some) in
    let at = within code about.unit 0 about.is_within in
    let from = at.from in
    let start : about.unit.start ≡ 0 = omega (arith, from) in
    both_ways (starts_at code.units 0) (sym (marked.marked 0 some) ∙ free)
    (list_any-from (λ (u : CodeUnit). u.start == 0) code.units about.number about.unit about.is_unit (eq-eqb about.unit.start 0 start))

-- where a unit starts at the first place, each place lies in a region
le_or : (a b : ℕ) → (a ≤ b) ⊎ (b < a)
le_or a b = flip (cases_lt b a)
  where
    flip : (b < a) ⊎ (a ≤ b) → (a ≤ b) ⊎ (b < a)
    flip (inl x) = inr x
    flip (inr x) = inl x

next_start-is : (end place : ℕ) (units : List CodeUnit) → (next_start end place units ≡ end) ⊎ ((number : ℕ) × (unit : CodeUnit) × (slice_get units number ≡ Some unit) × (unit.start ≡ next_start end place units))
next_start-is end place [] = inl refl
next_start-is end place (unit ∷ units) = by_case (cases_Bool (nat_lt place unit.start)) (next_start-is end place units)
  where
    further : ((number : ℕ) × (one : CodeUnit) × (slice_get units number ≡ Some one) × (one.start ≡ next_start end place units))
        → (next_start end place (unit ∷ units) ≡ next_start end place units)
        → ((number : ℕ) × (one : CodeUnit) × (slice_get (unit ∷ units) number ≡ Some one) × (one.start ≡ next_start end place (unit ∷ units)))
    further (number, one, is, e) same = (suc number, one, is, e ∙ sym same)

    by_least : (nat_lt place unit.start ≡ true) → (unit.start ≤ next_start end place units) ⊎ (next_start end place units < unit.start)
        → (next_start end place units ≡ end) ⊎ ((number : ℕ) × (one : CodeUnit) × (slice_get units number ≡ Some one) × (one.start ≡ next_start end place units))
        → (next_start end place (unit ∷ units) ≡ end) ⊎ ((number : ℕ) × (one : CodeUnit) × (slice_get (unit ∷ units) number ≡ Some one) × (one.start ≡ next_start end place (unit ∷ units)))
    by_least above (inl first) rest =
        let is : next_start end place (unit ∷ units) ≡ min unit.start (next_start end place units) = cond-true (nat_lt place unit.start) (min unit.start (next_start end place units)) (next_start end place units) above in
        inr (0, unit, refl, omega (arith, is, first))
    by_least above (inr later) (inl e) =
        let is : next_start end place (unit ∷ units) ≡ min unit.start (next_start end place units) = cond-true (nat_lt place unit.start) (min unit.start (next_start end place units)) (next_start end place units) above in
        inl (omega (arith, is, later, e))
    by_least above (inr later) (inr at) =
        let is : next_start end place (unit ∷ units) ≡ min unit.start (next_start end place units) = cond-true (nat_lt place unit.start) (min unit.start (next_start end place units)) (next_start end place units) above in
        inr (further at (omega (arith, is, later)))

    by_case : (nat_lt place unit.start ≡ true) ⊎ (nat_lt place unit.start ≡ false)
        → (next_start end place units ≡ end) ⊎ ((number : ℕ) × (one : CodeUnit) × (slice_get units number ≡ Some one) × (one.start ≡ next_start end place units))
        → (next_start end place (unit ∷ units) ≡ end) ⊎ ((number : ℕ) × (one : CodeUnit) × (slice_get (unit ∷ units) number ≡ Some one) × (one.start ≡ next_start end place (unit ∷ units)))
    by_case (inl above) rest = by_least above (le_or unit.start (next_start end place units)) rest
    by_case (inr below) (inl e) = inl (cond-false (nat_lt place unit.start) (min unit.start (next_start end place units)) (next_start end place units) below ∙ e)
    by_case (inr below) (inr at) = inr (further at (cond-false (nat_lt place unit.start) (min unit.start (next_start end place units)) (next_start end place units) below))

record About (code : Parts) (place : ℕ) : Type 0 where
  pub number : ℕ
  pub unit : CodeUnit
  pub is_unit : unit_at code number ≡ Some unit
  pub from : unit.start ≤ place
  pub to : place < region_end code unit

module _ (code : Parts) (marks : List Bool) (count : ℕ) (all : length code.units ≤ count) (short : length code.instrs < 2 ^ 32) (apart : IsApart code marks count)
    (first : get_or marks 0 false ≡ true) where
  starts_about : (place number : ℕ) (unit : CodeUnit) → place < length code.instrs → unit_at code number ≡ Some unit → unit.start ≡ place → About code place
  starts_about place number unit low is e = record {
    number = number;
    unit = unit;
    is_unit = is;
    from = omega (arith, e);
    to = let above = next_start-above (length code.instrs) unit.start code.units (omega (arith, e, low)) in omega (arith, above, e);
  }

  about : (place : ℕ) → place < length code.instrs → About code place
  about zero low =
      let at = starts_in code.units count 0 (sym (apart.marked 0 low) ∙ first) in
      starts_about 0 at.number at.unit low at.is_unit at.start
  about (suc place) low = by_end (about place (omega arith))
    where
      by_end : About code place → About code (suc place)
      by_end before = by_order (cases_lt (suc place) (region_end code before.unit))
        where
          by_next : (region_end code before.unit ≤ suc place)
              → (next_start (length code.instrs) before.unit.start code.units ≡ length code.instrs)
              ⊎ ((number : ℕ) × (unit : CodeUnit) × (slice_get code.units number ≡ Some unit) × (unit.start ≡ next_start (length code.instrs) before.unit.start code.units))
              → About code (suc place)
          by_next high (inl e) = absurd (omega (arith, high, e, low))
          by_next high (inr (number, unit, is, e)) =
              let to = before.to in
              starts_about (suc place) number unit low is (omega (arith, e, high, to))

          by_order : (suc place < region_end code before.unit) ⊎ (region_end code before.unit ≤ suc place) → About code (suc place)
          by_order (inl less) = let from = before.from in record { number = before.number; unit = before.unit; is_unit = before.is_unit; from = omega (arith, from); to = less }
          by_order (inr high) = by_next high (next_start-is (length code.instrs) before.unit.start code.units)

  pub regions_from : HasRegions code
  regions_from = record {
    short = short;
    starts_inside = λ number unit is. apart.inside number unit (low_of number unit is) is;
    starts_distinct = λ number other unit one is also e. apart.distinct number other unit one (low_of number unit is) (low_of other one also) is also e;
    covered = λ place low. let at = about place low in
        list_any-from (λ (u : CodeUnit). is_within code u place) code.units at.number at.unit at.is_unit (is_within-from code at.unit place at.from at.to);
  }
    where
      low_of : (number : ℕ) (unit : CodeUnit) → unit_at code number ≡ Some unit → number < count
      low_of number unit is = let inside = slice_get_within code.units number unit is in omega (arith, inside)

-- the ends of the regions of the first units
pub record AreFirstEnds (code : Parts) (ends : List ℕ) (count : ℕ) : Type 0 where
  pub counted : length ends ≡ count
  pub each : (number : ℕ) (unit : CodeUnit) → number < count → unit_at code number ≡ Some unit → get_or ends number 0 ≡ region_end code unit

pub ends-none : (code : Parts) (ends : List ℕ) → ends ≡ [] → AreFirstEnds code ends 0
ends-none code ends none = record { counted = ap length none; each = λ number unit low is. absurd (omega arith) }

pub ends-more : (code : Parts) (marks : List Bool) → IsMarked code marks → (ends new : List ℕ) (count end : ℕ) (unit : CodeUnit) → AreFirstEnds code ends count
    → unit_at code count ≡ Some unit → unit.start < end → end ≤ length marks
    → ((place : ℕ) → unit.start < place → place < end → get_or marks place false ≡ false) → (end < length marks → get_or marks end false ≡ true)
    → new ≡ ends ++ end ∷ [] → AreFirstEnds code new (count + 1)
ends-more code marks marked ends new count end unit first is_unit after inside none marks_end is = record {
  counted = let before = first.counted in let more = ap length is ∙ length_push ends end in omega (arith, before, more);
  each = λ number other low at. each_of number other low at (cases_lt number count);
}
  where
    counted : length marks ≡ length code.instrs
    counted = marked.counted

    region : end ≡ region_end code unit
    region = end-region code unit end after (omega (arith, counted, inside))
        (λ place low high. sym (marked.marked place (omega (arith, counted, inside))) ∙ none place low high)
        (λ low. sym (marked.marked end low) ∙ marks_end (omega (arith, counted)))

    each_of : (number : ℕ) (other : CodeUnit) → number < count + 1 → unit_at code number ≡ Some other → (number < count) ⊎ (count ≤ number)
        → get_or new number 0 ≡ region_end code other
    each_of number other low at (inl before) =
        ap (λ (l : List ℕ). get_or l number 0) is ∙ get_or_append_left ends (end ∷ []) 0 number (let e = first.counted in omega (arith, e)) ∙ first.each number other before at
    each_of number other low at (inr last) =
        let e : number ≡ count = omega arith in
        let both : Some unit ≡ Some other = sym is_unit ∙ ap (unit_at code) (sym e) ∙ at in
        let same : unit ≡ other = cc in
        ap (λ (l : List ℕ). get_or l number 0) is ∙ get_or_push ends end 0 number (let f = first.counted in omega (arith, e, f)) ∙ region ∙ ap (region_end code) same

pub all_ends : (code : Parts) (ends : List ℕ) (count : ℕ) → count ≡ length code.units → AreFirstEnds code ends count → AreEnds code ends
all_ends code ends count all first = record {
  counted = first.counted ∙ all;
  each = λ number unit is. first.each number unit (let low = slice_get_within code.units number unit is in omega (arith, low, all)) is;
}
