-- The heights that are found along the ways from the starts of units.
use Rattle.std.proofs.Common.{◌≡◌, ℕ, zero, suc, ◌+◌, ◌^◌, ◌<◌, ◌≤◌, ◌⊎◌, inl, inr, List, [], ◌∷◌, ◌++◌, length, get_or, set, pos, Option, Some, None, refl, sym, ap, subst, ◌∙◌, arith, length-set, sum_by}
use Rattle.std.specs.Prelude.{slice_get, IsTrue}
use Rattle.std.proofs.lemmas.Bool.{cases_eq}
use Rattle.std.proofs.lemmas.List.{get_or-set_same, get_or-set_other}
use Rattle.std.proofs.lemmas.List.Sums.{sum_by-cons}
use Rattle.std.proofs.lemmas.Option.{slice_get-get_or}
use Rattle.os_code.specs.Checking.{height_in}
use Rattle.os_code.specs.declared.instr.Instr.{Instr}
use Rattle.os_code.specs.declared.instr.Instr.TheVariants.{Push}
use Rattle.os_code.specs.declared.parts.Parts.{Parts}
use Rattle.os_code.specs.declared.unit.CodeUnit.{CodeUnit}
use Rattle.os_code.specs.Effects.{height_after, jump_of, falls_through}
use Rattle.os_code.specs.Heights.{HeightsFit}
use Rattle.os_code.specs.IsValid.{HasInstr, HasRegions, HasTargets, HasHeights, Reaches, ReachesInstr}
use Rattle.os_code.specs.Parts.{instr_at, unit_at, is_within}
use Rattle.os_code.proofs.HeightTables.{heights_suffice}
use Rattle.os_code.proofs.Lists.{there}
use Rattle.os_code.proofs.Regions.{within, next_start-above, next_start-end}
use Rattle.os_code.proofs.Spans.{same_unit, span, all_spans}
use Rattle.os_object_validity.specs.declared.heights.Waiting.{Waiting}
use Rattle.os_object_validity.specs.Tables.{IsWaiting, IsEntry, IsExplored, IsKept, FitsStack, unknown}

-- items of a list with one more
pub get-append : {A : Type 0} (xs ys : List A) (k : ℕ) (x : A) → slice_get xs k ≡ Some x → slice_get (xs ++ ys) k ≡ Some x
get-append [] ys k x e = cc
get-append (z ∷ xs) ys zero x e = e
get-append (z ∷ xs) ys (suc k) x e = get-append xs ys k x e

pub get-last : {A : Type 0} (xs : List A) (y : A) → slice_get (xs ++ y ∷ []) (length xs) ≡ Some y
get-last [] y = refl
get-last (x ∷ xs) y = get-last xs y

pub get-push : {A : Type 0} (xs : List A) (y : A) (k : ℕ) (x : A) → slice_get (xs ++ y ∷ []) k ≡ Some x → (slice_get xs k ≡ Some x) ⊎ (x ≡ y)
get-push [] y zero x e = let same : y ≡ x = cc in inr (sym same)
get-push [] y (suc k) x e = cc
get-push (z ∷ xs) y zero x e = inl e
get-push (z ∷ xs) y (suc k) x e = get-push xs y k x e

-- a place that gets a height
pub unknown-set : (heights : List (Option ℕ)) (place height : ℕ) → place < length heights → height_in heights place ≡ None
    → unknown (set heights place (Some height)) + 1 ≡ unknown heights
unknown-set [] place height low none = absurd (omega arith)
unknown-set (None ∷ heights) zero height low none = omega arith
unknown-set (Some h ∷ heights) zero height low none = cc
unknown-set (None ∷ heights) (suc place) height low none = let rest = unknown-set heights place height (omega arith) none in omega (arith, rest)
unknown-set (Some h ∷ heights) (suc place) height low none = unknown-set heights place height (omega arith) none

pub kept-set : (heights : List (Option ℕ)) (place height : ℕ) → height_in heights place ≡ None → IsKept heights (set heights place (Some height))
kept-set heights place height none at h is = by_place (cases_eq at place)
  where
    by_place : (at ≡ place) ⊎ (at ≡ place → ⊥) → height_in (set heights place (Some height)) at ≡ Some h
    by_place (inl e) = let same : height_in heights at ≡ None = ap (height_in heights) e ∙ none in cc
    by_place (inr apart) = get_or-set_other heights place at (Some height) None apart ∙ is

fits-kept : (code : Parts) (before after : List (Option ℕ)) (unit : CodeUnit) (place height : ℕ) (instr : Instr) → IsKept before after
    → HeightsFit code (height_in before) unit place height instr → HeightsFit code (height_in after) unit place height instr
fits-kept code before after unit place height instr kept fits = record {
  enough = fits.enough;
  low_before = fits.low_before;
  low_after = fits.low_after;
  goes_on = λ on. let next = fits.goes_on on in (next.0, kept (place + 1) (height_after code instr height) next.1);
  jumps = λ to target. kept to (height_after code instr height) (fits.jumps to target);
}

-- one unit about a place
pub unit-is : (code : Parts) → HasRegions code → (first second : ℕ) (unit other : CodeUnit) (place : ℕ) → unit_at code first ≡ Some unit
    → unit_at code second ≡ Some other → IsTrue (is_within code unit place) → IsTrue (is_within code other place) → unit ≡ other
unit-is code regions first second unit other place is_unit is_other x y =
    let number = same_unit code regions first second unit other place is_unit is_other x y in
    let same : Some unit ≡ Some other = sym is_unit ∙ ap (unit_at code) number ∙ is_other in
    cc

-- a place of a region has an instruction
pub inside : (code : Parts) (unit : CodeUnit) (place : ℕ) → IsTrue (is_within code unit place) → place < length code.instrs
inside code unit place x =
    let at = within code unit place x in
    let end = next_start-end (length code.instrs) unit.start code.units in
    let high = at.to in
    omega (arith, high, end)

waits-more : (waiting : List Waiting) (w : Waiting) (place : ℕ) → IsWaiting waiting place → IsWaiting (waiting ++ w ∷ []) place
waits-more waiting w place (index, v, at, is) = (index, v, get-append waiting (w ∷ []) index v at, is)

-- a place that is reached for the first time gets its height, and waits
module _ (code : Parts) (regions : HasRegions code) (heights : List (Option ℕ)) (waiting : List Waiting) (from : ℕ) (w : Waiting) (unit : CodeUnit)
    (explored : IsExplored code heights waiting (λ place. place ≡ from)) (is_unit : unit_at code w.number ≡ Some unit)
    (reaches : Reaches code unit w.place w.height) (is_within' : IsTrue (is_within code unit w.place)) (none : height_in heights w.place ≡ None) where
  abbrev new : List (Option ℕ)
  new = set heights w.place (Some w.height)

  abbrev more : List Waiting
  more = waiting ++ w ∷ []

  low : w.place < length heights
  low = let e = explored.counted in let at = inside code unit w.place is_within' in omega (arith, e, at)

  kept : IsKept heights new
  kept = kept-set heights w.place w.height none

  is_new : height_in new w.place ≡ Some w.height
  is_new = get_or-set_same heights w.place (Some w.height) None low

  entry_of : (index : ℕ) (v : Waiting) → (slice_get waiting index ≡ Some v) ⊎ (v ≡ w) → IsEntry code new v
  entry_of index v (inl at) =
      let e = explored.entries index v at in
      record { unit = e.unit; is_unit = e.is_unit; is_within = e.is_within; height = kept v.place v.height e.height }
  entry_of index v (inr same) =
      let P : Waiting → Type 0 = λ v. IsEntry code new v in
      subst P (sym same) (record { unit = unit; is_unit = is_unit; is_within = is_within'; height = is_new })

  reached_of : (number place height : ℕ) (other : CodeUnit) → unit_at code number ≡ Some other → IsTrue (is_within code other place)
      → height_in new place ≡ Some height → (place ≡ w.place) ⊎ (place ≡ w.place → ⊥) → Reaches code other place height
  reached_of number place height other is x told (inl e) =
      let at : IsTrue (is_within code other w.place) = subst (λ (p : ℕ). IsTrue (is_within code other p)) e x in
      let same : unit ≡ other = unit-is code regions w.number number unit other w.place is_unit is is_within' at in
      let heights_are : Some w.height ≡ Some height = sym is_new ∙ ap (height_in new) (sym e) ∙ told in
      let height_is : w.height ≡ height = cc in
      subst (λ (u : CodeUnit). Reaches code u place height) same
      (subst (λ (p : ℕ). Reaches code unit p height) (sym e) (subst (λ (h : ℕ). Reaches code unit w.place h) height_is reaches))
  reached_of number place height other is x told (inr apart) =
      explored.reached number place height other is x (sym (get_or-set_other heights w.place place (Some w.height) None apart) ∙ told)

  fit_of : (number place height : ℕ) (other : CodeUnit) (instr : Instr) → HasInstr code number other place instr → height_in new place ≡ Some height
      → (place ≡ w.place) ⊎ (place ≡ w.place → ⊥)
      → (IsWaiting more place ⊎ (place ≡ from)) ⊎ HeightsFit code (height_in new) other place height instr
  fit_of number place height other instr has told (inl e) = inl (inl (length waiting, w, get-last waiting w, sym e))
  fit_of number place height other instr has told (inr apart) =
      by_old (explored.fits number place height other instr has (sym (get_or-set_other heights w.place place (Some w.height) None apart) ∙ told))
    where
      by_old : (IsWaiting waiting place ⊎ (place ≡ from)) ⊎ HeightsFit code (height_in heights) other place height instr
          → (IsWaiting more place ⊎ (place ≡ from)) ⊎ HeightsFit code (height_in new) other place height instr
      by_old (inl (inl waits)) = inl (inl (waits-more waiting w place waits))
      by_old (inl (inr open_there)) = inl (inr open_there)
      by_old (inr fits) = inr (fits-kept code heights new other place height instr kept fits)

  pub explored-set : IsExplored code new more (λ place. place ≡ from)
  explored-set = record {
    counted = length-set heights w.place (Some w.height) ∙ explored.counted;
    entries = λ index v at. entry_of index v (get-push waiting w index v at);
    reached = λ number place height other is x told. reached_of number place height other is x told (cases_eq place w.place);
    fits = λ number place height other instr has told. fit_of number place height other instr has told (cases_eq place w.place);
    starts = λ number other is. kept other.start 0 (explored.starts number other is);
  }

-- a place that has another height refuses the code
pub other_height : (code : Parts) (heights : List (Option ℕ)) (waiting : List Waiting) (from : ℕ) (w : Waiting) (unit : CodeUnit) (height : ℕ)
    → IsExplored code heights waiting (λ place. place ≡ from) → unit_at code w.number ≡ Some unit → Reaches code unit w.place w.height
    → IsTrue (is_within code unit w.place) → height_in heights w.place ≡ Some height → (height ≡ w.height → ⊥) → HasHeights code → ⊥
other_height code heights waiting from w unit height explored is_unit reaches x told apart fits =
    let instr = there code.instrs w.place (inside code unit w.place x) in
    let other = explored.reached w.number w.place height unit is_unit x told in
    apart (fits.one_height w.number w.place height w.height unit instr.0
    (record { is_unit = is_unit; reached = other; is_instr = instr.1 }) (record { is_unit = is_unit; reached = reaches; is_instr = instr.1 }))

-- the instruction at the open place fits
pub explored-close : (code : Parts) → HasRegions code → (heights : List (Option ℕ)) (waiting : List Waiting) (w : Waiting) (mine : ℕ) (unit : CodeUnit) (instr : Instr)
    → IsExplored code heights waiting (λ place. place ≡ w.place) → HasInstr code mine unit w.place instr → height_in heights w.place ≡ Some w.height
    → HeightsFit code (height_in heights) unit w.place w.height instr → IsExplored code heights waiting (λ place. ⊥)
explored-close code regions heights waiting w mine unit instr explored has told fits = record {
  counted = explored.counted;
  entries = explored.entries;
  reached = explored.reached;
  fits = λ number place height other one at height_is. by_old number place height other one at height_is (explored.fits number place height other one at height_is);
  starts = explored.starts;
}
  where
    by_old : (number place height : ℕ) (other : CodeUnit) (one : Instr) → HasInstr code number other place one → height_in heights place ≡ Some height
        → (IsWaiting waiting place ⊎ (place ≡ w.place)) ⊎ HeightsFit code (height_in heights) other place height one
        → (IsWaiting waiting place ⊎ ⊥) ⊎ HeightsFit code (height_in heights) other place height one
    by_old number place height other one at height_is (inl (inl waits)) = inl (inl waits)
    by_old number place height other one at height_is (inr there_fits) = inr there_fits
    by_old number place height other one at height_is (inl (inr e)) =
        let x : IsTrue (is_within code other w.place) = subst (λ (p : ℕ). IsTrue (is_within code other p)) e at.is_within in
        let same : unit ≡ other = unit-is code regions mine number unit other w.place has.is_unit at.is_unit has.is_within x in
        let instrs : Some instr ≡ Some one = sym has.is_instr ∙ ap (instr_at code) (sym e) ∙ at.is_instr in
        let instr_is : instr ≡ one = cc in
        let heights_are : Some w.height ≡ Some height = sym told ∙ ap (height_in heights) (sym e) ∙ height_is in
        let is : w.height ≡ height = cc in
        inr (subst (λ (p : ℕ). HeightsFit code (height_in heights) other p height one) (sym e)
        (subst (λ (i : Instr). HeightsFit code (height_in heights) other w.place height i) instr_is
        (subst (λ (h : ℕ). HeightsFit code (height_in heights) other w.place h instr) is
        (subst (λ (u : CodeUnit). HeightsFit code (height_in heights) u w.place w.height instr) same fits))))

-- the last entry is taken out
pub explored-pop : (code : Parts) (heights : List (Option ℕ)) (all rest : List Waiting) (w : Waiting) → all ≡ rest ++ w ∷ []
    → IsExplored code heights all (λ place. ⊥) → IsExplored code heights rest (λ place. place ≡ w.place)
explored-pop code heights all rest w is explored = record {
  counted = explored.counted;
  entries = λ index v at. explored.entries index v (ap (λ (l : List Waiting). slice_get l index) is ∙ get-append rest (w ∷ []) index v at);
  reached = explored.reached;
  fits = λ number place height unit instr has told. by_old number place height unit instr (explored.fits number place height unit instr has told);
  starts = explored.starts;
}
  where
    by_old : (number place height : ℕ) (unit : CodeUnit) (instr : Instr)
        → (IsWaiting all place ⊎ ⊥) ⊎ HeightsFit code (height_in heights) unit place height instr
        → (IsWaiting rest place ⊎ (place ≡ w.place)) ⊎ HeightsFit code (height_in heights) unit place height instr
    by_old number place height unit instr (inr fits) = inr fits
    by_old number place height unit instr (inl (inr never)) = absurd never
    by_old number place height unit instr (inl (inl (index, v, at, there_is))) =
        by_get (get-push rest w index v (ap (λ (l : List Waiting). slice_get l index) (sym is) ∙ at))
      where
        by_get : (slice_get rest index ≡ Some v) ⊎ (v ≡ w)
            → (IsWaiting rest place ⊎ (place ≡ w.place)) ⊎ HeightsFit code (height_in heights) unit place height instr
        by_get (inl before) = inl (inl (index, v, before, there_is))
        by_get (inr same) = inl (inr (sym there_is ∙ ap (λ (u : Waiting). u.place) same))

pub popped : (code : Parts) (heights : List (Option ℕ)) (all rest : List Waiting) (w : Waiting) → all ≡ rest ++ w ∷ []
    → IsExplored code heights all (λ place. ⊥) → IsEntry code heights w
popped code heights all rest w is explored = explored.entries (length rest) w (ap (λ (l : List Waiting). slice_get l (length rest)) is ∙ get-last rest w)

-- where nothing waits, the heights are those that validity asks for
pub explored-all : (code : Parts) → HasRegions code → HasTargets code → (heights : List (Option ℕ)) (waiting : List Waiting) → waiting ≡ []
    → IsExplored code heights waiting (λ place. ⊥) → HasHeights code
explored-all code regions targets heights waiting none explored = heights_suffice code (height_in heights) regions targets (record {
  starts = explored.starts;
  instrs = λ number place height unit instr has told. by_old number place height unit instr (explored.fits number place height unit instr has told);
})
  where
    by_old : (number place height : ℕ) (unit : CodeUnit) (instr : Instr)
        → (IsWaiting waiting place ⊎ ⊥) ⊎ HeightsFit code (height_in heights) unit place height instr → HeightsFit code (height_in heights) unit place height instr
    by_old number place height unit instr (inr fits) = fits
    by_old number place height unit instr (inl (inr never)) = absurd never
    by_old number place height unit instr (inl (inl (index, v, at, is))) =
        let at_none : slice_get [] index ≡ Some v = ap (λ (l : List Waiting). slice_get l index) (sym none) ∙ at in
        cc

-- what is no height is none
pub none-from : (o : Option ℕ) → ((height : ℕ) → o ≡ Some height → ⊥) → o ≡ None
none-from None never = refl
none-from (Some height) never = absurd (never height refl)

-- an instruction that is reached, where the stack doesn't suffice, refuses the code
pub no_room : (code : Parts) (heights : List (Option ℕ)) (waiting : List Waiting) (w : Waiting) (number : ℕ) (unit : CodeUnit) (instr : Instr) (Opened : ℕ → Type 0)
    → IsExplored code heights waiting Opened → HasInstr code number unit w.place instr → height_in heights w.place ≡ Some w.height
    → (FitsStack code unit w.height instr → ⊥) → HasHeights code → ⊥
no_room code heights waiting w number unit instr Opened explored has told none fits =
    let reaches : ReachesInstr code number unit w.place w.height instr =
    record { is_unit = has.is_unit; reached = explored.reached number w.place w.height unit has.is_unit has.is_within told; is_instr = has.is_instr } in
    none (record {
      enough = fits.enough number w.place w.height unit instr reaches;
      low_before = fits.low_before number w.place w.height unit instr reaches;
      low_after = fits.low_after number w.place w.height unit instr reaches;
    })

-- the instruction at an entry's place
pub entry_within : (code : Parts) (heights : List (Option ℕ)) (w : Waiting) (number : ℕ) (unit : CodeUnit) → unit_at code number ≡ Some unit → w.number ≡ number
    → IsEntry code heights w → IsTrue (is_within code unit w.place)
entry_within code heights w number unit is e entry =
    let both : Some entry.unit ≡ Some unit = sym entry.is_unit ∙ ap (unit_at code) e ∙ is in
    let same : entry.unit ≡ unit = cc in
    subst (λ (u : CodeUnit). IsTrue (is_within code u w.place)) same entry.is_within

pub has_instr : (code : Parts) (heights : List (Option ℕ)) (w : Waiting) (number : ℕ) (unit : CodeUnit) (instrs : List Instr) → unit_at code number ≡ Some unit
    → w.number ≡ number → IsEntry code heights w → instrs ≡ code.instrs → HasInstr code number unit w.place (get_or instrs w.place (Push (pos 0)))
has_instr code heights w number unit instrs is e entry same =
    let within_unit = entry_within code heights w number unit is e entry in
    let low = inside code unit w.place within_unit in
    let counted : length instrs ≡ length code.instrs = ap length same in
    record {
      is_unit = is;
      is_within = within_unit;
      is_instr = ap (λ (l : List Instr). slice_get l w.place) (sym same) ∙ slice_get-get_or instrs w.place (Push (pos 0)) (omega (arith, low, counted));
    }

-- units are fewer than places
pub all_some : (need : CodeUnit → ℕ) (units : List CodeUnit) → ((number : ℕ) (unit : CodeUnit) → slice_get units number ≡ Some unit → 1 ≤ need unit)
    → length units ≤ sum_by need units
all_some need [] some = omega arith
all_some need (unit ∷ units) some =
    let rest = all_some need units (λ n u e. some (suc n) u e) in
    let here = some 0 unit refl in
    let both = sum_by-cons need unit units in
    omega (arith, rest, here, both)

pub few_units : (code : Parts) → HasRegions code → length code.units < 2 ^ 32
few_units code regions =
    let all = all_spans code regions in
    let some = all_some (span code) code.units (λ n unit is. let above = next_start-above (length code.instrs) unit.start code.units (regions.starts_inside n unit is) in omega (arith, above)) in
    let short = regions.short in
    omega (arith, all, some, short)

-- an instruction that was looked at, with where it leads to
pub visited : (code : Parts) → HasRegions code → (before between after : List (Option ℕ)) (waiting : List Waiting) (w : Waiting) (number : ℕ) (unit : CodeUnit) (instr : Instr)
    (height : ℕ) → IsExplored code after waiting (λ place. place ≡ w.place) → HasInstr code number unit w.place instr → height_in before w.place ≡ Some w.height
    → IsKept before between → IsKept between after → FitsStack code unit w.height instr → height ≡ height_after code instr w.height
    → (IsTrue (falls_through instr) → IsTrue (is_within code unit (w.place + 1)) × (height_in between (w.place + 1) ≡ Some height))
    → ((to : ℕ) → jump_of instr ≡ Some to → height_in after to ≡ Some height) → IsExplored code after waiting (λ place. ⊥)
visited code regions before between after waiting w number unit instr height explored has told kept still fits is next target =
    explored-close code regions after waiting w number unit instr explored has (still w.place w.height (kept w.place w.height told)) (record {
      enough = fits.enough;
      low_before = fits.low_before;
      low_after = fits.low_after;
      goes_on = λ on. let at = next on in (at.0, still (w.place + 1) height at.1 ∙ ap (λ (h : ℕ). Some h) is);
      jumps = λ to jumps. target to jumps ∙ ap (λ (h : ℕ). Some h) is;
    })
