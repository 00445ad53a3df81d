-- A valid code has few units and sites, and what its sites name is small.
use Rattle.std.proofs.Common.{◌≡◌, ℕ, zero, suc, ◌^◌, ◌<◌, ◌≤◌, ◌⊎◌, inl, inr, true, List, [], ◌∷◌, length, map, get_or, Some, sym, ap, ◌∙◌, arith, sum_by, eqb, refl, subst}
use Rattle.std.specs.Prelude.{slice_get}
use Rattle.std.specs.List.{list_any}
use Rattle.std.proofs.lemmas.Bool.{or_cases, eqb-true, ne_eqb}
use Rattle.std.proofs.lemmas.List.Sums.{sum_by-cons}
use Rattle.std.proofs.lemmas.Map.Keys.{IsDistinct-from_apart}
use Rattle.std.proofs.lemmas.Map.Steps.{length-le_from_distinct_below}
use Rattle.std.proofs.lemmas.List.{length-map}
use Rattle.os_object_validity.proofs.Exploring.{few_units}
use Rattle.os_code.proofs.Lists.{there}
use Rattle.os_code.specs.declared.parts.Parts.{Parts}
use Rattle.os_code.specs.declared.site.Site.{Site}
use Rattle.os_code.specs.declared.site.SiteItem.{SiteItem}
use Rattle.os_code.specs.declared.unit.CodeUnit.{CodeUnit}
use Rattle.os_code.specs.IsValid.{IsValid}
use Rattle.os_code.specs.Parts.{site_at}
use Rattle.os_object.specs.Fronts.{IsSmallSite}

abbrev unit_of : Site → ℕ
unit_of site = site.unit

at : (sites : List Site) (k d : ℕ) (site : Site) → slice_get sites k ≡ Some site → get_or (map unit_of sites) k d ≡ site.unit
at [] k d site is = cc
at (one ∷ sites) zero d site is = let same : one ≡ site = cc in ap unit_of same
at (one ∷ sites) (suc k) d site is = at sites k d site is

below : (sites : List Site) (limit : ℕ) → ((k : ℕ) (site : Site) → slice_get sites k ≡ Some site → site.unit < limit)
    → (q : ℕ) → list_any (eqb q) (map unit_of sites) ≡ true → q < limit
below [] limit low q any = cc
below (site ∷ sites) limit low q any = by_case (or_cases (eqb q site.unit) (list_any (eqb q) (map unit_of sites)) any) (below sites limit (λ k s e. low (suc k) s e) q)
  where
    by_case : (eqb q site.unit ≡ true) ⊎ (list_any (eqb q) (map unit_of sites) ≡ true) → (list_any (eqb q) (map unit_of sites) ≡ true → q < limit) → q < limit
    by_case (inl e) rest = let same = eqb-true q site.unit e in let here = low 0 site refl in omega (arith, same, here)
    by_case (inr e) rest = rest e

pub few_sites : (code : Parts) → IsValid code → length code.sites < 2 ^ 32
few_sites code valid =
    let units = few_units code valid.regions in
    let counted = length-map code.sites unit_of in
    let distinct = IsDistinct-from_apart eqb (map unit_of code.sites) (λ i j d less inside.
    let there_i = there code.sites i (omega (arith, less, inside, counted)) in
    let there_j = there code.sites j (omega (arith, inside, counted)) in
    ne_eqb (get_or (map unit_of code.sites) i d) (get_or (map unit_of code.sites) j d) (λ e.
    let same : there_i.0.unit ≡ there_j.0.unit = sym (at code.sites i d there_i.0 there_i.1) ∙ e ∙ at code.sites j d there_j.0 there_j.1 in
    let equal = valid.sites.tasks_distinct i j there_i.0 there_j.0 there_i.1 there_j.1 same in
    omega (arith, less, equal))) in
    let few = length-le_from_distinct_below (map unit_of code.sites) (length code.units) distinct
    (below code.sites (length code.units) (λ k site is. valid.sites.tasks_there k site is)) in
    omega (arith, few, counted, units)

-- an item that is at an index of a list of which all are so
all_at : (P : SiteItem → Type 0) (items : List SiteItem) → ((k : ℕ) (d : SiteItem) → k < length items → P (get_or items k d))
    → (k : ℕ) (item : SiteItem) → slice_get items k ≡ Some item → P item
all_at P [] all k item is = cc
all_at P (one ∷ items) all zero item is = let same : one ≡ item = cc in subst P same (all 0 item (omega arith))
all_at P (one ∷ items) all (suc k) item is = all_at P items (λ j d h. all (suc j) d (omega arith)) k item is

pub small_site : (code : Parts) → IsValid code → (number : ℕ) (site : Site) → site_at code number ≡ Some site → IsSmallSite site
small_site code valid number site is =
    let main = there code.units code.main valid.sites.main_there in
    let captured = valid.sites.captured_few number site is in
    let items = valid.sites.items_few number site is in
    record {
      captured = omega (arith, captured);
      items = omega (arith, items);
      windows = λ index item at slot window.
          let low = all_at (λ (i : SiteItem). (s : ℕ) → i.window ≡ Some s → s < main.0.slots) site.items (valid.sites.windows_there number site main.0 is main.1) index item at slot window in
          let small = slots_small code.units valid.frames.slots_small code.main main.0 main.1 in
          omega (arith, low, small);
    }
  where
    slots_small : (units : List CodeUnit) → sum_by (λ (unit : CodeUnit). unit.slots) units ≤ 2097152 → (number : ℕ) (unit : CodeUnit)
        → slice_get units number ≡ Some unit → unit.slots ≤ 2097152
    slots_small [] few number unit is = cc
    slots_small (one ∷ units) few zero unit is =
        let same : one ≡ unit = cc in
        let slots = ap (λ (u : CodeUnit). u.slots) same in
        let both = sum_by-cons (λ (u : CodeUnit). u.slots) one units in
        omega (arith, few, slots, both)
    slots_small (one ∷ units) few (suc number) unit is =
        let both = sum_by-cons (λ (u : CodeUnit). u.slots) one units in
        slots_small units (omega (arith, few, both)) number unit is
