-- The kinds of the units of a tiled code: `main` and functions come first, and then the tasks of the sites.
use Rattle.std.proofs.Common.{◌≡◌, ◌≢◌, ℕ, zero, suc, ◌+◌, ◌<◌, ◌==◌, if◌then◌else◌, List, [], ◌∷◌, find, Some, None, slice_get, refl, sym, ap, ◌∙◌, arith, eq-eqb, ne_eqb}
use Rattle.os_code.specs.Parts.{Main, Task, Function, kind_by, kind_at, site_at}
use Rattle.os_code.specs.declared.parts.Parts.{Parts}
use Rattle.os_code.specs.declared.site.Site.{Site}

-- no site has this unit
none_found : (sites : List Site) (number : ℕ) → ((k : ℕ) (site : Site) → slice_get sites k ≡ Some site → site.unit ≢ number) →
    find (λ (t : Site). t.unit == number) sites ≡ None
none_found [] number other = refl
none_found (site ∷ sites) number other =
    ap (λ t. if t then Some site else find (λ (x : Site). x.unit == number) sites) (ne_eqb site.unit number (other 0 site refl))
    ∙ none_found sites number (λ k x is. other (suc k) x is)

-- the sites' units are numbered one after another
one_found : (sites : List Site) (first k : ℕ) (site : Site) → ((j : ℕ) (x : Site) → slice_get sites j ≡ Some x → x.unit ≡ first + j) →
    slice_get sites k ≡ Some site →
    find (λ (t : Site). t.unit == site.unit) sites ≡ Some site
one_found [] first k site numbered is = absurd (cc)
one_found (x ∷ sites) first zero site numbered is =
    let same : x ≡ site = cc in
    ap (λ t. if t then Some x else find (λ (y : Site). y.unit == site.unit) sites) (eq-eqb x.unit site.unit (ap (λ (y : Site). y.unit) same)) ∙ ap Some same
one_found (x ∷ sites) first (suc k) site numbered is =
    let a = numbered 0 x refl in
    let b = numbered (suc k) site is in
    ap (λ t. if t then Some x else find (λ (y : Site). y.unit == site.unit) sites) (ne_eqb x.unit site.unit (λ e. omega (arith, a, b, e)))
    ∙ one_found sites (suc first) k site (λ j y at_j. omega (arith, numbered (suc j) y at_j)) is

module _ (code : Parts) (first : ℕ) (numbered : (k : ℕ) (site : Site) → site_at code k ≡ Some site → site.unit ≡ first + k) where
  pub main_kind : (number : ℕ) → code.main ≡ number → kind_at code number ≡ Main
  main_kind number is = ap (λ t. if t then Main else kind_by (find (λ (x : Site). x.unit == number) code.sites)) (eq-eqb number code.main (sym is))

  pub function_kind : (number : ℕ) → number < first → number ≢ code.main → kind_at code number ≡ Function
  function_kind number lt other =
      ap (λ t. if t then Main else kind_by (find (λ (x : Site). x.unit == number) code.sites)) (ne_eqb number code.main other)
      ∙ ap kind_by (none_found code.sites number (λ k site is e. omega (arith, numbered k site is, e, lt)))

  pub task_kind : (k : ℕ) (site : Site) → site_at code k ≡ Some site → code.main < first → kind_at code site.unit ≡ Task site
  task_kind k site is lt =
      ap (λ t. if t then Main else kind_by (find (λ (x : Site). x.unit == site.unit) code.sites)) (ne_eqb site.unit code.main (λ e. omega (arith, numbered k site is, e, lt)))
      ∙ ap kind_by (one_found code.sites first k site numbered is)
