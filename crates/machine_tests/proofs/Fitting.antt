-- Codes that are written out, and activations that fit them.
use Rattle.std.proofs.Common.{◌≡◌, ℕ, zero, suc, ◌+◌, ◌<◌, get_or, Bool, true, false, List, [], ◌∷◌, ◌++◌, length, Some, None, Option, ℤ, refl, sym, ap, subst, ◌∙◌, arith}
use Rattle.std.specs.Prelude.{◌==◌, ◌&&◌, nat_le, nat_lt}
use Rattle.std.specs.List.{AllZip, list_all}
use Rattle.std.proofs.lemmas.Bool.{and_parts, eqb-true, ltb-true, leb-true}
use Rattle.flow_core_laws.specs.declared.activation.Activation.{Activation}
use Rattle.flow_core_laws.specs.declared.claim.Claim.{Claim}
use Rattle.os_code.specs.declared.instr.Instr.{Instr}
use Rattle.os_code.specs.declared.parts.Parts.{Parts}
use Rattle.os_code.specs.declared.site.Site.{Site}
use Rattle.os_code.specs.declared.site.SiteItem.{SiteItem}
use Rattle.os_code.specs.declared.unit.CodeUnit.{CodeUnit}
use Rattle.os_code.specs.Parts.{site_at}
use Rattle.os_code.specs.Tasks.{ClaimFits, Fits}
use Rattle.machine_tests.specs.Written.{written_code, same_bool, single_fits, claim_fits, claims_fit, is_run}

-- what holds of each element holds of one
pub of_each : {A : Type 0} (test : A → Bool) (xs : List A) (k : ℕ) (d : A) → k < length xs → list_all test xs ≡ true → test (get_or xs k d) ≡ true
of_each test [] k d inside all = absurd (omega arith)
of_each test (x ∷ xs) zero d inside all = (and_parts (test x) (list_all test xs) all).0
of_each test (x ∷ xs) (suc k) d inside all = of_each test xs k d (omega arith) (and_parts (test x) (list_all test xs) all).1

same-bool : (a b : Bool) → same_bool a b ≡ true → b ≡ a
same-bool true true e = refl
same-bool true false e = cc
same-bool false true e = cc
same-bool false false e = refl

single : (window : Option ℕ) (horizon : ℕ) → single_fits window horizon ≡ true → window ≡ None → horizon ≡ 1
single None horizon e is = eqb-true horizon 1 e
single (Some slot) horizon e is = cc

fits-item : (item : SiteItem) (claim : Claim) → claim_fits item claim ≡ true → ClaimFits 3 item claim
fits-item item claim e =
    let a = and_parts (same_bool item.write claim.write && nat_lt claim.stream 3 && nat_le 1 claim.horizon && nat_le claim.horizon 65536) (single_fits item.window claim.horizon) e in
    let b = and_parts (same_bool item.write claim.write && nat_lt claim.stream 3 && nat_le 1 claim.horizon) (nat_le claim.horizon 65536) a.0 in
    let d = and_parts (same_bool item.write claim.write && nat_lt claim.stream 3) (nat_le 1 claim.horizon) b.0 in
    let f = and_parts (same_bool item.write claim.write) (nat_lt claim.stream 3) d.0 in
    record {
      write = same-bool item.write claim.write f.0;
      stream = ltb-true claim.stream 3 f.1;
      some = leb-true 1 claim.horizon d.1;
      few = leb-true claim.horizon 65536 b.1;
      single = single item.window claim.horizon a.1;
    }

fits-items : (items : List SiteItem) (claims : List Claim) → claims_fit items claims ≡ true → AllZip (ClaimFits 3) items claims
fits-items [] [] e = tt
fits-items [] (claim ∷ claims) e = cc
fits-items (item ∷ items) [] e = cc
fits-items (item ∷ items) (claim ∷ claims) e =
    let parts = and_parts (claim_fits item claim) (claims_fit items claims) e in
    (fits-item item claim parts.0, fits-items items claims parts.1)

pub fits-written : (instrs : List Instr) (units : List CodeUnit) (task : ℕ) (captured : List ℕ) (items : List SiteItem) (values : List ℤ) (claims : List Claim) (inputs outputs : ℕ)
    → is_run captured items values claims inputs outputs ≡ true → (code : Parts) → code ≡ written_code instrs units task captured items
    → (activation : Activation) → activation.site ≡ 0 → activation.captured ≡ values → activation.claims ≡ claims → Fits code activation
fits-written instrs units task captured items values claims inputs outputs e code is activation site held with =
    let a = and_parts _ _ e in
    let b = and_parts _ _ a.0 in
    let d = and_parts (length values == length captured) (claims_fit items claims) b.0 in
    subst (λ (c : Parts). Fits c activation) (sym is)
    (record {
      site_there = omega (arith, site);
      captured = λ one found.
          let same : record { unit = task; line = 90; captured = captured; items = items } ≡ one = the-one one found in
          ap length held ∙ eqb-true (length values) (length captured) d.0 ∙ ap (λ (s : Site). length s.captured) same;
      claims = λ one found.
          let same : record { unit = task; line = 90; captured = captured; items = items } ≡ one = the-one one found in
          subst (λ (s : Site). AllZip (ClaimFits 3) s.items activation.claims) same
          (subst (λ (cs : List Claim). AllZip (ClaimFits 3) items cs) (sym with) (fits-items items claims d.1));
    })
  where
    the-one : (one : Site) → site_at (written_code instrs units task captured items) activation.site ≡ Some one → record { unit = task; line = 90; captured = captured; items = items } ≡ one
    the-one one found =
        let here : Some (record { unit = task; line = 90; captured = captured; items = items }) ≡ Some one = ap (λ (n : ℕ). site_at (written_code instrs units task captured items) n) (sym site) ∙ found in
        cc

-- the one site
abbrev site-of : ℕ → List ℕ → List SiteItem → Site
site-of task captured items = record { unit = task; line = 90; captured = captured; items = items }

pub sites-are : (old new : List Site) (task : ℕ) (a captured : List ℕ) (b items : List SiteItem) → new ≡ old ++ record { unit = task; line = 90; captured = a; items = b } ∷ [] → old ≡ [] → a ≡ captured → b ≡ items
    → new ≡ record { unit = task; line = 90; captured = captured; items = items } ∷ []
sites-are old new task a captured b items pushed none one other =
    pushed ∙ ap (λ (sites : List Site). sites ++ record { unit = task; line = 90; captured = a; items = b } ∷ []) none
    ∙ ap (λ (xs : List ℕ). site-of task xs b ∷ []) one ∙ ap (λ (xs : List SiteItem). site-of task captured xs ∷ []) other
