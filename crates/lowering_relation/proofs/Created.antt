-- The machine's count of claims and skips is that of the meaning.
use Rattle.std.proofs.Common.{◌≡◌, ℕ, ◌+◌, ◌<◌, ◌≤◌, Bool, true, false, if◌then◌else◌, List, [], ◌∷◌, set, refl, sym, ap, ◌∙◌, arith}
use Rattle.std.proofs.lemmas.List.Sums.{sum_by-append, sum_by-cons}
use Rattle.cddf_meaning.proofs.Sums.{skip-sum}
use Rattle.cddf_meaning.specs.Claims.{since_read, with_skip, with_skips, moves_behind, all_horizons}
use Rattle.cddf_meaning.specs.Skips.{skips_of}
use Rattle.cddf_meaning.specs.declared.cursor_move.Move.{Move}
use Rattle.cddf_meaning.specs.declared.cursor_move.Move.TheVariants.{Take}
use Rattle.flow_core_laws.specs.declared.activation.Activation.{Activation}
use Rattle.flow_core_laws.specs.declared.claim.Claim.{Claim}
use Rattle.flow_core_laws.specs.Window.{claims_of, horizon_sum}
use Rattle.os_code.specs.Machine as machine
use Rattle.os_code.specs.Machine.{claims_with_skips, skips_after, skips_after_all}
use Rattle.lowering_relation.proofs.ItemClaims.{AllBelow}

abbrev size : Claim → ℕ
size c = c.horizon

-- the horizons of all claims so far
pub sums_same : (made : List Activation) → horizon_sum (claims_of made) ≡ all_horizons made
sums_same [] = refl
sums_same (a ∷ made) =
    sum_by-append size a.claims (claims_of made) ∙ ap (λ n. horizon_sum a.claims + n) (sums_same made) ∙ sym (sum_by-cons (λ (x : Activation). horizon_sum x.claims) a made)

skip_size : (skips : List ℕ) (c : Claim) → (machine.with_skip skips c).horizon ≡ c.horizon
skip_size skips c = by_case c.write
  where
    by_case : (t : Bool) → (if t then c else record c { skip = machine.skip_at skips c.stream }).horizon ≡ c.horizon
    by_case true = refl
    by_case false = refl

-- skips change no horizon
pub skipped_sum : (claims : List Claim) (skips : List ℕ) → horizon_sum (claims_with_skips skips claims) ≡ horizon_sum claims
skipped_sum [] skips = refl
skipped_sum (c ∷ claims) skips =
    sum_by-cons size (machine.with_skip skips c) (claims_with_skips (skips_after skips c) claims)
    ∙ ap (λ n. n + horizon_sum (claims_with_skips (skips_after skips c) claims)) (skip_size skips c)
    ∙ ap (λ n. c.horizon + n) (skipped_sum claims (skips_after skips c))
    ∙ sym (sum_by-cons size c claims)

-- The counters of the machine are those behind the moves of the meaning: claims skip the same.
pub record SameClaims (streams : ℕ) (moves : List Move) (made : List Claim) : Type 0 where
  pub claims : claims_with_skips (skips_of streams moves) made ≡ with_skips moves made
  pub skips : skips_after_all (skips_of streams moves) made ≡ skips_of streams (moves_behind moves made)

one_claim : (streams : ℕ) (moves : List Move) (c : Claim) → c.stream < streams →
    (machine.with_skip (skips_of streams moves) c ≡ with_skip moves c) × (skips_after (skips_of streams moves) c ≡ skips_of streams (Take c ∷ moves))
one_claim streams moves c lt = by_case c.write
  where
    by_case : (t : Bool) → ((if t then c else record c { skip = machine.skip_at (skips_of streams moves) c.stream }) ≡ (if t then c else record c { skip = since_read c.stream moves }))
        × ((if t then skips_of streams moves else set (skips_of streams moves) c.stream 0) ≡ (if t then skips_of streams moves else set (skips_of streams moves) c.stream 0))
    by_case true = (refl, refl)
    by_case false = (ap (λ n. record c { skip = n }) (skip-sum streams c.stream moves lt), refl)

pub same_claims : (streams : ℕ) (claims : List Claim) (moves : List Move) → AllBelow streams claims → SameClaims streams moves claims
same_claims streams [] moves h = record { claims = refl; skips = refl }
same_claims streams (c ∷ claims) moves h =
    let one = one_claim streams moves c h.0 in
    let more = same_claims streams claims (Take c ∷ moves) h.1 in
    record {
      claims = ap (λ x. x ∷ claims_with_skips (skips_after (skips_of streams moves) c) claims) one.0 ∙ ap (λ ys. with_skip moves c ∷ claims_with_skips ys claims) one.1 ∙ ap (λ ys. with_skip moves c ∷ ys) more.claims;
      skips = ap (λ ys. skips_after_all ys claims) one.1 ∙ more.skips;
    }

-- there are as many streams and more
pub below_more : (a b : ℕ) (claims : List Claim) → a ≤ b → AllBelow a claims → AllBelow b claims
below_more a b [] le h = tt
below_more a b (c ∷ claims) le h = ((let lt = h.0 in omega (arith, lt, le)), below_more a b claims le h.1)
