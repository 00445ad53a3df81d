-- How many parts an input has.
use Rattle.std.proofs.Common.{◌≡◌, ℕ, zero, suc, ◌+◌, ◌-◌, ◌*◌, ◌/◌, ◌%◌, ◌<◌, ◌≤◌, max, refl, sym, ap, ◌∙◌, arith, suc-mul, div-add-mod'}
use Rattle.std.proofs.lemmas.Nat.{div-mul-add, mod_below}
use Rattle.osparts_parts.specs.Parts.{count_of}

-- an input that ends in part n
pub count_ends : (size n long : ℕ) → 1 ≤ size → n * size < long → long ≤ n * size + size → count_of size long ≡ suc n
count_ends size n long some low high =
    let rest : ℕ = long - (n * size) - 1 in
    let step : suc n * size ≡ n * size + size = suc-mul n size in
    let all : long + (size - 1) ≡ suc n * size + (long - (n * size) - 1) = omega (arith, step, some, low, high) in
    let quotient : (long + (size - 1)) / size ≡ suc n =
    ap (λ (k : ℕ). k / size) all ∙ div-mul-add (suc n) size (long - (n * size) - 1) (omega (arith, some, low, high)) in
    ap (max 1) quotient ∙ max_one n
  where
    max_one : (k : ℕ) → max 1 (suc k) ≡ suc k
    max_one k = omega arith

-- an input without bytes has one part
pub count_none : (size : ℕ) → 1 ≤ size → count_of size 0 ≡ 1
count_none size some =
    let all : 0 + (size - 1) ≡ 0 * size + (size - 1) = omega arith in
    ap (λ (k : ℕ). max 1 (k / size)) all ∙ ap (max 1) (div-mul-add 0 size (size - 1) (omega (arith, some)))

-- an input that is no longer than a part has one
pub count_one : (size long : ℕ) → 1 ≤ size → long ≤ size → count_of size long ≡ 1
count_one size zero some short = count_none size some
count_one size (suc m) some short = count_ends size 0 (suc m) some (omega arith) (omega (arith, short))

-- there are parts for all bytes
pub record Covers (size long : ℕ) : Type 0 where
  pub others : ℕ
  pub count : count_of size long ≡ suc others
  pub all : long ≤ others * size + size
  pub begun : others * size ≤ long

covers_by : (size long q : ℕ) → q ≡ (long + (size - 1)) / size → long ≤ q * size → q * size ≤ long + (size - 1) → 1 ≤ size → Covers size long
covers_by size long zero is all low some =
    record { others = 0; count = ap (max 1) (sym is); all = omega (arith, all); begun = omega arith }
covers_by size long (suc m) is all low some =
    record { others = m; count = ap (max 1) (sym is) ∙ max_one m; all = omega (arith, all, suc-mul m size); begun = omega (arith, low, some, suc-mul m size) }
  where
    max_one : (k : ℕ) → max 1 (suc k) ≡ suc k
    max_one k = omega arith

pub covers : (size long : ℕ) → 1 ≤ size → Covers size long
covers size long some =
    let q : ℕ = (long + (size - 1)) / size in
    let rest : (long + (size - 1)) % size < size = mod_below (long + (size - 1)) size some in
    let whole : (long + (size - 1)) / size * size + (long + (size - 1)) % size ≡ long + (size - 1) = div-add-mod' (long + (size - 1)) size in
    covers_by size long ((long + (size - 1)) / size) refl (omega (arith, rest, whole, some)) (omega (arith, whole)) some
