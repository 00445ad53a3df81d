-- Numbers in a row.
use Rattle.std.proofs.Common.{◌≡◌, ℕ, zero, suc, ◌+◌, [], ◌∷◌, ◌++◌, map, ap, sym, subst, arith}
use Rattle.std.specs.List.{range_with_len}

-- one more number comes at the end
pub map-range-more : {X : Type 0} (f : ℕ → X) (a n : ℕ) → map f (range_with_len a (suc n)) ≡ map f (range_with_len a n) ++ f (a + n) ∷ []
map-range-more f a zero = let same : a + 0 ≡ a = omega arith in ap (λ k. f k ∷ []) (sym same)
map-range-more f a (suc n) =
    let same : a + 1 + n ≡ a + suc n = omega arith in
    ap (λ xs. f a ∷ xs)
    (subst (λ k. map f (range_with_len (a + 1) (suc n)) ≡ map f (range_with_len (a + 1) n) ++ f k ∷ []) same (map-range-more f (a + 1) n))
