-- What a vector holds after its items were lent for writing.
use Rattle.std.proofs.Common.{◌≡◌, ℕ, zero, suc, List, [], ◌∷◌, ◌++◌, ◌<◌, length, take, drop, get_or, All, subst, sym, ap, ◌∙◌, arith}

pub written : {X : Type 0} → (n : ℕ) (xs ys : List X) → length xs ≡ length ys → n ≡ length ys → take n (xs ++ drop (length xs) ys) ≡ xs
written n [] [] e is = ap (λ k. take k []) is
written n [] (y ∷ ys) e is = absurd (omega (arith, e))
written n (x ∷ xs) [] e is = absurd (omega (arith, e))
written zero (x ∷ xs) (y ∷ ys) e is = absurd (omega (arith, is))
written (suc n) (x ∷ xs) (y ∷ ys) e is = ap (λ zs. x ∷ zs) (written n xs ys (omega (arith, e)) (omega (arith, is)))

-- what holds of each element that was written holds of each that the vector then has
pub all_written : {X : Type 0} (P : X → Type 0) (n : ℕ) (new old : List X) → length new ≡ length old → n ≡ length old → ((i : ℕ) (d : X) → i < length old → P (get_or new i d)) → All P (take n (new ++ drop (length new) old))
all_written {X} P n new old same is h = subst (All P) (sym (written n new old same is)) (λ i d lt. h i d (omega (arith, lt, same)))

-- what holds of each element before and after it was written holds of what the vector had and has
pub pairs_written : {X : Type 0} (R : X → X → Type 0) (n : ℕ) (lent new old : List X) → lent ≡ old → length new ≡ length lent → n ≡ length old → ((i : ℕ) (d : X) → i < length lent → R (get_or lent i d) (get_or new i d)) → (i : ℕ) (d : X) → i < length old → R (get_or old i d) (get_or (take n (new ++ drop (length new) old)) i d)
pairs_written {X} R n lent new old is same all h i d lt =
    let e = ap length is in
    subst (λ (ws : List X). R (get_or old i d) (get_or ws i d)) (sym (written n new old (same ∙ e) all))
    (subst (λ (ws : List X). R (get_or ws i d) (get_or new i d)) is (h i d (omega (arith, lt, e))))
