-- What stands position by position is a stretch of a list.
use Rattle.std.proofs.Common.{◌≡◌, ℕ, zero, suc, ◌+◌, ◌<◌, ◌≤◌, List, ◌∷◌, map, length, get_or, take, drop, refl, sym, ap, ◌∙◌, arith}
use Rattle.std.specs.List.{range_with_len}
use Rattle.std.proofs.lemmas.List.{drop_more}

module _ {X Y : Type 0} (f : ℕ → Y) (g : X → Y) (xs : List X) (d : X) (base : ℕ) (same : (k : ℕ) → k < length xs → f (base + k) ≡ g (get_or xs k d)) where
  pub map-stretch : (first count : ℕ) → first + count ≤ length xs → map f (range_with_len (base + first) count) ≡ map g (take count (drop first xs))
  map-stretch first zero within = refl
  map-stretch first (suc n) within =
      let lt : first < length xs = omega arith in
      let next : base + first + 1 ≡ base + (first + 1) = omega arith in
      ap (λ (y : Y). y ∷ map f (range_with_len (base + first + 1) n)) (same first lt)
      ∙ ap (λ (k : ℕ). g (get_or xs first d) ∷ map f (range_with_len k n)) next
      ∙ ap (λ (ys : List Y). g (get_or xs first d) ∷ ys) (map-stretch (first + 1) n (omega arith))
      ∙ ap (λ (zs : List X). map g (take (suc n) zs)) (sym (drop_more xs first d lt))
