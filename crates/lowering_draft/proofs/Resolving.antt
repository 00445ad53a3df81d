-- Labels give way one by one.
use Rattle.std.proofs.Common.{◌≡◌, ◌∙◌, ℕ, zero, suc, ◌+◌, ◌<◌, List, [], ◌∷◌, ◌++◌, drop, take, get_or, length, map, slice_set, ap, sym, arith, add-one}
use Rattle.os_code.specs.declared.instr.Instr.{Instr}

module _ (f : Instr → Instr) where
  -- those so far, and the rest
  abbrev partly : ℕ → List Instr → List Instr
  partly i xs = map f (take i xs) ++ drop i xs

  set_next : (xs : List Instr) (i : ℕ) (y d : Instr) → i < length xs → y ≡ f (get_or (partly i xs) i d) → slice_set (partly i xs) i y ≡ partly (suc i) xs
  set_next [] i y d within is = absurd (omega (arith, within))
  set_next (x ∷ xs) zero y d within is = ap (λ z. z ∷ xs) is
  set_next (x ∷ xs) (suc i) y d within is = ap (λ zs. f x ∷ zs) (set_next xs i y d (omega (arith, within)) is)

  pub next_resolved : (xs now : List Instr) (i : ℕ) (y d : Instr) → i < length xs → now ≡ partly i xs → y ≡ f (get_or now i d)
      → slice_set now i y ≡ partly (i + 1) xs
  next_resolved xs now i y d within is element =
      ap (λ zs. slice_set zs i y) is ∙ set_next xs i y d within (element ∙ ap (λ zs. f (get_or zs i d)) is) ∙ ap (λ n. partly n xs) (sym (add-one i))
