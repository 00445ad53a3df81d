-- Items of lists and of their parts.
use Rattle.std.proofs.Common.{◌≡◌, ℕ, zero, suc, ◌+◌, ◌-◌, ◌<◌, ◌≤◌, List, [], ◌∷◌, length, take, drop, Some, refl, sym, ap, ◌∙◌, arith}
use Rattle.std.specs.Prelude.{slice_get, slice_range}

-- a list that is long enough has an item at a place
pub there : {A : Type 0} (xs : List A) (n : ℕ) → n < length xs → (x : A) × (slice_get xs n ≡ Some x)
there [] n h = absurd (omega arith)
there (x ∷ xs) zero h = (x, refl)
there (x ∷ xs) (suc n) h = there xs n (omega arith)

pub slice_get-drop : {A : Type 0} (n : ℕ) (xs : List A) (k : ℕ) → slice_get (drop n xs) k ≡ slice_get xs (n + k)
slice_get-drop zero xs k = ap (slice_get xs) (let e : k ≡ 0 + k = omega arith in e)
slice_get-drop (suc n) [] k = refl
slice_get-drop (suc n) (x ∷ xs) k = slice_get-drop n xs k ∙ ap (slice_get (x ∷ xs)) (let e : suc (n + k) ≡ suc n + k = omega arith in e)

pub slice_get-take : {A : Type 0} (n : ℕ) (xs : List A) (k : ℕ) → k < n → slice_get (take n xs) k ≡ slice_get xs k
slice_get-take zero xs k h = absurd (omega arith)
slice_get-take (suc n) [] k h = refl
slice_get-take (suc n) (x ∷ xs) zero h = refl
slice_get-take (suc n) (x ∷ xs) (suc k) h = slice_get-take n xs k (omega arith)

taken : {A : Type 0} (n : ℕ) (xs : List A) (k : ℕ) (x : A) → slice_get (take n xs) k ≡ Some x → k < n
taken zero xs k x e = cc
taken (suc n) [] k x e = cc
taken (suc n) (y ∷ xs) zero x e = omega arith
taken (suc n) (y ∷ xs) (suc k) x e = let rest = taken n xs k x e in omega (arith, rest)

-- an item of a part of a list
pub slice_get-range : {A : Type 0} (xs : List A) (from to index : ℕ) (x : A) → slice_get (slice_range xs from to) index ≡ Some x
    → (slice_get xs (from + index) ≡ Some x) × (from + index < to)
slice_get-range xs from to index x is =
    let low = taken (to - from) (drop from xs) index x is in
    (sym (slice_get-drop from xs index) ∙ sym (slice_get-take (to - from) (drop from xs) index low) ∙ is, omega (arith, low))

pub slice_get-in_range : {A : Type 0} (xs : List A) (from to place : ℕ) (x : A) → from ≤ place → place < to → slice_get xs place ≡ Some x
    → slice_get (slice_range xs from to) (place - from) ≡ Some x
slice_get-in_range xs from to place x low high is =
    slice_get-take (to - from) (drop from xs) (place - from) (omega arith) ∙ slice_get-drop from xs (place - from)
    ∙ ap (slice_get xs) (let e : from + (place - from) ≡ place = omega arith in e) ∙ is

pub within-length : {A : Type 0} (xs : List A) (n : ℕ) (x : A) → slice_get xs n ≡ Some x → n < length xs
within-length [] n x is = cc
within-length (y ∷ xs) zero x is = omega arith
within-length (y ∷ xs) (suc n) x is = let low = within-length xs n x is in omega (arith, low)
