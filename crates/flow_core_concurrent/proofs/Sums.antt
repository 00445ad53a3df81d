-- Sums over lists of which one item changes.
use Rattle.std.proofs.Common.{◌≡◌, ℕ, zero, suc, ◌+◌, ◌≤◌, ◌≢◌, Bool, true, false, List, [], ◌∷◌, ◌++◌, Option, Some, None, get_or, set, refl, sym, ap, ◌∙◌, subst, ◌⊎◌, inl, inr, arith, count_by, cond}
use Rattle.std.specs.Prelude.{sum_by, slice_get}
use Rattle.std.specs.Option.{option_map_or}
use Rattle.std.proofs.lemmas.Option.{slice_get_within, get_or_from_slice_get, same_Some}
use Rattle.std.proofs.lemmas.List.{set-get_or}
use Rattle.flow_core_concurrent.specs.Counted.{one}
use Rattle.std.proofs.lemmas.List.Sums.{sum_by-cons, sum_by-set, sum_by_push, sum_by-le-sum_by, get_or-le-sum_by}

-- what stands at a place after one place was written
pub at_set : {X : Type 0} (xs : List X) (i j : ℕ) (y x : X) → slice_get (set xs i y) j ≡ Some x → ((j ≡ i) × (y ≡ x)) ⊎ ((j ≢ i) × (slice_get xs j ≡ Some x))
at_set [] i j y x h = inr ((λ e. let n : Some x ≡ None = sym h in absurd (cc)), h)
at_set (z ∷ xs) zero zero y x h = inl (refl, same_Some y x h)
at_set (z ∷ xs) zero (suc j) y x h = inr ((λ e. omega arith), h)
at_set (z ∷ xs) (suc i) zero y x h = inr ((λ e. omega arith), h)
at_set (z ∷ xs) (suc i) (suc j) y x h = again (at_set xs i j y x h)
  where
    again : ((j ≡ i) × (y ≡ x)) ⊎ ((j ≢ i) × (slice_get xs j ≡ Some x)) → ((suc j ≡ suc i) × (y ≡ x)) ⊎ ((suc j ≢ suc i) × (slice_get xs j ≡ Some x))
    again (inl (e, same)) = inl (ap suc e, same)
    again (inr (n, there)) = inr ((λ e. n (omega arith)), there)

-- what stands at a place after one item was added
pub at_push : {X : Type 0} (xs : List X) (j : ℕ) (y x : X) → slice_get (xs ++ y ∷ []) j ≡ Some x → (slice_get xs j ≡ Some x) ⊎ (y ≡ x)
at_push [] zero y x h = inr (same_Some y x h)
at_push [] (suc j) y x h = absurd (cc)
at_push (z ∷ xs) zero y x h = inl h
at_push (z ∷ xs) (suc j) y x h = at_push xs j y x h

pub set_again : {X : Type 0} (xs : List X) (i : ℕ) (x : X) → slice_get xs i ≡ Some x → set xs i x ≡ xs
set_again xs i x h = ap (set xs i) (sym (get_or_from_slice_get xs i x x h)) ∙ set-get_or xs i x

-- a sum after one place was written
pub sum_by-written : {X : Type 0} (f : X → ℕ) (xs : List X) (i : ℕ) (x y : X) → slice_get xs i ≡ Some x → sum_by f (set xs i y) + f x ≡ sum_by f xs + f y
sum_by-written f xs i x y h =
    let e : f (get_or xs i x) ≡ f x = ap f (get_or_from_slice_get xs i x x h) in
    let s = sum_by-set f xs i y x (slice_get_within xs i x h) in
    omega (arith, e, s)

pub sum_by-kept : {X : Type 0} (f : X → ℕ) (xs : List X) (i : ℕ) (x y : X) → slice_get xs i ≡ Some x → f y ≡ f x → sum_by f (set xs i y) ≡ sum_by f xs
sum_by-kept f xs i x y h e = let s = sum_by-written f xs i x y h in omega (arith, e, s)

pub sum_by-has : {X : Type 0} (f : X → ℕ) (xs : List X) (i : ℕ) (x : X) → slice_get xs i ≡ Some x → f x ≤ sum_by f xs
sum_by-has f xs i x h =
    let e : f (get_or xs i x) ≡ f x = ap f (get_or_from_slice_get xs i x x h) in
    let s = get_or-le-sum_by f xs i x (slice_get_within xs i x h) in
    omega (arith, e, s)

-- where just one item weighs by one measure, it alone weighs by each that is at most as heavy
pub sum_by-sole : {X : Type 0} (g h : X → ℕ) (xs : List X) (i : ℕ) (x : X) → ((y : X) → g y ≤ h y) → slice_get xs i ≡ Some x → h x ≡ 1 → sum_by h xs ≡ 1 → sum_by g xs ≡ g x
sum_by-sole g h [] i x le there weighs all = absurd (cc)
sum_by-sole g h (y ∷ xs) zero x le there weighs all =
    let e : y ≡ x = same_Some y x there in
    let hy : h y ≡ h x = ap h e in
    let gy : g y ≡ g x = ap g e in
    let a = sum_by-cons h y xs in
    let b = sum_by-cons g y xs in
    let l = sum_by-le-sum_by g h xs le in
    omega (arith, hy, gy, a, b, l, weighs, all)
sum_by-sole g h (y ∷ xs) (suc i) x le there weighs all =
    let a = sum_by-cons h y xs in
    let b = sum_by-cons g y xs in
    let m = sum_by-has h xs i x there in
    let l = le y in
    let r = sum_by-sole g h xs i x le there weighs (omega (arith, a, m, weighs, all)) in
    omega (arith, a, b, m, l, r, weighs, all)

-- counts by tests that agree
pub count_by-same : {X : Type 0} (p q : X → Bool) (xs : List X) → ((x : X) → p x ≡ q x) → count_by p xs ≡ count_by q xs
count_by-same p q [] same = refl
count_by-same p q (x ∷ xs) same =
    let a = sum_by-cons (λ y. cond {A = ℕ} (p y) 1 0) x xs in
    let b = sum_by-cons (λ y. cond {A = ℕ} (q y) 1 0) x xs in
    let e : cond {A = ℕ} (p x) 1 0 ≡ cond (q x) 1 0 = ap (λ (t : Bool). cond {A = ℕ} t 1 0) (same x) in
    let r : count_by p xs ≡ count_by q xs = count_by-same p q xs same in
    omega (arith, a, b, e, r)

pub option_map_or-same : {X Y : Type 0} (f g : X → Y) (o : Option X) (d : Y) → ((x : X) → o ≡ Some x → f x ≡ g x) → option_map_or f o d ≡ option_map_or g o d
option_map_or-same f g None d same = refl
option_map_or-same f g (Some x) d same = same x refl

-- what stands at another place
pub at_other : {X : Type 0} (xs : List X) (i j : ℕ) (y : X) → j ≢ i → slice_get (set xs i y) j ≡ slice_get xs j
at_other [] i j y n = refl
at_other (z ∷ xs) zero zero y n = absurd (n refl)
at_other (z ∷ xs) zero (suc j) y n = refl
at_other (z ∷ xs) (suc i) zero y n = refl
at_other (z ∷ xs) (suc i) (suc j) y n = at_other xs i j y (λ e. n (ap suc e))

-- a fact of each item after one place was written
pub each_set : {X : Type 0} (P : X → Type 0) (xs : List X) (i : ℕ) (y : X) → P y → ((j : ℕ) (x : X) → j ≢ i → slice_get xs j ≡ Some x → P x) → (j : ℕ) (x : X) → slice_get (set xs i y) j ≡ Some x → P x
each_set {X = X} P xs i y at_y others j x h = by (at_set xs i j y x h)
  where
    by : ((j ≡ i) × (y ≡ x)) ⊎ ((j ≢ i) × (slice_get xs j ≡ Some x)) → P x
    by (inl (e, same)) = subst P same at_y
    by (inr (n, there)) = others j x n there

-- and after one was added
pub each_push : {X : Type 0} (P : X → Type 0) (xs : List X) (y : X) → P y → ((j : ℕ) (x : X) → slice_get xs j ≡ Some x → P x) → (j : ℕ) (x : X) → slice_get (xs ++ y ∷ []) j ≡ Some x → P x
each_push {X = X} P xs y at_y others j x h = by (at_push xs j y x h)
  where
    by : (slice_get xs j ≡ Some x) ⊎ (y ≡ x) → P x
    by (inl there) = others j x there
    by (inr same) = subst P same at_y

-- counts after one place was written
pub count_by-written : {X : Type 0} (p : X → Bool) (xs : List X) (i : ℕ) (x y : X) → slice_get xs i ≡ Some x → count_by p (set xs i y) + one (p x) ≡ count_by p xs + one (p y)
count_by-written p xs i x y h = sum_by-written (λ z. one (p z)) xs i x y h

pub count_by-kept : {X : Type 0} (p : X → Bool) (xs : List X) (i : ℕ) (x y : X) → slice_get xs i ≡ Some x → p y ≡ p x → count_by p (set xs i y) ≡ count_by p xs
count_by-kept p xs i x y h e = sum_by-kept (λ z. one (p z)) xs i x y h (ap one e)

pub count_by-has : {X : Type 0} (p : X → Bool) (xs : List X) (i : ℕ) (x : X) → slice_get xs i ≡ Some x → p x ≡ true → 1 ≤ count_by p xs
count_by-has p xs i x h e = let s = sum_by-has (λ z. one (p z)) xs i x h in let o : one (p x) ≡ 1 = ap one e in omega (arith, s, o)

pub count_by_push : {X : Type 0} (p : X → Bool) (xs : List X) (y : X) → count_by p (xs ++ y ∷ []) ≡ count_by p xs + one (p y)
count_by_push p xs y = sum_by_push (λ z. one (p z)) xs y

pub count_by-sole : {X : Type 0} (p q : X → Bool) (xs : List X) (i : ℕ) (x : X) → ((y : X) → p y ≡ true → q y ≡ true) → slice_get xs i ≡ Some x → q x ≡ true → count_by q xs ≡ 1 → count_by p xs ≡ one (p x)
count_by-sole p q xs i x implies h at_x all = sum_by-sole (λ z. one (p z)) (λ z. one (q z)) xs i x (λ y. at_most (p y) (q y) (implies y)) h (ap one at_x) all
  where
    at_most : (a b : Bool) → (a ≡ true → b ≡ true) → one a ≤ one b
    at_most false b f = omega arith
    at_most true true f = omega arith
    at_most true false f = let n : false ≡ true = f refl in absurd (cc)
