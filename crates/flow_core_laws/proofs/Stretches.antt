-- Lists that are put together from one part for each number of a stretch, and their elements.
use Rattle.std.proofs.Common.{map, ◌≡◌, ℕ, zero, suc, ◌+◌, ◌-◌, ◌<◌, ◌≤◌, List, [], ◌∷◌, ◌++◌, Some, length, refl, sym, ap, ◌∙◌, ◌⊎◌, inl, inr, arith}
use Rattle.std.specs.Prelude.{slice_get}
use Rattle.std.specs.List.{flat_map, range_with_len}
use Rattle.std.proofs.lemmas.Bool.{cases_lt}
use Rattle.std.proofs.lemmas.List.{append-nil, append_assoc, length-append}
use Rattle.std.proofs.lemmas.Option.{slice_get_within}

-- an element of joined lists
pub slice_get-append_left : {A : Type 0} (xs ys : List A) (i : ℕ) → i < length xs → slice_get (xs ++ ys) i ≡ slice_get xs i
slice_get-append_left [] ys i lt = absurd (omega arith)
slice_get-append_left (x ∷ xs) ys zero lt = refl
slice_get-append_left (x ∷ xs) ys (suc i) lt = slice_get-append_left xs ys i (omega arith)

pub slice_get-append_right : {A : Type 0} (xs ys : List A) (i : ℕ) → slice_get (xs ++ ys) (length xs + i) ≡ slice_get ys i
slice_get-append_right [] ys i = ap (slice_get ys) (let e : 0 + i ≡ i = omega arith in e)
slice_get-append_right (x ∷ xs) ys i = ap (slice_get (x ∷ (xs ++ ys))) (let e : suc (length xs) + i ≡ suc (length xs + i) = omega arith in e) ∙ slice_get-append_right xs ys i

-- one more number, and its part
pub flat_map-range_more : {A : Type 0} (f : ℕ → List A) (from n : ℕ) → flat_map f (range_with_len from (n + 1)) ≡ flat_map f (range_with_len from n) ++ f (from + n)
flat_map-range_more f from zero =
    ap (λ k. flat_map f (range_with_len from k)) (let e : 0 + 1 ≡ 1 = omega arith in e) ∙ append-nil (f from) ∙ ap f (let e : from ≡ from + 0 = omega arith in e)
flat_map-range_more f from (suc n) =
    ap (λ k. flat_map f (range_with_len from k)) (let e : suc n + 1 ≡ suc (n + 1) = omega arith in e)
    ∙ ap (λ ys. f from ++ ys) (flat_map-range_more f (from + 1) n)
    ∙ sym (append_assoc (f from) (flat_map f (range_with_len (from + 1) n)) (f (from + 1 + n)))
    ∙ ap (λ k. (f from ++ flat_map f (range_with_len (from + 1) n)) ++ f k) (let e : from + 1 + n ≡ from + suc n = omega arith in e)

-- a stretch of numbers in two
pub flat_map-range-add : {A : Type 0} (f : ℕ → List A) (a n m : ℕ) → flat_map f (range_with_len a (n + m)) ≡ flat_map f (range_with_len a n) ++ flat_map f (range_with_len (a + n) m)
flat_map-range-add f a zero m =
    ap (λ k. flat_map f (range_with_len a k)) (let e : 0 + m ≡ m = omega arith in e) ∙ ap (λ k. flat_map f (range_with_len k m)) (let e : a ≡ a + 0 = omega arith in e)
flat_map-range-add f a (suc n) m =
    ap (λ k. flat_map f (range_with_len a k)) (let e : suc n + m ≡ suc (n + m) = omega arith in e)
    ∙ ap (λ ys. f a ++ ys) (flat_map-range-add f (a + 1) n m)
    ∙ sym (append_assoc (f a) (flat_map f (range_with_len (a + 1) n)) (flat_map f (range_with_len (a + 1 + n) m)))
    ∙ ap (λ k. (f a ++ flat_map f (range_with_len (a + 1) n)) ++ flat_map f (range_with_len k m)) (let e : a + 1 + n ≡ a + suc n = omega arith in e)

-- numbers without parts
pub flat_map-none : {A : Type 0} (f : ℕ → List A) (a n : ℕ) → ((k : ℕ) → a ≤ k → k < a + n → f k ≡ []) → flat_map f (range_with_len a n) ≡ []
flat_map-none f a zero none = refl
flat_map-none f a (suc n) none = ap (λ xs. xs ++ flat_map f (range_with_len (a + 1) n)) (none a (omega arith) (omega arith)) ∙ flat_map-none f (a + 1) n (λ k l u. none k (omega arith) (omega arith))

-- the same parts
pub flat_map-range-same : {X : Type 0} (f g : ℕ → List X) (a n : ℕ) → ((k : ℕ) → a ≤ k → k < a + n → f k ≡ g k) → flat_map f (range_with_len a n) ≡ flat_map g (range_with_len a n)
flat_map-range-same f g a zero h = refl
flat_map-range-same f g a (suc n) h =
    ap (λ xs. xs ++ flat_map f (range_with_len (a + 1) n)) (h a (omega arith) (omega arith))
    ∙ ap (λ ys. g a ++ ys) (flat_map-range-same f g (a + 1) n (λ k l u. h k (omega arith) (omega arith)))

-- one element for each number: a stretch in two, and another stretch
pub map-range-add : {X : Type 0} (f : ℕ → X) (a n m : ℕ) → map f (range_with_len a (n + m)) ≡ map f (range_with_len a n) ++ map f (range_with_len (a + n) m)
map-range-add f a zero m = ap (λ k. map f (range_with_len a k)) (let e : 0 + m ≡ m = omega arith in e) ∙ ap (λ k. map f (range_with_len k m)) (let e : a ≡ a + 0 = omega arith in e)
map-range-add f a (suc n) m =
    ap (λ k. map f (range_with_len a k)) (let e : suc n + m ≡ suc (n + m) = omega arith in e)
    ∙ ap (λ xs. f a ∷ xs) (map-range-add f (a + 1) n m)
    ∙ ap (λ k. f a ∷ (map f (range_with_len (a + 1) n) ++ map f (range_with_len k m))) (let e : a + 1 + n ≡ a + suc n = omega arith in e)

pub map-range-shift : {X : Type 0} (f g : ℕ → X) (a b n : ℕ) → ((k : ℕ) → k < n → f (a + k) ≡ g (b + k)) → map f (range_with_len a n) ≡ map g (range_with_len b n)
map-range-shift f g a b zero h = refl
map-range-shift f g a b (suc n) h =
    let here : f a ≡ g b = ap f (let e : a ≡ a + 0 = omega arith in e) ∙ h 0 (omega arith) ∙ ap g (let e : b + 0 ≡ b = omega arith in e) in
    ap (λ x. x ∷ map f (range_with_len (a + 1) n)) here
    ∙ ap (λ xs. g b ∷ xs) (map-range-shift f g (a + 1) (b + 1) n (λ k l. ap f (let e : a + 1 + k ≡ a + (k + 1) = omega arith in e) ∙ h (k + 1) (omega arith) ∙ ap g (let e : b + (k + 1) ≡ b + 1 + k = omega arith in e)))

-- the parts before one of a stretch
abbrev pub parts_before : {A : Type 0} → (ℕ → List A) → ℕ → ℕ → List A
parts_before f from a = flat_map f (range_with_len from (a - from))

-- Where an element stands: its part, and its place there.
pub record StandsIn {A : Type 0} (f : ℕ → List A) (from n i : ℕ) (x : A) : Type 0 where
  pub part : ℕ
  pub place : ℕ
  pub low : from ≤ part
  pub high : part < from + n
  pub at : slice_get (f part) place ≡ Some x
  pub behind : i ≡ length (parts_before f from part) + place

-- each element stands in a part
pub stands_in : {A : Type 0} (f : ℕ → List A) (from n i : ℕ) (x : A) → slice_get (flat_map f (range_with_len from n)) i ≡ Some x → StandsIn f from n i x
stands_in f from zero i x h = absurd (cc)
stands_in {A = A} f from (suc n) i x h = by_place (cases_lt i (length (f from))) (stands_in f (from + 1) n (i - length (f from)) x)
  where
    rest : List A
    rest = flat_map f (range_with_len (from + 1) n)

    later : length (f from) ≤ i → StandsIn f (from + 1) n (i - length (f from)) x → StandsIn f from (suc n) i x
    later ge s =
        let one : parts_before f from s.part ≡ f from ++ parts_before f (from + 1) s.part = ap (λ k. flat_map f (range_with_len from k)) (let low = s.low in let e : s.part - from ≡ suc (s.part - (from + 1)) = omega arith in e) in
        let len : length (parts_before f from s.part) ≡ length (f from) + length (parts_before f (from + 1) s.part) = ap length one ∙ length-append (f from) (parts_before f (from + 1) s.part) in
        record {
          part = s.part;
          place = s.place;
          low = let low = s.low in omega arith;
          high = let high = s.high in omega arith;
          at = s.at;
          behind = let b = s.behind in omega arith;
        }

    by_place : (i < length (f from)) ⊎ (length (f from) ≤ i) → (slice_get (flat_map f (range_with_len (from + 1) n)) (i - length (f from)) ≡ Some x → StandsIn f (from + 1) n (i - length (f from)) x) → StandsIn f from (suc n) i x
    by_place (inl lt) next = record {
      part = from;
      place = i;
      low = omega arith;
      high = omega arith;
      at = sym (slice_get-append_left (f from) rest i lt) ∙ h;
      behind = let e : parts_before f from from ≡ [] = ap (λ k. flat_map f (range_with_len from k)) (let z : from - from ≡ 0 = omega arith in z) in let l : length (parts_before f from from) ≡ 0 = ap length e in omega arith;
    }
    by_place (inr ge) next = later ge (next (sym (slice_get-append_right (f from) rest (i - length (f from))) ∙ ap (slice_get (f from ++ rest)) (let e : length (f from) + (i - length (f from)) ≡ i = omega arith in e) ∙ h))

-- and what stands in a part stands there in the whole
pub stands_at : {A : Type 0} (f : ℕ → List A) (from n a k : ℕ) (x : A) → from ≤ a → a < from + n → slice_get (f a) k ≡ Some x → slice_get (flat_map f (range_with_len from n)) (length (parts_before f from a) + k) ≡ Some x
stands_at f from zero a k x low high h = absurd (omega arith)
stands_at {A = A} f from (suc n) a k x low high h = by_part (cases_lt from a) (λ l. stands_at f (from + 1) n a k x l (omega arith) h)
  where
    rest : List A
    rest = flat_map f (range_with_len (from + 1) n)

    here : a ≡ from → slice_get (f from ++ rest) (length (parts_before f from a) + k) ≡ Some x
    here same =
        let l : length (parts_before f from a) ≡ 0 = ap (λ m. length (flat_map f (range_with_len from m))) (let z : a - from ≡ 0 = omega arith in z) in
        let at : slice_get (f from) k ≡ Some x = ap (λ b. slice_get (f b) k) (sym same) ∙ h in
        ap (slice_get (f from ++ rest)) (let e : length (parts_before f from a) + k ≡ k = omega arith in e) ∙ slice_get-append_left (f from) rest k (slice_get_within (f from) k x at) ∙ at

    by_part : (from < a) ⊎ (a ≤ from) → (from + 1 ≤ a → slice_get (flat_map f (range_with_len (from + 1) n)) (length (parts_before f (from + 1) a) + k) ≡ Some x) → slice_get (f from ++ rest) (length (parts_before f from a) + k) ≡ Some x
    by_part (inl lt) next =
        let one : parts_before f from a ≡ f from ++ parts_before f (from + 1) a = ap (λ m. flat_map f (range_with_len from m)) (let e : a - from ≡ suc (a - (from + 1)) = omega arith in e) in
        let len : length (parts_before f from a) ≡ length (f from) + length (parts_before f (from + 1) a) = ap length one ∙ length-append (f from) (parts_before f (from + 1) a) in
        ap (slice_get (f from ++ rest)) (let e : length (parts_before f from a) + k ≡ length (f from) + (length (parts_before f (from + 1) a) + k) = omega arith in e)
        ∙ slice_get-append_right (f from) rest (length (parts_before f (from + 1) a) + k)
        ∙ next (omega arith)
    by_part (inr ge) next = here (omega arith)
