-- Looking up frames and kept elements by halving.
use Rattle.std.proofs.Common.{◌≡◌, ◌≢◌, ℕ, zero, suc, ◌+◌, ◌-◌, ◌<◌, ◌≤◌, Bool, true, false, cond, List, [], ◌∷◌, Option, Some, None, length, map, get_or, refl, sym, ap, ◌∙◌, subst, ◌⊎◌, inl, inr, arith}
use Rattle.std.specs.Prelude.{slice_get, find, nat_lt, ◌==◌, ◌&&◌}
use Rattle.std.specs.Option.{option_map}
use Rattle.std.specs.List.{position, position_or_len}
use Rattle.std.specs.List.Sorted.{IsPermutation}
use Rattle.std.proofs.lemmas.Bool.{and_parts, eqb-true, cases_lt, cases_order, le-ltb}
use Rattle.std.proofs.lemmas.List.Sums.{position_or_len_is}
use Rattle.std.proofs.lemmas.Option.{slice_get-get_or, slice_get_within, get_or_from_slice_get, same_Some}
use Rattle.std.proofs.lemmas.List.Sorted.{IsPermutation-map, IsPermutation-sym, Contains-permutation}
use Rattle.flow_core_laws.specs.declared.place.Place.{Place}
use Rattle.flow_core_laws.proofs.Sources.{position_only, find_passes}
use Rattle.flow_core_epochs.specs.Epoch as epoch
use Rattle.flow_core_epochs.specs.Epoch.{number_among, is_at, value_kept, PlacesDiffer}
use Rattle.flow_core_epochs.proofs.Reading.{has_contained}
use Rattle.stream_match.specs.declared.kept.Kept.{Kept}
use Rattle.stream_match.specs.declared.stretch.Stretch.{Stretch}
use Rattle.stream_match.specs.Kept.{kept_of}
use Rattle.stream_match.specs.EpochCode.{Ascend, AreBefore, IsFirstFrom, LiesBefore, NoneIsKept, AreSorted}
use Rattle.stream_match.proofs.Counting.{same_test}

-- ---- frames

pub ascend-rise : (xs : List ℕ) → Ascend xs → (i j : ℕ) → i ≤ j → j < length xs → get_or xs i 0 ≤ get_or xs j 0
ascend-rise xs up i j le lt = elim (cases_lt i j) [
  | inl less ↦ omega (arith, up i j less lt)
  | inr ge ↦ (let e = ap (λ k. get_or xs k 0) (let z : i ≡ j = omega arith in z) in omega (arith, e))
]

pub found_number : (xs : List ℕ) (a i : ℕ) → Ascend xs → i < length xs → get_or xs i 0 ≡ a → number_among xs a ≡ Some i
found_number xs a i up lt is = position_only (λ f. f == a) xs i (get_or xs i 0) (slice_get-get_or xs i 0 lt) (same_test (get_or xs i 0) a is) (λ j y at passes. only j y at (eqb-true y a passes) (cases_order j i))
  where
    only : (j y : ℕ) → slice_get xs j ≡ Some y → y ≡ a → (j ≡ i) ⊎ ((j < i) ⊎ (i < j)) → j ≡ i
    only j y at same (inl e) = e
    only j y at same (inr (inl less)) = let v = get_or_from_slice_get xs j y 0 at in absurd (omega (arith, up j i less lt, v))
    only j y at same (inr (inr more)) = let v = get_or_from_slice_get xs j y 0 at in absurd (omega (arith, up i j more (slice_get_within xs j y at), v))

pub no_number : (xs : List ℕ) (a : ℕ) → ((k : ℕ) → k < length xs → get_or xs k 0 ≡ a → ⊥) → number_among xs a ≡ None
no_number xs a free =
    let e : position_or_len (λ f. f == a) xs ≡ length xs = position_or_len_is (λ f. f == a) xs (length xs) 0 (omega arith) (λ k lt. fails k lt (get_or xs k 0 == a) refl) (λ lt. absurd (omega arith)) in
    ap (λ i. cond (nat_lt i (length xs)) (Some i) None) e ∙ ap (λ b. cond b (Some (length xs)) None) (le-ltb (length xs) (length xs) (omega arith))
  where
    fails : (k : ℕ) → k < length xs → (b : Bool) → (get_or xs k 0 == a) ≡ b → (get_or xs k 0 == a) ≡ false
    fails k lt false e = e
    fails k lt true e = absurd (free k lt (eqb-true (get_or xs k 0) a e))

-- ---- kept elements

-- an element that is not at a place
pub not_at : (stream position : ℕ) (l : Kept) → (l.stream ≡ stream → l.position ≡ position → ⊥) → is_at (record { stream = stream; position = position }) (kept_of l) ≡ false
not_at stream position l other = by_test (is_at (record { stream = stream; position = position }) (kept_of l)) refl
  where
    by_test : (b : Bool) → is_at (record { stream = stream; position = position }) (kept_of l) ≡ b → is_at (record { stream = stream; position = position }) (kept_of l) ≡ false
    by_test false e = e
    by_test true e = let parts = and_parts (l.stream == stream) (l.position == position) e in absurd (other (eqb-true l.stream stream parts.0) (eqb-true l.position position parts.1))

before_not_at : (stream position : ℕ) (l : Kept) → LiesBefore stream position l → is_at (record { stream = stream; position = position }) (kept_of l) ≡ false
before_not_at stream position l (inl less) = not_at stream position l (λ s p. absurd (omega arith))
before_not_at stream position l (inr (same, less)) = not_at stream position l (λ s p. absurd (omega arith))

-- where no element is at a place, none is kept for it
none_at : (place : Place) (kept : List Kept) → ((i : ℕ) (l : Kept) → slice_get kept i ≡ Some l → is_at place (kept_of l) ≡ false) → find (is_at place) (map kept_of kept) ≡ None
none_at place [] free = refl
none_at place (x ∷ xs) free = ap (λ b. cond b (Some (kept_of x)) (find (is_at place) (map kept_of xs))) (free 0 x refl) ∙ none_at place xs (λ i l at. free (suc i) l at)

-- the first one that may be
one_at : (place : Place) (kept : List Kept) (n : ℕ) (k : Kept) → slice_get kept n ≡ Some k → ((i : ℕ) (l : Kept) → i ≢ n → slice_get kept i ≡ Some l → is_at place (kept_of l) ≡ true → is_at place (kept_of k) ≡ true) → ((i : ℕ) (l : Kept) → i < n → slice_get kept i ≡ Some l → is_at place (kept_of l) ≡ false)
    → value_kept (map kept_of kept) place ≡ value_kept (kept_of k ∷ []) place
one_at place [] n k at later before = absurd (cc)
one_at place (x ∷ xs) zero k at later before = by_test (is_at place (kept_of x)) refl
  where
    same : x ≡ k
    same = same_Some x k at

    by_test : (b : Bool) → is_at place (kept_of x) ≡ b → option_map (λ (l : epoch.Kept). l.value) (cond (is_at place (kept_of x)) (Some (kept_of x)) (find (is_at place) (map kept_of xs))) ≡ option_map (λ (l : epoch.Kept). l.value) (cond (is_at place (kept_of k)) (Some (kept_of k)) None)
    by_test true e =
        ap (λ b. option_map (λ (l : epoch.Kept). l.value) (cond b (Some (kept_of x)) (find (is_at place) (map kept_of xs)))) e
        ∙ sym (ap (λ b. option_map (λ (l : epoch.Kept). l.value) (cond b (Some (kept_of x)) None)) e)
        ∙ ap (λ (y : Kept). option_map (λ (l : epoch.Kept). l.value) (cond (is_at place (kept_of y)) (Some (kept_of y)) None)) same
    by_test false e =
        ap (λ b. option_map (λ (l : epoch.Kept). l.value) (cond b (Some (kept_of x)) (find (is_at place) (map kept_of xs)))) e
        ∙ ap (option_map (λ (l : epoch.Kept). l.value)) (none_at place xs (λ i l h. rest i l h (is_at place (kept_of l)) refl))
        ∙ sym (ap (λ b. option_map (λ (l : epoch.Kept). l.value) (cond b (Some (kept_of x)) None)) e)
        ∙ ap (λ (y : Kept). option_map (λ (l : epoch.Kept). l.value) (cond (is_at place (kept_of y)) (Some (kept_of y)) None)) same
      where
        rest : (i : ℕ) (l : Kept) → slice_get xs i ≡ Some l → (b : Bool) → is_at place (kept_of l) ≡ b → is_at place (kept_of l) ≡ false
        rest i l h false t = t
        rest i l h true t = absurd (let z = later (suc i) l (λ s. absurd (omega arith)) h t in let y : is_at place (kept_of x) ≡ true = ap (λ (w : Kept). is_at place (kept_of w)) same ∙ z in cc)
one_at place (x ∷ xs) (suc n) k at later before =
    ap (λ b. option_map (λ (l : epoch.Kept). l.value) (cond b (Some (kept_of x)) (find (is_at place) (map kept_of xs)))) (before 0 x (omega arith) refl)
    ∙ one_at place xs n k at (λ i l other h t. later (suc i) l (λ s. other (omega arith)) h t) (λ i l less h. before (suc i) l (omega arith) h)

-- what halving found
pub looked_up : (kept : List Kept) (stream position n : ℕ) (k : Kept) → AreSorted kept → ((i : ℕ) (l : Kept) → i < n → slice_get kept i ≡ Some l → LiesBefore stream position l) → ((i : ℕ) (l : Kept) → n ≤ i → slice_get kept i ≡ Some l → LiesBefore stream position l → ⊥) → slice_get kept n ≡ Some k
    → value_kept (map kept_of kept) (record { stream = stream; position = position }) ≡ value_kept (kept_of k ∷ []) (record { stream = stream; position = position })
looked_up kept stream position n k up before behind at = one_at (record { stream = stream; position = position }) kept n k at (λ i l other h t. later i l h t (cases_order i n)) (λ i l less h. before_not_at stream position l (before i l less h))
  where
    close : (l : Kept) → l.stream ≡ stream → l.position ≡ position → (LiesBefore stream position k → ⊥) → (k.stream < l.stream) ⊎ ((k.stream ≡ l.stream) × (k.position ≤ l.position)) → is_at (record { stream = stream; position = position }) (kept_of k) ≡ true
    close l s p not_before (inl less) = absurd (not_before (inl (omega arith)))
    close l s p not_before (inr (same, le)) = elim (cases_lt k.position position) [
      | inl less ↦ absurd (not_before (inr ((omega arith), less)))
      | inr ge ↦ (let e : k.stream ≡ stream = omega arith in let f : k.position ≡ position = omega arith in ap (λ b. b && (k.position == position)) (same_test k.stream stream e) ∙ same_test k.position position f)
    ]

    later : (i : ℕ) (l : Kept) → slice_get kept i ≡ Some l → is_at (record { stream = stream; position = position }) (kept_of l) ≡ true → (i ≡ n) ⊎ ((i < n) ⊎ (n < i)) → is_at (record { stream = stream; position = position }) (kept_of k) ≡ true
    later i l h t (inl same) = (let e : l ≡ k = same_Some l k (sym h ∙ ap (slice_get kept) same ∙ at) in ap (λ (w : Kept). is_at (record { stream = stream; position = position }) (kept_of w)) (sym e) ∙ t)
    later i l h t (inr (inl less)) = absurd (let f = before_not_at stream position l (before i l less h) in cc)
    later i l h t (inr (inr more)) =
        let parts = and_parts (l.stream == stream) (l.position == position) t in
        close l (eqb-true l.stream stream parts.0) (eqb-true l.position position parts.1) (behind n k (omega arith) at) (up n i k l more at h)

pub looked_past : (kept : List Kept) (stream position n : ℕ) → ((i : ℕ) (l : Kept) → i < n → slice_get kept i ≡ Some l → LiesBefore stream position l) → length kept ≤ n
    → value_kept (map kept_of kept) (record { stream = stream; position = position }) ≡ None
looked_past kept stream position n before past = ap (option_map (λ (l : epoch.Kept). l.value)) (none_at (record { stream = stream; position = position }) kept (λ i l h. before_not_at stream position l (before i l (let w = slice_get_within kept i l h in omega arith) h)))

-- what lies before a place lies before a later one
pub still_before : (kept : List Kept) (stream position later number : ℕ) → position ≤ later → AreBefore kept stream position number → AreBefore kept stream later number
still_before kept stream position later number le before i k less at = by_case (before i k less at)
  where
    by_case : LiesBefore stream position k → LiesBefore stream later k
    by_case (inl less) = inl less
    by_case (inr (same, less)) = inr (same, (omega arith))

-- nothing is kept of a stretch where all kept elements lie before it
pub none_behind : (kept : List Kept) (stretch : Stretch) (number : ℕ) → AreBefore kept stretch.stream stretch.first number → length kept ≤ number → NoneIsKept kept stretch
none_behind kept stretch number before past position low high =
    looked_past kept stretch.stream position number (still_before kept stretch.stream stretch.first position number low before) past

-- nor where the first one that doesn't is of another stream or lies behind it
pub none_within : (kept : List Kept) (stretch : Stretch) (number : ℕ) (k : Kept) → AreSorted kept → IsFirstFrom kept stretch.stream stretch.first number → slice_get kept number ≡ Some k
    → (k.stream ≡ stretch.stream → stretch.first + stretch.count ≤ k.position) → NoneIsKept kept stretch
none_within kept stretch number k up first at behind position low high =
    ap (option_map (λ (l : epoch.Kept). l.value)) (none_at (record { stream = stretch.stream; position = position }) kept (λ i l h. apart i l h (cases_order i number)))
  where
    far : (l : Kept) → (LiesBefore stretch.stream stretch.first k → ⊥) → (k.stream < l.stream) ⊎ ((k.stream ≡ l.stream) × (k.position ≤ l.position)) → is_at (record { stream = stretch.stream; position = position }) (kept_of l) ≡ false
    far l not_before (inl less) = not_at stretch.stream position l (λ s p. absurd (not_before (inl (omega arith))))
    far l not_before (inr (same, le)) = not_at stretch.stream position l (λ s p. absurd (let b = behind (omega arith) in omega arith))

    apart : (i : ℕ) (l : Kept) → slice_get kept i ≡ Some l → (i ≡ number) ⊎ ((i < number) ⊎ (number < i)) → is_at (record { stream = stretch.stream; position = position }) (kept_of l) ≡ false
    apart i l h (inl same) =
        let e : l ≡ k = same_Some l k (sym h ∙ ap (slice_get kept) same ∙ at) in
        let s = ap (λ (x : Kept). x.stream) e in
        let p = ap (λ (x : Kept). x.position) e in
        not_at stretch.stream position l (λ a b. absurd (let c = behind (omega arith) in omega arith))
    apart i l h (inr (inl less)) = before_not_at stretch.stream position l (still_before kept stretch.stream stretch.first position number low first.before i l less h)
    apart i l h (inr (inr more)) = far l (first.behind number k (omega arith) at) (up number i k l more at h)

-- ---- the same elements in another order

is_found : (place : Place) (xs : List epoch.Kept) (i : ℕ) (k : epoch.Kept) → slice_get xs i ≡ Some k → is_at place k ≡ true → (l : epoch.Kept) × (find (is_at place) xs ≡ Some l)
is_found place [] i k at t = absurd (cc)
is_found place (x ∷ xs) zero k at t = (x, ap (λ b. cond b (Some x) (find (is_at place) xs)) (ap (is_at place) (same_Some x k at) ∙ t))
is_found place (x ∷ xs) (suc i) k at t = by_test (is_at place x) (is_found place xs i k at t)
  where
    by_test : (b : Bool) → (l : epoch.Kept) × (find (is_at place) xs ≡ Some l) → (l : epoch.Kept) × (cond b (Some x) (find (is_at place) xs) ≡ Some l)
    by_test true r = (x, refl)
    by_test false r = r

place_is : (place : Place) (k : epoch.Kept) → is_at place k ≡ true → k.place ≡ place
place_is place k t =
    let parts = and_parts (k.place.stream == place.stream) (k.place.position == place.position) t in
    ap (λ s. record { stream = s; position = k.place.position }) (eqb-true k.place.stream place.stream parts.0) ∙ ap (λ p. record { stream = place.stream; position = p }) (eqb-true k.place.position place.position parts.1)

pub kept_permutation : (xs ys : List epoch.Kept) → PlacesDiffer xs → ((k : epoch.Kept) (i : ℕ) → slice_get xs i ≡ Some k → (j : ℕ) × (slice_get ys j ≡ Some k)) → ((k : epoch.Kept) (j : ℕ) → slice_get ys j ≡ Some k → (i : ℕ) × (slice_get xs i ≡ Some k))
    → (place : Place) → value_kept ys place ≡ value_kept xs place
kept_permutation xs ys differ there back place = ap (option_map (λ (l : epoch.Kept). l.value)) (by_find (find (is_at place) xs) refl (find (is_at place) ys) refl)
  where
    by_find : (o : Option epoch.Kept) → find (is_at place) xs ≡ o → (p : Option epoch.Kept) → find (is_at place) ys ≡ p → find (is_at place) ys ≡ find (is_at place) xs
    by_find None e None f = f ∙ sym e
    by_find None e (Some l) f =
        let (j, at, t) = find_passes (is_at place) ys l f in
        let (i, at') = back l j at in
        let (m, found) = is_found place xs i l at' t in absurd (cc)
    by_find (Some k) e None f =
        let (i, at, t) = find_passes (is_at place) xs k e in
        let (j, at') = there k i at in
        let (m, found) = is_found place ys j k at' t in absurd (cc)
    by_find (Some k) e (Some l) f =
        let (i, at, t) = find_passes (is_at place) xs k e in
        let (j, at', t') = find_passes (is_at place) ys l f in
        let (n, back_at) = back l j at' in
        let index : i ≡ n = differ i n k l at back_at (place_is place k t ∙ sym (place_is place l t')) in
        let same : k ≡ l = same_Some k l (sym at ∙ ap (slice_get xs) index ∙ back_at) in
        f ∙ ap (λ x. Some x) (sym same) ∙ sym e

-- ---- sorts

-- neighbours by place, so all by place
pub lex_far : (xs : List Kept) → ((k : ℕ) (d : Kept) → k + 1 < length xs → (get_or xs k d).stream ≤ (get_or xs (k + 1) d).stream) → ((k : ℕ) (d : Kept) → k + 1 < length xs → (get_or xs k d).stream ≡ (get_or xs (k + 1) d).stream → (get_or xs k d).position ≤ (get_or xs (k + 1) d).position)
    → (i n : ℕ) (d : Kept) → i + n < length xs → ((get_or xs i d).stream < (get_or xs (i + n) d).stream) ⊎ (((get_or xs i d).stream ≡ (get_or xs (i + n) d).stream) × ((get_or xs i d).position ≤ (get_or xs (i + n) d).position))
lex_far xs up ties i zero d lt = inr (ap (λ k. (get_or xs k d).stream) (let e : i ≡ i + 0 = omega arith in e), (let e = ap (λ k. (get_or xs k d).position) (let z : i ≡ i + 0 = omega arith in z) in omega (arith, e)))
lex_far xs up ties i (suc n) d lt =
    let s = ap (λ k. (get_or xs k d).stream) (let z : i + suc n ≡ (i + n) + 1 = omega arith in z) in
    let p = ap (λ k. (get_or xs k d).position) (let z : i + suc n ≡ (i + n) + 1 = omega arith in z) in
    next s p (lex_far xs up ties i n d (omega arith)) (up (i + n) d (omega arith)) (ties (i + n) d (omega arith))
  where
    next : (get_or xs (i + suc n) d).stream ≡ (get_or xs (i + n + 1) d).stream → (get_or xs (i + suc n) d).position ≡ (get_or xs (i + n + 1) d).position
        → ((get_or xs i d).stream < (get_or xs (i + n) d).stream) ⊎ (((get_or xs i d).stream ≡ (get_or xs (i + n) d).stream) × ((get_or xs i d).position ≤ (get_or xs (i + n) d).position))
        → (get_or xs (i + n) d).stream ≤ (get_or xs (i + n + 1) d).stream → ((get_or xs (i + n) d).stream ≡ (get_or xs (i + n + 1) d).stream → (get_or xs (i + n) d).position ≤ (get_or xs (i + n + 1) d).position)
        → ((get_or xs i d).stream < (get_or xs (i + suc n) d).stream) ⊎ (((get_or xs i d).stream ≡ (get_or xs (i + suc n) d).stream) × ((get_or xs i d).position ≤ (get_or xs (i + suc n) d).position))
    next s p (inl less) le tie = inl (omega arith)
    next s p (inr (same, pos_le)) le tie = elim (cases_lt (get_or xs (i + n) d).stream (get_or xs (i + n + 1) d).stream) [
      | inl less ↦ inl (omega arith)
      | inr ge ↦ (let t = tie (omega arith) in inr ((omega arith), (omega arith)))
    ]

pub sorted_by_places : (xs : List Kept) → ((k : ℕ) (d : Kept) → k + 1 < length xs → (get_or xs k d).stream ≤ (get_or xs (k + 1) d).stream) → ((k : ℕ) (d : Kept) → k + 1 < length xs → (get_or xs k d).stream ≡ (get_or xs (k + 1) d).stream → (get_or xs k d).position ≤ (get_or xs (k + 1) d).position) → AreSorted xs
sorted_by_places xs up ties i j k l less at_i at_j =
    let lt = slice_get_within xs j l at_j in
    let far = lex_far xs up ties i (j - i) k (omega arith) in
    let one : get_or xs i k ≡ k = get_or_from_slice_get xs i k k at_i in
    let other : get_or xs (i + (j - i)) k ≡ l = ap (λ n. get_or xs n k) (let e : i + (j - i) ≡ j = omega arith in e) ∙ get_or_from_slice_get xs j l k at_j in
    subst (λ (b : Kept). (k.stream < b.stream) ⊎ ((k.stream ≡ b.stream) × (k.position ≤ b.position))) other
    (subst (λ (a : Kept). (a.stream < (get_or xs (i + (j - i)) k).stream) ⊎ ((a.stream ≡ (get_or xs (i + (j - i)) k).stream) × (a.position ≤ (get_or xs (i + (j - i)) k).position))) one far)

moved : {A : Type 0} (xs ys : List A) → IsPermutation xs ys → (k : A) (i : ℕ) → slice_get xs i ≡ Some k → (j : ℕ) × (slice_get ys j ≡ Some k)
moved xs ys perm k i at = has_contained ys k (Contains-permutation xs ys k perm (i, slice_get_within xs i k at, get_or_from_slice_get xs i k k at))

pub same_kept : (xs ys : List Kept) → IsPermutation xs ys → PlacesDiffer (map kept_of xs) → (place : Place) → value_kept (map kept_of ys) place ≡ value_kept (map kept_of xs) place
same_kept xs ys perm differ place =
    let p = IsPermutation-map kept_of xs ys perm in
    kept_permutation (map kept_of xs) (map kept_of ys) differ (moved (map kept_of xs) (map kept_of ys) p) (moved (map kept_of ys) (map kept_of xs) (IsPermutation-sym (map kept_of xs) (map kept_of ys) p)) place
