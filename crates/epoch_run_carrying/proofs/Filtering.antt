-- What is carried over, one by one.
use Rattle.std.proofs.Common.{◌≡◌, ℕ, zero, suc, ◌+◌, ◌-◌, ◌<◌, ◌≤◌, List, [], ◌∷◌, ◌++◌, Option, Some, None, Bool, true, false, cond, ◌⊎◌, inl, inr, map, length, get_or, take, drop, min, refl, sym, ap, ◌∙◌, arith}
use Rattle.std.specs.Prelude.{filter, All, nat_le, ◌&&◌}
use Rattle.std.specs.List.{between, flat_map, range_with_len}
use Rattle.std.proofs.lemmas.Bool.{cases_lt, le-leb, le-ltb, lt-leb, lt-ltb}
use Rattle.std.proofs.lemmas.List.FromFn.{get_or-map-range_with_len, length-map-range_with_len, map-range_with_len_more}
use Rattle.std.proofs.lemmas.Option.{same_Some}
use Rattle.flow_core_laws.specs.declared.elem.Elem.{Elem}
use Rattle.flow_core_laws.specs.declared.activation.Activation.{Activation}
use Rattle.flow_core_laws.specs.declared.place.Place.{Place}
use Rattle.flow_core_laws.specs.Place.{places_from}
use Rattle.flow_core_laws.proofs.Stretches.{map-range-add}
use Rattle.std.proofs.lemmas.List.{append_assoc, drop-take, length-take-le, take-append-drop, take_more, take-take}
use Rattle.std.proofs.lemmas.List.Elements.{filter-append}
use Rattle.flow_core_epochs.specs.Epoch as epoch
use Rattle.flow_core_epochs.specs.Epoch.{elements_at, read_from}
use Rattle.flow_core_epochs.proofs.Members.{Has, of_map, of_append, has_tail}
use Rattle.flow_core_epochs.proofs.Carried.{all_has}
use Rattle.stream_match.specs.declared.kept.Kept.{Kept}
use Rattle.stream_match.specs.declared.stretch.Stretch.{Stretch}
use Rattle.stream_match.specs.Kept.{kept_of}
use Rattle.stream_match.specs.Stretch.{stretch_places}
use Rattle.epoch_run_carrying.proofs.Leaves.{length_within, places_more}
use Rattle.epoch_run_carrying.specs.Carrying.{is_behind, carried_by, passed_over}

-- elements at joined places
elements_at-append : (ps qs : List Place) (vs ws : List (Option Elem)) → length vs ≡ length ps → elements_at (ps ++ qs) (vs ++ ws) ≡ elements_at ps vs ++ elements_at qs ws
elements_at-append [] qs [] ws l = refl
elements_at-append [] qs (v ∷ vs) ws l = absurd (cc)
elements_at-append (p ∷ ps) qs [] ws l = absurd (cc)
elements_at-append (p ∷ ps) qs (None ∷ vs) ws l = elements_at-append ps qs vs ws (cc)
elements_at-append (p ∷ ps) qs (Some v ∷ vs) ws l = ap (λ ks. record { place = p; value = v } ∷ ks) (elements_at-append ps qs vs ws (cc))

-- the first of a list, and some more of them
take_add : {A : Type 0} (xs : List A) (n m : ℕ) → take (n + m) xs ≡ take n xs ++ take m (drop n xs)
take_add xs n m =
    sym (take-append-drop n (take (n + m) xs))
    ∙ ap (λ ys. ys ++ drop n (take (n + m) xs)) (take-take n (n + m) xs (omega arith))
    ∙ ap (λ ys. take n xs ++ ys) (drop-take n m xs)

-- one more stretch
pub left_more : (cursors : List ℕ) (leaves : List Stretch) (values : List (Option Elem)) (n at : ℕ) (d : Stretch) (old mid new : List epoch.Kept)
    → length values ≡ length (flat_map stretch_places leaves) → n < length leaves → at ≡ length (flat_map stretch_places (take n leaves))
    → mid ≡ old ++ filter (is_behind cursors) (elements_at (flat_map stretch_places (take n leaves)) (take at values))
    → new ≡ mid ++ filter (is_behind cursors) (elements_at (stretch_places (get_or leaves n d)) (between at (at + (get_or leaves n d).count) values))
    → new ≡ old ++ filter (is_behind cursors) (elements_at (flat_map stretch_places (take (n + 1) leaves)) (take (at + (get_or leaves n d).count) values))
left_more cursors leaves values n at d old mid new same lt at_is before step =
    let count : ℕ = (get_or leaves n d).count in
    let ps = flat_map stretch_places (take n leaves) in
    let vs = take at values in
    let p = stretch_places (get_or leaves n d) in
    let v = take count (drop at values) in
    let few : at ≤ length values = omega (arith, same, at_is, length_within leaves n) in
    let cut : between at (at + count) values ≡ v = ap (λ k. take k (drop at values)) (let e : (at + count) - at ≡ count = omega arith in e) in
    let split : elements_at (flat_map stretch_places (take (n + 1) leaves)) (take (at + count) values) ≡ elements_at ps vs ++ elements_at p v =
    ap (λ qs. elements_at qs (take (at + count) values)) (places_more leaves n d lt)
    ∙ ap (elements_at (ps ++ p)) (take_add values at count)
    ∙ elements_at-append ps p vs v (length-take-le at values few ∙ at_is) in
    step
    ∙ ap (λ ws. mid ++ filter (is_behind cursors) (elements_at p ws)) cut
    ∙ ap (λ ks. ks ++ filter (is_behind cursors) (elements_at p v)) before
    ∙ append_assoc old (filter (is_behind cursors) (elements_at ps vs)) (filter (is_behind cursors) (elements_at p v))
    ∙ ap (λ ks. old ++ ks) (sym (ap (filter (is_behind cursors)) split ∙ filter-append (is_behind cursors) (elements_at ps vs) (elements_at p v)))

-- elements at positions that may not be read any more are left out, and others stay
none_behind : (cursors : List ℕ) (stream first n : ℕ) (vs : List (Option Elem)) → ((k : ℕ) → first ≤ k → k < first + n → (nat_le 2 stream && nat_le (get_or cursors stream 0) k) ≡ false)
    → filter (is_behind cursors) (elements_at (places_from stream first n) vs) ≡ []
none_behind cursors stream first zero vs fails = refl
none_behind cursors stream first (suc n) [] fails = refl
none_behind cursors stream first (suc n) (None ∷ vs) fails = none_behind cursors stream (first + 1) n vs (λ k low high. fails k (omega arith) (omega arith))
none_behind cursors stream first (suc n) (Some v ∷ vs) fails =
    let rest = filter (is_behind cursors) (elements_at (places_from stream (first + 1) n) vs) in
    ap (λ b. cond b (record { place = record { stream = stream; position = first }; value = v } ∷ rest) rest) (fails first (omega arith) (omega arith))
    ∙ none_behind cursors stream (first + 1) n vs (λ k low high. fails k (omega arith) (omega arith))

all_behind : (cursors : List ℕ) (stream first n : ℕ) (vs : List (Option Elem)) → ((k : ℕ) → first ≤ k → k < first + n → (nat_le 2 stream && nat_le (get_or cursors stream 0) k) ≡ true)
    → filter (is_behind cursors) (elements_at (places_from stream first n) vs) ≡ elements_at (places_from stream first n) vs
all_behind cursors stream first zero vs passes = refl
all_behind cursors stream first (suc n) [] passes = refl
all_behind cursors stream first (suc n) (None ∷ vs) passes = all_behind cursors stream (first + 1) n vs (λ k low high. passes k (omega arith) (omega arith))
all_behind cursors stream first (suc n) (Some v ∷ vs) passes =
    let one : epoch.Kept = record { place = record { stream = stream; position = first }; value = v } in
    let rest = filter (is_behind cursors) (elements_at (places_from stream (first + 1) n) vs) in
    ap (λ b. cond b (one ∷ rest) rest) (passes first (omega arith) (omega arith))
    ∙ ap (λ ks. one ∷ ks) (all_behind cursors stream (first + 1) n vs (λ k low high. passes k (omega arith) (omega arith)))

-- so a stretch is gone over from the first position on that may still be read
pub stretch_carried : (cursors : List ℕ) (s : Stretch) (p : ℕ) (values : List (Option Elem)) → p ≡ passed_over cursors s → length values ≡ s.count
    → filter (is_behind cursors) (elements_at (stretch_places s) values) ≡ elements_at (places_from s.stream (s.first + p) (s.count - p)) (drop p values)
stretch_carried cursors s p values p_is as_many = by (cases_lt s.stream 2)
  where
    cursor : ℕ
    cursor = get_or cursors s.stream 0

    test : ℕ → Bool
    test k = nat_le 2 s.stream && nat_le (get_or cursors s.stream 0) k

    halves : p ≤ s.count → ((k : ℕ) → s.first ≤ k → k < s.first + p → test k ≡ false) → ((k : ℕ) → s.first + p ≤ k → k < s.first + p + (s.count - p) → test k ≡ true)
        → filter (is_behind cursors) (elements_at (stretch_places s) values) ≡ elements_at (places_from s.stream (s.first + p) (s.count - p)) (drop p values)
    halves within fails passes =
        let ps = places_from s.stream s.first p in
        let qs = places_from s.stream (s.first + p) (s.count - p) in
        let places : stretch_places s ≡ ps ++ qs =
        ap (places_from s.stream s.first) (let e : s.count ≡ p + (s.count - p) = omega arith in e)
        ∙ map-range-add (λ position. record { stream = s.stream; position = position }) s.first p (s.count - p) in
        let front : length (take p values) ≡ length ps =
        length-take-le p values (omega arith) ∙ sym (length-map-range_with_len (λ position. record { stream = s.stream; position = position }) s.first p) in
        ap (λ ks. filter (is_behind cursors) (elements_at ks values)) places
        ∙ ap (λ vs. filter (is_behind cursors) (elements_at (ps ++ qs) vs)) (sym (take-append-drop p values))
        ∙ ap (filter (is_behind cursors)) (elements_at-append ps qs (take p values) (drop p values) front)
        ∙ filter-append (is_behind cursors) (elements_at ps (take p values)) (elements_at qs (drop p values))
        ∙ ap (λ ks. ks ++ filter (is_behind cursors) (elements_at qs (drop p values))) (none_behind cursors s.stream s.first p (take p values) fails)
        ∙ all_behind cursors s.stream (s.first + p) (s.count - p) (drop p values) passes

    by : (s.stream < 2) ⊎ (2 ≤ s.stream) → filter (is_behind cursors) (elements_at (stretch_places s) values) ≡ elements_at (places_from s.stream (s.first + p) (s.count - p)) (drop p values)
    by (inl other) =
        let all : p ≡ s.count = p_is ∙ ap (λ b. cond b s.count (min s.count (cursor - s.first))) (lt-ltb s.stream 2 other) in
        halves (omega arith)
        (λ k low high. ap (λ b. b && nat_le cursor k) (lt-leb 2 s.stream other))
        (λ k low high. absurd (omega arith))
    by (inr declared) =
        let some : p ≡ min s.count (cursor - s.first) = p_is ∙ ap (λ b. cond b s.count (min s.count (cursor - s.first))) (le-ltb s.stream 2 declared) in
        halves (omega arith)
        (λ k low high. ap (λ b. b && nat_le cursor k) (le-leb 2 s.stream declared) ∙ lt-leb cursor k (omega arith))
        (λ k low high. ap (λ b. b && nat_le cursor k) (le-leb 2 s.stream declared) ∙ le-leb cursor k (omega arith))

-- one more element of a stretch
pub elements_more : (stream first n : ℕ) (values : List (Option Elem)) (old mid new : List epoch.Kept) → n < length values
    → mid ≡ old ++ elements_at (places_from stream first n) (take n values)
    → new ≡ mid ++ elements_at (record { stream = stream; position = first + n } ∷ []) (get_or values n None ∷ [])
    → new ≡ old ++ elements_at (places_from stream first (n + 1)) (take (n + 1) values)
elements_more stream first n values old mid new lt before step =
    let ps = places_from stream first n in
    let p : List Place = record { stream = stream; position = first + n } ∷ [] in
    let vs = take n values in
    let v = get_or values n None ∷ [] in
    let split : elements_at (places_from stream first (n + 1)) (take (n + 1) values) ≡ elements_at ps vs ++ elements_at p v =
    ap (λ qs. elements_at qs (take (n + 1) values)) (map-range_with_len_more (λ position. record { stream = stream; position = position }) first n (first + n) refl)
    ∙ ap (elements_at (ps ++ p)) (take_more values n None lt)
    ∙ elements_at-append ps p vs v (length-take-le n values (omega arith) ∙ sym (length-map-range_with_len (λ position. record { stream = stream; position = position }) first n)) in
    step
    ∙ ap (λ ks. ks ++ elements_at p v) before
    ∙ append_assoc old (elements_at ps vs) (elements_at p v)
    ∙ ap (λ ks. old ++ ks) (sym split)

-- the elements that are kept where a test of them is true
one_kept : (p : epoch.Kept → Bool) (k : Kept) (kept : List Kept) (b : Bool) → p (kept_of k) ≡ b → map kept_of (filter (λ k. p (kept_of k)) kept) ≡ filter p (map kept_of kept)
    → map kept_of (filter (λ k. p (kept_of k)) (k ∷ kept)) ≡ filter p (map kept_of (k ∷ kept))
one_kept p k kept true is rest =
    ap (λ b. map kept_of (cond b (k ∷ filter (λ k. p (kept_of k)) kept) (filter (λ k. p (kept_of k)) kept))) is
    ∙ ap (λ ks. kept_of k ∷ ks) rest
    ∙ sym (ap (λ b. cond b (kept_of k ∷ filter p (map kept_of kept)) (filter p (map kept_of kept))) is)
one_kept p k kept false is rest =
    ap (λ b. map kept_of (cond b (k ∷ filter (λ k. p (kept_of k)) kept) (filter (λ k. p (kept_of k)) kept))) is
    ∙ rest
    ∙ sym (ap (λ b. cond b (kept_of k ∷ filter p (map kept_of kept)) (filter p (map kept_of kept))) is)

pub filter_kept : (p : epoch.Kept → Bool) (kept : List Kept) → map kept_of (filter (λ k. p (kept_of k)) kept) ≡ filter p (map kept_of kept)
filter_kept p [] = refl
filter_kept p (k ∷ kept) = one_kept p k kept (p (kept_of k)) refl (filter_kept p kept)

-- tests that agree on a list
filter_same : {A : Type 0} (p q : A → Bool) (xs : List A) → ((x : A) → Has xs x → p x ≡ q x) → filter p xs ≡ filter q xs
filter_same p q [] same = refl
filter_same p q (x ∷ xs) same = ap (λ b. cond b (x ∷ filter p xs) (filter p xs)) (same x (0, refl)) ∙ ap (λ ys. cond (q x) (x ∷ ys) ys) (filter_same p q xs (λ y h. same y (has_tail x xs y h)))

-- an element at places is at one of them
at_place : (ps : List Place) (vs : List (Option Elem)) (k : epoch.Kept) → Has (elements_at ps vs) k → Has ps k.place
at_place [] vs k (i, at) = absurd (cc)
at_place (p ∷ ps) [] k (i, at) = absurd (cc)
at_place (p ∷ ps) (None ∷ vs) k h = has_tail p ps k.place (at_place ps vs k h)
at_place (p ∷ ps) (Some v ∷ vs) k (zero, at) = (0, ap (λ (l : epoch.Kept). Some l.place) (same_Some (record { place = p; value = v }) k at))
at_place (p ∷ ps) (Some v ∷ vs) k (suc i, at) = has_tail p ps k.place (at_place ps vs k (i, at))

-- the cursors of all streams carry over what may still be read
pub carried_by_cursors : (activations : List Activation) (open_frames cursors : List ℕ) (n : ℕ) (kept : List Kept) (places : List Place) (values : List (Option Elem)) → cursors ≡ map (read_from activations open_frames) (range_with_len 0 n) → All (λ (k : Kept). k.stream < n) kept → All (λ (p : Place). p.stream < n) places → carried_by cursors (map kept_of kept) places values ≡ epoch.carried_over activations open_frames (map kept_of kept) places values
carried_by_cursors activations open_frames cursors n kept places values is kept_exist places_exist = filter_same (is_behind cursors) (λ (k : epoch.Kept). epoch.is_readable activations open_frames k.place) (map kept_of kept ++ elements_at places values) (λ k h. same k (exists k (of_append (map kept_of kept) (elements_at places values) k h)))
  where
    exists : (k : epoch.Kept) → (Has (map kept_of kept) k) ⊎ (Has (elements_at places values) k) → k.place.stream < n
    exists k (inl h) =
        let (l, at, e) = of_map kept_of kept k h in
        let lt = all_has (λ (k : Kept). k.stream < n) kept l kept_exist at in
        let s : l.stream ≡ k.place.stream = ap (λ (m : epoch.Kept). m.place.stream) e in
        omega arith
    exists k (inr h) = all_has (λ (p : Place). p.stream < n) places k.place places_exist (at_place places values k h)

    same : (k : epoch.Kept) → k.place.stream < n → is_behind cursors k ≡ epoch.is_readable activations open_frames k.place
    same k lt = ap (λ c. nat_le 2 k.place.stream && nat_le c k.place.position) (ap (λ cs. get_or cs k.place.stream 0) is ∙ get_or-map-range_with_len (read_from activations open_frames) 0 n k.place.stream k.place.stream 0 lt (omega arith))
