-- Ends and elements put over those before, one by one.
use Rattle.std.proofs.Common.{◌≡◌, ◌≢◌, ℕ, zero, suc, ◌+◌, ◌-◌, ◌<◌, ◌≤◌, List, [], ◌∷◌, ◌++◌, Option, Some, None, Bool, true, false, cond, ◌⊎◌, inl, inr, map, length, get_or, min, take, drop, refl, sym, ap, ◌∙◌, arith}
use Rattle.std.specs.Prelude.{◌==◌, ◌&&◌, nat_lt}
use Rattle.std.specs.Option.{option_map, option_map_or}
use Rattle.std.specs.List.{between, flat_map, position, range_with_len}
use Rattle.std.proofs.lemmas.Bool.{cases_eq, cases_lt, eq-eqb, le-ltb, lt-ltb, ne_eqb}
use Rattle.std.proofs.lemmas.List.{drop_all, drop-drop, get_or_append_left, get_or-append_right, get_or-drop, get_or-take, get_or_default, length-append, length-drop, length-take-le, same_lists, take-append-drop}
use Rattle.std.proofs.lemmas.List.Edits.{length-between}
use Rattle.std.proofs.lemmas.List.Recursion.{is_position_or_len}
use Rattle.std.proofs.lemmas.List.FromFn.{get_or-map-range_with_len, length-map-range_with_len}
use Rattle.flow_core_epochs.specs.Epoch.{is_output_at, number_among, output_over, put_over}
use Rattle.flow_core_laws.specs.declared.elem.Elem.{Elem}
use Rattle.flow_core_laws.specs.declared.place.Place.{Place}
use Rattle.flow_core_laws.specs.Outcome.{outcome_at}
use Rattle.flow_core_laws.specs.Place.{places_from}
use Rattle.stream_match.specs.Stretch.{stretch_places}
use Rattle.stream_match.specs.declared.stretch.Stretch.{Stretch}
use Rattle.epoch_run_carrying.proofs.Leaves.{length_more, length-places, places_from_on}

-- nothing more is there with nothing behind
pub push_none : {O : Type 0} (xs : List (Option O)) (at : ℕ) → outcome_at (xs ++ None ∷ []) at ≡ outcome_at xs at
push_none [] zero = refl
push_none [] (suc at) = refl
push_none (x ∷ xs) zero = refl
push_none (x ∷ xs) (suc at) = push_none xs at

-- functions that agree on a range make the same list of it
pub same_range : {A : Type 0} (f g : ℕ → A) (a n : ℕ) → ((k : ℕ) → a ≤ k → k < a + n → f k ≡ g k) → map f (range_with_len a n) ≡ map g (range_with_len a n)
same_range f g a zero same = refl
same_range f g a (suc n) same =
    ap (λ x. x ∷ map f (range_with_len (a + 1) n)) (same a (omega arith) (omega arith))
    ∙ ap (λ xs. g a ∷ xs) (same_range f g (a + 1) n (λ k low high. same k (omega arith) (omega arith)))

pub put_over_same : {O : Type 0} (old mid : List (Option O)) (frames : List ℕ) (run : List (Option O)) (n : ℕ) → ((at : ℕ) → outcome_at mid at ≡ outcome_at old at)
    → put_over mid frames run n ≡ put_over old frames run n
put_over_same old mid frames run n same =
    same_range (λ a. option_map_or (outcome_at run) (number_among frames a) (outcome_at mid a))
    (λ a. option_map_or (outcome_at run) (number_among frames a) (outcome_at old a)) 0 n
    (λ k low high. ap (option_map_or (outcome_at run) (number_among frames k)) (same k))

pub output_over_same : (old mid : List (Option Elem)) (places : List Place) (values : List (Option Elem)) (n : ℕ) → ((at : ℕ) → outcome_at mid at ≡ outcome_at old at)
    → output_over mid places values n ≡ output_over old places values n
output_over_same old mid places values n same =
    same_range (λ at. option_map_or (outcome_at values) (position (is_output_at at) places) (outcome_at mid at))
    (λ at. option_map_or (outcome_at values) (position (is_output_at at) places) (outcome_at old at)) 0 n
    (λ k low high. ap (option_map_or (outcome_at values) (position (is_output_at k) places)) (same k))

-- the place of the first that passes, or the length
abbrev first : {A : Type 0} → (A → Bool) → List A → ℕ
first test [] = 0
first test (x ∷ xs) = cond (test x) 0 (1 + first test xs)

-- and none where that is the length
abbrev below : ℕ → ℕ → Option ℕ
below n m = cond (nat_lt n m) (Some n) None

below_lt : (n m : ℕ) → n < m → below n m ≡ Some n
below_lt n m lt = ap (λ b. cond b (Some n) None) (lt-ltb n m lt)

below_ge : (n m : ℕ) → m ≤ n → below n m ≡ None
below_ge n m ge = ap (λ b. cond b (Some n) None) (le-ltb n m ge)

below_more : (n m : ℕ) → below (1 + n) (suc m) ≡ option_map suc (below n m)
below_more n m = by (cases_lt n m)
  where
    by : (n < m) ⊎ (m ≤ n) → below (1 + n) (suc m) ≡ option_map suc (below n m)
    by (inl lt) =
        below_lt (1 + n) (suc m) (omega arith) ∙ ap Some (let e : 1 + n ≡ suc n = omega arith in e) ∙ sym (ap (option_map suc) (below_lt n m lt))
    by (inr ge) = below_ge (1 + n) (suc m) (omega arith) ∙ sym (ap (option_map suc) (below_ge n m ge))

first_is : {A : Type 0} (test : A → Bool) (xs : List A) → position test xs ≡ below (first test xs) (length xs)
first_is test xs = ap (λ n. below n (length xs)) (sym (is_position_or_len (first test) test refl (λ x ys. refl) xs))

-- the place of the first that passes, one by one
pub position-cons : {A : Type 0} (test : A → Bool) (x : A) (xs : List A) → position test (x ∷ xs) ≡ cond (test x) (Some 0) (option_map suc (position test xs))
position-cons test x xs = first_is test (x ∷ xs) ∙ by (test x) ∙ ap (λ o. cond (test x) (Some 0) (option_map suc o)) (sym (first_is test xs))
  where
    by : (b : Bool) → below (cond b 0 (1 + first test xs)) (suc (length xs)) ≡ cond b (Some 0) (option_map suc (below (first test xs) (length xs)))
    by true = below_lt 0 (suc (length xs)) (omega arith)
    by false = below_more (first test xs) (length xs)

-- what an output position comes to
abbrev pub over_at : List (Option Elem) → List Place → List (Option Elem) → ℕ → Option Elem
over_at output places values at = option_map_or (outcome_at values) (position (is_output_at at) places) (outcome_at output at)

-- with no place the output stays
pub over_none : (output : List (Option Elem)) → output_over output [] [] (length output) ≡ output
over_none output =
    same_lists (output_over output [] [] (length output)) output (length-map-range_with_len (over_at output [] []) 0 (length output))
    (λ k d lt. get_or-map-range_with_len (over_at output [] []) 0 (length output) k k d
    (omega (arith, length-map-range_with_len (over_at output [] []) 0 (length output))) (omega arith) ∙ get_or_default output k None d (omega (arith, length-map-range_with_len (over_at output [] []) 0 (length output))))

-- one more place in front
pub over_one : (output : List (Option Elem)) (p : Place) (ps : List Place) (v : Option Elem) (vs : List (Option Elem)) (n : ℕ)
    → output_over (output_over output ps vs n) (p ∷ []) (v ∷ []) n ≡ output_over output (p ∷ ps) (v ∷ vs) n
over_one output p ps v vs n = same_range (over_at (output_over output ps vs n) (p ∷ []) (v ∷ [])) (over_at output (p ∷ ps) (v ∷ vs)) 0 n (λ at low high. each at high)
  where
    later : (o : Option ℕ) (d : Option Elem) → option_map_or (outcome_at (v ∷ vs)) (option_map suc o) d ≡ option_map_or (outcome_at vs) o d
    later None d = refl
    later (Some i) d = refl

    by : (at : ℕ) (b : Bool) → option_map_or (outcome_at (v ∷ [])) (cond b (Some 0) (option_map suc (position (is_output_at at) []))) (over_at output ps vs at)
        ≡ option_map_or (outcome_at (v ∷ vs)) (cond b (Some 0) (option_map suc (position (is_output_at at) ps))) (outcome_at output at)
    by at true = refl
    by at false = sym (later (position (is_output_at at) ps) (outcome_at output at))

    each : (at : ℕ) → at < 0 + n → over_at (output_over output ps vs n) (p ∷ []) (v ∷ []) at ≡ over_at output (p ∷ ps) (v ∷ vs) at
    each at lt =
        ap (λ o. option_map_or (outcome_at (v ∷ [])) o (outcome_at (output_over output ps vs n) at)) (position-cons (is_output_at at) p [])
        ∙ ap (option_map_or (outcome_at (v ∷ [])) (cond (is_output_at at p) (Some 0) (option_map suc (position (is_output_at at) []))))
        (get_or-map-range_with_len (over_at output ps vs) 0 n at at None (omega arith) (omega arith))
        ∙ by at (is_output_at at p)
        ∙ ap (λ o. option_map_or (outcome_at (v ∷ vs)) o (outcome_at output at)) (sym (position-cons (is_output_at at) p ps))

-- places in two parts
pub over_both : (output : List (Option Elem)) (ps qs : List Place) (vs ws : List (Option Elem)) (n : ℕ) → length vs ≡ length ps
    → output_over (output_over output qs ws n) ps vs n ≡ output_over output (ps ++ qs) (vs ++ ws) n
over_both output [] qs [] ws n same =
    let over = output_over output qs ws n in
    let whole : length over ≡ n = length-map-range_with_len (over_at output qs ws) 0 n in
    ap (output_over over [] []) (sym whole) ∙ over_none over
over_both output [] qs (v ∷ vs) ws n same = absurd (cc)
over_both output (p ∷ ps) qs [] ws n same = absurd (cc)
over_both output (p ∷ ps) qs (v ∷ vs) ws n same =
    sym (over_one (output_over output qs ws n) p ps v vs n)
    ∙ ap (λ os. output_over os (p ∷ []) (v ∷ []) n) (over_both output ps qs vs ws n (cc))
    ∙ over_one output p (ps ++ qs) v (vs ++ ws) n

-- where a position of the output stands among places of a stretch
is_at : (k begin : ℕ) (b : Bool) → (begin == k) ≡ b → is_output_at k (record { stream = 1; position = begin }) ≡ b
is_at k begin b e = e

found_within : (k begin n : ℕ) → begin ≤ k → k < begin + n → position (is_output_at k) (places_from 1 begin n) ≡ Some (k - begin)
found_within k begin zero low high = absurd (omega arith)
found_within k begin (suc n) low high =
    position-cons (is_output_at k) (record { stream = 1; position = begin }) (places_from 1 (begin + 1) n)
    ∙ by (cases_eq begin k) (λ other. found_within k (begin + 1) n (omega arith) (omega arith))
  where
    rest : Option ℕ
    rest = position (is_output_at k) (places_from 1 (begin + 1) n)

    by : (begin ≡ k) ⊎ (begin ≢ k) → (begin ≢ k → rest ≡ Some (k - (begin + 1))) → cond (is_output_at k (record { stream = 1; position = begin })) (Some 0) (option_map suc rest) ≡ Some (k - begin)
    by (inl same) later =
        ap (λ b. cond b (Some 0) (option_map suc rest)) (is_at k begin true (eq-eqb begin k same)) ∙ ap Some (let e : 0 ≡ k - begin = omega arith in e)
    by (inr other) later =
        ap (λ b. cond b (Some 0) (option_map suc rest)) (is_at k begin false (ne_eqb begin k other))
        ∙ ap (option_map suc) (later other)
        ∙ ap Some (let e : suc (k - (begin + 1)) ≡ k - begin = omega arith in e)

found_nowhere : (k begin n : ℕ) → (k < begin) ⊎ (begin + n ≤ k) → position (is_output_at k) (places_from 1 begin n) ≡ None
found_nowhere k begin zero outside = first_is (is_output_at k) []
found_nowhere k begin (suc n) outside =
    position-cons (is_output_at k) (record { stream = 1; position = begin }) (places_from 1 (begin + 1) n)
    ∙ ap (λ b. cond b (Some 0) (option_map suc (position (is_output_at k) (places_from 1 (begin + 1) n)))) (is_at k begin false (ne_eqb begin k (λ same. apart same outside)))
    ∙ ap (option_map suc) (found_nowhere k (begin + 1) n (later outside))
  where
    apart : begin ≡ k → (k < begin) ⊎ (begin + suc n ≤ k) → ⊥
    apart same (inl before) = omega arith
    apart same (inr behind) = omega arith

    later : (k < begin) ⊎ (begin + suc n ≤ k) → (k < begin + 1) ⊎ (begin + 1 + n ≤ k)
    later (inl before) = inl (omega arith)
    later (inr behind) = inr (omega arith)

-- elements that are put from a position on, as far as there are positions
pub over_from : (output values : List (Option Elem)) (begin f c : ℕ) → f ≡ min begin (length output) → c ≡ min (length values) (length output - f)
    → take f output ++ (take c values ++ drop (f + c) output) ≡ output_over output (places_from 1 begin (length values)) values (length output)
over_from output values begin f c f_is c_is =
    same_lists (take f output ++ (take c values ++ drop (f + c) output)) (output_over output places values (length output))
    (whole ∙ sym (length-map-range_with_len (over_at output places values) 0 (length output)))
    (λ k d within. let lt : k < length output = omega (arith, whole) in by k d lt (cases_lt k f) ∙ sym (get_or-map-range_with_len (over_at output places values) 0 (length output) k k d lt (omega arith)))
  where
    places : List Place
    places = places_from 1 begin (length values)

    whole : length (take f output ++ (take c values ++ drop (f + c) output)) ≡ length output
    whole =
        let e = length-append (take f output) (take c values ++ drop (f + c) output) in
        let g = length-append (take c values) (drop (f + c) output) in
        let x = length-take-le f output (omega arith) in
        let y = length-take-le c values (omega arith) in
        let z = length-drop (f + c) output in
        omega arith

    past : (k : ℕ) (d : Option Elem) → f ≤ k → get_or (take f output ++ (take c values ++ drop (f + c) output)) k d ≡ get_or (take c values ++ drop (f + c) output) (k - f) d
    past k d low = get_or-append_right (take f output) (take c values ++ drop (f + c) output) f k d (length-take-le f output (omega arith)) low

    outside : (k : ℕ) (d : Option Elem) → k < length output → (k < begin) ⊎ (begin + length values ≤ k) → get_or output k d ≡ over_at output places values k
    outside k d lt where_at =
        get_or_default output k d None lt ∙ sym (ap (λ o. option_map_or (outcome_at values) o (outcome_at output k)) (found_nowhere k begin (length values) where_at))

    behind : (k : ℕ) (d : Option Elem) → k < length output → f ≤ k → (k < f + c) ⊎ (f + c ≤ k) → get_or (take f output ++ (take c values ++ drop (f + c) output)) k d ≡ over_at output places values k
    behind k d lt low (inl high) =
        past k d low
        ∙ get_or_append_left (take c values) (drop (f + c) output) d (k - f) (let e = length-take-le c values (omega arith) in omega arith)
        ∙ get_or-take c values (k - f) d (omega arith)
        ∙ get_or_default values (k - f) d None (omega arith)
        ∙ ap (λ i. get_or values (k - i) None) (let e : f ≡ begin = omega arith in e)
        ∙ sym (ap (λ o. option_map_or (outcome_at values) o (outcome_at output k)) (found_within k begin (length values) (omega arith) (omega arith)))
    behind k d lt low (inr high) =
        past k d low
        ∙ get_or-append_right (take c values) (drop (f + c) output) c (k - f) d (length-take-le c values (omega arith)) (omega arith)
        ∙ get_or-drop (f + c) output (k - f - c) d
        ∙ ap (λ i. get_or output i d) (let e : f + c + (k - f - c) ≡ k = omega arith in e)
        ∙ outside k d lt (inr (omega arith))

    by : (k : ℕ) (d : Option Elem) → k < length output → (k < f) ⊎ (f ≤ k) → get_or (take f output ++ (take c values ++ drop (f + c) output)) k d ≡ over_at output places values k
    by k d lt (inl before) =
        get_or_append_left (take f output) (take c values ++ drop (f + c) output) d k (let e = length-take-le f output (omega arith) in omega arith)
        ∙ get_or-take f output k d before
        ∙ outside k d lt (inl (omega arith))
    by k d lt (inr low) = behind k d lt low (cases_lt k (f + c))

-- elements of another stream stay out
is_other : (k : ℕ) (p : Place) → p.stream ≢ 1 → is_output_at k p ≡ false
is_other k p other = ap (λ b. b && (p.position == k)) (ne_eqb p.stream 1 other)

found_on_other : (k stream begin n : ℕ) → stream ≢ 1 → position (is_output_at k) (places_from stream begin n) ≡ None
found_on_other k stream begin zero other = first_is (is_output_at k) []
found_on_other k stream begin (suc n) other =
    position-cons (is_output_at k) (record { stream = stream; position = begin }) (places_from stream (begin + 1) n)
    ∙ ap (λ b. cond b (Some 0) (option_map suc (position (is_output_at k) (places_from stream (begin + 1) n)))) (is_other k (record { stream = stream; position = begin }) other)
    ∙ ap (option_map suc) (found_on_other k stream (begin + 1) n other)

pub over_other : (output values : List (Option Elem)) (stream begin n : ℕ) → stream ≢ 1 → output ≡ output_over output (places_from stream begin n) values (length output)
over_other output values stream begin n other =
    sym (same_range (over_at output (places_from stream begin n) values) (over_at output [] []) 0 (length output)
    (λ at low high. ap (λ o. option_map_or (outcome_at values) o (outcome_at output at)) (found_on_other at stream begin n other))
    ∙ over_none output)

-- how many places the begin stretches have, by the last of them
pub last_count : (leaves : List Stretch) (left end : ℕ) (d : Stretch) → 0 < left → left ≤ length leaves → end ≡ length (flat_map stretch_places (take left leaves))
    → end ≡ length (flat_map stretch_places (take (left - 1) leaves)) + (get_or leaves (left - 1) d).count
last_count leaves left end d some few is =
    is ∙ ap (λ k. length (flat_map stretch_places (take k leaves))) (let e : left ≡ left - 1 + 1 = omega arith in e) ∙ length_more leaves (left - 1) d (omega arith)

-- the last stretches are put
pub over_begin : (output : List (Option Elem)) (leaves : List Stretch) (values : List (Option Elem))
    → output ≡ output_over output (flat_map stretch_places (drop (length leaves) leaves)) (drop (length values) values) (length output)
over_begin output leaves values =
    sym (over_none output)
    ∙ ap (λ xs. output_over output (flat_map stretch_places xs) [] (length output)) (sym (drop_all (length leaves) leaves (omega arith)))
    ∙ ap (λ vs. output_over output (flat_map stretch_places (drop (length leaves) leaves)) vs (length output)) (sym (drop_all (length values) values (omega arith)))

-- and one more in front of them
pub over_more : (output mid new : List (Option Elem)) (leaves : List Stretch) (values : List (Option Elem)) (left end begin : ℕ) (d : Stretch) → 0 < left → left ≤ length leaves
    → end ≤ length values → begin + (get_or leaves (left - 1) d).count ≡ end
    → mid ≡ output_over output (flat_map stretch_places (drop left leaves)) (drop end values) (length output)
    → new ≡ output_over mid (stretch_places (get_or leaves (left - 1) d)) (between begin end values) (length mid)
    → new ≡ output_over output (flat_map stretch_places (drop (left - 1) leaves)) (drop begin values) (length output)
over_more output mid new leaves values left end begin d some few within begins before step =
    let s : Stretch = get_or leaves (left - 1) d in
    let rest : List Place = flat_map stretch_places (drop left leaves) in
    let n : length mid ≡ length output =
    ap length before ∙ length-map-range_with_len (over_at output rest (drop end values)) 0 (length output) in
    let ps : flat_map stretch_places (drop (left - 1) leaves) ≡ stretch_places s ++ rest =
    places_from_on leaves (left - 1) d (omega arith) ∙ ap (λ k. stretch_places s ++ flat_map stretch_places (drop k leaves)) (let e : left - 1 + 1 ≡ left = omega arith in e) in
    let vs : drop begin values ≡ between begin end values ++ drop end values =
    sym (take-append-drop (end - begin) (drop begin values))
    ∙ ap (λ ws. between begin end values ++ ws) (drop-drop (end - begin) begin values ∙ ap (λ k. drop k values) (let e : begin + (end - begin) ≡ end = omega arith in e)) in
    let many : length (between begin end values) ≡ length (stretch_places s) =
    length-between values begin end within ∙ (let e : end - begin ≡ s.count = omega arith in e) ∙ sym (length-places s) in
    step
    ∙ ap (λ os. output_over os (stretch_places s) (between begin end values) (length mid)) before
    ∙ ap (output_over (output_over output rest (drop end values) (length output)) (stretch_places s) (between begin end values)) n
    ∙ over_both output (stretch_places s) rest (between begin end values) (drop end values) (length output) many
    ∙ ap (λ qs. output_over output qs (between begin end values ++ drop end values) (length output)) (sym ps)
    ∙ ap (λ ws. output_over output (flat_map stretch_places (drop (left - 1) leaves)) ws (length output)) (sym vs)
