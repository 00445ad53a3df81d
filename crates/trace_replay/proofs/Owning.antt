-- Lists that own their numbers.
use Rattle.std.proofs.Common.{◌≡◌, ◌≢◌, ℕ, zero, suc, ◌+◌, ◌<◌, ◌≤◌, List, [], ◌∷◌, Some, length, get_or, ◌++◌, set, replicate, take, drop, refl, sym, ap, ◌∙◌, subst, ◌⊎◌, inl, inr, arith}
use Rattle.std.specs.Prelude.{slice_get}
use Rattle.std.proofs.lemmas.Bool.{cases_lt, cases_eq, cases_order}
use Rattle.std.proofs.lemmas.List.{get_or-set_same, get_or-set_other, length-set, length-replicate, get_or-replicate, take_all}
use Rattle.std.proofs.lemmas.Option.{same_Some, slice_get_within, slice_get-get_or, get_or_from_slice_get}
use Rattle.trace_replay_laws.specs.Lists.{number_in, IsBefore, IsFirstStranger, StoodBefore, HaveNoRepeat, IsFirstRepeat}
use Rattle.trace_replay_laws.proofs.Taking.{list_of, number_at}
use Rattle.trace_replay.specs.Owners.{AreOwners, OwnBefore}

-- the number at a place, by the list there
pub number_read : (lists : List (List ℕ)) (k j : ℕ) (list : List ℕ) → slice_get lists k ≡ Some list → j < length list → number_in lists k j ≡ Some (get_or list j 0)
number_read lists k j list is lt = number_at lists k j (get_or list j 0) list is (slice_get-get_or list j 0 lt)

pub number_within : (lists : List (List ℕ)) (k j f : ℕ) (list : List ℕ) → slice_get lists k ≡ Some list → number_in lists k j ≡ Some f → (j < length list) × (get_or list j 0 ≡ f)
number_within lists k j f list is h =
    let (other, it, there) = list_of lists k j f h in
    let same : other ≡ list = same_Some other list (sym it ∙ is) in
    let here : slice_get list j ≡ Some f = subst (λ (l : List ℕ). slice_get l j ≡ Some f) same there in
    (slice_get_within list j f here, get_or_from_slice_get list j f 0 here)

-- the first number that isn't below a bound
pub stranger_at : (n : ℕ) (lists : List (List ℕ)) (k j : ℕ) (list : List ℕ) → slice_get lists k ≡ Some list → j < length list → n ≤ get_or list j 0 → ((i : ℕ) → i < j → get_or list i 0 < n) → ((l p f : ℕ) → l < k → number_in lists l p ≡ Some f → f < n) → IsFirstStranger n lists k j
stranger_at n lists k j list is lt strange below before = record {
  frame = get_or list j 0;
  stands = number_read lists k j list is lt;
  is_strange = strange;
  is_first = first;
}
  where
    first : (l p f : ℕ) → IsBefore l p k j → number_in lists l p ≡ Some f → f < n
    first l p f (inl earlier) h = before l p f earlier h
    first l p f (inr (same, earlier)) h =
        let (within, at) = number_within lists l p f list (ap (slice_get lists) same ∙ is) h in
        subst (λ (x : ℕ). x < n) at (below p earlier)

pub below_more : (n : ℕ) (lists : List (List ℕ)) (k : ℕ) (list : List ℕ) → slice_get lists k ≡ Some list → ((l p f : ℕ) → l < k → number_in lists l p ≡ Some f → f < n) → ((i : ℕ) → i < length list → get_or list i 0 < n) → (l p f : ℕ) → l < k + 1 → number_in lists l p ≡ Some f → f < n
below_more n lists k list is before here l p f lt h = by (cases_lt l k)
  where
    by : (l < k) ⊎ (k ≤ l) → f < n
    by (inl earlier) = before l p f earlier h
    by (inr ge) =
        let same : l ≡ k = omega (arith, lt, ge) in
        let (within, at) = number_within lists l p f list (ap (slice_get lists) same ∙ is) h in
        subst (λ (x : ℕ). x < n) at (here p within)

-- a place before the next one is that one or before it
before_next : (k j list place : ℕ) → IsBefore k j list (place + 1) → IsBefore k j list place ⊎ ((k ≡ list) × (j ≡ place))
before_next k j list place (inl lt) = inl (inl lt)
before_next k j list place (inr (is, lt)) = by (cases_lt j place)
  where
    by : (j < place) ⊎ (place ≤ j) → IsBefore k j list place ⊎ ((k ≡ list) × (j ≡ place))
    by (inl earlier) = inl (inr (is, earlier))
    by (inr ge) = inr (is, omega (arith, lt, ge))

later : (k j list place : ℕ) → IsBefore k j list place → IsBefore k j list (place + 1)
later k j list place (inl lt) = inl lt
later k j list place (inr (is, lt)) = inr (is, omega (arith, lt))

stood_later : (lists : List (List ℕ)) (list place f : ℕ) → StoodBefore lists list place f → StoodBefore lists list (place + 1) f
stood_later lists list place f (l, p, before, is) = (l, p, later l p list place before, is)

-- a list that isn't there owns nothing
pub exists_of : (lists : List (List ℕ)) (k j f : ℕ) → number_in lists k j ≡ Some f → k < length lists
exists_of lists k j f h = let (list, is, there) = list_of lists k j f h in slice_get_within lists k list is

-- a frame that stood before has an owner
pub own_none : (lists : List (List ℕ)) (owners : List ℕ) → length lists ≤ 64 → ((f : ℕ) → f < length owners → get_or owners f 0 ≡ 64) → OwnBefore lists 0 0 owners
own_none lists owners few none = record {
  own = λ k j f before h. absurd (nowhere k j before);
  have_stood = λ f lt owned. absurd (owned (none f lt));
  none_twice = λ k j f before h stood. nowhere k j before;
}
  where
    nowhere : (k j : ℕ) → IsBefore k j 0 0 → ⊥
    nowhere k j (inl lt) = omega arith
    nowhere k j (inr (is, lt)) = omega arith

pub own_more : (lists : List (List ℕ)) (list place f : ℕ) (owners : List ℕ) → length lists ≤ 64 → list < length lists → f < length owners → number_in lists list place ≡ Some f → get_or owners f 0 ≡ 64 → OwnBefore lists list place owners → OwnBefore lists list (place + 1) (set owners f list)
own_more lists list place f owners few exists lt stands free before = record { own = own; have_stood = have_stood; none_twice = none_twice }
  where
    is_new : StoodBefore lists list place f → ⊥
    is_new (l, p, earlier, is) = let o = before.own l p f earlier is in let e = exists_of lists l p f is in omega (arith, o, e, few, free)

    at : (g : ℕ) → (g ≡ f) ⊎ (g ≢ f) → ((g ≡ f) × (get_or (set owners f list) g 0 ≡ list)) ⊎ ((g ≢ f) × (get_or (set owners f list) g 0 ≡ get_or owners g 0))
    at g (inl same) = inl (same, ap (λ n. get_or (set owners f list) n 0) same ∙ get_or-set_same owners f list 0 lt)
    at g (inr other) = inr (other, get_or-set_other owners f g list 0 other)

    own : (k j g : ℕ) → IsBefore k j list (place + 1) → number_in lists k j ≡ Some g → get_or (set owners f list) g 0 ≡ k
    own k j g earlier h = by (before_next k j list place earlier) (at g (cases_eq g f))
      where
        by : IsBefore k j list place ⊎ ((k ≡ list) × (j ≡ place)) → ((g ≡ f) × (get_or (set owners f list) g 0 ≡ list)) ⊎ ((g ≢ f) × (get_or (set owners f list) g 0 ≡ get_or owners g 0)) → get_or (set owners f list) g 0 ≡ k
        by (inl old) (inr (other, is)) = is ∙ before.own k j g old h
        by (inl old) (inl (same, is)) = absurd (is_new (k, j, old, h ∙ ap Some same))
        by (inr (same_list, same_place)) (inl (same, is)) = is ∙ sym same_list
        by (inr (same_list, same_place)) (inr (other, is)) = absurd (other (same_Some g f (sym h ∙ (λ i. number_in lists (same_list i) (same_place i)) ∙ stands)))

    have_stood : (g : ℕ) → g < length (set owners f list) → get_or (set owners f list) g 0 ≢ 64 → StoodBefore lists list (place + 1) g
    have_stood g g_lt owned = by (at g (cases_eq g f))
      where
        by : ((g ≡ f) × (get_or (set owners f list) g 0 ≡ list)) ⊎ ((g ≢ f) × (get_or (set owners f list) g 0 ≡ get_or owners g 0)) → StoodBefore lists list (place + 1) g
        by (inl (same, is)) = (list, place, inr (refl, omega arith), stands ∙ ap Some (sym same))
        by (inr (other, is)) = stood_later lists list place g (before.have_stood g (let l = length-set owners f list in omega (arith, l, g_lt)) (λ e. owned (is ∙ e)))

    none_twice : (k j g : ℕ) → IsBefore k j list (place + 1) → number_in lists k j ≡ Some g → StoodBefore lists k j g → ⊥
    none_twice k j g earlier h stood = by (before_next k j list place earlier)
      where
        by : IsBefore k j list place ⊎ ((k ≡ list) × (j ≡ place)) → ⊥
        by (inl old) = before.none_twice k j g old h stood
        by (inr (same_list, same_place)) =
            let e : g ≡ f = same_Some g f (sym h ∙ (λ i. number_in lists (same_list i) (same_place i)) ∙ stands) in
            is_new (subst (λ (n : ℕ). StoodBefore lists list n f) same_place (subst (λ (n : ℕ). StoodBefore lists n j f) same_list (subst (StoodBefore lists k j) e stood)))

-- a number that has an owner stood before
pub repeat_at : (lists : List (List ℕ)) (list place f : ℕ) (owners : List ℕ) → f < length owners → number_in lists list place ≡ Some f → get_or owners f 0 ≢ 64 → OwnBefore lists list place owners → IsFirstRepeat lists f
repeat_at lists list place f owners lt stands owned before = record { list = list; place = place; stands = stands; stood_before = before.have_stood f lt owned; is_first = before.none_twice }

-- a whole list
pub own_list : (lists : List (List ℕ)) (k : ℕ) (list : List ℕ) (owners : List ℕ) (place : ℕ) → slice_get lists k ≡ Some list → length list ≤ place → OwnBefore lists k place owners → OwnBefore lists (k + 1) 0 owners
own_list lists k list owners place is whole before = record {
  own = λ l p f earlier h. before.own l p f (in_list l p f earlier h) h;
  have_stood = λ f lt owned. further f (before.have_stood f lt owned);
  none_twice = λ l p f earlier h stood. before.none_twice l p f (in_list l p f earlier h) h stood;
}
  where
    in_list : (l p f : ℕ) → IsBefore l p (k + 1) 0 → number_in lists l p ≡ Some f → IsBefore l p k place
    in_list l p f (inr (e, lt)) h = absurd (omega arith)
    in_list l p f (inl lt) h = by (cases_lt l k)
      where
        by : (l < k) ⊎ (k ≤ l) → IsBefore l p k place
        by (inl earlier) = inl earlier
        by (inr ge) =
            let same : l ≡ k = omega (arith, lt, ge) in
            let (within, at) = number_within lists l p f list (ap (slice_get lists) same ∙ is) h in
            inr (same, omega (arith, within, whole))

    further : (f : ℕ) → StoodBefore lists k place f → StoodBefore lists (k + 1) 0 f
    further f (l, p, inl lt, h) = (l, p, inl (omega (arith, lt)), h)
    further f (l, p, inr (e, lt), h) = (l, p, inl (omega (arith, e)), h)

-- all lists
pub owners_own : (lists : List (List ℕ)) (k : ℕ) (owners : List ℕ) (frames : ℕ) → length lists ≤ k → length owners ≡ frames → OwnBefore lists k 0 owners → HaveNoRepeat lists × AreOwners lists frames owners
owners_own lists k owners frames all len before = (no_repeat, record { of_frames = len; own = λ l p f h. before.own l p f (everywhere l p f h) h })
  where
    everywhere : (l p f : ℕ) → number_in lists l p ≡ Some f → IsBefore l p k 0
    everywhere l p f h = let e = exists_of lists l p f h in inl (omega (arith, e, all))

    no_repeat : HaveNoRepeat lists
    no_repeat l p m q f h there = by (cases_order l m) (cases_order p q)
      where
        by : (l ≡ m) ⊎ ((l < m) ⊎ (m < l)) → (p ≡ q) ⊎ ((p < q) ⊎ (q < p)) → (l ≡ m) × (p ≡ q)
        by (inr (inl lt)) places = absurd (before.none_twice m q f (everywhere m q f there) there (l, p, inl lt, h))
        by (inr (inr gt)) places = absurd (before.none_twice l p f (everywhere l p f h) h (m, q, inl gt, there))
        by (inl e) (inl same) = (e, same)
        by (inl e) (inr (inl lt)) = absurd (before.none_twice m q f (everywhere m q f there) there (l, p, inr (e, lt), h))
        by (inl e) (inr (inr gt)) = absurd (before.none_twice l p f (everywhere l p f h) h (m, q, inr (sym e, gt), there))

-- a list that was read
pub list_read : (lists : List (List ℕ)) (k : ℕ) (read numbers : List ℕ) → k < length lists → read ≡ get_or lists k read → numbers ≡ read → slice_get lists k ≡ Some numbers
list_read lists k read numbers lt is same = slice_get-get_or lists k read lt ∙ ap Some (sym is ∙ sym same)

-- what a vector holds after its items were lent for writing
pub written : {X : Type 0} → (n : ℕ) (xs ys : List X) → length xs ≡ length ys → n ≡ length ys → take n (xs ++ drop (length xs) ys) ≡ xs
written n [] [] e is = ap (λ k. take k []) is
written n [] (y ∷ ys) e is = absurd (omega (arith, e))
written n (x ∷ xs) [] e is = absurd (omega (arith, e))
written zero (x ∷ xs) (y ∷ ys) e is = absurd (omega (arith, is))
written (suc n) (x ∷ xs) (y ∷ ys) e is = ap (λ zs. x ∷ zs) (written n xs ys (omega (arith, e)) (omega (arith, is)))

-- a list that was empty and got copies of one item has that item everywhere
pub made_of : (n : ℕ) (old xs : List ℕ) (m x : ℕ) → old ≡ [] → xs ≡ take n old ++ replicate m x → (f : ℕ) → f < length xs → get_or xs f 0 ≡ x
made_of n old xs m x empty is f lt =
    let none : take n old ≡ [] = ap (take n) empty ∙ take_all n [] (omega arith) in
    let e : xs ≡ replicate m x = is ∙ ap (λ (l : List ℕ). l ++ replicate m x) none in
    let l : length xs ≡ length (replicate m x) = ap length e in
    let r = length-replicate m x in
    ap (λ (l : List ℕ). get_or l f 0) e ∙ get_or-replicate m f x 0 (omega (arith, l, r, lt))

-- the place of a number is within its list
pub place_within : (lists : List (List ℕ)) (k j f : ℕ) → k < length lists → number_in lists k j ≡ Some f → j < length (get_or lists k [])
place_within lists k j f lt h = (number_within lists k j f (get_or lists k []) (slice_get-get_or lists k [] lt) h).0
