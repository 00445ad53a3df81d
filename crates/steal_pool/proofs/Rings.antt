-- The deques of a ring that a hand steals from.
use Rattle.std.proofs.Common.{◌≡◌, ℕ, suc, ◌+◌, ◌-◌, ◌<◌, ◌≤◌, List, [], ◌∷◌, ◌++◌, length, map, set, take, drop, get_or, length-append, append_assoc, append-nil, Vec, Global, refl, sym, ap, ◌∙◌, ◌⊎◌, inl, inr, subst, arith}
use Rattle.std.proofs.lemmas.Bool.{cases_lt}
use Rattle.std.proofs.lemmas.List.{length-drop, length-take, length-map, get_or_append_left, get_or-append-add, get_or-drop, get_or-take, get_or-map, take_more, take_all, get_or_push, map-set, set-get_or, map-append}
use Rattle.steal_pool.specs.declared.lines.OwnLine.{OwnLine}
use Rattle.steal_pool.specs.declared.lines.StealLine.{StealLine}
use Rattle.steal_pool.specs.declared.hand.Hand.{Hand}
use Rattle.steal_pool.specs.Hands.{deque_of, steals_from, AreInRing}
use Rattle.steal_pool.specs.Ends.{Deque, own_deque, stolen_deque, rest_of_ring}

pub others_long : (ds : List Deque) (at : ℕ) → at < length ds → length (rest_of_ring ds at) + 1 ≡ length ds
others_long ds at lt =
    let a = length-append (drop (at + 1) ds) (take at ds) in
    let b = length-drop (at + 1) ds in
    let c = length-take at ds in
    omega (arith, a, b, c, lt)

-- the deque `k` + 1 steps behind a place
pub others_at : (ds : List Deque) (at k from : ℕ) (d : Deque) → at < length ds → k + 1 < length ds → (at + (k + 1) < length ds → from ≡ at + (k + 1)) → (length ds ≤ at + (k + 1) → from + length ds ≡ at + (k + 1)) → get_or (rest_of_ring ds at) k d ≡ get_or ds from d
others_at ds at k from d there few before round = by (cases_lt (at + (k + 1)) (length ds))
  where
    long : length (drop (at + 1) ds) ≡ length ds - (at + 1)
    long = length-drop (at + 1) ds

    by : (at + (k + 1) < length ds) ⊎ (length ds ≤ at + (k + 1)) → get_or (rest_of_ring ds at) k d ≡ get_or ds from d
    by (inl lt) =
        let e = before lt in
        let same : at + 1 + k ≡ from = omega (arith, e) in
        get_or_append_left (drop (at + 1) ds) (take at ds) d k (omega (arith, long, lt)) ∙ get_or-drop (at + 1) ds k d ∙ ap (λ n. get_or ds n d) same
    by (inr ge) =
        let e = round ge in
        let n : ℕ = k - (length ds - (at + 1)) in
        let whole : k ≡ length (drop (at + 1) ds) + n = omega (arith, long, ge, there) in
        let same : n ≡ from = omega (arith, e, ge, there) in
        ap (λ m. get_or (rest_of_ring ds at) m d) whole
        ∙ get_or-append-add (drop (at + 1) ds) (take at ds) n d
        ∙ get_or-take at ds n d (omega (arith, ge, few, there))
        ∙ ap (λ m. get_or ds m d) same

-- an owner that lends keeps its deque
pub deques_stay : (lines : List OwnLine) (i : ℕ) (d new : OwnLine) → own_deque new ≡ own_deque (get_or lines i d) → map own_deque (set lines i new) ≡ map own_deque lines
deques_stay lines i d new e = map-set own_deque lines i new ∙ (λ k. set (map own_deque lines) i (e k)) ∙ sym (map-set own_deque lines i (get_or lines i d)) ∙ ap (map own_deque) (set-get_or lines i d)

-- one thief more
pub next_thief : (lines first : List OwnLine) (row : List StealLine) (t : StealLine) (at step from : ℕ) (d : OwnLine) → map own_deque lines ≡ map own_deque first → length lines ≡ length first → at < length first → 1 ≤ step → step < length first → (at + step < length first → from ≡ at + step) → (length first ≤ at + step → from + length first ≡ at + step) → stolen_deque t ≡ own_deque (get_or lines from d) → from < length lines → map stolen_deque row ≡ take (step - 1) (rest_of_ring (map own_deque first) at) → map stolen_deque (row ++ t ∷ []) ≡ take (step + 1 - 1) (rest_of_ring (map own_deque first) at)
next_thief lines first row t at step from d same same_long there low few before round of_it from_lt so_far =
    let ds : List Deque = map own_deque first in
    let long : length ds ≡ length first = length-map first own_deque in
    let k : ℕ = step - 1 in
    let back : k + 1 ≡ step = omega (arith, low) in
    let b : at + (k + 1) < length ds → from ≡ at + (k + 1) = λ lt. before (omega (arith, lt, back, long)) ∙ omega (arith, back) in
    let r : length ds ≤ at + (k + 1) → from + length ds ≡ at + (k + 1) = λ ge. let e = round (omega (arith, ge, back, long)) in omega (arith, e, back, long) in
    let here : stolen_deque t ≡ get_or (rest_of_ring ds at) k (own_deque d) = of_it ∙ sym (get_or-map own_deque lines from d (own_deque d) from_lt) ∙ ap (λ xs. get_or xs from (own_deque d)) same ∙ sym (others_at ds at k from (own_deque d) (omega (arith, there, long)) (omega (arith, back, few, long)) b r) in
    let more = take_more (rest_of_ring ds at) k (own_deque d) (let o = others_long ds at (omega (arith, there, long)) in omega (arith, o, long, back, few)) in
    let count : k + 1 ≡ step + 1 - 1 = omega (arith, back) in
    map-append stolen_deque row (t ∷ []) ∙ (λ i. so_far i ++ here i ∷ []) ∙ sym more ∙ ap (λ n. take n (rest_of_ring ds at)) count

pub behind_there : (at step places from n : ℕ) → at < places → step < places → (at + step < places → from ≡ at + step) → (places ≤ at + step → from + places ≡ at + step) → n ≡ places → from < n
behind_there at step places from n a s before round is = by (cases_lt (at + step) places)
  where
    by : (at + step < places) ⊎ (places ≤ at + step) → from < n
    by (inl lt) = let e = before lt in omega (arith, e, lt, is)
    by (inr ge) = let e = round ge in omega (arith, e, a, s, is)

-- the thieves of a worker are of all other deques
pub whole_ring : (first : List OwnLine) (at k : ℕ) → at < length first → length first ≤ k + 1 → take k (rest_of_ring (map own_deque first) at) ≡ rest_of_ring (map own_deque first) at
whole_ring first at k there all = take_all k (rest_of_ring (map own_deque first) at) (let l = length-map first own_deque in let o = others_long (map own_deque first) at (omega (arith, there, l)) in omega (arith, o, l, all))

-- one row more
pub next_row : (rows : List (Vec StealLine Global)) (row : Vec StealLine Global) (first : List OwnLine) (at : ℕ) → length rows ≡ at → ((i : ℕ) (d : Vec StealLine Global) → i < at → map stolen_deque (get_or rows i d).items ≡ rest_of_ring (map own_deque first) i) → map stolen_deque row.items ≡ rest_of_ring (map own_deque first) at → (i : ℕ) (d : Vec StealLine Global) → i < at + 1 → map stolen_deque (get_or (rows ++ row ∷ []) i d).items ≡ rest_of_ring (map own_deque first) i
next_row rows row first at long old new i d lt = by (cases_lt i at)
  where
    by : (i < at) ⊎ (at ≤ i) → map stolen_deque (get_or (rows ++ row ∷ []) i d).items ≡ rest_of_ring (map own_deque first) i
    by (inl low) = ap (λ (v : Vec StealLine Global). map stolen_deque v.items) (get_or_append_left rows (row ∷ []) d i (omega (arith, low, long))) ∙ old i d low
    by (inr ge) =
        let e : at ≡ i = omega (arith, lt, ge) in
        ap (λ (v : Vec StealLine Global). map stolen_deque v.items) (get_or_push rows row d i (omega (arith, long, e))) ∙ new ∙ ap (rest_of_ring (map own_deque first)) e

-- Hands so far and owners that are left are those of a ring; the hands steal from the rest_of_ring of it, and the rows that are left
-- are for the owners that are left.
pub record IsRing (hands : List Hand) (owners : List OwnLine) (rows : List (Vec StealLine Global)) (ds : List Deque) : Type 0 where
  pub joined : map deque_of hands ++ map own_deque owners ≡ ds
  pub stolen : (i : ℕ) (d : Hand) → i < length hands → steals_from (get_or hands i d) ≡ rest_of_ring ds i
  pub coming : (k : ℕ) (d : Vec StealLine Global) → k < length rows → map stolen_deque (get_or rows k d).items ≡ rest_of_ring ds (length hands + k)

-- one hand more
pub next_hand : (hands : List Hand) (h : Hand) (owners : List OwnLine) (rows : List (Vec StealLine Global)) (d : OwnLine) (e : Vec StealLine Global) (ds : List Deque) → IsRing hands owners rows ds → 0 < length owners → length rows ≡ length owners → deque_of h ≡ own_deque (get_or owners 0 d) → steals_from h ≡ map stolen_deque (get_or rows 0 e).items → IsRing (hands ++ h ∷ []) (drop 1 owners) (drop 1 rows) ds
next_hand hands h [] rows d e ds ring some long mine steals = absurd (omega (arith, some))
next_hand hands h (o ∷ owners) [] d e ds ring some long mine steals = absurd (omega (arith, long))
next_hand hands h (o ∷ owners) (r ∷ rows) d e ds ring some long mine steals =
    let more : length (hands ++ h ∷ []) ≡ length hands + 1 = length-append hands (h ∷ []) in record {
      joined = ap (λ xs. xs ++ map own_deque owners) (map-append deque_of hands (h ∷ [])) ∙ append_assoc (map deque_of hands) (deque_of h ∷ []) (map own_deque owners) ∙ (λ i. map deque_of hands ++ mine i ∷ map own_deque owners) ∙ ring.joined;
      stolen = λ i c lt. by i c (omega (arith, more, lt)) (cases_lt i (length hands));
      coming = λ k c lt. let s : length hands + suc k ≡ length (hands ++ h ∷ []) + k = omega (arith, more) in ring.coming (suc k) c (omega (arith, lt)) ∙ ap (rest_of_ring ds) s;
    }
  where
    by : (i : ℕ) (c : Hand) → i < length hands + 1 → (i < length hands) ⊎ (length hands ≤ i) → steals_from (get_or (hands ++ h ∷ []) i c) ≡ rest_of_ring ds i
    by i c lt (inl low) = ap steals_from (get_or_append_left hands (h ∷ []) c i low) ∙ ring.stolen i c low
    by i c lt (inr ge) =
        let same : length hands ≡ i = omega (arith, lt, ge) in
        let z : length hands + 0 ≡ i = omega (arith, same) in
        ap steals_from (get_or_push hands h c i same) ∙ steals ∙ ring.coming 0 e (omega arith) ∙ ap (rest_of_ring ds) z

pub same_ring : (hands hands' : List Hand) (owners owners' : List OwnLine) (rows rows' : List (Vec StealLine Global)) (ds : List Deque) → hands' ≡ hands → owners' ≡ owners → rows' ≡ rows → IsRing hands owners rows ds → IsRing hands' owners' rows' ds
same_ring hands hands' owners owners' rows rows' ds h o r ring =
    subst (λ (xs : List (Vec StealLine Global)). IsRing hands' owners' xs ds) (sym r) (
    subst (λ (xs : List OwnLine). IsRing hands' xs rows ds) (sym o) (
    subst (λ (xs : List Hand). IsRing xs owners rows ds) (sym h) ring))

-- the ring before the first hand
pub first_ring : (owners : List OwnLine) (rows : List (Vec StealLine Global)) (ds : List Deque) → map own_deque owners ≡ ds → ((k : ℕ) (d : Vec StealLine Global) → k < length rows → map stolen_deque (get_or rows k d).items ≡ rest_of_ring ds k) → IsRing [] owners rows (map own_deque owners)
first_ring owners rows ds same from = record {
  joined = refl;
  stolen = λ i d lt. absurd (omega (arith, lt));
  coming = λ k d lt. let z : 0 + k ≡ k = omega arith in from k d lt ∙ (λ i. rest_of_ring (sym same i) (sym z i));
}

-- the ring of all hands
pub all_hands : (hands : List Hand) (owners : List OwnLine) (rows : List (Vec StealLine Global)) (ds : List Deque) → IsRing hands owners rows ds → length owners ≡ 0 → AreInRing hands
all_hands hands [] rows ds ring none = λ i d lt. ring.stolen i d lt ∙ ap (λ xs. rest_of_ring xs i) (sym ring.joined ∙ append-nil (map deque_of hands))
all_hands hands (o ∷ owners) rows ds ring none = absurd (omega (arith, none))
