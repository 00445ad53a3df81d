-- Frames that are given to hands in turn.
use Rattle.std.proofs.Common.{◌≡◌, ◌≢◌, ℕ, zero, suc, ◌+◌, ◌-◌, ◌*◌, ◌==◌, ◌<◌, ◌≤◌, Bool, true, false, if◌then◌else◌, List, [], ◌∷◌, ◌++◌, length, map, set, get_or, All, sum_by, refl, sym, ap, ◌∙◌, ◌⊎◌, inl, inr, arith, append-nil, length-set, get_or-set_same, get_or-set_other, eq-eqb}
use Rattle.std.proofs.lemmas.Bool.{cases_eq, cases_lt, ne_eqb}
use Rattle.std.proofs.lemmas.List.{map-set, set-get_or}
use Rattle.std.proofs.lemmas.List.Sums.{sum_by-set, sum_by-le}
use Rattle.flow_core_laws.specs.declared.plan.Plan.{Plan}
use Rattle.flow_core_laws.specs.Plans.{frame_at}
use Rattle.flow_core_concurrent.specs.States.{times}
use Rattle.flow_core_concurrent.specs.Counted.{one}
use Rattle.flow_core_concurrent.proofs.Looks.{times_push}
use Rattle.steal_pool.specs.declared.hand.Hand.{Hand}
use Rattle.steal_pool.specs.Ends.{rest_of_ring}
use Rattle.steal_pool.specs.Hands.{pushed_by, bound_of, spare_of, deque_of, steals_from, IsNewHand, KeepsDeques, AreInRing}
use Rattle.task_workers_crew.specs.Dealt.{open_below, one_in, AreDealt}
use Rattle.task_workers_crew.specs.Dealing.{left_out, AreDealtBelow}
use Rattle.task_workers_crew.proofs.Spreading.{all_pushed, all_take}

-- the item behind a list counts, or is left out
one_in_yes : (many skip : ℕ) (xs : List ℕ) (x : ℕ) → left_out many skip xs ≡ 0 → one_in many skip (xs ++ x ∷ []) ≡ one_in many skip xs ++ x ∷ []
one_in_yes many zero [] x e = refl
one_in_yes many (suc skip) [] x e = absurd (omega (arith, e))
one_in_yes many zero (y ∷ ys) x e = ap (λ zs. y ∷ zs) (one_in_yes many (many - 1) ys x e)
one_in_yes many (suc skip) (y ∷ ys) x e = one_in_yes many skip ys x e

one_in_no : (many skip : ℕ) (xs : List ℕ) (x : ℕ) → 1 ≤ left_out many skip xs → one_in many skip (xs ++ x ∷ []) ≡ one_in many skip xs
one_in_no many zero [] x le = absurd (omega (arith, le))
one_in_no many (suc skip) [] x le = refl
one_in_no many zero (y ∷ ys) x le = ap (λ zs. y ∷ zs) (one_in_no many (many - 1) ys x le)
one_in_no many (suc skip) (y ∷ ys) x le = one_in_no many skip ys x le

left_out_yes : (many skip : ℕ) (xs : List ℕ) (x : ℕ) → left_out many skip xs ≡ 0 → left_out many skip (xs ++ x ∷ []) ≡ many - 1
left_out_yes many zero [] x e = refl
left_out_yes many (suc skip) [] x e = absurd (omega (arith, e))
left_out_yes many zero (y ∷ ys) x e = left_out_yes many (many - 1) ys x e
left_out_yes many (suc skip) (y ∷ ys) x e = left_out_yes many skip ys x e

left_out_no : (many skip : ℕ) (xs : List ℕ) (x : ℕ) → 1 ≤ left_out many skip xs → left_out many skip (xs ++ x ∷ []) + 1 ≡ left_out many skip xs
left_out_no many zero [] x le = absurd (omega (arith, le))
left_out_no many (suc skip) [] x le = omega arith
left_out_no many zero (y ∷ ys) x le = left_out_no many (many - 1) ys x le
left_out_no many (suc skip) (y ∷ ys) x le = left_out_no many skip ys x le

-- the frames that are Open at opening, with one number more
open_yes : (plan : Plan) (n : ℕ) → (frame_at plan n).wait ≡ 0 → open_below plan (n + 1) ≡ open_below plan n ++ n ∷ []
open_yes plan n is = let s : n + 1 ≡ suc n = omega arith in ap (open_below plan) s ∙ ap (λ (b : Bool). open_below plan n ++ (if b then n ∷ [] else [])) (eq-eqb (frame_at plan n).wait 0 is)

times_other : (b : Bool) (xs : List ℕ) (n f : ℕ) → n ≢ f → times f (xs ++ (if b then n ∷ [] else [])) ≡ times f xs
times_other true xs n f ne = let t = times_push f xs n in let o : one (n == f) ≡ 0 = ap one (ne_eqb n f ne) in omega (arith, t, o)
times_other false xs n f ne = ap (times f) (append-nil xs)

times_same : (b : Bool) (xs : List ℕ) (n f : ℕ) → n ≡ f → times f (xs ++ (if b then n ∷ [] else [])) ≡ times f xs + one b
times_same true xs n f e = let t = times_push f xs n in let o : one (n == f) ≡ 1 = ap one (eq-eqb n f e) in omega (arith, t, o)
times_same false xs n f e = let t : times f (xs ++ []) ≡ times f xs = ap (times f) (append-nil xs) in omega (arith, t)

open_above : (plan : Plan) (n f : ℕ) → n ≤ f → times f (open_below plan n) ≡ 0
open_above plan zero f le = refl
open_above plan (suc n) f le = times_other ((frame_at plan n).wait == 0) (open_below plan n) n f (λ e. omega (arith, e, le)) ∙ open_above plan n f (omega (arith, le))

open_times : (plan : Plan) (n f : ℕ) → f < n → times f (open_below plan n) ≡ one ((frame_at plan f).wait == 0)
open_times plan zero f lt = absurd (omega (arith, lt))
open_times plan (suc n) f lt = by (λ low. open_times plan n f low) (cases_eq n f)
  where
    by : (f < n → times f (open_below plan n) ≡ one ((frame_at plan f).wait == 0)) → (n ≡ f) ⊎ (n ≢ f) → times f (open_below plan (suc n)) ≡ one ((frame_at plan f).wait == 0)
    by rest (inl e) =
        let a = times_same ((frame_at plan n).wait == 0) (open_below plan n) n f e in
        let b = open_above plan n f (omega (arith, e)) in
        let c : one ((frame_at plan n).wait == 0) ≡ one ((frame_at plan f).wait == 0) = ap (λ k. one ((frame_at plan k).wait == 0)) e in
        omega (arith, a, b, c)
    by rest (inr ne) = times_other ((frame_at plan n).wait == 0) (open_below plan n) n f ne ∙ rest (omega (arith, lt, ne))

-- a ring in which one hand changed, but not its deques
pub ring_stays : (hs : List Hand) (at : ℕ) (d h' : Hand) → at < length hs → KeepsDeques (get_or hs at d) h' → AreInRing hs → AreInRing (set hs at h')
ring_stays hs at d h' there keeps ring = λ i e lt. by i e (let l = length-set hs at h' in omega (arith, l, lt)) (cases_eq i at) ∙ ap (λ ds. rest_of_ring ds i) (sym deques)
  where
    deques : map deque_of (set hs at h') ≡ map deque_of hs
    deques = map-set deque_of hs at h' ∙ (λ k. set (map deque_of hs) at (keeps.own k)) ∙ sym (map-set deque_of hs at (get_or hs at d)) ∙ ap (map deque_of) (set-get_or hs at d)

    by : (i : ℕ) (e : Hand) → i < length hs → (i ≡ at) ⊎ (i ≢ at) → steals_from (get_or (set hs at h') i e) ≡ rest_of_ring (map deque_of hs) i
    by i e lt (inl is) = ap (λ k. steals_from (get_or (set hs at h') k e)) is ∙ ap steals_from (get_or-set_same hs at h' e there) ∙ keeps.others ∙ ring at d there ∙ ap (rest_of_ring (map deque_of hs)) (sym is)
    by i e lt (inr ne) = ap steals_from (get_or-set_other hs at i h' e ne) ∙ ring i e lt

-- a frame that is Open goes to the hand whose turn it is
module _ (plan : Plan) (n turn turn' : ℕ) (hs : List Hand) (d h' : Hand) (so : AreDealtBelow plan n turn hs) (is : (frame_at plan n).wait ≡ 0) (pushed : pushed_by h' ≡ pushed_by (get_or hs turn d) ++ n ∷ []) (before : turn + 1 < length hs → turn' ≡ turn + 1) (round : turn + 1 ≡ length hs → turn' ≡ 0) where
  more : open_below plan (n + 1) ≡ open_below plan n ++ n ∷ []
  more = open_yes plan n is

  long : length (set hs turn h') ≡ length hs
  long = length-set hs turn h'

  last : (turn + 1 < length hs) ⊎ (length hs ≤ turn + 1)
  last = cases_lt (turn + 1) (length hs)

  turn_is : left_out (length hs) turn (open_below plan n) ≡ 0
  turn_is = let a = so.later turn (omega arith) so.there in omega (arith, a)

  others_wait : (i : ℕ) → i ≢ turn → i < length hs → 1 ≤ left_out (length hs) i (open_below plan n)
  others_wait i ne lt = by (cases_lt i turn)
    where
      by : (i < turn) ⊎ (turn ≤ i) → 1 ≤ left_out (length hs) i (open_below plan n)
      by (inl low) = let a = so.earlier i low in let t = so.there in omega (arith, a, t)
      by (inr ge) = let a = so.later i ge lt in omega (arith, a, ge, ne)

  -- what is left out next, for the hand whose turn it was, and for another
  mine : left_out (length (set hs turn h')) turn (open_below plan (n + 1)) ≡ length hs - 1
  mine = (λ k. left_out (long k) turn (more k)) ∙ left_out_yes (length hs) turn (open_below plan n) n turn_is

  its : (i : ℕ) → i ≢ turn → i < length hs → left_out (length (set hs turn h')) i (open_below plan (n + 1)) + 1 ≡ left_out (length hs) i (open_below plan n)
  its i ne lt = (λ k. left_out (long k) i (more k) + 1) ∙ left_out_no (length hs) i (open_below plan n) n (others_wait i ne lt)

  once_more : (f : ℕ) → sum_by (λ h. times f (pushed_by h)) (set hs turn h') ≡ times f (open_below plan (n + 1))
  once_more f =
      let a = sum_by-set (λ (h : Hand). times f (pushed_by h)) hs turn h' d so.there in
      let b : times f (pushed_by h') ≡ times f (pushed_by (get_or hs turn d)) + one (n == f) = ap (times f) pushed ∙ times_push f (pushed_by (get_or hs turn d)) n in
      let c : times f (open_below plan (n + 1)) ≡ times f (open_below plan n) + one (n == f) = ap (times f) more ∙ times_push f (open_below plan n) n in
      let o = so.once f in
      omega (arith, a, b, c, o)

  turn_by_turn : (i : ℕ) (e : Hand) → i < length (set hs turn h') → pushed_by (get_or (set hs turn h') i e) ≡ one_in (length (set hs turn h')) i (open_below plan (n + 1))
  turn_by_turn i e lt = by (cases_eq i turn) ∙ (λ k. one_in (sym long k) i (sym more k))
    where
      by : (i ≡ turn) ⊎ (i ≢ turn) → pushed_by (get_or (set hs turn h') i e) ≡ one_in (length hs) i (open_below plan n ++ n ∷ [])
      by (inl same) = ap (λ k. pushed_by (get_or (set hs turn h') k e)) same ∙ ap pushed_by (get_or-set_same hs turn h' e so.there) ∙ pushed ∙ ap (λ xs. xs ++ n ∷ []) (so.in_turn turn d so.there) ∙ sym (one_in_yes (length hs) turn (open_below plan n) n turn_is) ∙ ap (λ k. one_in (length hs) k (open_below plan n ++ n ∷ [])) (sym same)
      by (inr ne) =
          let low : i < length hs = omega (arith, lt, long) in
          ap pushed_by (get_or-set_other hs turn i h' e ne) ∙ so.in_turn i e low ∙ sym (one_in_no (length hs) i (open_below plan n) n (others_wait i ne low))

  next_there : turn' < length (set hs turn h')
  next_there = by last
    where
      by : (turn + 1 < length hs) ⊎ (length hs ≤ turn + 1) → turn' < length (set hs turn h')
      by (inl lt) = let e = before lt in omega (arith, e, lt, long)
      by (inr ge) = let t = so.there in let e = round (omega (arith, ge, t)) in omega (arith, e, t, long)

  later_next : (i : ℕ) → turn' ≤ i → i < length (set hs turn h') → left_out (length (set hs turn h')) i (open_below plan (n + 1)) + turn' ≡ i
  later_next i le lt = by last (cases_eq i turn)
    where
      low : i < length hs
      low = omega (arith, lt, long)

      by : (turn + 1 < length hs) ⊎ (length hs ≤ turn + 1) → (i ≡ turn) ⊎ (i ≢ turn) → left_out (length (set hs turn h')) i (open_below plan (n + 1)) + turn' ≡ i
      by (inl small) (inl same) = let e = before small in absurd (omega (arith, e, le, same))
      by (inl small) (inr ne) =
          let e = before small in
          let a = its i ne low in
          let b = so.later i (omega (arith, e, le)) low in
          omega (arith, e, a, b)
      by (inr ge) (inl same) =
          let t = so.there in
          let e = round (omega (arith, ge, t)) in
          let m : left_out (length (set hs turn h')) i (open_below plan (n + 1)) ≡ length hs - 1 = ap (λ k. left_out (length (set hs turn h')) k (open_below plan (n + 1))) same ∙ mine in
          omega (arith, e, m, ge, t, same)
      by (inr ge) (inr ne) =
          let t = so.there in
          let e = round (omega (arith, ge, t)) in
          let a = its i ne low in
          let b = so.earlier i (omega (arith, ne, low, ge)) in
          omega (arith, e, a, b, ge, t)

  earlier_next : (i : ℕ) → i < turn' → left_out (length (set hs turn h')) i (open_below plan (n + 1)) + turn' ≡ i + length (set hs turn h')
  earlier_next i lt = by last (cases_eq i turn)
    where
      by : (turn + 1 < length hs) ⊎ (length hs ≤ turn + 1) → (i ≡ turn) ⊎ (i ≢ turn) → left_out (length (set hs turn h')) i (open_below plan (n + 1)) + turn' ≡ i + length (set hs turn h')
      by (inl small) (inl same) =
          let e = before small in
          let m : left_out (length (set hs turn h')) i (open_below plan (n + 1)) ≡ length hs - 1 = ap (λ k. left_out (length (set hs turn h')) k (open_below plan (n + 1))) same ∙ mine in
          omega (arith, e, m, small, same, long)
      by (inl small) (inr ne) =
          let e = before small in
          let low : i < turn = omega (arith, lt, e, ne) in
          let t = so.there in
          let a = its i ne (omega (arith, low, t)) in
          let b = so.earlier i low in
          omega (arith, e, a, b, long)
      by (inr ge) side = let t = so.there in let e = round (omega (arith, ge, t)) in absurd (omega (arith, e, lt))

  pub dealt_one : n < length plan.frames → bound_of h' ≡ bound_of (get_or hs turn d) → spare_of h' ≡ spare_of (get_or hs turn d) - 1 → KeepsDeques (get_or hs turn d) h' → AreDealtBelow plan (n + 1) turn' (set hs turn h')
  dealt_one exists bound spare keeps = record {
    there = next_there;
    room = all_pushed plan n turn hs d h' so.room so.there exists is bound spare;
    once = once_more;
    in_turn = turn_by_turn;
    later = later_next;
    earlier = earlier_next;
    ring = ring_stays hs turn d h' so.there keeps so.ring;
  }

-- new hands were given nothing
pub dealt_new : (plan : Plan) (workers frames : ℕ) (hs : List Hand) → frames ≡ length plan.frames → 1 ≤ length hs → All (λ h. IsNewHand workers frames frames h) hs → AreInRing hs → AreDealtBelow plan 0 0 hs
dealt_new plan workers frames hs is some new ring = record {
  there = some;
  room = all_take plan workers frames hs is new;
  once = λ f. let none : sum_by (λ h. times f (pushed_by h)) hs ≤ length hs * 0 = sum_by-le (λ h. times f (pushed_by h)) 0 hs (λ i d lt. let e = ap (times f) (new i d lt).pushed in omega (arith, e)) in omega (arith, none);
  in_turn = λ i d lt. (new i d lt).pushed;
  later = λ i le lt. omega arith;
  earlier = λ i lt. absurd (omega (arith, lt));
  ring = ring;
}

-- all frames were given
pub dealt_all : (plan : Plan) (turn : ℕ) (hs : List Hand) → AreDealtBelow plan (length plan.frames) turn hs → AreDealt plan hs
dealt_all plan turn hs so = record { once = λ f lt. so.once f ∙ open_times plan (length plan.frames) f lt; in_turn = so.in_turn }
