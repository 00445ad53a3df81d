-- Seats that begin, and seats that are joined.
use Rattle.std.proofs.Common.{◌≡◌, ℕ, zero, suc, ◌+◌, ◌==◌, ◌<◌, ◌≤◌, Bool, true, false, not, ◌&&◌, List, [], ◌++◌, Option, Some, None, length, get_or, set, sym, ap, ◌∙◌, ◌⊎◌, inl, inr, subst, arith, eq-eqb}
use Rattle.std.proofs.lemmas.Bool.{cases_eq, ne_eqb}
use Rattle.std.proofs.lemmas.List.{get_or-set_same, get_or-set_other}
use Rattle.std.proofs.lemmas.List.Sums.{sum_by-append}
use Rattle.flow_core_laws.specs.declared.plan.Plan.{Plan}
use Rattle.flow_core_concurrent.specs.declared.view.View.{View}
use Rattle.flow_core_laws.specs.Plans.{frame_at}
use Rattle.flow_core_concurrent.specs.States.{times}
use Rattle.flow_core_concurrent.specs.Counted.{one}
use Rattle.flow_core_concurrent.specs.Steps.{with_joined}
use Rattle.frame_table.specs.declared.seat.FrameSeat.{FrameSeat}
use Rattle.frame_table.specs.declared.table.FrameTable.{FrameTable}
use Rattle.frame_table.specs.Tokens.{IsSeatOf, IsFresh, view_of, known_of}
use Rattle.steal_pool.specs.declared.hand.Hand.{Hand}
use Rattle.task_workers_worker.specs.declared.log.WorkLog.{WorkLog}
use Rattle.task_workers_worker.specs.Left.{left_of}
use Rattle.task_workers_worker.specs.Worked.{unmade}
use Rattle.task_workers_worker.specs.Ready.{MayWork, frames_of}
use Rattle.task_workers_crew.specs.Crew.{IsEquipped, IsSeated}

-- a test for none, of a number that grew
none_less : (a b : ℕ) → a ≤ b → one (b == 0) ≤ one (a == 0)
none_less a b le = by (cases_eq a 0)
  where
    at_most : (t : Bool) → one t ≤ 1
    at_most true = omega arith
    at_most false = omega arith

    by : (a ≡ 0) ⊎ (a ≡ 0 → ⊥) → one (b == 0) ≤ one (a == 0)
    by (inl e) = let o : one (a == 0) ≡ 1 = ap one (eq-eqb a 0 e) in let m = at_most (b == 0) in omega (arith, o, m)
    by (inr ne) = let o : one (b == 0) ≡ 0 = ap one (ne_eqb b 0 (λ z. ne (omega (arith, z, le)))) in omega (arith, o)

both_less : (w s t : Bool) → one t ≤ one s → one (w && t) ≤ one (w && s)
both_less true s t le = le
both_less false s t le = omega arith

times_more : (f : ℕ) (xs ys : List ℕ) → times f xs ≤ times f (xs ++ ys)
times_more f xs ys = let a = sum_by-append (λ y. one (y == f)) xs ys in omega (arith, a)

pub left_of_le : (n : ℕ) (ran : List ℕ) → left_of n ran ≤ n
left_of_le zero ran = omega arith
left_of_le (suc n) ran = let a = left_of_le n ran in let b = none_less 0 (times n ran) (omega arith) in omega (arith, a, b)

left_more : (n : ℕ) (ran more : List ℕ) → left_of n (ran ++ more) ≤ left_of n ran
left_more zero ran more = omega arith
left_more (suc n) ran more =
    let a = left_more n ran more in
    let b = none_less (times n ran) (times n (ran ++ more)) (times_more n ran more) in
    omega (arith, a, b)

unmade_more : (plan : Plan) (n : ℕ) (made more : List ℕ) → unmade plan n (made ++ more) ≤ unmade plan n made
unmade_more plan zero made more = omega arith
unmade_more plan (suc n) made more =
    let a = unmade_more plan n made more in
    let b = both_less (not ((frame_at plan n).wait == 0)) (times n made == 0) (times n (made ++ more) == 0) (none_less (times n made) (times n (made ++ more)) (times_more n made more)) in
    omega (arith, a, b)

-- a worker that was equipped may begin on a fresh seat
pub may_begin : (table : FrameTable) (s : FrameSeat) (hand : Hand) (log : WorkLog) → IsFresh table s → IsEquipped (known_of table).plan hand log → MayWork table s hand log
may_begin table s hand log new equipped =
    let n = frames_of table in
    let plan = (known_of table).plan in
    let did = new.did_nothing in record {
      is_of_it = new.is_of_it;
      runs_nothing = ap (λ (v : View). v.run) did;
      has_looks = let z : (view_of s).looks ≡ 0 = ap (λ (v : View). v.looks) did in omega (arith, z);
      hand_serves = record {
        bounded = equipped.takes_waiting.bounded;
        room = let e : unmade plan n (view_of s).made ≡ unmade plan n [] = ap (λ (v : View). unmade plan n v.made) did in let r = equipped.takes_waiting.room in omega (arith, e, r);
      };
      log_serves = record {
        frames = let a = left_of_le n (view_of s).ran in let f = equipped.takes_frames in omega (arith, a, f);
        windows = equipped.fits_windows;
      };
    }

pub one_share : (table : FrameTable) (s : FrameSeat) → IsFresh table s → (view_of s).shares ≡ 1
one_share table s new = ap (λ (v : View). v.shares) new.did_nothing

-- a seat that took in another serves as before
pub may_go_on : (table : FrameTable) (s t guest : FrameSeat) (hand : Hand) (log : WorkLog) → MayWork table s hand log → IsSeatOf table t → view_of t ≡ with_joined (view_of s) (view_of guest) → MayWork table t hand log
may_go_on table s t guest hand log may of_it is =
    let n = frames_of table in
    let plan = (known_of table).plan in record {
      is_of_it = of_it;
      runs_nothing = ap (λ (v : View). v.run) is ∙ may.runs_nothing;
      has_looks = let z : (view_of t).looks ≡ 0 = ap (λ (v : View). v.looks) is in omega (arith, z);
      hand_serves = record {
        bounded = may.hand_serves.bounded;
        room = let e : unmade plan n (view_of t).made ≡ unmade plan n ((view_of s).made ++ (view_of guest).made) = ap (λ (v : View). unmade plan n v.made) is in let m = unmade_more plan n (view_of s).made (view_of guest).made in let r = may.hand_serves.room in omega (arith, e, m, r);
      };
      log_serves = record {
        frames = let e : left_of n (view_of t).ran ≡ left_of n ((view_of s).ran ++ (view_of guest).ran) = ap (λ (v : View). left_of n v.ran) is in let m = left_more n (view_of s).ran (view_of guest).ran in let r = may.log_serves.frames in omega (arith, e, m, r);
        windows = may.log_serves.windows;
      };
    }

pub more_shares : (s t guest : FrameSeat) → view_of t ≡ with_joined (view_of s) (view_of guest) → (view_of t).shares ≡ (view_of s).shares + (view_of guest).shares
more_shares s t guest is = ap (λ (v : View). v.shares) is

-- the seat that a worker has
pub sits : (table : FrameTable) (shares : ℕ) (place : Option FrameSeat) (hand : Hand) (log : WorkLog) (seat : FrameSeat) → IsSeated table shares place hand log → place ≡ Some seat → MayWork table seat hand log × ((view_of seat).shares ≡ shares)
sits table shares place hand log seat s e = subst (λ (o : Option FrameSeat). IsSeated table shares o hand log) e s

pub has_seat : (table : FrameTable) (shares : ℕ) (place : Option FrameSeat) (hand : Hand) (log : WorkLog) → IsSeated table shares place hand log → place ≡ None → ⊥
has_seat table shares place hand log s e = subst (λ (o : Option FrameSeat). IsSeated table shares o hand log) e s

-- a worker that took a fresh seat
pub seated_now : (table : FrameTable) (seat : FrameSeat) (hand : Hand) (log : WorkLog) → IsFresh table seat → IsEquipped (known_of table).plan hand log → IsSeated table 1 (Some seat) hand log
seated_now table seat hand log new equipped = (may_begin table seat hand log new equipped, one_share table seat new)

-- the elements before one that was set, and that one
pub set_more : {X : Type 0} (P : X → Type 0) (xs : List X) (k : ℕ) (x : X) → k < length xs → ((i : ℕ) (d : X) → i < k → P (get_or xs i d)) → P x → (i : ℕ) (d : X) → i < k + 1 → P (get_or (set xs k x) i d)
set_more {X} P xs k x there old new i d lt = by (cases_eq i k)
  where
    by : (i ≡ k) ⊎ (i ≡ k → ⊥) → P (get_or (set xs k x) i d)
    by (inl e) = subst P (sym (ap (λ n. get_or (set xs k x) n d) e ∙ get_or-set_same xs k x d there)) new
    by (inr ne) = subst P (sym (get_or-set_other xs k i x d ne)) (old i d (omega (arith, lt, ne)))
