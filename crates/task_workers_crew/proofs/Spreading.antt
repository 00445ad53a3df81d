-- Hands keep room for the frames that are spread and for those that wait.
use Rattle.std.proofs.Common.{◌≡◌, ℕ, suc, ◌+◌, ◌-◌, ◌==◌, ◌<◌, ◌≤◌, Bool, true, false, not, ◌&&◌, List, [], length, set, get_or, All, ap, ◌∙◌, arith, eq-eqb}
use Rattle.std.proofs.lemmas.List.Elements.{All-set, All-weaker}
use Rattle.flow_core_laws.specs.declared.plan.Plan.{Plan}
use Rattle.flow_core_laws.specs.Plans.{frame_at}
use Rattle.flow_core_concurrent.specs.States.{times}
use Rattle.flow_core_concurrent.specs.Counted.{one}
use Rattle.steal_pool.specs.declared.hand.Hand.{Hand}
use Rattle.steal_pool.specs.Hands.{bound_of, spare_of, IsNewHand}
use Rattle.task_workers_worker.specs.Worked.{unmade}
use Rattle.task_workers_crew.specs.Crew.{TakesFrom}

one_at_most : (b : Bool) → one b ≤ 1
one_at_most true = omega arith
one_at_most false = omega arith

unmade_next : (plan : Plan) (k : ℕ) → unmade plan (k + 1) [] ≡ unmade plan k [] + one (not ((frame_at plan k).wait == 0) && (times k [] == 0))
unmade_next plan k = let e : k + 1 ≡ suc k = omega arith in ap (λ n. unmade plan n []) e

-- a frame more, whether it waits or not
pub takes_next : (plan : Plan) (k : ℕ) (h : Hand) → TakesFrom plan k h → TakesFrom plan (k + 1) h
takes_next plan k h t = record { bounded = t.bounded; room = let a = t.room in let u = unmade_next plan k in let b = one_at_most (not ((frame_at plan k).wait == 0) && (times k [] == 0)) in omega (arith, a, u, b) }

pub all_next : (plan : Plan) (k : ℕ) (hs : List Hand) → All (λ h. TakesFrom plan k h) hs → All (λ h. TakesFrom plan (k + 1) h) hs
all_next plan k hs all = All-weaker (λ h. TakesFrom plan k h) (λ h. TakesFrom plan (k + 1) h) (takes_next plan k) hs all

-- a hand to which a frame was pushed that is Open at opening
pub takes_pushed : (plan : Plan) (k : ℕ) (h h' : Hand) → TakesFrom plan k h → k < length plan.frames → (frame_at plan k).wait ≡ 0 → bound_of h' ≡ bound_of h → spare_of h' ≡ spare_of h - 1 → TakesFrom plan (k + 1) h'
takes_pushed plan k h h' t lt open_ bound spare = record {
  bounded = bound ∙ t.bounded;
  room =
      let a = t.room in
      let u = unmade_next plan k in
      let b : one (not ((frame_at plan k).wait == 0) && (times k [] == 0)) ≡ 0 = (λ i. one (not (eq-eqb (frame_at plan k).wait 0 open_ i) && (times k [] == 0))) in
      omega (arith, a, u, b, spare, lt);
}

pub some_spare : (plan : Plan) (k : ℕ) (h : Hand) → TakesFrom plan k h → k < length plan.frames → 1 ≤ spare_of h
some_spare plan k h t lt = let a = t.room in omega (arith, a, lt)

pub all_pushed : (plan : Plan) (k to : ℕ) (hs : List Hand) (d h' : Hand) → All (λ h. TakesFrom plan k h) hs → to < length hs → k < length plan.frames → (frame_at plan k).wait ≡ 0 → bound_of h' ≡ bound_of (get_or hs to d) → spare_of h' ≡ spare_of (get_or hs to d) - 1 → All (λ h. TakesFrom plan (k + 1) h) (set hs to h')
all_pushed plan k to hs d h' all there lt open_ bound spare = All-set (λ h. TakesFrom plan (k + 1) h) hs to h' (takes_pushed plan k (get_or hs to d) h' (all to d there) lt open_ bound spare) (all_next plan k hs all)

-- a new hand
pub takes_all : (plan : Plan) (workers frames : ℕ) (h : Hand) → frames ≡ length plan.frames → IsNewHand workers frames frames h → TakesFrom plan 0 h
takes_all plan workers frames h is new = record { bounded = new.bounded ∙ is; room = let s = new.spare in omega (arith, s, is) }

pub all_take : (plan : Plan) (workers frames : ℕ) (hs : List Hand) → frames ≡ length plan.frames → All (λ h. IsNewHand workers frames frames h) hs → All (λ h. TakesFrom plan 0 h) hs
all_take plan workers frames hs is all = All-weaker (λ h. IsNewHand workers frames frames h) (λ h. TakesFrom plan 0 h) (λ h. takes_all plan workers frames h is) hs all
