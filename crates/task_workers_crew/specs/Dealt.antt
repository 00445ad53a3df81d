-- Which frames the hands of a crew begin with.
use Rattle.std.specs.Prelude.{◌≡◌, ℕ, zero, suc, ◌-◌, ◌==◌, ◌<◌, List, [], ◌∷◌, ◌++◌, if◌then◌else◌, length, map, sum_by, slice_index_or}
use Rattle.flow_core_laws.specs.declared.plan.Plan.{Plan}
use Rattle.flow_core_laws.specs.Plans.{frame_at}
use Rattle.flow_core_concurrent.specs.States.{times}
use Rattle.flow_core_concurrent.specs.Counted.{one}
use Rattle.steal_pool.specs.declared.hand.Hand.{Hand}
use Rattle.steal_pool.specs.Hands.{pushed_by}
use Rattle.task_workers_crew.specs.declared.crew.Worker.{Worker}

-- the frames below a number that are Open at opening, in order
abbrev pub open_below : Plan → ℕ → List ℕ
open_below plan zero = []
open_below plan (suc n) = open_below plan n ++ (if (frame_at plan n).wait == 0 then n ∷ [] else [])

-- of a list one item in `many`, after the first `skip`, which are left out
abbrev pub one_in : ℕ → ℕ → List ℕ → List ℕ
one_in many skip [] = []
one_in many zero (x ∷ xs) = x ∷ one_in many (many - 1) xs
one_in many (suc skip) (x ∷ xs) = one_in many skip xs

-- Each frame that is Open at opening was pushed to one hand, once, and no other frame was. They were given to the hands in
-- turn: of n hands, hand i got frame i of those that are Open, and every n-th one behind it.
pub record AreDealt (plan : Plan) (hands : List Hand) : Type 0 where
  pub once : (f : ℕ) → f < length plan.frames → sum_by (λ h. times f (pushed_by h)) hands ≡ one ((frame_at plan f).wait == 0)
  pub in_turn : (i : ℕ) (d : Hand) → i < length hands →
      pushed_by (slice_index_or hands i d) ≡ one_in (length hands) i (open_below plan (length plan.frames))

-- the hands of a crew
abbrev pub hands_of : {S : Type 0} → List (Worker S) → List Hand
hands_of {S} crew = map (λ (w : Worker S). w.hand) crew

-- the numbers by which the workers of a crew know themselves
abbrev pub worker_numbers : {S : Type 0} → List (Worker S) → List ℕ
worker_numbers {S} crew = map (λ (w : Worker S). w.log.worker) crew

-- Worker i knows itself as number i.
abbrev pub AreNumbered : {S : Type 0} → List (Worker S) → Type 0
AreNumbered {S} crew = (i : ℕ) (d : Worker S) → i < length crew → (slice_index_or crew i d).log.worker ≡ i
