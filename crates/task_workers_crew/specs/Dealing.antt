-- How the frames that are Open at opening are given to hands, one after another.
use Rattle.std.specs.Prelude.{◌≡◌, ℕ, zero, suc, ◌+◌, ◌-◌, ◌<◌, ◌≤◌, List, [], ◌∷◌, All, length, sum_by, slice_index_or}
use Rattle.flow_core_laws.specs.declared.plan.Plan.{Plan}
use Rattle.flow_core_concurrent.specs.States.{times}
use Rattle.steal_pool.specs.declared.hand.Hand.{Hand}
use Rattle.steal_pool.specs.Hands.{pushed_by, AreInRing}
use Rattle.task_workers_crew.specs.Crew.{TakesFrom}
use Rattle.task_workers_crew.specs.Dealt.{open_below, one_in}

-- how many items are left out behind a list before the next one that counts
abbrev pub left_out : ℕ → ℕ → List ℕ → ℕ
left_out many skip [] = skip
left_out many zero (x ∷ xs) = left_out many (many - 1) xs
left_out many (suc skip) (x ∷ xs) = left_out many skip xs

-- The frames below a number were given to the hands in turn, and it is this hand's turn.
pub record AreDealtBelow (plan : Plan) (frame turn : ℕ) (hands : List Hand) : Type 0 where
  pub there : turn < length hands
  pub room : All (λ h. TakesFrom plan frame h) hands
  pub once : (f : ℕ) → sum_by (λ h. times f (pushed_by h)) hands ≡ times f (open_below plan frame)
  pub in_turn : (i : ℕ) (d : Hand) → i < length hands → pushed_by (slice_index_or hands i d) ≡ one_in (length hands) i (open_below plan frame)
  pub later : (i : ℕ) → turn ≤ i → i < length hands → left_out (length hands) i (open_below plan frame) + turn ≡ i
  pub earlier : (i : ℕ) → i < turn → left_out (length hands) i (open_below plan frame) + turn ≡ i + length hands
  pub ring : AreInRing hands
