-- Bodies that serve a plan.
use Rattle.std.specs.Prelude.{◌≡◌, ◌≢◌, ℕ, ℤ, ◌<◌, ◌≤◌, List, length}
use Rattle.flow_core_laws.specs.declared.plan.Plan.{Plan}
use Rattle.flow_core_laws.specs.declared.task_end.TaskEnd.TheVariants.{Done, Trapped, Poisoned}
use Rattle.flow_core_laws.specs.Outcome.{IsTrapCode}
use Rattle.flow_core_laws.specs.declared.outcome.Outcome.{Outcome}
use Rattle.flow_core_laws.specs.Plans.{frame_at}

-- Bodies serve a plan where they take each frame with its numbers of inputs and outputs, give that
-- number of outputs where they are Done, trap only with codes 1 to 8, and never end poisoned by themselves.
pub record Serves (plan : Plan) (outcome : ℕ → List ℤ → Outcome) (takes : ℕ → ℕ → ℕ → Type 0) : Type 0 where
  pub takes_each : (f : ℕ) → f < length plan.frames → takes f (frame_at plan f).inputs (frame_at plan f).outputs
  pub fills_outputs : (f : ℕ) (inputs : List ℤ) → f < length plan.frames → length inputs ≡ (frame_at plan f).inputs
      → (outcome f inputs).end ≡ Done
      → length (outcome f inputs).outputs ≡ (frame_at plan f).outputs
  pub traps_have_codes : (f : ℕ) (inputs : List ℤ) (code line : ℕ) → f < length plan.frames → length inputs ≡ (frame_at plan f).inputs
      → (outcome f inputs).end ≡ Trapped code line → IsTrapCode code
  pub are_never_poisoned : (f : ℕ) (inputs : List ℤ) (root : ℕ) → f < length plan.frames → length inputs ≡ (frame_at plan f).inputs
      → (outcome f inputs).end ≢ Poisoned root
