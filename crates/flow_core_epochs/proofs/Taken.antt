-- The frames of an epoch.
use Rattle.std.proofs.Common.{◌≡◌, ℕ, ◌<◌, List, Some, None}
use Rattle.std.specs.Prelude.{slice_get}
use Rattle.flow_core_laws.specs.Outcome.{outcome_at, State}
use Rattle.flow_core_epochs.specs.Epoch.{number_among}

-- What frames are: activations without an outcome, each with one number; what is left out gets none.
pub record AreTaken (state whole : State) (count : ℕ) (frames : List ℕ) : Type 0 where
  pub exists : (f a : ℕ) → slice_get frames f ≡ Some a → a < count
  pub waits : (f a : ℕ) → slice_get frames f ≡ Some a → outcome_at state a ≡ None
  pub numbered : (f a : ℕ) → slice_get frames f ≡ Some a → number_among frames a ≡ Some f
  pub others : (a : ℕ) → a < count → outcome_at state a ≡ None → number_among frames a ≡ None → outcome_at whole a ≡ None
