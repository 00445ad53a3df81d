-- What a batch came to, as its run means it.
use Rattle.std.specs.Prelude.{◌≡◌, ℕ, List, Some, length, slice_get}
use Rattle.epoch_run_batches.specs.Meant.{AreEndsMeant, HoldMeant, Run}
use Rattle.epoch_run_batches.specs.declared.batch_outcome.BatchOutcome.{BatchOutcome}

-- Each end and each element that a batch came to is what the run means. What isn't there may be missing for any reason.
pub record IsMeant (run : Run) (outcome : BatchOutcome) : Type 0 where
  pub as_many : length outcome.wrote.firsts ≡ length outcome.wrote.elements
  pub ends : AreEndsMeant run outcome.ended
  pub elements : HoldMeant run outcome.wrote

-- So of each of these batches.
abbrev pub AreAllMeant : Run → List BatchOutcome → Type 0
AreAllMeant run outcomes = (k : ℕ) (outcome : BatchOutcome) → slice_get outcomes k ≡ Some outcome → IsMeant run outcome
