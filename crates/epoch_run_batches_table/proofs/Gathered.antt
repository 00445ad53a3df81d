-- What batches came to so far, with one more.
use Rattle.std.proofs.Common.{◌≡◌, zero, suc, List, [], ◌∷◌, ◌++◌, subst}
use Rattle.epoch_run_batches.specs.Meant.{Run}
use Rattle.epoch_run_batches.specs.declared.batch_outcome.BatchOutcome.{BatchOutcome}
use Rattle.epoch_run_batches.specs.Outcome.{AreAllMeant, IsMeant}

pub more_outcomes : (run : Run) (outcomes : List BatchOutcome) (outcome : BatchOutcome) → AreAllMeant run outcomes → IsMeant run outcome → AreAllMeant run (outcomes ++ outcome ∷ [])
more_outcomes run [] e all one zero f at = subst (IsMeant run) (let s : e ≡ f = cc in s) one
more_outcomes run [] e all one (suc k) f at = absurd (cc)
more_outcomes run (x ∷ outcomes) e all one zero f at = all zero f at
more_outcomes run (x ∷ outcomes) e all one (suc k) f at = more_outcomes run outcomes e (λ j g. all (suc j) g) one k f at
