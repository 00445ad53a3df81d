-- Walks: from an activation that starves to the producer of what it misses, and on.
use Rattle.std.specs.Prelude.{◌≡◌, ◌≢◌, ℕ, ◌+◌, ◌<◌, List, Option, Some, Contains, length, slice_get, slice_index, option_and_then}
use Rattle.flow_core_laws.specs.declared.activation.Activation.{Activation}
use Rattle.flow_core_laws.specs.declared.task_end.TaskEnd.{TaskEnd}
use Rattle.collector.specs.declared.missing.Missing.{Missing}
use Rattle.collector.specs.Missing.{missing}
use Rattle.wait_certs_laws.specs.Chain.{last_of}

-- The producer of the first missing element of an activation, where it has one.
abbrev pub waited_for : List Activation → ℕ → List (Option TaskEnd) → ℕ → Option ℕ
waited_for activations input_len ends a = option_and_then (λ (m : Missing). m.producer) (missing activations input_len ends a)

-- A walk begins with an activation. After a member comes the producer of its first missing element, as long as there is one
-- that isn't in the walk yet.
pub record IsWalk (activations : List Activation) (input_len : ℕ) (ends : List (Option TaskEnd)) (a : ℕ) (members : List ℕ) : Type 0 where
  pub begins : slice_get members 0 ≡ Some a
  pub goes_on : (k : ℕ) → k + 1 < length members → waited_for activations input_len ends (slice_index members k) ≡ Some (slice_index members (k + 1))
  pub has_each_once : (j k : ℕ) → j < k → k < length members → slice_index members j ≢ slice_index members k
  pub goes_as_far : (b : ℕ) → waited_for activations input_len ends (last_of members) ≡ Some b → Contains members b
