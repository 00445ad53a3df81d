-- Three small runs that fail, written out. Each activation that doesn't fail gives 7.
use Rattle.std.specs.Prelude.{ℕ, ℤ, true, false, List, [], ◌∷◌, Option, None, pos, slice_index_or}
use Rattle.std.specs.Option.{option_map_or}
use Rattle.flow_core_laws.specs.declared.claim.Claim.{Claim}
use Rattle.flow_core_laws.specs.declared.activation.Activation.{Activation}
use Rattle.flow_core_laws.specs.declared.control.ControlEnd.TheVariants as control_end
use Rattle.flow_core_laws.specs.declared.ends.Ends.{Ends}
use Rattle.flow_core_laws.specs.declared.outcome.Outcome.{Outcome}
use Rattle.flow_core_laws.specs.declared.task_end.TaskEnd.{TaskEnd}
use Rattle.flow_core_laws.specs.declared.task_end.TaskEnd.TheVariants.{Done}
use Rattle.flow_core_laws.specs.Outcome.{outcome_of}
use Rattle.flow_core_laws.specs.Streams.{meant_ends}
use Rattle.collector.specs.Report.{report}

-- a claim that reads `horizon` elements of a stream, and one that writes as many
abbrev pub read_claim : ℕ → ℕ → Claim
read_claim stream horizon = record { stream = stream; write = false; horizon = horizon; burst = horizon; skip = 0 }

abbrev pub write_claim : ℕ → ℕ → Claim
write_claim stream horizon = record { stream = stream; write = true; horizon = horizon; burst = horizon; skip = 0 }

abbrev pub task : List Claim → Activation
task claims = record { site = 0; captured = []; claims = claims }

-- a body for small runs: an activation that has an end in the list fails so, and any other is Done and gives 7
abbrev pub body : List (Option TaskEnd) → ℕ → List ℤ → Outcome
body failing activation inputs =
    option_map_or (λ (e : TaskEnd). outcome_of e []) (slice_index_or failing activation None) (outcome_of Done (pos 7 ∷ []))

-- what a run comes to, and its report
abbrev pub ends_of_run : List Activation → List (Option TaskEnd) → Ends
ends_of_run activations failing = meant_ends activations [] (body failing)

abbrev pub told : List Activation → List (Option TaskEnd) → List ℕ
told activations failing = report activations 0 (ends_of_run activations failing) control_end.Done

-- The first activation traps. The second one reads what it should have written, and the third one what the second should
-- have written, and an element that nobody writes.
abbrev pub handed_on : List Activation
handed_on = task (write_claim 2 1 ∷ []) ∷ task (read_claim 2 1 ∷ write_claim 2 1 ∷ []) ∷ task (read_claim 2 2 ∷ write_claim 1 1 ∷ []) ∷ []

-- Two activations trap. The third one reads first what the second should have written, and then what the first should
-- have written.
abbrev pub two_roots : List Activation
two_roots = task (write_claim 2 1 ∷ []) ∷ task (write_claim 3 1 ∷ []) ∷ task (read_claim 3 1 ∷ read_claim 2 1 ∷ write_claim 1 1 ∷ []) ∷ []

-- Three activations write to the output, one position each, and the second one uses up its turns.
abbrev pub stops_at_poison : List Activation
stops_at_poison = task (write_claim 1 1 ∷ []) ∷ task (write_claim 1 1 ∷ []) ∷ task (write_claim 1 1 ∷ []) ∷ []
