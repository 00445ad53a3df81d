-- A run in two epochs. In the first one a writer puts 7 and 8 on stream 2, unless it fails, and a reader of positions 1 and
-- 2 there waits. In the second one a second writer puts 9 behind them, unless it fails, and the reader gives the sum to the
-- output: it is frame 0, reads the first of the two from what was kept, and the second from frame 1.
use Rattle.std.specs.Prelude.{ℕ, ℤ, pos, ◌+ℤ◌, true, false, ◌==◌, if◌then◌else◌, List, [], ◌∷◌, Some, None, fold}
use Rattle.flow_core_laws.specs.declared.claim.Claim.{Claim}
use Rattle.flow_core_laws.specs.declared.activation.Activation.{Activation}
use Rattle.flow_core_laws.specs.declared.elem.Elem.{Elem}
use Rattle.flow_core_laws.specs.declared.outcome.Outcome.{Outcome}
use Rattle.flow_core_laws.specs.declared.place.Place.{Place}
use Rattle.flow_core_laws.specs.declared.task_end.TaskEnd.{TaskEnd}
use Rattle.flow_core_laws.specs.declared.task_end.TaskEnd.TheVariants.{Done}
use Rattle.flow_core_laws.specs.declared.plan.Plan.{Plan}
use Rattle.flow_core_laws.specs.Outcome.{outcome_of}
use Rattle.flow_core_epochs.specs.Epoch.{Kept}

abbrev pub write_claim : ℕ → ℕ → Claim
write_claim stream horizon = record { stream = stream; write = true; horizon = horizon; burst = horizon; skip = 0 }

-- the reader skips one element and reads two
abbrev pub reads_two : Claim
reads_two = record { stream = 2; write = false; horizon = 2; burst = 2; skip = 1 }

abbrev pub task : List Claim → Activation
task claims = record { site = 0; captured = []; claims = claims }

abbrev pub before : List Activation
before = task (write_claim 2 2 ∷ []) ∷ task (reads_two ∷ write_claim 1 1 ∷ []) ∷ []

abbrev pub new : List Activation
new = task (write_claim 2 1 ∷ []) ∷ []

-- the bodies: the writers end as they are told, and the reader gives the sum of what it reads
abbrev pub body : TaskEnd → TaskEnd → ℕ → List ℤ → Outcome
body first second activation inputs =
    if activation == 0 then outcome_of first (pos 7 ∷ pos 8 ∷ [])
    else if activation == 1 then outcome_of Done (fold (λ a b. a +ℤ b) (pos 0) inputs ∷ [])
    else outcome_of second (pos 9 ∷ [])

abbrev pub at : ℕ → ℕ → Place
at stream position = record { stream = stream; position = position }

abbrev pub kept : Elem → List Kept
kept elem = record { place = at 2 1; value = elem } ∷ []

abbrev pub plan : Elem → Plan
plan elem = record {
  frames =
      record { cell = 0; inputs = 2; outputs = 1; wait = 1; piece = 0; pieces = 1 }
      ∷ record { cell = 2; inputs = 0; outputs = 1; wait = 0; piece = 1; pieces = 2 } ∷ [];
  sink = record { cell = 2; inputs = 2; outputs = 0; wait = 2; piece = 3; pieces = 0 };
  pieces =
      record { from = 0; to = 2; first = 0; count = 1; at = 2 } ∷ record { from = 1; to = 0; first = 0; count = 1; at = 1 }
      ∷ record { from = 1; to = 2; first = 0; count = 1; at = 3 } ∷ [];
  filled = Some elem ∷ None ∷ None ∷ None ∷ [];
  numbers = 1 ∷ 2 ∷ [];
}

abbrev pub places : List Place
places = at 1 0 ∷ at 2 2 ∷ []
