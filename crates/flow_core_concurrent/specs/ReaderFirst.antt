-- Two frames of which the reader was created first, step by step. Frame 0 gives one more than it reads,
-- frame 1 gives 41, and the sink has the reader's element.
use Rattle.std.specs.Prelude.{ℕ, ℤ, pos, ◌+ℤ◌, ◌==◌, if◌then◌else◌, List, [], ◌∷◌, Some, None, map}
use Rattle.flow_core_concurrent.specs.Choices.{Choice, to_claim, to_read, to_store, to_sub, to_finish, to_look}
use Rattle.flow_core_laws.specs.declared.outcome.Outcome.{Outcome}
use Rattle.flow_core_laws.specs.declared.plan.Plan.{Plan}
use Rattle.flow_core_laws.specs.declared.task_end.TaskEnd.TheVariants.{Done}
use Rattle.flow_core_laws.specs.Outcome.{outcome_of}
use Rattle.flow_core_concurrent.specs.declared.known.Known.{Known}
use Rattle.flow_core_concurrent.specs.declared.word.Word.TheVariants.{Wait, Open, Taken, Ended}
use Rattle.flow_core_concurrent.specs.States.{CoreState}
use Rattle.flow_core_concurrent.specs.Tables.{value, at, seat, state}

abbrev pub plan : Plan
plan = record {
  frames =
      (record { cell = 0; inputs = 1; outputs = 1; wait = 1; piece = 0; pieces = 1 })
      ∷ (record { cell = 1; inputs = 0; outputs = 1; wait = 0; piece = 1; pieces = 1 }) ∷ [];
  sink = record { cell = 1; inputs = 1; outputs = 0; wait = 1; piece = 2; pieces = 0 };
  pieces = (record { from = 0; to = 2; first = 0; count = 1; at = 1 }) ∷ (record { from = 1; to = 0; first = 0; count = 1; at = 0 }) ∷ [];
  filled = None ∷ None ∷ [];
  numbers = 0 ∷ 1 ∷ [];
}

abbrev pub outcome : ℕ → List ℤ → Outcome
outcome frame inputs = if frame == 0 then outcome_of Done (map (λ x. x +ℤ pos 1) inputs) else outcome_of Done (pos 41 ∷ [])

abbrev pub known : Known
known = record { plan = plan; meaning = Some (outcome_of Done (pos 42 ∷ [])) ∷ Some (outcome_of Done (pos 41 ∷ [])) ∷ []; seats = 1 }

-- The frame that waits is missed, the other one is found and run, and then that which it opened. Two
-- looks find nothing more.
abbrev pub choices : List Choice
choices =
    to_claim 0 0 ∷ to_look 0 ∷ to_claim 0 1 ∷ to_store 0 ∷ to_sub 0 ∷ to_finish 0 ∷ to_claim 0 0 ∷ to_read 0 0 ∷ to_store 0 ∷ to_sub 0
    ∷ to_finish 0 ∷ to_look 0 ∷ to_look 0 ∷ []

abbrev pub states : List CoreState
states =
    state (Wait 1 ∷ Open ∷ Wait 1 ∷ []) (None ∷ None ∷ []) (seat known None [] [] [] [] [] 0 1 ∷ [])
    ∷ state (Wait 1 ∷ Open ∷ Wait 1 ∷ []) (None ∷ None ∷ []) (seat known None [] [] (0 ∷ []) [] [] 1 1 ∷ [])
    ∷ state (Wait 1 ∷ Open ∷ Wait 1 ∷ []) (None ∷ None ∷ []) (seat known None [] [] (0 ∷ []) (1 ∷ []) [] 1 1 ∷ [])
    ∷ state (Wait 1 ∷ Taken ∷ Wait 1 ∷ []) (None ∷ None ∷ []) (seat known (at 1 1 0) [] (1 ∷ []) (0 ∷ []) (1 ∷ []) [] 0 1 ∷ [])
    ∷ state (Wait 1 ∷ Taken ∷ Wait 1 ∷ []) (value 41 ∷ None ∷ []) (seat known (at 1 1 1) [] (1 ∷ []) (0 ∷ []) (1 ∷ []) [] 0 1 ∷ [])
    ∷ state (Open ∷ Taken ∷ Wait 1 ∷ []) (value 41 ∷ None ∷ [])
    (seat known (at 1 2 0) (0 ∷ []) (1 ∷ []) (0 ∷ []) (1 ∷ []) [] 0 1 ∷ [])
    ∷ state (Open ∷ Ended Done ∷ Wait 1 ∷ []) (value 41 ∷ None ∷ [])
    (seat known None (0 ∷ []) (1 ∷ []) (0 ∷ []) (1 ∷ []) [] 0 1 ∷ [])
    ∷ state (Taken ∷ Ended Done ∷ Wait 1 ∷ []) (value 41 ∷ None ∷ [])
    (seat known (at 0 0 0) (0 ∷ []) (1 ∷ 0 ∷ []) (0 ∷ []) (1 ∷ []) [] 0 1 ∷ [])
    ∷ state (Taken ∷ Ended Done ∷ Wait 1 ∷ []) (value 41 ∷ None ∷ [])
    (seat known (at 0 0 0) (0 ∷ []) (1 ∷ 0 ∷ []) (0 ∷ []) (1 ∷ []) [] 0 1 ∷ [])
    ∷ state (Taken ∷ Ended Done ∷ Wait 1 ∷ []) (value 41 ∷ value 42 ∷ [])
    (seat known (at 0 0 1) (0 ∷ []) (1 ∷ 0 ∷ []) (0 ∷ []) (1 ∷ []) [] 0 1 ∷ [])
    ∷ state (Taken ∷ Ended Done ∷ Open ∷ []) (value 41 ∷ value 42 ∷ [])
    (seat known (at 0 1 0) (0 ∷ 2 ∷ []) (1 ∷ 0 ∷ []) (0 ∷ []) (1 ∷ []) [] 0 1 ∷ [])
    ∷ state (Ended Done ∷ Ended Done ∷ Open ∷ []) (value 41 ∷ value 42 ∷ [])
    (seat known None (0 ∷ 2 ∷ []) (1 ∷ 0 ∷ []) (0 ∷ []) (1 ∷ []) [] 0 1 ∷ [])
    ∷ state (Ended Done ∷ Ended Done ∷ Open ∷ []) (value 41 ∷ value 42 ∷ [])
    (seat known None (0 ∷ 2 ∷ []) (1 ∷ 0 ∷ []) (0 ∷ []) (1 ∷ []) (0 ∷ []) 1 1 ∷ [])
    ∷ state (Ended Done ∷ Ended Done ∷ Open ∷ []) (value 41 ∷ value 42 ∷ [])
    (seat known None (0 ∷ 2 ∷ []) (1 ∷ 0 ∷ []) (0 ∷ []) (1 ∷ []) (0 ∷ 1 ∷ []) 2 1 ∷ [])
    ∷ []
