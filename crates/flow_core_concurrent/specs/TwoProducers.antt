-- Two producers and a consumer that two seats run, in two orders that meet. Frame 0 gives 5, frame 1 gives
-- 7, frame 2 reads both and gives the first, and the sink has that element.
use Rattle.std.specs.Prelude.{ℕ, ℤ, pos, ◌==◌, if◌then◌else◌, List, [], ◌∷◌, Some, None, take}
use Rattle.flow_core_concurrent.specs.Choices.{Choice, to_split, to_join, to_claim, to_read, to_store, to_sub, to_finish, to_look}
use Rattle.flow_core_laws.specs.declared.outcome.Outcome.{Outcome}
use Rattle.flow_core_laws.specs.declared.plan.Plan.{Plan}
use Rattle.flow_core_laws.specs.declared.task_end.TaskEnd.TheVariants.{Done}
use Rattle.flow_core_laws.specs.Outcome.{outcome_of}
use Rattle.flow_core_concurrent.specs.declared.known.Known.{Known}
use Rattle.flow_core_concurrent.specs.declared.word.Word.TheVariants.{Wait, Open, Taken, Ended}
use Rattle.flow_core_concurrent.specs.States.{CoreState, fresh}
use Rattle.flow_core_concurrent.specs.Tables.{value, at, seat, state}

abbrev pub plan : Plan
plan = record {
  frames =
      (record { cell = 0; inputs = 0; outputs = 1; wait = 0; piece = 0; pieces = 1 })
      ∷ (record { cell = 0; inputs = 0; outputs = 1; wait = 0; piece = 1; pieces = 1 })
      ∷ (record { cell = 0; inputs = 2; outputs = 1; wait = 2; piece = 2; pieces = 1 }) ∷ [];
  sink = record { cell = 2; inputs = 1; outputs = 0; wait = 1; piece = 3; pieces = 0 };
  pieces =
      (record { from = 0; to = 2; first = 0; count = 1; at = 0 }) ∷ (record { from = 1; to = 2; first = 0; count = 1; at = 1 })
      ∷ (record { from = 2; to = 3; first = 0; count = 1; at = 2 }) ∷ [];
  filled = None ∷ None ∷ None ∷ [];
  numbers = 0 ∷ 1 ∷ 2 ∷ [];
}

abbrev pub outcome : ℕ → List ℤ → Outcome
outcome frame inputs =
    if frame == 0 then outcome_of Done (pos 5 ∷ []) else if frame == 1 then outcome_of Done (pos 7 ∷ []) else outcome_of Done (take 1 inputs)

abbrev pub known : Known
known =
    record {
      plan = plan;
      meaning = Some (outcome_of Done (pos 5 ∷ [])) ∷ Some (outcome_of Done (pos 7 ∷ [])) ∷ Some (outcome_of Done (pos 5 ∷ []))
          ∷ [];
      seats = 2;
    }

-- Both seats claim a producer. The first one delivers and then the second one, which makes the consumer.
-- They join, and the one that is left runs the consumer and looks around once.
abbrev pub first_before_second : List Choice
first_before_second =
    to_split 0 ∷ to_claim 0 0 ∷ to_claim 1 1 ∷ to_store 0 ∷ to_sub 0 ∷ to_finish 0 ∷ to_store 1 ∷ to_sub 1 ∷ to_finish 1 ∷ to_join 0 1
    ∷ to_claim 0 2 ∷ to_read 0 0 ∷ to_read 0 1 ∷ to_store 0 ∷ to_sub 0 ∷ to_finish 0 ∷ to_look 0 ∷ to_look 0 ∷ to_look 0 ∷ []

-- The seats step in turns, the second producer ahead, and the first producer makes the consumer.
abbrev pub second_before_first : List Choice
second_before_first =
    to_split 0 ∷ to_claim 1 1 ∷ to_claim 0 0 ∷ to_store 1 ∷ to_store 0 ∷ to_sub 1 ∷ to_sub 0 ∷ to_finish 0 ∷ to_finish 1 ∷ to_join 0 1 ∷ []

abbrev pub states : List CoreState
states =
    state (Open ∷ Open ∷ Wait 2 ∷ Wait 1 ∷ []) (None ∷ None ∷ None ∷ []) (seat known None [] [] [] [] [] 0 2 ∷ [])
    ∷ state (Open ∷ Open ∷ Wait 2 ∷ Wait 1 ∷ []) (None ∷ None ∷ None ∷ [])
    (seat known None [] [] [] [] [] 0 1 ∷ seat known None [] [] [] [] [] 0 1 ∷ [])
    ∷ state (Taken ∷ Open ∷ Wait 2 ∷ Wait 1 ∷ []) (None ∷ None ∷ None ∷ [])
    (seat known (at 0 0 0) [] (0 ∷ []) [] [] [] 0 1 ∷ seat known None [] [] [] [] [] 0 1 ∷ [])
    ∷ state (Taken ∷ Taken ∷ Wait 2 ∷ Wait 1 ∷ []) (None ∷ None ∷ None ∷ [])
    (seat known (at 0 0 0) [] (0 ∷ []) [] [] [] 0 1 ∷ seat known (at 1 1 0) [] (1 ∷ []) [] [] [] 0 1 ∷ [])
    ∷ state (Taken ∷ Taken ∷ Wait 2 ∷ Wait 1 ∷ []) (value 5 ∷ None ∷ None ∷ [])
    (seat known (at 0 0 1) [] (0 ∷ []) [] [] [] 0 1 ∷ seat known (at 1 1 0) [] (1 ∷ []) [] [] [] 0 1 ∷ [])
    ∷ state (Taken ∷ Taken ∷ Wait 1 ∷ Wait 1 ∷ []) (value 5 ∷ None ∷ None ∷ [])
    (seat known (at 0 1 0) [] (0 ∷ []) [] [] [] 0 1 ∷ seat known (at 1 1 0) [] (1 ∷ []) [] [] [] 0 1 ∷ [])
    ∷ state (Ended Done ∷ Taken ∷ Wait 1 ∷ Wait 1 ∷ []) (value 5 ∷ None ∷ None ∷ [])
    (seat known None [] (0 ∷ []) [] [] [] 0 1 ∷ seat known (at 1 1 0) [] (1 ∷ []) [] [] [] 0 1 ∷ [])
    ∷ state (Ended Done ∷ Taken ∷ Wait 1 ∷ Wait 1 ∷ []) (value 5 ∷ value 7 ∷ None ∷ [])
    (seat known None [] (0 ∷ []) [] [] [] 0 1 ∷ seat known (at 1 1 1) [] (1 ∷ []) [] [] [] 0 1 ∷ [])
    ∷ state (Ended Done ∷ Taken ∷ Open ∷ Wait 1 ∷ []) (value 5 ∷ value 7 ∷ None ∷ [])
    (seat known None [] (0 ∷ []) [] [] [] 0 1 ∷ seat known (at 1 2 0) (2 ∷ []) (1 ∷ []) [] [] [] 0 1 ∷ [])
    ∷ state (Ended Done ∷ Ended Done ∷ Open ∷ Wait 1 ∷ []) (value 5 ∷ value 7 ∷ None ∷ [])
    (seat known None [] (0 ∷ []) [] [] [] 0 1 ∷ seat known None (2 ∷ []) (1 ∷ []) [] [] [] 0 1 ∷ [])
    ∷ state (Ended Done ∷ Ended Done ∷ Open ∷ Wait 1 ∷ []) (value 5 ∷ value 7 ∷ None ∷ [])
    (seat known None (2 ∷ []) (0 ∷ 1 ∷ []) [] [] [] 0 2 ∷ fresh known 0 ∷ [])
    ∷ state (Ended Done ∷ Ended Done ∷ Taken ∷ Wait 1 ∷ []) (value 5 ∷ value 7 ∷ None ∷ [])
    (seat known (at 2 2 0) (2 ∷ []) (0 ∷ 1 ∷ 2 ∷ []) [] [] [] 0 2 ∷ fresh known 0 ∷ [])
    ∷ state (Ended Done ∷ Ended Done ∷ Taken ∷ Wait 1 ∷ []) (value 5 ∷ value 7 ∷ None ∷ [])
    (seat known (at 2 2 0) (2 ∷ []) (0 ∷ 1 ∷ 2 ∷ []) [] [] [] 0 2 ∷ fresh known 0 ∷ [])
    ∷ state (Ended Done ∷ Ended Done ∷ Taken ∷ Wait 1 ∷ []) (value 5 ∷ value 7 ∷ None ∷ [])
    (seat known (at 2 2 0) (2 ∷ []) (0 ∷ 1 ∷ 2 ∷ []) [] [] [] 0 2 ∷ fresh known 0 ∷ [])
    ∷ state (Ended Done ∷ Ended Done ∷ Taken ∷ Wait 1 ∷ []) (value 5 ∷ value 7 ∷ value 5 ∷ [])
    (seat known (at 2 2 1) (2 ∷ []) (0 ∷ 1 ∷ 2 ∷ []) [] [] [] 0 2 ∷ fresh known 0 ∷ [])
    ∷ state (Ended Done ∷ Ended Done ∷ Taken ∷ Open ∷ []) (value 5 ∷ value 7 ∷ value 5 ∷ [])
    (seat known (at 2 3 0) (2 ∷ 3 ∷ []) (0 ∷ 1 ∷ 2 ∷ []) [] [] [] 0 2 ∷ fresh known 0 ∷ [])
    ∷ state (Ended Done ∷ Ended Done ∷ Ended Done ∷ Open ∷ []) (value 5 ∷ value 7 ∷ value 5 ∷ [])
    (seat known None (2 ∷ 3 ∷ []) (0 ∷ 1 ∷ 2 ∷ []) [] [] [] 0 2 ∷ fresh known 0 ∷ [])
    ∷ state (Ended Done ∷ Ended Done ∷ Ended Done ∷ Open ∷ []) (value 5 ∷ value 7 ∷ value 5 ∷ [])
    (seat known None (2 ∷ 3 ∷ []) (0 ∷ 1 ∷ 2 ∷ []) [] [] (0 ∷ []) 1 2 ∷ fresh known 0 ∷ [])
    ∷ state (Ended Done ∷ Ended Done ∷ Ended Done ∷ Open ∷ []) (value 5 ∷ value 7 ∷ value 5 ∷ [])
    (seat known None (2 ∷ 3 ∷ []) (0 ∷ 1 ∷ 2 ∷ []) [] [] (0 ∷ 1 ∷ []) 2 2 ∷ fresh known 0 ∷ [])
    ∷ state (Ended Done ∷ Ended Done ∷ Ended Done ∷ Open ∷ []) (value 5 ∷ value 7 ∷ value 5 ∷ [])
    (seat known None (2 ∷ 3 ∷ []) (0 ∷ 1 ∷ 2 ∷ []) [] [] (0 ∷ 1 ∷ 2 ∷ []) 3 2 ∷ fresh known 0 ∷ [])
    ∷ []

-- the states of the other order, from where it differs to where it meets the first one
abbrev pub other_states : List CoreState
other_states =
    state (Open ∷ Taken ∷ Wait 2 ∷ Wait 1 ∷ []) (None ∷ None ∷ None ∷ [])
    (seat known None [] [] [] [] [] 0 1 ∷ seat known (at 1 1 0) [] (1 ∷ []) [] [] [] 0 1 ∷ [])
    ∷ state (Taken ∷ Taken ∷ Wait 2 ∷ Wait 1 ∷ []) (None ∷ None ∷ None ∷ [])
    (seat known (at 0 0 0) [] (0 ∷ []) [] [] [] 0 1 ∷ seat known (at 1 1 0) [] (1 ∷ []) [] [] [] 0 1 ∷ [])
    ∷ state (Taken ∷ Taken ∷ Wait 2 ∷ Wait 1 ∷ []) (None ∷ value 7 ∷ None ∷ [])
    (seat known (at 0 0 0) [] (0 ∷ []) [] [] [] 0 1 ∷ seat known (at 1 1 1) [] (1 ∷ []) [] [] [] 0 1 ∷ [])
    ∷ state (Taken ∷ Taken ∷ Wait 2 ∷ Wait 1 ∷ []) (value 5 ∷ value 7 ∷ None ∷ [])
    (seat known (at 0 0 1) [] (0 ∷ []) [] [] [] 0 1 ∷ seat known (at 1 1 1) [] (1 ∷ []) [] [] [] 0 1 ∷ [])
    ∷ state (Taken ∷ Taken ∷ Wait 1 ∷ Wait 1 ∷ []) (value 5 ∷ value 7 ∷ None ∷ [])
    (seat known (at 0 0 1) [] (0 ∷ []) [] [] [] 0 1 ∷ seat known (at 1 2 0) [] (1 ∷ []) [] [] [] 0 1 ∷ [])
    ∷ state (Taken ∷ Taken ∷ Open ∷ Wait 1 ∷ []) (value 5 ∷ value 7 ∷ None ∷ [])
    (seat known (at 0 1 0) (2 ∷ []) (0 ∷ []) [] [] [] 0 1 ∷ seat known (at 1 2 0) [] (1 ∷ []) [] [] [] 0 1 ∷ [])
    ∷ state (Ended Done ∷ Taken ∷ Open ∷ Wait 1 ∷ []) (value 5 ∷ value 7 ∷ None ∷ [])
    (seat known None (2 ∷ []) (0 ∷ []) [] [] [] 0 1 ∷ seat known (at 1 2 0) [] (1 ∷ []) [] [] [] 0 1 ∷ [])
    ∷ state (Ended Done ∷ Ended Done ∷ Open ∷ Wait 1 ∷ []) (value 5 ∷ value 7 ∷ None ∷ [])
    (seat known None (2 ∷ []) (0 ∷ []) [] [] [] 0 1 ∷ seat known None [] (1 ∷ []) [] [] [] 0 1 ∷ [])
    ∷ state (Ended Done ∷ Ended Done ∷ Open ∷ Wait 1 ∷ []) (value 5 ∷ value 7 ∷ None ∷ [])
    (seat known None (2 ∷ []) (0 ∷ 1 ∷ []) [] [] [] 0 2 ∷ fresh known 0 ∷ [])
    ∷ []
