-- Frames that end in each way, with two seats of which one has looked around before the other comes. Frame
-- 0 gives 5 and 7 to frame 1 by one piece. Frame 1 runs over budget, and gives the sink poison. Frame 2 traps,
-- and gives poison to frame 3, which ends poisoned and hands the root on to the sink. Frame 4 waits for an
-- element that nobody writes. The numbers by which poison names its roots aren't those of the frames.
use Rattle.std.specs.Prelude.{ℕ, ℤ, pos, ◌==◌, if◌then◌else◌, List, [], ◌∷◌, Some, None}
use Rattle.flow_core_concurrent.specs.Choices.{Choice, to_split, to_join, to_claim, to_read, to_store, to_sub, to_finish, to_look}
use Rattle.flow_core_laws.specs.declared.outcome.Outcome.{Outcome}
use Rattle.flow_core_laws.specs.declared.plan.Plan.{Plan}
use Rattle.flow_core_laws.specs.declared.task_end.TaskEnd.TheVariants.{Done, Trapped, OverBudget, Poisoned}
use Rattle.flow_core_laws.specs.Outcome.{outcome_of}
use Rattle.flow_core_concurrent.specs.declared.known.Known.{Known}
use Rattle.flow_core_concurrent.specs.declared.word.Word.TheVariants.{Wait, Open, Taken, Ended}
use Rattle.flow_core_concurrent.specs.States.{CoreState, fresh}
use Rattle.flow_core_concurrent.specs.Tables.{value, poison, at, seat, state}

abbrev pub plan : Plan
plan = record {
  frames =
      (record { cell = 0; inputs = 0; outputs = 2; wait = 0; piece = 0; pieces = 1 })
      ∷ (record { cell = 0; inputs = 2; outputs = 1; wait = 2; piece = 1; pieces = 1 })
      ∷ (record { cell = 2; inputs = 0; outputs = 1; wait = 0; piece = 2; pieces = 1 })
      ∷ (record { cell = 2; inputs = 1; outputs = 1; wait = 1; piece = 3; pieces = 1 })
      ∷ (record { cell = 3; inputs = 1; outputs = 0; wait = 1; piece = 4; pieces = 0 }) ∷ [];
  sink = record { cell = 4; inputs = 2; outputs = 0; wait = 2; piece = 4; pieces = 0 };
  pieces =
      (record { from = 0; to = 1; first = 0; count = 2; at = 0 }) ∷ (record { from = 1; to = 5; first = 0; count = 1; at = 4 })
      ∷ (record { from = 2; to = 3; first = 0; count = 1; at = 2 }) ∷ (record { from = 3; to = 5; first = 0; count = 1; at = 5 }) ∷ [];
  filled = None ∷ None ∷ None ∷ None ∷ None ∷ None ∷ [];
  numbers = 3 ∷ 5 ∷ 6 ∷ 8 ∷ 9 ∷ [];
}

abbrev pub outcome : ℕ → List ℤ → Outcome
outcome frame inputs =
    if frame == 0 then outcome_of Done (pos 5 ∷ pos 7 ∷ [])
    else if frame == 1 then outcome_of OverBudget []
    else if frame == 2 then outcome_of (Trapped 2 5) []
    else outcome_of Done (pos 0 ∷ [])

abbrev pub known : Known
known =
    record {
      plan = plan;
      meaning = Some (outcome_of Done (pos 5 ∷ pos 7 ∷ [])) ∷ Some (outcome_of OverBudget []) ∷ Some (outcome_of (Trapped 2 5) [])
          ∷ Some (outcome_of (Poisoned 6) []) ∷ None ∷ [];
      seats = 2;
    }

-- The first seat misses frame 1 out of turn, runs frame 0, looks around and is cut in two. The second one
-- looks around, misses frame 3 and runs frame 1, which the first one loses by a CLAIM. The first one takes
-- it in while it runs frame 2, whose poison opened frame 3. Then it runs frame 3, which opens the sink.
abbrev pub choices : List Choice
choices =
    to_look 0 ∷ to_claim 0 1 ∷ to_claim 0 0 ∷ to_store 0 ∷ to_store 0 ∷ to_sub 0 ∷ to_finish 0 ∷ to_look 0 ∷ to_look 0 ∷ to_split 0
    ∷ to_look 1 ∷ to_look 1 ∷ to_claim 1 3 ∷ to_claim 1 1 ∷ to_claim 0 1 ∷ to_read 1 0 ∷ to_read 1 1 ∷ to_store 1 ∷ to_sub 1 ∷ to_finish 1
    ∷ to_look 1 ∷ to_look 1 ∷ to_claim 0 2 ∷ to_store 0 ∷ to_sub 0 ∷ to_join 0 1 ∷ to_finish 0 ∷ to_claim 0 3 ∷ to_read 0 2 ∷ to_store 0
    ∷ to_sub 0 ∷ to_finish 0 ∷ to_look 0 ∷ to_look 0 ∷ to_look 0 ∷ to_look 0 ∷ to_look 0 ∷ []

abbrev pub states : List CoreState
states =
    state (Open ∷ Wait 2 ∷ Open ∷ Wait 1 ∷ Wait 1 ∷ Wait 2 ∷ []) (None ∷ None ∷ None ∷ None ∷ None ∷ None ∷ [])
    (seat known None [] [] [] [] [] 0 2 ∷ [])
    ∷ state (Open ∷ Wait 2 ∷ Open ∷ Wait 1 ∷ Wait 1 ∷ Wait 2 ∷ []) (None ∷ None ∷ None ∷ None ∷ None ∷ None ∷ [])
    (seat known None [] [] [] (0 ∷ []) [] 0 2 ∷ [])
    ∷ state (Open ∷ Wait 2 ∷ Open ∷ Wait 1 ∷ Wait 1 ∷ Wait 2 ∷ []) (None ∷ None ∷ None ∷ None ∷ None ∷ None ∷ [])
    (seat known None [] [] (1 ∷ []) (0 ∷ []) [] 0 2 ∷ [])
    ∷ state (Taken ∷ Wait 2 ∷ Open ∷ Wait 1 ∷ Wait 1 ∷ Wait 2 ∷ []) (None ∷ None ∷ None ∷ None ∷ None ∷ None ∷ [])
    (seat known (at 0 0 0) [] (0 ∷ []) (1 ∷ []) (0 ∷ []) [] 0 2 ∷ [])
    ∷ state (Taken ∷ Wait 2 ∷ Open ∷ Wait 1 ∷ Wait 1 ∷ Wait 2 ∷ []) (value 5 ∷ None ∷ None ∷ None ∷ None ∷ None ∷ [])
    (seat known (at 0 0 1) [] (0 ∷ []) (1 ∷ []) (0 ∷ []) [] 0 2 ∷ [])
    ∷ state (Taken ∷ Wait 2 ∷ Open ∷ Wait 1 ∷ Wait 1 ∷ Wait 2 ∷ []) (value 5 ∷ value 7 ∷ None ∷ None ∷ None ∷ None ∷ [])
    (seat known (at 0 0 2) [] (0 ∷ []) (1 ∷ []) (0 ∷ []) [] 0 2 ∷ [])
    ∷ state (Taken ∷ Open ∷ Open ∷ Wait 1 ∷ Wait 1 ∷ Wait 2 ∷ []) (value 5 ∷ value 7 ∷ None ∷ None ∷ None ∷ None ∷ [])
    (seat known (at 0 1 0) (1 ∷ []) (0 ∷ []) (1 ∷ []) (0 ∷ []) [] 0 2 ∷ [])
    ∷ state (Ended Done ∷ Open ∷ Open ∷ Wait 1 ∷ Wait 1 ∷ Wait 2 ∷ []) (value 5 ∷ value 7 ∷ None ∷ None ∷ None ∷ None ∷ [])
    (seat known None (1 ∷ []) (0 ∷ []) (1 ∷ []) (0 ∷ []) [] 0 2 ∷ [])
    ∷ state (Ended Done ∷ Open ∷ Open ∷ Wait 1 ∷ Wait 1 ∷ Wait 2 ∷ []) (value 5 ∷ value 7 ∷ None ∷ None ∷ None ∷ None ∷ [])
    (seat known None (1 ∷ []) (0 ∷ []) (1 ∷ []) (0 ∷ []) (0 ∷ []) 1 2 ∷ [])
    ∷ state (Ended Done ∷ Open ∷ Open ∷ Wait 1 ∷ Wait 1 ∷ Wait 2 ∷ []) (value 5 ∷ value 7 ∷ None ∷ None ∷ None ∷ None ∷ [])
    (seat known None (1 ∷ []) (0 ∷ []) (1 ∷ []) (0 ∷ 1 ∷ []) (0 ∷ []) 1 2 ∷ [])
    ∷ state (Ended Done ∷ Open ∷ Open ∷ Wait 1 ∷ Wait 1 ∷ Wait 2 ∷ []) (value 5 ∷ value 7 ∷ None ∷ None ∷ None ∷ None ∷ [])
    (seat known None (1 ∷ []) (0 ∷ []) (1 ∷ []) (0 ∷ 1 ∷ []) (0 ∷ []) 0 1 ∷ seat known None [] [] [] [] [] 0 1 ∷ [])
    ∷ state (Ended Done ∷ Open ∷ Open ∷ Wait 1 ∷ Wait 1 ∷ Wait 2 ∷ []) (value 5 ∷ value 7 ∷ None ∷ None ∷ None ∷ None ∷ [])
    (seat known None (1 ∷ []) (0 ∷ []) (1 ∷ []) (0 ∷ 1 ∷ []) (0 ∷ []) 0 1 ∷ seat known None [] [] [] [] (0 ∷ []) 1 1 ∷ [])
    ∷ state (Ended Done ∷ Open ∷ Open ∷ Wait 1 ∷ Wait 1 ∷ Wait 2 ∷ []) (value 5 ∷ value 7 ∷ None ∷ None ∷ None ∷ None ∷ [])
    (seat known None (1 ∷ []) (0 ∷ []) (1 ∷ []) (0 ∷ 1 ∷ []) (0 ∷ []) 0 1 ∷ seat known None [] [] [] (1 ∷ []) (0 ∷ []) 1 1 ∷ [])
    ∷ state (Ended Done ∷ Open ∷ Open ∷ Wait 1 ∷ Wait 1 ∷ Wait 2 ∷ []) (value 5 ∷ value 7 ∷ None ∷ None ∷ None ∷ None ∷ [])
    (seat known None (1 ∷ []) (0 ∷ []) (1 ∷ []) (0 ∷ 1 ∷ []) (0 ∷ []) 0 1 ∷ seat known None [] [] (3 ∷ []) (1 ∷ []) (0 ∷ []) 1 1 ∷ [])
    ∷ state (Ended Done ∷ Taken ∷ Open ∷ Wait 1 ∷ Wait 1 ∷ Wait 2 ∷ []) (value 5 ∷ value 7 ∷ None ∷ None ∷ None ∷ None ∷ [])
    (seat known None (1 ∷ []) (0 ∷ []) (1 ∷ []) (0 ∷ 1 ∷ []) (0 ∷ []) 0 1 ∷ seat known (at 1 1 0) [] (1 ∷ []) (3 ∷ []) (1 ∷ []) (0 ∷ []) 0 1 ∷ [])
    ∷ state (Ended Done ∷ Taken ∷ Open ∷ Wait 1 ∷ Wait 1 ∷ Wait 2 ∷ []) (value 5 ∷ value 7 ∷ None ∷ None ∷ None ∷ None ∷ [])
    (seat known None (1 ∷ []) (0 ∷ []) (1 ∷ 1 ∷ []) (0 ∷ 1 ∷ []) (0 ∷ 1 ∷ []) 0 1
    ∷ seat known (at 1 1 0) [] (1 ∷ []) (3 ∷ []) (1 ∷ []) (0 ∷ []) 0 1 ∷ [])
    ∷ state (Ended Done ∷ Taken ∷ Open ∷ Wait 1 ∷ Wait 1 ∷ Wait 2 ∷ []) (value 5 ∷ value 7 ∷ None ∷ None ∷ None ∷ None ∷ [])
    (seat known None (1 ∷ []) (0 ∷ []) (1 ∷ 1 ∷ []) (0 ∷ 1 ∷ []) (0 ∷ 1 ∷ []) 0 1
    ∷ seat known (at 1 1 0) [] (1 ∷ []) (3 ∷ []) (1 ∷ []) (0 ∷ []) 0 1 ∷ [])
    ∷ state (Ended Done ∷ Taken ∷ Open ∷ Wait 1 ∷ Wait 1 ∷ Wait 2 ∷ []) (value 5 ∷ value 7 ∷ None ∷ None ∷ None ∷ None ∷ [])
    (seat known None (1 ∷ []) (0 ∷ []) (1 ∷ 1 ∷ []) (0 ∷ 1 ∷ []) (0 ∷ 1 ∷ []) 0 1
    ∷ seat known (at 1 1 0) [] (1 ∷ []) (3 ∷ []) (1 ∷ []) (0 ∷ []) 0 1 ∷ [])
    ∷ state (Ended Done ∷ Taken ∷ Open ∷ Wait 1 ∷ Wait 1 ∷ Wait 2 ∷ []) (value 5 ∷ value 7 ∷ None ∷ None ∷ poison 5 ∷ None ∷ [])
    (seat known None (1 ∷ []) (0 ∷ []) (1 ∷ 1 ∷ []) (0 ∷ 1 ∷ []) (0 ∷ 1 ∷ []) 0 1
    ∷ seat known (at 1 1 1) [] (1 ∷ []) (3 ∷ []) (1 ∷ []) (0 ∷ []) 0 1 ∷ [])
    ∷ state (Ended Done ∷ Taken ∷ Open ∷ Wait 1 ∷ Wait 1 ∷ Wait 1 ∷ []) (value 5 ∷ value 7 ∷ None ∷ None ∷ poison 5 ∷ None ∷ [])
    (seat known None (1 ∷ []) (0 ∷ []) (1 ∷ 1 ∷ []) (0 ∷ 1 ∷ []) (0 ∷ 1 ∷ []) 0 1
    ∷ seat known (at 1 2 0) [] (1 ∷ []) (3 ∷ []) (1 ∷ []) (0 ∷ []) 0 1 ∷ [])
    ∷ state (Ended Done ∷ Ended OverBudget ∷ Open ∷ Wait 1 ∷ Wait 1 ∷ Wait 1 ∷ []) (value 5 ∷ value 7 ∷ None ∷ None ∷ poison 5 ∷ None ∷ [])
    (seat known None (1 ∷ []) (0 ∷ []) (1 ∷ 1 ∷ []) (0 ∷ 1 ∷ []) (0 ∷ 1 ∷ []) 0 1 ∷ seat known None [] (1 ∷ []) (3 ∷ []) (1 ∷ []) (0 ∷ []) 0 1 ∷ [])
    ∷ state (Ended Done ∷ Ended OverBudget ∷ Open ∷ Wait 1 ∷ Wait 1 ∷ Wait 1 ∷ []) (value 5 ∷ value 7 ∷ None ∷ None ∷ poison 5 ∷ None ∷ [])
    (seat known None (1 ∷ []) (0 ∷ []) (1 ∷ 1 ∷ []) (0 ∷ 1 ∷ []) (0 ∷ 1 ∷ []) 0 1
    ∷ seat known None [] (1 ∷ []) (3 ∷ []) (1 ∷ []) (0 ∷ 0 ∷ []) 1 1 ∷ [])
    ∷ state (Ended Done ∷ Ended OverBudget ∷ Open ∷ Wait 1 ∷ Wait 1 ∷ Wait 1 ∷ []) (value 5 ∷ value 7 ∷ None ∷ None ∷ poison 5 ∷ None ∷ [])
    (seat known None (1 ∷ []) (0 ∷ []) (1 ∷ 1 ∷ []) (0 ∷ 1 ∷ []) (0 ∷ 1 ∷ []) 0 1
    ∷ seat known None [] (1 ∷ []) (3 ∷ []) (1 ∷ []) (0 ∷ 0 ∷ 1 ∷ []) 2 1 ∷ [])
    ∷ state (Ended Done ∷ Ended OverBudget ∷ Taken ∷ Wait 1 ∷ Wait 1 ∷ Wait 1 ∷ []) (value 5 ∷ value 7 ∷ None ∷ None ∷ poison 5 ∷ None ∷ [])
    (seat known (at 2 2 0) (1 ∷ []) (0 ∷ 2 ∷ []) (1 ∷ 1 ∷ []) (0 ∷ 1 ∷ []) (0 ∷ 1 ∷ []) 0 1
    ∷ seat known None [] (1 ∷ []) (3 ∷ []) (1 ∷ []) (0 ∷ 0 ∷ 1 ∷ []) 2 1 ∷ [])
    ∷ state (Ended Done ∷ Ended OverBudget ∷ Taken ∷ Wait 1 ∷ Wait 1 ∷ Wait 1 ∷ []) (value 5 ∷ value 7 ∷ poison 6 ∷ None ∷ poison 5 ∷ None ∷ [])
    (seat known (at 2 2 1) (1 ∷ []) (0 ∷ 2 ∷ []) (1 ∷ 1 ∷ []) (0 ∷ 1 ∷ []) (0 ∷ 1 ∷ []) 0 1
    ∷ seat known None [] (1 ∷ []) (3 ∷ []) (1 ∷ []) (0 ∷ 0 ∷ 1 ∷ []) 2 1 ∷ [])
    ∷ state (Ended Done ∷ Ended OverBudget ∷ Taken ∷ Open ∷ Wait 1 ∷ Wait 1 ∷ []) (value 5 ∷ value 7 ∷ poison 6 ∷ None ∷ poison 5 ∷ None ∷ [])
    (seat known (at 2 3 0) (1 ∷ 3 ∷ []) (0 ∷ 2 ∷ []) (1 ∷ 1 ∷ []) (0 ∷ 1 ∷ []) (0 ∷ 1 ∷ []) 0 1
    ∷ seat known None [] (1 ∷ []) (3 ∷ []) (1 ∷ []) (0 ∷ 0 ∷ 1 ∷ []) 2 1 ∷ [])
    ∷ state (Ended Done ∷ Ended OverBudget ∷ Taken ∷ Open ∷ Wait 1 ∷ Wait 1 ∷ []) (value 5 ∷ value 7 ∷ poison 6 ∷ None ∷ poison 5 ∷ None ∷ [])
    (seat known (at 2 3 0) (1 ∷ 3 ∷ []) (0 ∷ 2 ∷ 1 ∷ []) (1 ∷ 1 ∷ 3 ∷ []) (0 ∷ 1 ∷ 1 ∷ []) (0 ∷ 1 ∷ 0 ∷ 0 ∷ 1 ∷ []) 0 2 ∷ fresh known 0 ∷ [])
    ∷ state (Ended Done ∷ Ended OverBudget ∷ Ended (Trapped 2 5) ∷ Open ∷ Wait 1 ∷ Wait 1 ∷ [])
    (value 5 ∷ value 7 ∷ poison 6 ∷ None ∷ poison 5 ∷ None ∷ [])
    (seat known None (1 ∷ 3 ∷ []) (0 ∷ 2 ∷ 1 ∷ []) (1 ∷ 1 ∷ 3 ∷ []) (0 ∷ 1 ∷ 1 ∷ []) (0 ∷ 1 ∷ 0 ∷ 0 ∷ 1 ∷ []) 0 2 ∷ fresh known 0 ∷ [])
    ∷ state (Ended Done ∷ Ended OverBudget ∷ Ended (Trapped 2 5) ∷ Taken ∷ Wait 1 ∷ Wait 1 ∷ [])
    (value 5 ∷ value 7 ∷ poison 6 ∷ None ∷ poison 5 ∷ None ∷ [])
    (seat known (at 3 3 0) (1 ∷ 3 ∷ []) (0 ∷ 2 ∷ 1 ∷ 3 ∷ []) (1 ∷ 1 ∷ 3 ∷ []) (0 ∷ 1 ∷ 1 ∷ []) (0 ∷ 1 ∷ 0 ∷ 0 ∷ 1 ∷ []) 0 2 ∷ fresh known 0 ∷ [])
    ∷ state (Ended Done ∷ Ended OverBudget ∷ Ended (Trapped 2 5) ∷ Taken ∷ Wait 1 ∷ Wait 1 ∷ [])
    (value 5 ∷ value 7 ∷ poison 6 ∷ None ∷ poison 5 ∷ None ∷ [])
    (seat known (at 3 3 0) (1 ∷ 3 ∷ []) (0 ∷ 2 ∷ 1 ∷ 3 ∷ []) (1 ∷ 1 ∷ 3 ∷ []) (0 ∷ 1 ∷ 1 ∷ []) (0 ∷ 1 ∷ 0 ∷ 0 ∷ 1 ∷ []) 0 2 ∷ fresh known 0 ∷ [])
    ∷ state (Ended Done ∷ Ended OverBudget ∷ Ended (Trapped 2 5) ∷ Taken ∷ Wait 1 ∷ Wait 1 ∷ [])
    (value 5 ∷ value 7 ∷ poison 6 ∷ None ∷ poison 5 ∷ poison 6 ∷ [])
    (seat known (at 3 3 1) (1 ∷ 3 ∷ []) (0 ∷ 2 ∷ 1 ∷ 3 ∷ []) (1 ∷ 1 ∷ 3 ∷ []) (0 ∷ 1 ∷ 1 ∷ []) (0 ∷ 1 ∷ 0 ∷ 0 ∷ 1 ∷ []) 0 2 ∷ fresh known 0 ∷ [])
    ∷ state (Ended Done ∷ Ended OverBudget ∷ Ended (Trapped 2 5) ∷ Taken ∷ Wait 1 ∷ Open ∷ [])
    (value 5 ∷ value 7 ∷ poison 6 ∷ None ∷ poison 5 ∷ poison 6 ∷ [])
    (seat known (at 3 4 0) (1 ∷ 3 ∷ 5 ∷ []) (0 ∷ 2 ∷ 1 ∷ 3 ∷ []) (1 ∷ 1 ∷ 3 ∷ []) (0 ∷ 1 ∷ 1 ∷ []) (0 ∷ 1 ∷ 0 ∷ 0 ∷ 1 ∷ []) 0 2 ∷ fresh known 0 ∷ [])
    ∷ state (Ended Done ∷ Ended OverBudget ∷ Ended (Trapped 2 5) ∷ Ended (Poisoned 6) ∷ Wait 1 ∷ Open ∷ [])
    (value 5 ∷ value 7 ∷ poison 6 ∷ None ∷ poison 5 ∷ poison 6 ∷ [])
    (seat known None (1 ∷ 3 ∷ 5 ∷ []) (0 ∷ 2 ∷ 1 ∷ 3 ∷ []) (1 ∷ 1 ∷ 3 ∷ []) (0 ∷ 1 ∷ 1 ∷ []) (0 ∷ 1 ∷ 0 ∷ 0 ∷ 1 ∷ []) 0 2 ∷ fresh known 0 ∷ [])
    ∷ state (Ended Done ∷ Ended OverBudget ∷ Ended (Trapped 2 5) ∷ Ended (Poisoned 6) ∷ Wait 1 ∷ Open ∷ [])
    (value 5 ∷ value 7 ∷ poison 6 ∷ None ∷ poison 5 ∷ poison 6 ∷ [])
    (seat known None (1 ∷ 3 ∷ 5 ∷ []) (0 ∷ 2 ∷ 1 ∷ 3 ∷ []) (1 ∷ 1 ∷ 3 ∷ []) (0 ∷ 1 ∷ 1 ∷ []) (0 ∷ 1 ∷ 0 ∷ 0 ∷ 1 ∷ 0 ∷ []) 1 2 ∷ fresh known 0 ∷ [])
    ∷ state (Ended Done ∷ Ended OverBudget ∷ Ended (Trapped 2 5) ∷ Ended (Poisoned 6) ∷ Wait 1 ∷ Open ∷ [])
    (value 5 ∷ value 7 ∷ poison 6 ∷ None ∷ poison 5 ∷ poison 6 ∷ [])
    (seat known None (1 ∷ 3 ∷ 5 ∷ []) (0 ∷ 2 ∷ 1 ∷ 3 ∷ []) (1 ∷ 1 ∷ 3 ∷ []) (0 ∷ 1 ∷ 1 ∷ []) (0 ∷ 1 ∷ 0 ∷ 0 ∷ 1 ∷ 0 ∷ 1 ∷ []) 2 2
    ∷ fresh known 0 ∷ [])
    ∷ state (Ended Done ∷ Ended OverBudget ∷ Ended (Trapped 2 5) ∷ Ended (Poisoned 6) ∷ Wait 1 ∷ Open ∷ [])
    (value 5 ∷ value 7 ∷ poison 6 ∷ None ∷ poison 5 ∷ poison 6 ∷ [])
    (seat known None (1 ∷ 3 ∷ 5 ∷ []) (0 ∷ 2 ∷ 1 ∷ 3 ∷ []) (1 ∷ 1 ∷ 3 ∷ []) (0 ∷ 1 ∷ 1 ∷ []) (0 ∷ 1 ∷ 0 ∷ 0 ∷ 1 ∷ 0 ∷ 1 ∷ 2 ∷ []) 3 2
    ∷ fresh known 0 ∷ [])
    ∷ state (Ended Done ∷ Ended OverBudget ∷ Ended (Trapped 2 5) ∷ Ended (Poisoned 6) ∷ Wait 1 ∷ Open ∷ [])
    (value 5 ∷ value 7 ∷ poison 6 ∷ None ∷ poison 5 ∷ poison 6 ∷ [])
    (seat known None (1 ∷ 3 ∷ 5 ∷ []) (0 ∷ 2 ∷ 1 ∷ 3 ∷ []) (1 ∷ 1 ∷ 3 ∷ []) (0 ∷ 1 ∷ 1 ∷ []) (0 ∷ 1 ∷ 0 ∷ 0 ∷ 1 ∷ 0 ∷ 1 ∷ 2 ∷ 3 ∷ []) 4 2
    ∷ fresh known 0 ∷ [])
    ∷ state (Ended Done ∷ Ended OverBudget ∷ Ended (Trapped 2 5) ∷ Ended (Poisoned 6) ∷ Wait 1 ∷ Open ∷ [])
    (value 5 ∷ value 7 ∷ poison 6 ∷ None ∷ poison 5 ∷ poison 6 ∷ [])
    (seat known None (1 ∷ 3 ∷ 5 ∷ []) (0 ∷ 2 ∷ 1 ∷ 3 ∷ []) (1 ∷ 1 ∷ 3 ∷ []) (0 ∷ 1 ∷ 1 ∷ []) (0 ∷ 1 ∷ 0 ∷ 0 ∷ 1 ∷ 0 ∷ 1 ∷ 2 ∷ 3 ∷ []) 5 2
    ∷ fresh known 0 ∷ [])
    ∷ []
