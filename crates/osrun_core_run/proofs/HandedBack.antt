-- What is handed back of the right answer over a planned run is what the program comes to.
use Rattle.std.proofs.Common.{◌≡◌, ℕ, All, List, length, refl, sym, subst}
use Rattle.collector.specs.Written.{IsByteIfThere}
use Rattle.epoch_run.specs.declared.result.Budgets.{Budgets}
use Rattle.epoch_run_bodies.specs.Frames.{code_ends, frame_outcome}
use Rattle.epoch_run_bodies.specs.Laws.{AgreeingBodiesMeanOne}
use Rattle.flow_core_laws.specs.Laws.{MeansTheStreams, SinkIsTheOutput}
use Rattle.flow_core_laws.specs.declared.ends.Ends.{Ends}
use Rattle.os_ast.specs.Trees.{ProgramTree}
use Rattle.os_code.specs.IsValid.{IsValid}
use Rattle.os_code.specs.declared.parts.Parts.{Parts}
use Rattle.osrun_core_run.proofs.CodeRuns.{run_of_ends}
use Rattle.osrun_core_run.proofs.Replays.{replay_of_code}
use Rattle.osrun_core_run.proofs.TasksRun.{code_bytes_are, ends_are, run_of_code}
use Rattle.osrun_core_run.specs.BodyLaws.{CodesGiveBytes, OutputsAreBytes}
use Rattle.osrun_core_run.specs.Code.{IsCodeOf}
use Rattle.osrun_core_run.specs.HandedBack.{HasBytes, HasItsCell, IsMadeOf}
use Rattle.osrun_core_run.specs.Planned.{IsPlannedOf}
use Rattle.osrun_core_run.specs.Replay.{IsHandedBack, IsReplay}
use Rattle.osrun_core_run.specs.RunOf.{IsRunOfCode}
use Rattle.osrun_core_run.specs.declared.made.MadeRun.{MadeRun}
use Rattle.osrun_core_run.specs.declared.planning.Planned.{Planned}
use Rattle.osrun_core_run.specs.declared.replaying.Replay.{Replay}
use Rattle.osrun_core_run.specs.declared.replaying.Replay.TheVariants.{Told, Whole}
use Rattle.trace_replay_laws.specs.Answers.{IsAnswer}
use Rattle.trace_replay_laws.specs.Lists.{taken_from}
use Rattle.trace_replay_laws.specs.declared.replayed.Replayed.{Replayed}
use Rattle.trace_replay_laws.specs.declared.replayed.Replayed.TheVariants as answers

-- a planned run of a code, by the record that has its parts
abbrev pub IsPlanOf : ℕ → Parts → List ℕ → Planned → Type 0
IsPlanOf control_budget code input planned = IsPlannedOf control_budget code input planned.control planned.layout planned.plan

module _ (code : Parts) (budgets : Budgets) (input : List ℕ) (lists : List (List ℕ)) (planned : Planned) (is : IsPlanOf budgets.control code input planned) where
  -- the right answer about the lists, where the machine runs the task of each activation
  abbrev pub IsRight : Replayed → Type 0
  IsRight answer = IsAnswer planned.plan (frame_outcome code planned.control.activations budgets.task) lists answer

  -- the cell where a head waits is one of its frame's
  pub has_its_cell : (answer : Replayed) → IsRight answer → HasItsCell planned.plan answer
  has_its_cell (answers.Whole ends) h = tt
  has_its_cell (answers.Short frame) h = tt
  has_its_cell (answers.Stuck list frame cell) h =
      (h.0.are_below list (length (taken_from list h.1.order)) frame h.1.has_head, h.1.lacks.is_cell)
  has_its_cell (answers.Repeat frame) h = tt
  has_its_cell (answers.Stranger list place) h = tt

  module _ (means : MeansTheStreams) (sink : SinkIsTheOutput) where
    -- the ends of whole lists are those of the code's activations
    whole_ends : (ends : Ends) → IsRight (answers.Whole ends) → ends ≡ code_ends code planned.control.activations input budgets.task
    whole_ends ends h =
        ends_are code planned.control.activations budgets.task means sink planned.plan input ends is.stands h.1.has_ends h.1.has_output

    pub has_bytes : CodesGiveBytes → OutputsAreBytes → IsValid code → (answer : Replayed) → IsRight answer → HasBytes answer
    has_bytes codes bytes valid (answers.Whole ends) h =
        subst (λ (e : Ends). All IsByteIfThere e.output) (sym (whole_ends ends h))
        (code_bytes_are codes bytes code valid planned.control.activations is.fit input budgets.task)
    has_bytes codes bytes valid (answers.Short frame) h = tt
    has_bytes codes bytes valid (answers.Stuck list frame cell) h = tt
    has_bytes codes bytes valid (answers.Repeat frame) h = tt
    has_bytes codes bytes valid (answers.Stranger list place) h = tt

    -- a run of whole lists is a run of the code
    whole_run : (answer : Replayed) → IsRight answer → (run : MadeRun) → IsMadeOf planned answer (Whole run)
        → IsRunOfCode budgets.task budgets.control code input run.output.items run.layout run.ends run.control
    whole_run answer h run made =
        run_of_ends budgets.task budgets.control code input planned.control is.made_is is.fit is.lawful run planned.layout run.ends
        is.whole is.laid is.over (whole_ends run.ends (subst IsRight made.0 h)) made.1 made.2 refl made.3

    module _ (one : AgreeingBodiesMeanOne) (p : ProgramTree) (of : IsCodeOf code p) where
      handed_back : (answer : Replayed) → IsRight answer → (replay : Replay) → IsMadeOf planned answer replay
          → IsHandedBack budgets p input planned.control planned.plan answer replay
      handed_back answer h (Whole run) made =
          (made.0, run_of_code one code p of budgets.task budgets.control input run.output.items run.layout run.ends run.control (whole_run answer h run made))
      handed_back answer h (Told text) made = made

      pub is_replay : (answer : Replayed) → IsRight answer → (replay : Replay) → IsMadeOf planned answer replay → IsReplay budgets p input lists replay
      is_replay answer h replay made = record {
        made = planned.control;
        plan = planned.plan;
        answer = answer;
        is_replay = replay_of_code means one code p of budgets input lists planned.control planned.layout planned.plan answer is h;
        is_handed_back = handed_back answer h replay made;
      }
