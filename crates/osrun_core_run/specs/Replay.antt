-- What lists of activations come to where a program is run by them.
use Rattle.std.specs.Prelude.{◌≡◌, ℕ, List, length, string_bytes}
use Rattle.cddf_meaning.specs.Control.{control}
use Rattle.epoch_run.specs.declared.result.Budgets.{Budgets}
use Rattle.flow_core_laws.specs.IsSound.{IsSound}
use Rattle.flow_core_laws.specs.StandsFor.{StandsFor}
use Rattle.flow_core_laws.specs.declared.control.Control.{Control}
use Rattle.flow_core_laws.specs.declared.plan.Plan.{Plan}
use Rattle.os_ast.specs.Trees.{ProgramTree}
use Rattle.osrun_core_run.specs.ReplayLine.{IsReplayLine}
use Rattle.osrun_core_run.specs.Run.{body_at}
use Rattle.osrun_core_run.specs.RunOf.{IsRunOf}
use Rattle.osrun_core_run.specs.declared.replaying.Replay.{Replay}
use Rattle.osrun_core_run.specs.declared.replaying.Replay.TheVariants.{Whole, Told}
use Rattle.trace_replay_laws.specs.Answers.{IsAnswer}
use Rattle.trace_replay_laws.specs.declared.replayed.Replayed.{Replayed}
use Rattle.trace_replay_laws.specs.declared.replayed.Replayed.TheVariants as answers

-- The activations are those that the control program creates over an input, and the plan stands for them. The answer about the
-- lists is the right one over that plan, where the bodies of the program say what each activation makes of its inputs.
pub record IsReplayOf (budgets : Budgets) (p : ProgramTree) (input : List ℕ) (lists : List (List ℕ)) (made : Control) (plan : Plan)
    (answer : Replayed) : Type 0 where
  pub made_is : made ≡ control p (length input) budgets.control
  pub sound : IsSound plan
  pub stands : StandsFor plan made.activations input
  pub answer_is : IsAnswer plan (body_at p made.activations budgets.task) lists answer

-- What is handed back of an answer: where the lists are whole it is the run of the program, with the ends of the answer, and else it is
-- the answer's line.
abbrev pub IsHandedBack : Budgets → ProgramTree → List ℕ → Control → Plan → Replayed → Replay → Type 0
IsHandedBack budgets p input made plan answer (Whole run) =
    (answer ≡ answers.Whole run.ends) × IsRunOf budgets.task budgets.control p input run.output.items run.layout run.ends run.control
IsHandedBack budgets p input made plan answer (Told text) = IsReplayLine plan made.activations answer (string_bytes text)

-- What a program comes to that is run by lists: over some plan that stands for its activations, what is handed back of the right answer.
pub record IsReplay (budgets : Budgets) (p : ProgramTree) (input : List ℕ) (lists : List (List ℕ)) (replay : Replay) : Type 0 where
  pub made : Control
  pub plan : Plan
  pub answer : Replayed
  pub is_replay : IsReplayOf budgets p input lists made plan answer
  pub is_handed_back : IsHandedBack budgets p input made plan answer replay
