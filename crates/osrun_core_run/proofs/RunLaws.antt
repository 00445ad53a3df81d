-- What a run of a job comes to is of one state, and has only bytes.
use Rattle.std.proofs.Common.{◌≡◌, ℕ, All, List, Option, length, sym, ap, ◌∙◌, subst}
use Rattle.std.specs.Option.{option_map_or}
use Rattle.cddf_meaning.specs.Body.{body}
use Rattle.cddf_meaning.specs.Control.{control}
use Rattle.collector.specs.Laws.{HasItsLines, OfFilled}
use Rattle.collector.specs.Reported.{AreOfState}
use Rattle.collector.specs.Status.{status}
use Rattle.collector.specs.Written.{IsByteIfThere, written}
use Rattle.flow_core_laws.specs.Laws.{IsFilled}
use Rattle.flow_core_laws.specs.Outcome.{over_budget}
use Rattle.flow_core_laws.specs.Place.{written_count}
use Rattle.flow_core_laws.specs.Streams.{stream_meaning}
use Rattle.flow_core_laws.specs.declared.activation.Activation.{Activation}
use Rattle.flow_core_laws.specs.declared.control.Control.{Control}
use Rattle.flow_core_laws.specs.declared.control.ControlEnd.{ControlEnd}
use Rattle.flow_core_laws.specs.declared.ends.Ends.{Ends}
use Rattle.flow_core_laws.specs.declared.outcome.Outcome.{Outcome}
use Rattle.os_ast.specs.Trees.{ProgramTree}
use Rattle.lowering_relation.specs.Laws.{BodiesFill}
use Rattle.osrun_core_run.specs.BodyLaws.{FilledBodiesFill, OutputsAreBytes}
use Rattle.osrun_core_run.proofs.BodyBytes.{RunsKeep}
use Rattle.osrun_core_run.proofs.TasksRun.{bytes_are}
use Rattle.osrun_core_jobs.specs.Jobs.{Job}
use Rattle.osrun_core_run.specs.Laws.{GivesOnlyBytes, IsOfAState, OfRuns, TellsAllButDone, WritesAllAtZero}
use Rattle.osrun_core_run.specs.Run.{IsRunOfJob, ProgramRun, body_at}

pub only_bytes : RunsKeep → OutputsAreBytes → OfRuns GivesOnlyBytes
only_bytes keep bytes holds job run is =
    subst (λ (e : Ends). All IsByteIfThere e.output) (sym is.ends_are) (bytes_are keep bytes is.program run.control.activations run.input job.task_budget)

module _ (fill : BodiesFill) (meaning_filled : FilledBodiesFill) where
  -- the activations of a control program fill their outputs over every input
  program_filled : (p : ProgramTree) (input_len control_budget : ℕ) (input : List ℕ) (budget : ℕ)
      → IsFilled (control p input_len control_budget).activations
      (stream_meaning (control p input_len control_budget).activations input (body_at p (control p input_len control_budget).activations budget))
  program_filled p input_len control_budget input budget =
      let activations = (control p input_len control_budget).activations in
      meaning_filled activations input (body_at p activations budget)
      (λ a x inputs at long done.
      let same : body_at p activations budget a inputs ≡ body p x inputs budget =
      ap (λ o. option_map_or (λ (y : Activation). body p y inputs budget) o over_budget) at in
      ap (λ (o : Outcome). length o.outputs) same
      ∙ fill p input_len control_budget a x inputs budget at long (ap (λ (o : Outcome). o.end) (sym same) ∙ done))

  run_filled : (holds : List ℕ → Option (List ℕ)) (job : Job) (run : ProgramRun) (is : IsRunOfJob holds job run)
      → IsFilled run.control.activations
      (stream_meaning run.control.activations run.input (body_at is.program run.control.activations job.task_budget))
  run_filled holds job run is =
      subst (λ (c : Control). IsFilled c.activations (stream_meaning c.activations run.input (body_at is.program c.activations job.task_budget)))
      (sym is.control_is)
      (program_filled is.program (length run.input) job.control_budget run.input job.task_budget)

  -- what holds of filled meanings holds of runs
  of_runs : (fact : List Activation → ℕ → Ends → Type 0) → OfFilled fact
      → OfRuns (λ (run : ProgramRun). fact run.control.activations (length run.input) run.ends)
  of_runs fact all holds job run is =
      subst (fact run.control.activations (length run.input)) (sym is.ends_are)
      (all run.control.activations run.input (body_at is.program run.control.activations job.task_budget) (run_filled holds job run is))

  pub of_a_state : OfFilled AreOfState → OfRuns IsOfAState
  of_a_state states = of_runs AreOfState states

  pub all_told : OfFilled HasItsLines → OfRuns TellsAllButDone
  all_told lines = of_runs HasItsLines lines

  pub writes_all : OfFilled AreOfState
      → ((activations : List Activation) (input_len : ℕ) (ends : Ends) (end : ControlEnd) → AreOfState activations input_len ends
      → status ends.ends end ≡ 0 → length (written ends.output) ≡ written_count activations 1) → OfRuns WritesAllAtZero
  writes_all states all holds job run is zero_is =
      all run.control.activations (length run.input) run.ends run.control.end (of_runs AreOfState states holds job run is) zero_is
