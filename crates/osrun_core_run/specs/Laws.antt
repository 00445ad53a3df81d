-- What holds of every program and of every run of a job, as statements.
use Rattle.std.specs.Prelude.{◌≡◌, ℕ, ℤ, All, List, Option, length}
use Rattle.cddf_meaning.specs.Body.{body}
use Rattle.collector.specs.Laws.{HasItsLines}
use Rattle.collector.specs.Reported.{AreOfState}
use Rattle.collector.specs.Status.{done_status, status}
use Rattle.collector.specs.Written.{IsByteIfThere, written}
use Rattle.epoch_run.specs.declared.result.Budgets.{Budgets}
use Rattle.flow_core_laws.specs.Place.{written_count}
use Rattle.flow_core_laws.specs.declared.activation.Activation.{Activation}
use Rattle.flow_core_laws.specs.declared.control.Control.{Control}
use Rattle.flow_core_laws.specs.declared.ends.Ends.{Ends}
use Rattle.flow_core_laws.specs.declared.plan.Plan.{Plan}
use Rattle.os_ast.specs.Trees.{ProgramTree}
use Rattle.os_code.specs.Tasks.{input_count}
use Rattle.osrun_core_jobs.specs.Jobs.{Job}
use Rattle.osrun_core_jobs.specs.declared.subject.Subject.{Subject}
use Rattle.osrun_core_run.specs.Refusal.{IsUnusable, IsUsable}
use Rattle.osrun_core_run.specs.Replay.{IsReplayOf}
use Rattle.osrun_core_run.specs.ReplayLine.{IsReplayLine}
use Rattle.osrun_core_run.specs.Run.{IsRunOfJob, ProgramRun}
use Rattle.osrun_core_run.specs.BodyLaws.{GivesBytes}
use Rattle.trace_replay_laws.specs.declared.replayed.Replayed.{Replayed}
use Rattle.trace_replay_laws.specs.declared.replayed.Replayed.TheVariants.{Whole}

-- no bytes are usable as a file of a job and refused as one
abbrev pub NeverUsableAndRefused : Type 0
NeverUsableAndRefused = (subject : Subject) (bytes : List ℕ) (code : ℕ) (line : Option ℕ) → IsUsable subject bytes → IsUnusable subject bytes code line → ⊥

-- The body of a task that has its inputs writes nothing but bytes to the output, which is stream 1, for every program and
-- every activation.
abbrev pub BodiesGiveBytes : Type 0
BodiesGiveBytes = (p : ProgramTree) (a : Activation) (inputs : List ℤ) (budget : ℕ) → length inputs ≡ input_count a
    → GivesBytes a (body p a inputs budget)

-- A program that is run by lists comes to one thing, whatever plan stands for its activations: where the lists are whole the ends
-- are the same, and elsewhere the line is.
abbrev pub HasOneReplay : Type 0
HasOneReplay = (budgets : Budgets) (p : ProgramTree) (input : List ℕ) (lists : List (List ℕ)) (made made_too : Control) (plan other : Plan)
    (answer another : Replayed) → IsReplayOf budgets p input lists made plan answer → IsReplayOf budgets p input lists made_too other another
    → (made ≡ made_too) × ((ends : Ends) → answer ≡ Whole ends → another ≡ Whole ends)
    × ((text also : List ℕ) → IsReplayLine plan made.activations answer text → IsReplayLine other made_too.activations another also → text ≡ also)

-- a fact of every run of a job
abbrev pub OfRuns : (ProgramRun → Type 0) → Type 0
OfRuns fact = (holds : List ℕ → Option (List ℕ)) (job : Job) (run : ProgramRun) → IsRunOfJob holds job run → fact run

-- Each activation that is done filled its output windows, so that what is there by the ends, as the report tells it, is
-- what is there by the elements, of which the output is written.
abbrev pub IsOfAState : ProgramRun → Type 0
IsOfAState run = AreOfState run.control.activations (length run.input) run.ends

-- the elements of the output that are values are bytes
abbrev pub GivesOnlyBytes : ProgramRun → Type 0
GivesOnlyBytes run = All IsByteIfThere run.ends.output

-- at status 0 as many bytes are written as positions of the output are claimed for writing
abbrev pub WritesAllAtZero : ProgramRun → Type 0
WritesAllAtZero run =
    status run.ends.ends run.control.end ≡ done_status → length (written run.ends.output) ≡ written_count run.control.activations 1

-- each activation that isn't done has a line in the report, and no other has one
abbrev pub TellsAllButDone : ProgramRun → Type 0
TellsAllButDone run = HasItsLines run.control.activations (length run.input) run.ends
