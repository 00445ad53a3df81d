-- What `explain` tells of an activation of a run, and the status with which it is told.
use Rattle.std.specs.Prelude.{◌≡◌, ℕ, List, Option}
use Rattle.flow_core_laws.specs.declared.activation.Activation.{Activation}
use Rattle.flow_core_laws.specs.declared.task_end.TaskEnd.{TaskEnd}
use Rattle.osrun_core_jobs.specs.Status.{status_code}
use Rattle.osrun_core_jobs.specs.declared.status.Status.TheVariants as statuses
use Rattle.wait_certs.specs.Finding.{IsFinding, finding_line}
use Rattle.wait_certs.specs.declared.finding.Finding.{Finding}
use Rattle.wait_certs.specs.declared.finding.Finding.TheVariants.{Absent, Ended, Starved}

-- The status is 0 where the activation is starved, else 1.
abbrev pub finding_status : Finding → ℕ
finding_status Absent = status_code statuses.NotAllDone
finding_status Ended = status_code statuses.NotAllDone
finding_status (Starved members last) = status_code statuses.AllDone

-- A text and a status tell of an activation: they are those of what there is to tell of it.
pub record Explains (activations : List Activation) (input_len : ℕ) (ends : List (Option TaskEnd)) (a : ℕ) (text : List ℕ) (own : ℕ) : Type 0 where
  pub finding : Finding
  pub is_finding : IsFinding activations input_len ends a finding
  pub text_is : text ≡ finding_line a finding
  pub own_is : own ≡ finding_status finding
