-- What calls on the way of a stream answer.
use Rattle.std.specs.Prelude.{◌≡◌, ℕ, List, MatchResult, Result}
use Rattle.os_io.specs.declared.files.Files.{Ghosts as FilesView}
use Rattle.osrun_core_answer.specs.Made.{IsUnmadeOf}
use Rattle.osrun_core_jobs.specs.Files.{files_of}
use Rattle.osrun_core_jobs.specs.Jobs.{Job, Run, job_of}
use Rattle.osrun_core_jobs.specs.Status.{status_code}
use Rattle.osrun_core_jobs.specs.declared.refusal.Refusal.{Refusal}
use Rattle.osview_answer.specs.AnswersStream.{AreMade, Asked, IsUnnamed, unnamed_line}
use Rattle.osview_answer.specs.Elements.{AreElementsOf, NamesNone}
use Rattle.osview_answer.specs.declared.stream_job.StreamJob.{StreamJob}
use Rattle.osview_answer.specs.declared.stream_telling.StreamTold.{StreamTold}
use Rattle.osview_answer.specs.declared.stream_telling.StreamTold.TheVariants as told

-- what a job asks
abbrev pub asked_of : StreamJob → Asked
asked_of job = record { name = job.name.now; first = job.first; count = job.count }

-- the lines of the elements, or that there is no stream with this name
abbrev pub IsTold : (task_budget control_budget : ℕ) → (text input : List ℕ) → Asked → StreamTold → Type 0
IsTold task_budget control_budget text input asked (told.Elements told) =
    AreElementsOf task_budget control_budget text input asked.name asked.first asked.count told.text.items (status_code told.status)
IsTold task_budget control_budget text input asked (told.Unnamed bytes) = NamesNone text asked.name × (bytes.items ≡ unnamed_line asked.name)

-- both files were read, and the answer says what there is of the stream, or that no stream has the name
abbrev pub IsToldOf : {F : Type 0} → FilesView F → F → F → Job → Asked → StreamTold → Type 0
IsToldOf view old new job asked (told.Elements told) = AreMade view old new job asked told.text.items (status_code told.status)
IsToldOf view old new job asked (told.Unnamed bytes) = IsUnnamed view old new job asked × (bytes.items ≡ unnamed_line asked.name)

-- both files were read and the stream is told, or that none has the name; or one of the files is the cause, or memory ran out
abbrev pub MakesStream : {F : Type 0} → FilesView F → F → F → Job → Asked → Result StreamTold Refusal → Type 0
MakesStream view old new job asked result = MatchResult result (IsToldOf view old new job asked) (IsUnmadeOf view old new (files_of (Run job)))
