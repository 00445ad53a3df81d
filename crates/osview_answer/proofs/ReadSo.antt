-- What is told of a stream, once both files were read.
use Rattle.std.proofs.Common.{◌≡◌, List, [], ◌∷◌, ℕ}
use Rattle.os_io.specs.declared.files.Files.{Ghosts as FilesView}
use Rattle.osrun_core_jobs.specs.Files.{files_of}
use Rattle.osrun_core_jobs.specs.Jobs.{Job, Run}
use Rattle.osrun_core_jobs.specs.Reading.{WereRead}
use Rattle.osrun_core_run.specs.Refusal.{IsUsable}
use Rattle.osview_answer.specs.AnswersStream.{Asked}
use Rattle.osview_answer.specs.Streams.{IsTold, IsToldOf}
use Rattle.osview_answer.specs.declared.stream_telling.StreamTold.{StreamTold}
use Rattle.osview_answer.specs.declared.stream_telling.StreamTold.TheVariants.{Elements, Unnamed}

pub read_so : {F : Type 0} (view : FilesView F) (old new : F) (job : Job) (asked : Asked) (text input : List ℕ) (told : StreamTold)
    → WereRead IsUsable view old new (files_of (Run job)) (text ∷ input ∷ []) → IsTold job.task_budget job.control_budget text input asked told
    → IsToldOf view old new job asked told
read_so view old new job asked text input (Elements t) read is = record { text = text; input = input; read = read; are_elements = is }
read_so view old new job asked text input (Unnamed bytes) read is = (record { text = text; input = input; read = read; none = is.0 }, is.1)
