-- What jobs are answered, whatever runs them.
use Rattle.std.specs.Prelude.{◌≡◌, ◌==◌, ◌&&◌, ℕ, List, [], ◌∷◌, if◌then◌else◌}
use Rattle.osrun_core_jobs.specs.Refusal.{usage_line}
use Rattle.osrun_core_jobs.specs.Status.{status_code}
use Rattle.osrun_core_jobs.specs.declared.status.Status.TheVariants as statuses
use Rattle.os_serve_answers.specs.declared.job_answer.JobAnswer.{JobAnswer}
use Rattle.os_serve_answers.specs.declared.job_answer.JobAnswer.TheVariants as answered
use Rattle.os_serve_jobs.specs.Answers.{Reply}
use Rattle.os_serve_jobs.specs.MemorySinkStates.{MemorySinkState}

-- the answer to a line that names no job
abbrev pub no_job : Reply
no_job = record { status = status_code statuses.BadWords; output = []; told = usage_line }

-- the answer to a job whose sinks find no memory
abbrev pub no_memory : Reply
no_memory = record { status = status_code statuses.NoMemory; output = []; told = [] }

-- The answer to a job whose command was called with such sinks: its status, and what they took. A sink in memory that has room fails
-- where it finds no memory.
abbrev pub reply_by : (status : ℕ) → (output report : MemorySinkState) → Reply
reply_by status output report =
    if (output.faults == 0) && (report.faults == 0) then record { status = status; output = output.taken; told = report.taken } else no_memory

-- the reply that an answer is
abbrev pub reply_of : JobAnswer → Reply
reply_of answered.NoJob = no_job
reply_of answered.NoMemory = no_memory
reply_of (answered.Done status output report) = record { status = status; output = output.taken; told = report.taken }

-- How a job was run: the files before and after it, its line, and the reply.
abbrev pub JobRun : Type 0 → Type 1
JobRun S = S → S → List ℕ → Reply → Type 0

-- Each line has its reply, in their order, each over the state as the one before left it.
abbrev pub AreReplies : {S : Type 0} → (run : JobRun S) → (old new : S) → List (List ℕ) → List Reply → Type 0
AreReplies run old new [] [] = new ≡ old
AreReplies run old new [] (reply ∷ replies) = ⊥
AreReplies run old new (line ∷ lines) [] = ⊥
AreReplies {S} run old new (line ∷ lines) (reply ∷ replies) =
    (between : S) × run old between line reply × AreReplies run between new lines replies
