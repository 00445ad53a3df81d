-- The files of a job.
use Rattle.std.specs.Prelude.{◌≡◌, ◌≤◌, ◌+◌, ℕ, Bool, List, [], ◌∷◌, IfSome, IsTrue, Option, Some, codes, length, slice_get}
use Rattle.flow_core_laws.specs.Limits.{input_limit}
use Rattle.os_io.specs.Counts.{last_count}
use Rattle.os_io.specs.Limits.{read_limit}
use Rattle.os_lexer.specs.Limits.{text_limit}
use Rattle.osrun_core_jobs.specs.Limits.{trace_limit}
use Rattle.osrun_core_jobs.specs.Jobs.{Request, Run, Gen, Compile, Exec, Explain, Trace, Replay}
use Rattle.osrun_core_jobs.specs.declared.subject.Subject.{Subject}
use Rattle.osrun_core_jobs.specs.declared.subject.Subject.TheVariants as subjects

-- what a refusal calls such a file
abbrev pub subject_name : Subject → List ℕ
subject_name subjects.Program = codes "program"
subject_name subjects.Input = codes "input"
subject_name subjects.Object = codes "object"
subject_name subjects.Trace = codes "trace"

-- how many bytes such a file may have
abbrev pub limit_of : Subject → ℕ
limit_of subjects.Program = text_limit
limit_of subjects.Input = input_limit
limit_of subjects.Object = read_limit
limit_of subjects.Trace = trace_limit

-- a file that a job reads: what it is to the job, and its name
pub record JobFile : Type 0 where
  pub subject : Subject
  pub name : List ℕ

-- the files of what is asked for, in the order of reading
abbrev pub files_of : Request → List JobFile
files_of (Run job) =
    record { subject = subjects.Program; name = job.program } ∷ record { subject = subjects.Input; name = job.input } ∷ []
files_of (Gen job) = []
files_of (Compile job) = record { subject = subjects.Program; name = job.program } ∷ []
files_of (Exec job) =
    record { subject = subjects.Object; name = job.object } ∷ record { subject = subjects.Input; name = job.input } ∷ []
files_of (Explain job) =
    record { subject = subjects.Program; name = job.program } ∷ record { subject = subjects.Input; name = job.input } ∷ []
files_of (Trace job) =
    record { subject = subjects.Program; name = job.program } ∷ record { subject = subjects.Input; name = job.input } ∷ []
files_of (Replay job) =
    record { subject = subjects.Program; name = job.program } ∷ record { subject = subjects.Input; name = job.input }
    ∷ record { subject = subjects.Trace; name = job.trace } ∷ []

-- each opening that a job makes is allowed: the first file's at the number of openings so far, and the k-th one's at
-- that number plus k, as far as that is no more than the last value of the count
abbrev pub MayOpen : (ℕ → List ℕ → Bool) → ℕ → List JobFile → Type 0
MayOpen may opens files =
    (k : ℕ) (file : JobFile) → slice_get files k ≡ Some file → opens + k ≤ last_count → IsTrue (may (opens + k) file.name)

-- bytes that were read of such a file: they are those that it holds, where that is told, and within its limit
pub record AreBytesOf (held : Option (List ℕ)) (subject : Subject) (bytes : List ℕ) : Type 0 where
  pub is_held : IfSome held (λ told. bytes ≡ told)
  pub fits : length bytes ≤ limit_of subject
