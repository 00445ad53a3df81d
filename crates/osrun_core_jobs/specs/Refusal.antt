-- The lines that tell why a job is not done, and the status of each refusal.
use Rattle.std.specs.Prelude.{ℕ, List, [], ◌++◌, Option, codes}
use Rattle.std.specs.Fmt.{decimal}
use Rattle.std.specs.Option.{option_map_or}
use Rattle.os_io.specs.Lines.{ended_line}
use Rattle.osrun_core_jobs.specs.Files.{subject_name}
use Rattle.osrun_core_jobs.specs.declared.refusal.Refusal.{Refusal}
use Rattle.osrun_core_jobs.specs.declared.refusal.Refusal.TheVariants as refusal
use Rattle.osrun_core_jobs.specs.declared.status.Status.{Status}
use Rattle.osrun_core_jobs.specs.declared.status.Status.TheVariants as status

-- the line that is told where the words name no job
abbrev pub usage_line : List ℕ
usage_line = ended_line (codes "usage")

-- the words that tell a line, where there is one
abbrev pub line_text : Option ℕ → List ℕ
line_text at = option_map_or (λ number. codes " line " ++ decimal number) at []

-- the line that tells a refusal; want of memory has none
abbrev pub refusal_line : Refusal → List ℕ
refusal_line (refusal.Refused code at) = ended_line (codes "refused " ++ decimal code ++ line_text at)
refusal_line (refusal.TooLong subject) = ended_line (codes "too long " ++ subject_name subject)
refusal_line (refusal.ReadFault subject) = ended_line (codes "read fault " ++ subject_name subject)
refusal_line refusal.Memory = []

-- the status of a refusal
abbrev pub refusal_status : Refusal → Status
refusal_status (refusal.Refused code at) = status.Refused
refusal_status (refusal.TooLong _) = status.TooLong
refusal_status (refusal.ReadFault _) = status.ReadFault
refusal_status refusal.Memory = status.NoMemory
