-- What a file that was read holds, where it tells it.
use Rattle.std.specs.Prelude.{ℕ, List, Option}
use Rattle.osrun_core_jobs.specs.Files.{AreBytesOf, JobFile}
use Rattle.osrun_core_run.specs.Refusal.{IsUsable}

-- the file was read whole, within its limit, and is usable
pub record IsRead (holds : List ℕ → Option (List ℕ)) (file : JobFile) : Type 0 where
  pub bytes : List ℕ
  pub read : AreBytesOf (holds file.name) file.subject bytes
  pub is_usable : IsUsable file.subject bytes
