-- What reading one file answers.
use Rattle.std.specs.Prelude.{◌≡◌, ℕ, ◌+◌, ◌<◌, ◌≤◌, List, IfSome, length}
use Rattle.std.specs.Io.KnownBytes.{IsAtEnd}
use Rattle.os_io.specs.Counts.{HasRisen}
use Rattle.os_io.specs.declared.files.Files.{Ghosts as FilesView}
use Rattle.osrun_core_jobs.specs.declared.subject.Subject.{Subject}
use Rattle.osrun_core_jobs.specs.declared.refusal.Refusal.{Refusal}
use Rattle.osrun_core_jobs.specs.declared.refusal.Refusal.TheVariants as refusal
use Rattle.osrun_core_jobs.specs.Files.{AreBytesOf, limit_of}

-- the bytes are all those of the file, and within its limit
pub record IsLoaded {F : Type 0} (view : FilesView F) (old new : F) (subject : Subject) (name bytes : List ℕ) : Type 0 where
  pub read : AreBytesOf (view.holds old name) subject bytes
  pub whole : view.given new ≡ length bytes
  pub at_end : IsAtEnd (view.rest new)

-- the file is too long, or could not be read, or memory could not be had
abbrev pub IsLoadRefusal : {F : Type 0} → FilesView F → F → F → Subject → List ℕ → Refusal → Type 0
IsLoadRefusal view old new subject name (refusal.TooLong s) =
    (s ≡ subject) × (view.given new ≡ limit_of subject + 1) × IfSome (view.holds old name) (λ told. limit_of subject < length told)
IsLoadRefusal view old new subject name (refusal.ReadFault s) =
    (s ≡ subject) × (view.given new ≤ limit_of subject) × HasRisen (view.faults old) (view.faults new)
IsLoadRefusal view old new _ name refusal.Memory = Unit {0}
IsLoadRefusal view old new _ name (refusal.Refused code line) = ⊥
