-- How the files of a job are read, one after the other. Files are seen by the members that their trait declares, each by its
-- name: what a name holds, where that is told, the numbers of openings and of faults, and how many bytes were given since the
-- last opening. So what is said here of the order holds of files that tell nothing too: it is said by the openings, and by how
-- many bytes were given before the next one.
--
-- What makes bytes usable as a file of a job, and how they are refused, depends on what the job does with them, and is a parameter.
use Rattle.std.specs.Prelude.{◌≡◌, ◌≤◌, ◌<◌, ◌+◌, ◌⊎◌, ℕ, List, [], ◌∷◌, IfSome, Option, Some, length, slice_get, take}
use Rattle.std.specs.Io.KnownBytes.{IsAtEnd}
use Rattle.os_io.specs.Counts.{HasRisen, raised}
use Rattle.os_io.specs.Reading.{IsReadUpTo}
use Rattle.os_io.specs.declared.files.Files.{Ghosts as FilesView}
use Rattle.osrun_core_jobs.specs.Files.{AreBytesOf, JobFile, limit_of}
use Rattle.osrun_core_jobs.specs.declared.refusal.Refusal.{Refusal}
use Rattle.osrun_core_jobs.specs.declared.refusal.Refusal.TheVariants as refusals
use Rattle.osrun_core_jobs.specs.declared.subject.Subject.{Subject}

-- bytes are usable as such a file
abbrev pub Use : Type 1
Use = Subject → List ℕ → Type 0

-- bytes are refused as such a file, by this code, and by this line where the code has one
abbrev pub Misuse : Type 1
Misuse = Subject → List ℕ → ℕ → Option ℕ → Type 0

-- One file was opened and read whole, to its end, and its bytes are usable. As many bytes were given as it has, and no fault was counted.
pub record WasRead (usable : Use) {F : Type 0} (view : FilesView F) (old new : F) (file : JobFile) (bytes : List ℕ) : Type 0 where
  pub opened : view.opens new ≡ raised (view.opens old) 1
  pub whole : view.given new ≡ length bytes
  pub at_end : IsAtEnd (view.rest new)
  pub read : AreBytesOf (view.holds old file.name) file.subject bytes
  pub is_usable : usable file.subject bytes
  pub no_fault : view.faults new ≡ view.faults old
  pub holds_kept : view.holds new ≡ view.holds old
  pub may_kept : view.may new ≡ view.may old

-- Files were read one after the other, each of them whole before the next one was opened. The files between are some files of
-- which this holds; that a call of the trait left them isn't said.
abbrev pub WereRead : (usable : Use) → {F : Type 0} → FilesView F → F → F → List JobFile → List (List ℕ) → Type 0
WereRead usable view old new [] [] = new ≡ old
WereRead usable view old new [] (bytes ∷ contents) = ⊥
WereRead usable view old new (file ∷ files) [] = ⊥
WereRead usable {F} view old new (file ∷ files) (bytes ∷ contents) =
    (between : F) × WasRead usable view old between file bytes × WereRead usable view between new files contents

-- A file that was opened was read whole, to its end, and its bytes are refused.
pub record IsMisused (unusable : Misuse) {F : Type 0} (view : FilesView F) (old new : F) (file : JobFile) (code : ℕ) (line : Option ℕ) : Type 0 where
  pub bytes : List ℕ
  pub read : AreBytesOf (view.holds old file.name) file.subject bytes
  pub whole : view.given new ≡ length bytes
  pub at_end : IsAtEnd (view.rest new)
  pub refused : unusable file.subject bytes code line
  pub no_fault : view.faults new ≡ view.faults old

-- The file is too long: one byte more than its limit was given, and no more was asked for.
pub record IsTooLong {F : Type 0} (view : FilesView F) (old new : F) (file : JobFile) (subject : Subject) : Type 0 where
  pub named : subject ≡ file.subject
  pub too_many : view.given new ≡ limit_of file.subject + 1
  pub held : IfSome (view.holds old file.name) (λ told. limit_of file.subject < length told)
  pub no_fault : view.faults new ≡ view.faults old

-- The file could not be read: a fault was counted.
pub record IsUnread {F : Type 0} (view : FilesView F) (old new : F) (file : JobFile) (subject : Subject) : Type 0 where
  pub named : subject ≡ file.subject
  pub within : view.given new ≤ limit_of file.subject
  pub fault : HasRisen (view.faults old) (view.faults new)

-- Why a file that was opened gives no job; want of memory says nothing of it.
abbrev pub IsFailed : (unusable : Misuse) → {F : Type 0} → FilesView F → F → F → JobFile → Refusal → Type 0
IsFailed unusable view old new file (refusals.Refused code line) = IsMisused unusable view old new file code line
IsFailed unusable view old new file (refusals.TooLong subject) = IsTooLong view old new file subject
IsFailed unusable view old new file (refusals.ReadFault subject) = IsUnread view old new file subject
IsFailed unusable view old new file refusals.Memory = Unit {0}

-- What is left after a file was opened and read as far as bytes were given: what it holds without these bytes, where both are
-- told; or it couldn't be opened, and what was left of the file before it is left as it was.
abbrev pub IsLeft : {F : Type 0} → FilesView F → F → F → List ℕ → Type 0
IsLeft view old new name = IsReadUpTo (view.holds old name) (view.given new) (view.rest new)
    ⊎ ((view.given new ≡ 0) × (view.rest new ≡ view.rest old))

-- One more file was opened, and nothing else was read since.
pub record Opened {F : Type 0} (view : FilesView F) (old new : F) (file : JobFile) : Type 0 where
  pub opened : view.opens new ≡ raised (view.opens old) 1
  pub left : IsLeft view old new file.name
  pub faults_kept : view.faults old ≤ view.faults new
  pub holds_kept : view.holds new ≡ view.holds old
  pub may_kept : view.may new ≡ view.may old

-- The reading ended at a file: those before it were read, and it was opened, and none behind it.
pub record EndedAt (usable : Use) {F : Type 0} (view : FilesView F) (old new : F) (files : List JobFile) (place : ℕ) (file : JobFile) : Type 0 where
  pub is_there : slice_get files place ≡ Some file
  pub contents : List (List ℕ)
  pub before : F
  pub earlier : WereRead usable view old before (take place files) contents
  pub last : Opened view before new file

-- The cause of a refusal: a file at which the reading ended, and why.
pub record IsCauseOf (usable : Use) (unusable : Misuse) {F : Type 0} (view : FilesView F) (old new : F) (files : List JobFile)
    (refusal : Refusal) : Type 0 where
  pub place : ℕ
  pub file : JobFile
  pub ended : EndedAt usable view old new files place file
  pub failed : IsFailed unusable view ended.before new file refusal

-- All files were read.
abbrev pub ReadAll : (usable : Use) → {F : Type 0} → FilesView F → F → F → List JobFile → Type 0
ReadAll usable view old new files = (contents : List (List ℕ)) × WereRead usable view old new files contents

-- How far the reading came: no file was opened, all files were read, or it ended at one of them.
abbrev pub ReadsInOrder : (usable : Use) → {F : Type 0} → FilesView F → F → F → List JobFile → Type 0
ReadsInOrder usable view old new files =
    (new ≡ old) ⊎ (ReadAll usable view old new files ⊎ ((place : ℕ) × (file : JobFile) × EndedAt usable view old new files place file))

-- the file is told, is within its limit, and is usable
pub record IsReadable (usable : Use) (holds : List ℕ → Option (List ℕ)) (file : JobFile) : Type 0 where
  pub bytes : List ℕ
  pub told : holds file.name ≡ Some bytes
  pub fits : length bytes ≤ limit_of file.subject
  pub is_usable : usable file.subject bytes

-- the file is told and within its limit, and its bytes are refused
pub record IsRejected (unusable : Misuse) (holds : List ℕ → Option (List ℕ)) (file : JobFile) : Type 0 where
  pub bytes : List ℕ
  pub told : holds file.name ≡ Some bytes
  pub fits : length bytes ≤ limit_of file.subject
  pub code : ℕ
  pub line : Option ℕ
  pub refused : unusable file.subject bytes code line
