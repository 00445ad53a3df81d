-- How far a file of jobs was read.
use Rattle.std.specs.Prelude.{◌≡◌, ◌≢◌, ◌≤◌, ◌+◌, ◌⊎◌, ◌++◌}
use Rattle.std.specs.Prelude.{ℕ, List, [], All, Option, length, map, slice_range, take, vec_len}
use Rattle.std.specs.List.{flat_map}
use Rattle.std.specs.declared.vec.Vec.{Vec}
use Rattle.std.specs.declared.alloc.Global.{Global}
use Rattle.std.specs.Io.KnownBytes.{IsAtEnd, prepend_known}
use Rattle.os_io.specs.Counts.{HasRisen}
use Rattle.os_io.specs.declared.files.Files.{Ghosts as FilesView}
use Rattle.os_io.specs.Lines.{ended_line}
use Rattle.os_serve_jobs.specs.Lines.{AreLines, IsLine, StartsWith, jobs_limit}
use Rattle.os_serve_jobs.specs.declared.reading.Reading.{Reading}
use Rattle.os_serve_jobs.specs.declared.input_state.InputState.{InputState}
use Rattle.os_serve_jobs.specs.declared.input_state.InputState.TheVariants.{AtEnd, Failed, Open, TooLong}

-- the lines that wait, as contracts see them
abbrev pub waiting_lines : List (Vec ℕ Global) → List (List ℕ)
waiting_lines lines = map (λ line. line.items) lines

-- what was given of the file and is not cut into lines yet
abbrev pub uncut : Reading → List ℕ
uncut reading = reading.line.items ++ slice_range reading.piece.items reading.next reading.filled

-- What was read is the front of what is told, and no fault was counted.
pub record ReadSoFar {J : Type 0} (view : FilesView J) (told : Option (List ℕ)) (faults : ℕ) (jobs : J) (read : List ℕ) : Type 0 where
  pub front : told ≡ prepend_known read (view.rest jobs)
  pub no_fault : view.faults jobs ≡ faults

-- More may come: what was read is lines and what is not cut yet.
pub record IsOpenAt {J : Type 0} (view : FilesView J) (told : Option (List ℕ)) (faults : ℕ) (jobs : J) (lines : List (List ℕ))
    (read left : List ℕ) : Type 0 where
  pub so_far : ReadSoFar view told faults jobs read
  pub fits : length read ≤ jobs_limit
  pub starts : StartsWith read lines left

-- The file came to its end within the limit, and the lines are all that it has.
pub record IsWhole {J : Type 0} (view : FilesView J) (told : Option (List ℕ)) (faults : ℕ) (jobs : J) (lines : List (List ℕ))
    (read left : List ℕ) : Type 0 where
  pub so_far : ReadSoFar view told faults jobs read
  pub fits : length read ≤ jobs_limit
  pub at_end : IsAtEnd (view.rest jobs)
  pub lines_are : AreLines read lines
  pub none_left : left ≡ []

-- One byte more than the limit was given: the lines and what is not cut yet are the bytes up to the limit.
pub record IsTooLong {J : Type 0} (view : FilesView J) (told : Option (List ℕ)) (faults : ℕ) (jobs : J) (lines : List (List ℕ))
    (read left : List ℕ) : Type 0 where
  pub so_far : ReadSoFar view told faults jobs read
  pub one_past : length read ≡ jobs_limit + 1
  pub starts : StartsWith (take jobs_limit read) lines left

-- The file could not be opened, or a read failed: what was given before is lines and what is not cut yet.
pub record IsFailedAt {J : Type 0} (view : FilesView J) (told : Option (List ℕ)) (faults : ℕ) (jobs : J) (lines : List (List ℕ))
    (read left : List ℕ) : Type 0 where
  pub front : (told ≡ prepend_known read (view.rest jobs)) ⊎ (read ≡ [])
  pub fits : length read ≤ jobs_limit
  pub fault : HasRisen faults (view.faults jobs)
  pub starts : StartsWith read lines left

abbrev pub StandsBy : {J : Type 0} → FilesView J → Option (List ℕ) → ℕ → J → List (List ℕ) → (read left : List ℕ) → InputState → Type 0
StandsBy view told faults jobs lines read left Open = IsOpenAt view told faults jobs lines read left
StandsBy view told faults jobs lines read left AtEnd = IsWhole view told faults jobs lines read left
StandsBy view told faults jobs lines read left TooLong = IsTooLong view told faults jobs lines read left
StandsBy view told faults jobs lines read left Failed = IsFailedAt view told faults jobs lines read left

-- Of a file whose content is told or not, with `faults` faults counted before it was opened: as many bytes as it has given were
-- read, and cut into these lines so far.
pub record HasRead {J : Type 0} (view : FilesView J) (told : Option (List ℕ)) (faults : ℕ) (jobs : J) (reading : Reading)
    (lines : List (List ℕ)) : Type 0 where
  pub read : List ℕ
  pub given : view.given jobs ≡ length read
  pub stands : StandsBy view told faults jobs lines read (uncut reading) reading.source

-- The reading went on: lines that, with those that waited, were just what had been read are, with those that wait now, what is read now.
abbrev pub ReadsOn : {J : Type 0} → FilesView J → (jobs_old jobs_new : J) → (reading_old reading_new : Reading)
    → (waiting_old waiting_new : List (List ℕ)) → Type 0
ReadsOn view jobs_old jobs_new reading_old reading_new waiting_old waiting_new =
    (told : Option (List ℕ)) (faults : ℕ) (before : List (List ℕ)) → HasRead view told faults jobs_old reading_old (before ++ waiting_old)
    → HasRead view told faults jobs_new reading_new (before ++ waiting_new)

-- Nothing was read, and lines were cut off what was: lines, and what is not cut yet, are what they were, one after the other.
pub record CutsOn (reading_old reading_new : Reading) (waiting_old waiting_new : List (List ℕ)) : Type 0 where
  pub same : flat_map ended_line waiting_new ++ uncut reading_new ≡ flat_map ended_line waiting_old ++ uncut reading_old
  pub each : All IsLine waiting_old → All IsLine waiting_new
  pub source : reading_new.source ≡ reading_old.source
  pub total : reading_new.total ≡ reading_old.total
  pub none : uncut reading_old ≡ [] → (waiting_new ≡ waiting_old) × (uncut reading_new ≡ [])

-- what holds of the room of every reading
pub record IsReading (reading : Reading) : Type 0 where
  pub next_within : reading.next ≤ reading.filled
  pub filled_within : reading.filled ≤ vec_len reading.piece
  pub piece_within : vec_len reading.piece ≤ 8192
  pub is_line : IsLine reading.line.items
  pub total_within : reading.total ≤ jobs_limit + 1
  pub open_within : reading.source ≡ Open → reading.total ≤ jobs_limit

-- nothing was read, and nothing is asked for
pub record IsFresh (reading : Reading) : Type 0 where
  pub is_reading : IsReading reading
  pub is_open : reading.source ≡ Open
  pub nothing : reading.total ≡ 0
  pub none_left : uncut reading ≡ []

-- no line can come any more
pub record IsDone (reading : Reading) : Type 0 where
  pub all_cut : reading.next ≡ reading.filled
  pub closed : reading.source ≢ Open
