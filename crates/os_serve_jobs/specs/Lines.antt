-- The lines of a file of jobs. A line is seen without the line feed that ends it.
use Rattle.std.specs.Prelude.{◌≡◌, ◌≢◌, ◌<◌, ◌≤◌, ◌⊎◌, ℕ, List, [], ◌∷◌, ◌++◌, All, length, take}
use Rattle.std.specs.List.{flat_map}
use Rattle.os_io.specs.Lines.{ended_line}

-- how many bytes a file of jobs may have
abbrev pub jobs_limit : ℕ
jobs_limit = 4194304

-- no line feed is among the bytes
abbrev pub IsLine : List ℕ → Type 0
IsLine line = All (λ byte. byte ≢ 10) line

-- The bytes are these lines, each with its line feed, and a rest behind them.
pub record StartsWith (bytes : List ℕ) (lines : List (List ℕ)) (rest : List ℕ) : Type 0 where
  pub bytes_are : bytes ≡ flat_map ended_line lines ++ rest
  pub each : All IsLine lines

-- The lines are all that end in a line feed among the bytes.
pub record AreEnded (bytes : List ℕ) (lines : List (List ℕ)) : Type 0 where
  pub rest : List ℕ
  pub starts : StartsWith bytes lines rest
  pub no_more : IsLine rest

-- what stands behind the last line feed, as a line, unless it is nothing
abbrev pub last_line : List ℕ → List (List ℕ)
last_line [] = []
last_line (byte ∷ bytes) = (byte ∷ bytes) ∷ []

-- The lines are all of the bytes: those that end in a line feed, and a last one that is not empty.
pub record AreLines (bytes : List ℕ) (lines : List (List ℕ)) : Type 0 where
  pub whole : List (List ℕ)
  pub rest : List ℕ
  pub starts : StartsWith bytes whole rest
  pub no_more : IsLine rest
  pub lines_are : lines ≡ whole ++ last_line rest

-- The line ends in a line feed, with which it lies within the limit of a file of jobs.
pub record IsEndedIn (held : List ℕ) (line : List ℕ) : Type 0 where
  pub earlier : List (List ℕ)
  pub behind : List ℕ
  pub starts : StartsWith (take jobs_limit held) (earlier ++ line ∷ []) behind

-- The line is the last piece of a file within the limit, without a line feed, and not empty.
pub record IsLastIn (held : List ℕ) (line : List ℕ) : Type 0 where
  pub fits : length held ≤ jobs_limit
  pub earlier : List (List ℕ)
  pub starts : StartsWith held earlier line
  pub no_more : IsLine line
  pub some : line ≢ []

-- The line is a job of the file that holds the bytes.
abbrev pub IsJobIn : List ℕ → List ℕ → Type 0
IsJobIn held line = IsEndedIn held line ⊎ IsLastIn held line

-- The jobs are all of the file that holds the bytes, in their order: all its lines, or, where it has more bytes than the limit, those
-- that end in a line feed within it.
abbrev pub AreJobs : List ℕ → List (List ℕ) → Type 0
AreJobs held jobs =
    ((length held ≤ jobs_limit) × AreLines held jobs) ⊎ ((jobs_limit < length held) × AreEnded (take jobs_limit held) jobs)

-- The lines are the first jobs of the file, in their order and with none left out.
abbrev pub AreFirstJobs : List ℕ → List (List ℕ) → Type 0
AreFirstJobs held lines = (more : List (List ℕ)) × AreJobs held (lines ++ more)
