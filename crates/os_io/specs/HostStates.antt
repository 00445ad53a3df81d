-- What contracts see of the files and the sinks of the host: their counts, and the bytes of the file or
-- the writer below them, where std tells these.
use Rattle.std.specs.Prelude.{ℕ, List, [], Option, None, Some}

pub record HostFilesState : Type 0 where
  -- how many calls have failed
  pub faults : ℕ
  -- how many bytes were given since the last call of `open`
  pub given : ℕ
  -- how many calls of `open` there were
  pub opens : ℕ
  -- what is left to read of the current file
  pub remaining : Option (List ℕ)

pub record HostSinkState : Type 0 where
  -- how many calls have failed
  pub faults : ℕ
  -- how many calls took nothing of a piece that wasn't empty
  pub empty_takes : ℕ
  -- what the writer holds
  pub contents : Option (List ℕ)

-- what is left to read of the current file, where `remaining` tells it of an open one; nothing where none is open
abbrev pub left_of : {File : Type 0} → (File → Option (List ℕ)) → Option File → Option (List ℕ)
left_of remaining None = Some []
left_of remaining (Some file) = remaining file
