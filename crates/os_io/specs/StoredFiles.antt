-- Files in memory, and what each call makes of them.
use Rattle.std.specs.Prelude.{ℕ, ◌-◌, ◌^◌, Bool, List, [], length, drop, Option, None, Some, min, if◌then◌else◌}
use Rattle.std.specs.Str.{bytes_eq}
use Rattle.std.specs.Map.{lookup}
use Rattle.os_io.specs.Calls.{is_named}
use Rattle.os_io.specs.Counts.{raised}

pub record StoredFiles : Type 0 where
  -- each file's name and bytes, in the order in which they were added
  pub files : List (List ℕ × List ℕ)
  -- what is left to read of the current file, nothing where there is none
  pub rest : List ℕ
  -- the numbers of the calls that fail
  pub failing : List ℕ
  -- how many calls of `open` and `read` there were
  pub calls : ℕ
  -- how many calls of `open` there were
  pub opens : ℕ
  -- how many bytes were given since the last call of `open`
  pub given : ℕ
  -- how many calls have failed
  pub faults : ℕ
  -- the most bytes that a `read` gives
  pub most : ℕ

-- no file, no call so far, and no other bound on what a `read` gives than a length's
abbrev pub no_files : StoredFiles
no_files =
    record { files = []; rest = []; failing = []; calls = 0; opens = 0; given = 0; faults = 0; most = 2 ^ 32 - 1 }

-- what a name holds
abbrev pub held : StoredFiles → List ℕ → Option (List ℕ)
held s name = lookup (bytes_eq name) s.files

-- whether the next call was named to fail
abbrev pub fails_next : StoredFiles → Bool
fails_next s = is_named s.failing s.calls

-- what the next call finds if it opens this name
abbrev pub found : StoredFiles → List ℕ → Option (List ℕ)
found s name = if fails_next s then None else held s name

-- after an `open` that found these bytes, or failed
abbrev pub after_finding : StoredFiles → Option (List ℕ) → StoredFiles
after_finding s None =
    record s { calls = raised s.calls 1; opens = raised s.opens 1; given = 0; faults = raised s.faults 1 }
after_finding s (Some bytes) =
    record s { calls = raised s.calls 1; opens = raised s.opens 1; given = 0; rest = bytes }

-- the files behind an `open` of this name
abbrev pub after_open : StoredFiles → List ℕ → StoredFiles
after_open s name = after_finding s (found s name)

-- how many bytes a `read` gives for a buffer of this length
abbrev pub read_count : StoredFiles → ℕ → ℕ
read_count s room = min (min room (length s.rest)) s.most

-- after a `read` into a buffer of this length
abbrev pub after_read : StoredFiles → ℕ → StoredFiles
after_read s room =
    if fails_next s
    then record s { calls = raised s.calls 1; faults = raised s.faults 1 }
    else record s {
      calls = raised s.calls 1;
      given = raised s.given (read_count s room);
      rest = drop (read_count s room) s.rest;
    }
