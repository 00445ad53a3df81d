-- A sink in memory, of which writes fail where no memory or no room is left.
use Rattle.std.specs.Prelude.{ℕ, List, []}

-- how many bytes the output of a job may have; no job has more, and no sink in memory has room for more
abbrev pub output_room : ℕ
output_room = 67108864

pub record MemorySinkState : Type 0 where
  -- the bytes taken so far
  pub taken : List ℕ
  -- how many it takes at most
  pub room : ℕ
  -- how many writes have failed
  pub faults : ℕ

-- a sink in memory that has taken nothing yet, with this room
abbrev pub fresh_kept : ℕ → MemorySinkState
fresh_kept room = record { taken = []; room = room; faults = 0 }
