-- What is cut off a piece of a file.
use Rattle.std.specs.Prelude.{◌≡◌, ◌<◌, ◌≤◌, ◌⊎◌, ◌+◌, ◌-◌, ◌*◌, ℕ, List, ◌++◌, All, drop, length, slice_range, take}
use Rattle.std.specs.List.{flat_map}
use Rattle.os_io.specs.Lines.{ended_line}
use Rattle.os_serve_jobs.specs.Lines.{IsLine, jobs_limit}
use Rattle.os_serve_jobs.specs.declared.reading.Reading.{Reading}
use Rattle.os_serve_jobs.specs.declared.input_state.InputState.{InputState}
use Rattle.os_serve_jobs.specs.declared.input_state.InputState.TheVariants.{AtEnd, Failed, Open, TooLong}

-- The first `count` bytes of a piece were added to the line that had begun, and where they ended it, it waits behind those that did. Nothing
-- is lost: lines, the line begun and the rest of the piece are what they were, one after the other.
pub record IsCut (waiting_old waiting_new : List (List ℕ)) (line_old line_new piece : List ℕ) (count : ℕ) : Type 0 where
  pub within : count ≤ length piece
  pub same : flat_map ended_line waiting_new ++ line_new ++ drop count piece ≡ flat_map ended_line waiting_old ++ line_old ++ piece
  pub each : All IsLine waiting_old → IsLine line_old → All IsLine waiting_new
  pub begun : IsLine line_old → IsLine line_new

-- 1 while more bytes may come, else 0
abbrev pub open_one : InputState → ℕ
open_one Open = 1
open_one AtEnd = 0
open_one TooLong = 0
open_one Failed = 0

-- how much is left to do at most: bytes that may be read, each counted twice, bytes to cut, and the end
abbrev pub left_to_do : Reading → ℕ
left_to_do reading = 2 * (jobs_limit + 1 - reading.total) + (reading.filled - reading.next) + open_one reading.source

-- a line may still come
abbrev pub HasMore : Reading → Type 0
HasMore reading = (reading.next < reading.filled) ⊎ ((reading.next ≡ reading.filled) × (reading.source ≡ Open))

-- what stands in the piece to be cut is what was read into its front, less the one byte past the limit
abbrev pub TookPiece : (piece : List ℕ) → (count : ℕ) → Reading → Type 0
TookPiece piece count reading =
    ((reading.total ≤ jobs_limit) × (reading.source ≡ Open) × (slice_range reading.piece.items reading.next reading.filled ≡ take count piece))
    ⊎ ((reading.total ≡ jobs_limit + 1) × (reading.source ≡ TooLong)
    × (slice_range reading.piece.items reading.next reading.filled ≡ take (count - 1) piece))
