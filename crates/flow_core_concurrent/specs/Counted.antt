-- Which pieces of a plan count, and what a frame misses.
use Rattle.std.specs.Prelude.{ℕ, ◌+◌, ◌-◌, ◌==◌, Bool, ◌&&◌, List, Option, is_none, count_by, slice_get, false, if◌then◌else◌, nat_lt}
use Rattle.std.specs.Option.{option_map_or}
use Rattle.flow_core_laws.specs.declared.plan.Piece.{Piece}
use Rattle.flow_core_concurrent.specs.declared.view.FrameRun.{FrameRun}
use Rattle.flow_core_laws.specs.declared.plan.Plan.{Plan}
use Rattle.flow_core_laws.specs.Plans.{held_at, cells_of, piece_at}
use Rattle.flow_core_concurrent.specs.declared.word.Word.{Word}
use Rattle.flow_core_concurrent.specs.Words.{word_at, has_ended}

-- 1 where a test holds, and 0 where it doesn't
abbrev pub one : Bool → ℕ
one test = if test then 1 else 0

-- whether a run is of this frame
abbrev pub is_run_of : ℕ → Option FrameRun → Bool
is_run_of frame run = option_map_or (λ (r : FrameRun). r.frame == frame) run false

-- whether a run of a frame stands past the piece of this number
abbrev pub is_past : ℕ → ℕ → Option FrameRun → Bool
is_past frame number run = option_map_or (λ (r : FrameRun). r.frame == frame && nat_lt number r.piece) run false

-- whether a run of a frame stands at the piece of this number, and element k of it is stored
abbrev pub has_stored : ℕ → ℕ → ℕ → Option FrameRun → Bool
has_stored frame number k run = option_map_or (λ (r : FrameRun). r.frame == frame && r.piece == number && nat_lt k r.stored) run false

-- How often the piece of a number counts, by the words and by what the seats run: once where its frame
-- ended, whether with values or with poison, and once for each run of its frame that stands past it.
abbrev pub counted : Plan → List Word → List (Option FrameRun) → ℕ → ℕ
counted plan words runs number =
    option_map_or (λ (p : Piece). one (has_ended (word_at words p.from)) + count_by (is_past p.from number) runs) (slice_get plan.pieces number) 0

-- How often element k of the piece of a number lies among the stored ones of the piece at which a seat stands.
abbrev pub underway : Plan → List (Option FrameRun) → ℕ → ℕ → ℕ
underway plan runs cell number = option_map_or (λ (p : Piece). count_by (has_stored p.from number (cell - p.at)) runs) (slice_get plan.pieces number) 0

-- How often the piece counts that covers a cell, if any does.
abbrev pub counted_at : Plan → List Word → List (Option FrameRun) → ℕ → ℕ
counted_at plan words runs cell = option_map_or (counted plan words runs) (piece_at plan cell) 0

-- How often a cell lies among the stored ones of the piece at which a seat stands.
abbrev pub underway_at : Plan → List (Option FrameRun) → ℕ → ℕ
underway_at plan runs cell = option_map_or (underway plan runs cell) (piece_at plan cell) 0

-- whether a frame misses a cell: it held nothing at opening, and its piece, if any, doesn't count
abbrev pub lacks_cell : Plan → List Word → List (Option FrameRun) → ℕ → Bool
lacks_cell plan words runs cell = is_none (held_at plan.filled cell) && counted_at plan words runs cell == 0

-- How many of its cells a frame misses.
abbrev pub lacking : Plan → List Word → List (Option FrameRun) → ℕ → ℕ
lacking plan words runs frame = count_by (lacks_cell plan words runs) (cells_of plan frame)
