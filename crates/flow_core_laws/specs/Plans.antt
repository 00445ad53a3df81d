-- The meaning of a plan: the same rounds, with the sources of its cells.
use Rattle.std.specs.Prelude.{ℕ, ℤ, ◌+◌, ◌-◌, List, Option, None, slice_index_or, map, length, count_by}
use Rattle.std.specs.Prelude.{is_none, slice_get, option_and_then, Bool, ◌&&◌, nat_le, nat_lt}
use Rattle.std.specs.Option.{option_map_or}
use Rattle.std.specs.List.{range_with_len, position}
use Rattle.flow_core_laws.specs.declared.plan.FramePlan.{FramePlan}
use Rattle.flow_core_laws.specs.declared.plan.Piece.{Piece}
use Rattle.flow_core_laws.specs.Round.{meaning}
use Rattle.flow_core_laws.specs.declared.elem.Elem.{Elem}
use Rattle.flow_core_laws.specs.declared.plan.Plan.{Plan}
use Rattle.flow_core_laws.specs.declared.outcome.Outcome.{Outcome}
use Rattle.flow_core_laws.specs.Outcome.{State}
use Rattle.flow_core_laws.specs.Element.{Source, initial, fed, nobody, element}
use Rattle.flow_core_laws.specs.Poisoning.{poisoning}

-- whether a piece covers a cell
abbrev pub is_covered_by : ℕ → Piece → Bool
is_covered_by cell piece = nat_le piece.at cell && nat_lt cell (piece.at + piece.count)

-- A frame by its number; the sink stands behind the last.
abbrev pub frame_at : Plan → ℕ → FramePlan
frame_at plan frame = slice_index_or plan.frames frame plan.sink

-- The number of a frame's activation.
abbrev pub number_at : Plan → ℕ → ℕ
number_at plan frame = slice_index_or plan.numbers frame frame

-- The numbers of a frame's cells, in order.
abbrev pub cells_of : Plan → ℕ → List ℕ
cells_of plan frame = range_with_len (frame_at plan frame).cell (frame_at plan frame).inputs

-- What a cell holds in a list of cells, if it holds something.
abbrev pub held_at : List (Option Elem) → ℕ → Option Elem
held_at cells cell = slice_index_or cells cell None

-- How many of a frame's cells hold nothing.
abbrev pub missing_of : Plan → List (Option Elem) → ℕ → ℕ
missing_of plan cells frame = count_by (λ cell. is_none (held_at cells cell)) (cells_of plan frame)

-- The number of the piece that covers a cell, or none.
abbrev pub piece_at : Plan → ℕ → Option ℕ
piece_at plan cell = position (is_covered_by cell) plan.pieces

-- The source of a cell that holds nothing at opening: an output element of the piece that covers it.
abbrev pub piece_source : Plan → ℕ → Source
piece_source plan cell =
    option_map_or (λ (p : Piece). fed p.from (p.first + (cell - p.at))) (option_and_then (λ number. slice_get plan.pieces number) (piece_at plan cell)) nobody

-- The source of a cell: what it holds at opening, or the piece that covers it.
unfoldable pub cell_source : Plan → ℕ → Source
cell_source plan cell = option_map_or initial (held_at plan.filled cell) (piece_source plan cell)

-- The sources of a frame's inputs, cell by cell.
abbrev pub plan_reads : Plan → ℕ → List Source
plan_reads plan frame = map (cell_source plan) (cells_of plan frame)

-- The element of a source over a plan in a state, if it is there: poison names the activations of frames.
abbrev pub plan_element : Plan → State → Source → Option Elem
plan_element plan state source = element (number_at plan) state source

-- The meaning of a plan: each frame's outcome, or none where it is starved. `outcome` says by number
-- what each frame makes of the values of its inputs.
abbrev pub plan_meaning : Plan → (ℕ → List ℤ → Outcome) → State
plan_meaning plan outcome = meaning (plan_element plan) (plan_reads plan) (poisoning outcome) (length plan.frames)

-- The elements of the sink cells in a state, in order, each where it is there.
abbrev pub sink_elements : Plan → State → List (Option Elem)
sink_elements plan state = map (plan_element plan state) (plan_reads plan (length plan.frames))
