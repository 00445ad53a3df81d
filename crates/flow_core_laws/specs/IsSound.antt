-- Sound plans.
use Rattle.std.specs.Prelude.{◌≡◌, ℕ, ◌+◌, ◌≤◌, ◌<◌, ◌↔◌, None, Some, slice_get, sum_by, length}
use Rattle.flow_core_laws.specs.Limits.{activations_limit, positions_limit}
use Rattle.flow_core_laws.specs.declared.plan.FramePlan.{FramePlan}
use Rattle.flow_core_laws.specs.declared.plan.Piece.{Piece}
use Rattle.flow_core_laws.specs.declared.plan.Plan.{Plan}
use Rattle.flow_core_laws.specs.Plans.{frame_at, number_at, held_at, missing_of}

-- A frame has a cell: it is one of those from the frame's first cell on, as many as the frame has inputs.
abbrev pub HasCell : Plan → ℕ → ℕ → Type 0
HasCell plan frame cell = ((frame_at plan frame).cell ≤ cell) × (cell < (frame_at plan frame).cell + (frame_at plan frame).inputs)

-- The piece numbered `number` covers a cell.
abbrev pub Covers : Plan → ℕ → ℕ → Type 0
Covers plan number cell = (p : Piece) × (slice_get plan.pieces number ≡ Some p) × (p.at ≤ cell) × (cell < p.at + p.count)

-- One piece names what exists: a frame, its output elements, and cells of another frame or of the sink.
pub record IsSoundPiece (plan : Plan) (p : Piece) : Type 0 where
  pub comes_from_a_frame : p.from < length plan.frames
  pub goes_to_a_frame : p.to ≤ length plan.frames
  pub has_elements : 1 ≤ p.count
  pub takes_outputs : p.first + p.count ≤ (frame_at plan p.from).outputs
  pub fills_from_its_cells : (frame_at plan p.to).cell ≤ p.at
  pub fills_to_its_cells : p.at + p.count ≤ (frame_at plan p.to).cell + (frame_at plan p.to).inputs

-- A plan is sound where its frames, cells and pieces fit one another. The frames are numbered from 0
-- to the sink, whose number is the count of the others.
pub record IsSound (plan : Plan) : Type 0 where
  -- the limits
  pub frames_are_few : length plan.frames ≤ activations_limit
  pub cells_are_few : length plan.filled ≤ positions_limit
  pub outputs_are_few : (f : ℕ) → f ≤ length plan.frames → (frame_at plan f).outputs ≤ positions_limit
  pub all_outputs_are_few : sum_by (λ (p : FramePlan). p.outputs) plan.frames ≤ positions_limit
  -- each frame has the number of its activation, in order
  pub numbers_are_of_frames : length plan.numbers ≡ length plan.frames
  pub numbers_ascend : (f g : ℕ) → f < g → g < length plan.frames → number_at plan f < number_at plan g
  -- each frame's cells exist, and no two frames share one
  pub cells_exist : (f : ℕ) → f ≤ length plan.frames → (frame_at plan f).cell + (frame_at plan f).inputs ≤ length plan.filled
  pub cells_are_apart : (f g cell : ℕ) → f ≤ length plan.frames → g ≤ length plan.frames → HasCell plan f cell → HasCell plan g cell → f ≡ g
  -- `wait` counts the frame's cells that hold nothing at opening
  pub wait_counts : (f : ℕ) → f ≤ length plan.frames → (frame_at plan f).wait ≡ missing_of plan plan.filled f
  -- each piece is sound by itself
  pub pieces_are_sound : (number : ℕ) (p : Piece) → slice_get plan.pieces number ≡ Some p → IsSoundPiece plan p
  -- the pieces of a frame are those from `piece` on, as many as `pieces`
  pub pieces_exist : (f : ℕ) → f ≤ length plan.frames → (frame_at plan f).piece + (frame_at plan f).pieces ≤ length plan.pieces
  pub pieces_stand_together : (f number : ℕ) (p : Piece) → f ≤ length plan.frames → slice_get plan.pieces number ≡ Some p
      → (p.from ≡ f) ↔ (((frame_at plan f).piece ≤ number) × (number < (frame_at plan f).piece + (frame_at plan f).pieces))
  -- no two pieces share a cell, and none covers a cell that holds something at opening
  pub pieces_are_apart : (i j cell : ℕ) → Covers plan i cell → Covers plan j cell → i ≡ j
  pub pieces_spare_the_filled : (number cell : ℕ) → Covers plan number cell → held_at plan.filled cell ≡ None
