-- The cells of a run, their counters, and what a piece carries into them.
use Rattle.std.specs.Prelude.{◌≡◌, ℕ, ℤ, ◌+◌, ◌-◌, ◌<◌, ◌≤◌, List, Option, Some, None, length, slice_get, slice_index}
use Rattle.flow_core_laws.specs.declared.plan.Piece.{Piece}
use Rattle.flow_core_laws.specs.declared.elem.Elem.{Elem}
use Rattle.flow_core_laws.specs.declared.plan.Plan.{Plan}
use Rattle.flow_core_laws.specs.Element.{output_element}
use Rattle.flow_core_laws.specs.Plans.{frame_at, held_at, missing_of}
use Rattle.flow_core_laws.specs.IsSound.{Covers}
use Rattle.flow_core.specs.declared.waits.Waits.{Waits}
use Rattle.flow_core.specs.Waits.{OpensFull}

-- The counters are those of the cells, and the opened frames are those that miss nothing.
pub record IsCounted (plan : Plan) (cells : List (Option Elem)) (waits : Waits) : Type 0 where
  pub cells_of_plan : length cells ≡ length plan.filled
  pub frames_of_plan : length waits.missing.items ≡ length plan.frames
  pub counts : (f : ℕ) → f < length plan.frames → slice_index waits.missing.items f ≡ missing_of plan cells f
  pub opens_full : OpensFull waits

-- Where there is no root of poison, there are at least `count` outputs.
abbrev pub HasOutputs : ℕ → Option ℕ → List ℤ → Type 0
HasOutputs count root outputs = root ≡ None → count ≤ length outputs

-- The pieces of these numbers were carried over: their cells hold the output elements, poison with the root or the
-- values, and the other cells are as they were.
pub record Carries (plan : Plan) (low high : ℕ) (root : Option ℕ) (outputs : List ℤ) (old new : List (Option Elem)) : Type 0 where
  pub filled : (number c : ℕ) (p : Piece) → low ≤ number → number < high → slice_get plan.pieces number ≡ Some p → p.at ≤ c
      → c < p.at + p.count
      → held_at new c ≡ output_element root outputs (p.first + (c - p.at))
  pub others : (c : ℕ) → ((number : ℕ) → low ≤ number → number < high → ¬ (Covers plan number c)) → held_at new c ≡ held_at old c

-- The cells of the pieces of these numbers hold nothing.
abbrev pub AreEmpty : Plan → ℕ → ℕ → List (Option Elem) → Type 0
AreEmpty plan low high cells = (number c : ℕ) → low ≤ number → number < high → Covers plan number c → held_at cells c ≡ None

-- The cells that a frame feeds hold nothing.
abbrev pub IsUnfed : Plan → ℕ → List (Option Elem) → Type 0
IsUnfed plan frame cells = AreEmpty plan (frame_at plan frame).piece ((frame_at plan frame).piece + (frame_at plan frame).pieces) cells

-- What a frame should have written was carried over to the cells that it feeds.
abbrev pub Delivers : Plan → ℕ → Option ℕ → List ℤ → List (Option Elem) → List (Option Elem) → Type 0
Delivers plan frame root outputs old new =
    Carries plan (frame_at plan frame).piece ((frame_at plan frame).piece + (frame_at plan frame).pieces) root outputs old new
