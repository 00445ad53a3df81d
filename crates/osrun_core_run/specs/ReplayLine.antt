-- The line that is told of lists of activations which aren't whole.
use Rattle.std.specs.Prelude.{◌≡◌, ℕ, ◌+◌, List, ◌++◌, Some, codes, slice_get}
use Rattle.std.specs.Fmt.{decimal}
use Rattle.os_io.specs.Lines.{ended_line}
use Rattle.flow_core_laws.specs.Place.{input_places}
use Rattle.flow_core_laws.specs.Plans.{frame_at}
use Rattle.flow_core_laws.specs.declared.activation.Activation.{Activation}
use Rattle.flow_core_laws.specs.declared.place.Place.{Place}
use Rattle.flow_core_laws.specs.declared.plan.Plan.{Plan}
use Rattle.trace_replay_laws.specs.declared.replayed.Replayed.{Replayed}
use Rattle.trace_replay_laws.specs.declared.replayed.Replayed.TheVariants.{Whole, Short, Stuck, Repeat, Stranger}

-- A cell of a frame is that of an element, by its place: the cells of a frame are those of its activation's inputs, in their order.
pub record IsCellOf (plan : Plan) (activations : List Activation) (frame cell : ℕ) (place : Place) : Type 0 where
  pub input : ℕ
  pub is_cell : cell ≡ (frame_at plan frame).cell + input
  pub is_place : slice_get (input_places activations frame) input ≡ Some place

-- the list and the place in it of a number that no activation has, both from 0 on
abbrev pub stranger_line : (list place : ℕ) → List ℕ
stranger_line list place = ended_line (codes "stranger " ++ decimal list ++ codes " place " ++ decimal place)

-- the line that tells which activation stands twice in the lists
abbrev pub repeat_line : ℕ → List ℕ
repeat_line frame = ended_line (codes "repeat " ++ decimal frame)

-- the list that isn't used up, its head, and the place of the first element that the head waits for
abbrev pub stuck_line : (list frame : ℕ) → Place → List ℕ
stuck_line list frame place = ended_line (codes "stuck " ++ decimal list ++ codes " frame " ++ decimal frame ++ codes " stream " ++ decimal place.stream
    ++ codes " position " ++ decimal place.position)

-- the least activation that could still run
abbrev pub short_line : ℕ → List ℕ
short_line frame = ended_line (codes "short " ++ decimal frame)

-- A text is the line of an answer over a plan that stands for activations. Where the lists are whole there is no line.
abbrev pub IsReplayLine : Plan → List Activation → Replayed → List ℕ → Type 0
IsReplayLine plan activations (Stranger list place) text = text ≡ stranger_line list place
IsReplayLine plan activations (Repeat frame) text = text ≡ repeat_line frame
IsReplayLine plan activations (Stuck list frame cell) text =
    (place : Place) × IsCellOf plan activations frame cell place × (text ≡ stuck_line list frame place)
IsReplayLine plan activations (Short frame) text = text ≡ short_line frame
IsReplayLine plan activations (Whole ends) text = ⊥
