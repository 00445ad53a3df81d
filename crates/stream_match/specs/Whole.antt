-- The plan of a whole run, as a plan over reaches: all activations are frames, nothing is kept, and the sink
-- takes the output from its beginning.
use Rattle.std.specs.Prelude.{ℕ, List, [], ◌∷◌, slice_index}
use Rattle.flow_core_laws.specs.declared.activation.Activation.{Activation}
use Rattle.flow_core_laws.specs.declared.plan.Plan.{Plan}
use Rattle.flow_core_laws.specs.IsSound.{IsSound}
use Rattle.flow_core_laws.specs.StandsFor.{StandsFor}
use Rattle.stream_match_layouts.specs.declared.layout.Layout.{Layout}
use Rattle.stream_match_layouts.specs.Layout.{IsLayout, IsLayoutOf}
use Rattle.stream_match.specs.Weave.{Weave, IsWoven, Reach}
use Rattle.stream_match.specs.EpochPlan.{weave_over}
use Rattle.std.specs.List.{range_with_len}
use Rattle.stream_match_layouts.specs.Spans.{frame_count}

abbrev pub all_frames : Layout → List ℕ
all_frames layout = range_with_len 0 (frame_count layout)

abbrev pub output_reach : Layout → Reach
output_reach layout = record { stream = 1; first = 0; count = slice_index layout.cursors.writes 1 }

abbrev pub whole_weave : Layout → List ℕ → Weave
whole_weave layout input = weave_over layout input (all_frames layout) [] (output_reach layout ∷ [])

-- the plan of all activations, whose sink takes the output, is sound
abbrev pub WholePlansAreSound : Type 0
WholePlansAreSound = (layout : Layout) (input : List ℕ) (plan : Plan) → IsLayout layout → IsWoven layout (whole_weave layout input) plan → IsSound plan

-- such a plan stands for the activations and the input
abbrev pub WholePlansStand : Type 0
WholePlansStand =
    (layout : Layout) (input : List ℕ) (plan : Plan) (activations : List Activation) → IsLayout layout → IsLayoutOf layout activations
    → IsWoven layout (whole_weave layout input) plan → StandsFor plan activations input
