-- Plans that stand for activations and an input.
use Rattle.std.specs.Prelude.{◌≡◌, ℕ, ◌<◌, List, Some, slice_get, map, length}
use Rattle.std.specs.List.{range_with_len}
use Rattle.flow_core_laws.specs.declared.activation.Activation.{Activation}
use Rattle.flow_core_laws.specs.Place.{output_places}
use Rattle.flow_core_laws.specs.Streams.{output_count, stream_source, stream_reads}
use Rattle.flow_core_laws.specs.declared.plan.Plan.{Plan}
use Rattle.flow_core_laws.specs.Plans.{frame_at, plan_reads}

-- The frames are the activations, each with its own number. The cells of a frame are its window elements in
-- order: those of the input that are there have their bytes, those with a producer are fed by that activation's
-- output element, and the others come from nobody. The sink cells are the places of the output.
pub record StandsFor (plan : Plan) (activations : List Activation) (input : List ℕ) : Type 0 where
  pub frames_are_activations : length plan.frames ≡ length activations
  pub numbers_are_their_own : plan.numbers ≡ range_with_len 0 (length activations)
  pub outputs_are_written : (a : ℕ) (x : Activation) → slice_get activations a ≡ Some x → (frame_at plan a).outputs ≡ output_count x
  pub cells_are_window_elements : (a : ℕ) → a < length activations → plan_reads plan a ≡ stream_reads activations input a
  pub sink_is_the_output : plan_reads plan (length activations) ≡ map (stream_source activations input) (output_places activations)
