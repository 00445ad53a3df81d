-- That bodies which serve all activations serve the plan of an epoch.
use Rattle.std.proofs.Common.{◌≡◌, ℕ, ◌<◌, ℤ, List, Some, length, get_or, sym, ap, ◌∙◌, subst, arith}
use Rattle.std.specs.Prelude.{slice_get, slice_index, All}
use Rattle.std.proofs.lemmas.List.{length-map}
use Rattle.std.proofs.lemmas.List.FromFn.{length-map-range_with_len}
use Rattle.std.proofs.lemmas.Option.{slice_get-get_or}
use Rattle.flow_core_laws.specs.declared.activation.Activation.{Activation}
use Rattle.flow_core_laws.specs.declared.outcome.Outcome.{Outcome}
use Rattle.flow_core_laws.specs.declared.place.Place.{Place}
use Rattle.flow_core_laws.specs.declared.plan.Plan.{Plan}
use Rattle.flow_core_laws.specs.Place.{input_places}
use Rattle.flow_core_laws.specs.Plans.{cell_source, frame_at}
use Rattle.flow_core_laws.specs.Serves.{Serves}
use Rattle.flow_core_laws.specs.Streams.{output_count}
use Rattle.flow_core_epochs.specs.Epoch.{Kept, StandsForEpoch, ServesAll, epoch_source}
use Rattle.flow_core_epochs.proofs.Prefixes.{no_activation}

pub serves_frames : (plan : Plan) (activations : List Activation) (input : List ℕ) (readers frames : List ℕ) (kept : List Kept) (places : List Place) (body : ℕ → List ℤ → Outcome) (takes : ℕ → ℕ → ℕ → Type 0)
    → StandsForEpoch plan activations input readers frames kept places → All (λ a. a < length activations) frames → ServesAll activations body takes
    → Serves plan (λ f. body (slice_index frames f)) (λ f inputs outputs. (f < length frames) × takes (slice_index frames f) inputs outputs)
serves_frames plan activations input readers frames kept places body takes stands exist serves = record {
  takes_each = λ f lt. (below f lt, subst (λ n. takes (at f) n (frame_at plan f).outputs) (sym (inputs_fit f lt)) (subst (takes (at f) (length (input_places activations (at f)))) (sym (outputs_fit f lt)) (serves.takes_each (at f) (activation f) (activation_is f lt))));
  fills_outputs = λ f inputs lt n done. serves.fills_outputs (at f) (activation f) inputs (activation_is f lt) (n ∙ inputs_fit f lt) done ∙ sym (outputs_fit f lt);
  traps_have_codes = λ f inputs code line lt n trapped. serves.traps_have_codes (at f) inputs code line (exist f 0 (below f lt)) (n ∙ inputs_fit f lt) trapped;
  are_never_poisoned = λ f inputs root lt n. serves.are_never_poisoned (at f) inputs root (exist f 0 (below f lt)) (n ∙ inputs_fit f lt);
}
  where
    at : ℕ → ℕ
    at f = get_or frames f 0

    below : (f : ℕ) → f < length plan.frames → f < length frames
    below f lt = let n = stands.frames_are_these in omega arith

    at_is : (f : ℕ) → f < length plan.frames → slice_get frames f ≡ Some (at f)
    at_is f lt = slice_get-get_or frames f 0 (below f lt)

    activation : ℕ → Activation
    activation f = get_or activations (at f) no_activation

    activation_is : (f : ℕ) → f < length plan.frames → slice_get activations (at f) ≡ Some (activation f)
    activation_is f lt = slice_get-get_or activations (at f) no_activation (exist f 0 (below f lt))

    inputs_fit : (f : ℕ) → f < length plan.frames → (frame_at plan f).inputs ≡ length (input_places activations (at f))
    inputs_fit f lt =
        sym (length-map-range_with_len (cell_source plan) (frame_at plan f).cell (frame_at plan f).inputs)
        ∙ ap length (stands.cells_are_window_elements f (at f) (at_is f lt))
        ∙ length-map (input_places activations (at f)) (epoch_source activations input frames kept)

    outputs_fit : (f : ℕ) → f < length plan.frames → (frame_at plan f).outputs ≡ output_count (activation f)
    outputs_fit f lt = stands.outputs_are_written f (at f) (activation f) (at_is f lt) (activation_is f lt)
