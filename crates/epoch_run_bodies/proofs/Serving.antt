-- The bodies of activations that fit a valid code serve each plan that stands for the activations.
use Rattle.std.proofs.Common.{◌≡◌, ℕ, ℤ, ◌<◌, ◌≤◌, List, [], All, Some, length, get_or, slice_get, refl, sym, ap, ◌∙◌, subst, arith}
use Rattle.std.specs.Option.{option_map_or}
use Rattle.std.proofs.lemmas.List.{length-map}
use Rattle.std.proofs.lemmas.List.Elements.{All-get_or}
use Rattle.std.proofs.lemmas.List.FromFn.{length-map-range_with_len}
use Rattle.std.proofs.lemmas.Option.{get_or_from_slice_get, slice_get-get_or, slice_get_within}
use Rattle.flow_core_epochs.specs.Epoch.{ServesAll}
use Rattle.flow_core_laws.specs.Outcome.{over_budget}
use Rattle.flow_core_laws.specs.Place.{input_places}
use Rattle.flow_core_laws.specs.Plans.{cell_source, frame_at}
use Rattle.flow_core_laws.specs.Serves.{Serves}
use Rattle.flow_core_laws.specs.StandsFor.{StandsFor}
use Rattle.flow_core_laws.specs.Streams.{output_count, stream_source}
use Rattle.flow_core_laws.specs.declared.activation.Activation.{Activation}
use Rattle.flow_core_laws.specs.declared.plan.Plan.{Plan}
use Rattle.os_code.specs.IsValid.{IsValid}
use Rattle.os_code.specs.Laws.{IsProper, TaskEndsAreProper, TasksEnd}
use Rattle.os_code.specs.Outcomes.{code_outcome}
use Rattle.os_code.specs.Tasks.{Fits, input_count}
use Rattle.os_code.specs.declared.parts.Parts.{Parts}
use Rattle.epoch_run_bodies.specs.Frames.{TakesFrame, frame_outcome}
use Rattle.epoch_run_bodies.proofs.Counts.{length-reads}

-- what stands for an activation where there is none
abbrev pub no_activation : Activation
no_activation = record { site = 0; captured = []; claims = [] }

module _ (ends : TasksEnd) (proper : TaskEndsAreProper) (code : Parts) (activations : List Activation) (input : List ℕ) (budget : ℕ) (plan : Plan)
    (valid : IsValid code) (all_fit : All (Fits code) activations) (small : budget ≤ 1000000000) (stands : StandsFor plan activations input) where
  -- the activation of a frame
  record IsAt (f : ℕ) : Type 0 where
    activation : Activation
    is_there : slice_get activations f ≡ Some activation
    fits : Fits code activation

  at : (f : ℕ) → f < length plan.frames → IsAt f
  at f lt =
      let here : f < length activations = let n = stands.frames_are_activations in omega arith in
      record {
        activation = get_or activations f no_activation;
        is_there = slice_get-get_or activations f no_activation here;
        fits = All-get_or (Fits code) activations f no_activation here all_fit;
      }

  inputs_fit : (f : ℕ) (a : IsAt f) → f < length plan.frames → (frame_at plan f).inputs ≡ input_count a.activation
  inputs_fit f a lt =
      sym (length-map-range_with_len (cell_source plan) (frame_at plan f).cell (frame_at plan f).inputs)
      ∙ ap length (stands.cells_are_window_elements f (let n = stands.frames_are_activations in omega arith))
      ∙ length-reads activations input f a.activation a.is_there

  outputs_fit : (f : ℕ) (a : IsAt f) → (frame_at plan f).outputs ≡ output_count a.activation
  outputs_fit f a = stands.outputs_are_written f a.activation a.is_there

  is_outcome : (f : ℕ) (a : IsAt f) (inputs : List ℤ) → frame_outcome code activations budget f inputs ≡ code_outcome code a.activation inputs budget
  is_outcome f a inputs = ap (λ o. option_map_or (λ (x : Activation). code_outcome code x inputs budget) o over_budget) a.is_there

  is_proper : (f : ℕ) (a : IsAt f) (inputs : List ℤ) → IsProper a.activation (frame_outcome code activations budget f inputs)
  is_proper f a inputs =
      let e = ends code a.activation inputs budget valid a.fits in
      subst (λ o. IsProper a.activation o) (sym (is_outcome f a inputs)) (proper code a.activation inputs budget (code_outcome code a.activation inputs budget) e.steps valid a.fits e.ends)

  pub serves : Serves plan (frame_outcome code activations budget) (TakesFrame code activations budget)
  serves = record {
    takes_each = λ f lt. let a = at f lt in record { small = small; activation = a.activation; is_there = a.is_there; fits = a.fits; as_many_inputs = inputs_fit f a lt; as_many_outputs = outputs_fit f a };
    fills_outputs = λ f inputs lt n done. let a = at f lt in (is_proper f a inputs).outputs done ∙ sym (outputs_fit f a);
    traps_have_codes = λ f inputs number line lt n trapped. let c = (is_proper f (at f lt) inputs).codes number line trapped in (c.0, omega (arith, c.1));
    are_never_poisoned = λ f inputs root lt n. (is_proper f (at f lt) inputs).is_not_poisoned root;
  }

-- the same for all activations of a run in parts
pub serves_all : TasksEnd → TaskEndsAreProper → (code : Parts) (activations : List Activation) (budget : ℕ) → IsValid code → All (Fits code) activations
    → budget ≤ 1000000000 → ServesAll activations (frame_outcome code activations budget) (TakesFrame code activations budget)
serves_all ends proper code activations budget valid all_fit small = record {
  takes_each = λ a x at. record {
    small = small;
    activation = x;
    is_there = at;
    fits = fits a x at;
    as_many_inputs = count a x at;
    as_many_outputs = refl;
  };
  fills_outputs = λ a x inputs at n done. (is_proper a x at inputs).outputs done;
  traps_have_codes = λ a inputs number line lt n trapped.
      let at : slice_get activations a ≡ Some (get_or activations a no_activation) = slice_get-get_or activations a no_activation lt in
      let c = (is_proper a (get_or activations a no_activation) at inputs).codes number line trapped in (c.0, omega (arith, c.1));
  are_never_poisoned = λ a inputs root lt n.
      (is_proper a (get_or activations a no_activation) (slice_get-get_or activations a no_activation lt) inputs).is_not_poisoned root;
}
  where
    fits : (a : ℕ) (x : Activation) → slice_get activations a ≡ Some x → Fits code x
    fits a x at = subst (Fits code) (get_or_from_slice_get activations a x x at) (All-get_or (Fits code) activations a x (slice_get_within activations a x at) all_fit)

    count : (a : ℕ) (x : Activation) → slice_get activations a ≡ Some x → length (input_places activations a) ≡ input_count x
    count a x at = sym (length-map (input_places activations a) (stream_source activations [])) ∙ length-reads activations [] a x at

    is_proper : (a : ℕ) (x : Activation) → slice_get activations a ≡ Some x → (inputs : List ℤ) → IsProper x (frame_outcome code activations budget a inputs)
    is_proper a x at inputs =
        let e = ends code x inputs budget valid (fits a x at) in
        let is : frame_outcome code activations budget a inputs ≡ code_outcome code x inputs budget =
        ap (λ o. option_map_or (λ (y : Activation). code_outcome code y inputs budget) o over_budget) at in
        subst (λ o. IsProper x o) (sym is) (proper code x inputs budget (code_outcome code x inputs budget) e.steps valid (fits a x at) e.ends)
