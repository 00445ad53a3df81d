-- What a plan of the whole run comes to is what its activations come to.
use Rattle.std.proofs.Common.{◌≡◌, ℕ, List, ap, ◌∙◌}
use Rattle.std.specs.Prelude.{IfOk, Result, Ok, Err}
use Rattle.epoch_run_bodies.specs.Frames.{code_ends, frame_outcome}
use Rattle.flow_core_laws.specs.Laws.{MeansTheStreams, SinkIsTheOutput}
use Rattle.flow_core_laws.specs.Outcome.{ends_of}
use Rattle.flow_core_laws.specs.Plans.{plan_meaning, sink_elements}
use Rattle.flow_core_laws.specs.StandsFor.{StandsFor}
use Rattle.flow_core_laws.specs.Streams.{output_elements, stream_meaning}
use Rattle.flow_core_laws.specs.declared.activation.Activation.{Activation}
use Rattle.flow_core_laws.specs.declared.ends.Ends.{Ends}
use Rattle.flow_core_laws.specs.declared.plan.Plan.{Plan}
use Rattle.os_code.specs.declared.parts.Parts.{Parts}

module _ (code : Parts) (activations : List Activation) (budget : ℕ) (means : MeansTheStreams) (sink : SinkIsTheOutput)
    (plan : Plan) (input : List ℕ) (stands : StandsFor plan activations input) where
  ends_are : (ends : Ends) → ends.ends ≡ ends_of (plan_meaning plan (frame_outcome code activations budget))
      → ends.output ≡ sink_elements plan (plan_meaning plan (frame_outcome code activations budget)) → ends ≡ code_ends code activations input budget
  ends_are ends of_ends of_output =
      let state = stream_meaning activations input (frame_outcome code activations budget) in
      let meant : plan_meaning plan (frame_outcome code activations budget) ≡ state = means plan activations input (frame_outcome code activations budget) stands in
      let es : ends.ends ≡ ends_of state = of_ends ∙ ap ends_of meant in
      let os : ends.output ≡ output_elements activations input state = of_output ∙ ap (sink_elements plan) meant ∙ sink plan activations input state stands in
      ap (λ xs. record { ends = xs; output = ends.output }) es ∙ ap (λ xs. record { ends = ends_of state; output = xs }) os

  pub ends_if : {E : Type 0} (r : Result Ends E) → IfOk r (λ (e : Ends). e.ends ≡ ends_of (plan_meaning plan (frame_outcome code activations budget)))
      → IfOk r (λ (e : Ends). e.output ≡ sink_elements plan (plan_meaning plan (frame_outcome code activations budget)))
      → IfOk r (λ (e : Ends). e ≡ code_ends code activations input budget)
  ends_if (Ok ends) of_ends of_output = ends_are ends of_ends of_output
  ends_if (Err error) of_ends of_output = tt
