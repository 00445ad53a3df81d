use Rattle.std.proofs.Common.{ℕ, length, map, ap, ◌∙◌}
use Rattle.flow_core_laws.specs.Round.{meaning}
use Rattle.flow_core_laws.proofs.Rounds.{meaning_of_same_reads}
use Rattle.flow_core_laws.specs.Element.{element}
use Rattle.flow_core_laws.specs.Poisoning.{poisoning}
use Rattle.flow_core_laws.specs.Streams.{stream_reads, stream_element}
use Rattle.flow_core_laws.specs.Plans.{plan_reads}
use Rattle.flow_core_laws.proofs.Elements.{number_at_own}
use Rattle.flow_core_laws.proofs.laws.plan_meaning.Goals as goal

pub returns-clause-meaning : goal.returns-clause-meaning
returns-clause-meaning c = λ plan activations input outcome s.
    ap (λ (numbers : ℕ → ℕ). meaning (element numbers) (plan_reads plan) (poisoning outcome) (length plan.frames)) (number_at_own plan activations input s) ∙ ap (meaning stream_element (plan_reads plan) (poisoning outcome)) s.frames_are_activations ∙ meaning_of_same_reads stream_element (plan_reads plan) (stream_reads activations input) (poisoning outcome) (length activations) s.cells_are_window_elements

pub returns-clause-sink : goal.returns-clause-sink
returns-clause-sink c = λ plan activations input state s.
    ap (λ (numbers : ℕ → ℕ). map (element numbers state) (plan_reads plan (length plan.frames))) (number_at_own plan activations input s) ∙ ap (λ n. map (stream_element state) (plan_reads plan n)) s.frames_are_activations ∙ ap (map (stream_element state)) s.sink_is_the_output
