-- What is kept of a run gives the elements of the meaning.
use Rattle.std.proofs.Common.{◌≡◌, ◌∙◌, ◌+◌, ◌-◌, ℕ, [], List, Option, None, Some, ap, refl, sym, get_or}
use Rattle.std.specs.Prelude.{option_and_then}
use Rattle.std.specs.Option.{option_map, option_map_or}
use Rattle.flow_core_laws.specs.Element.{fed, nobody, output_at, output_element, element_written}
use Rattle.flow_core_laws.specs.Outcome.{State, outcome_at, root_of}
use Rattle.flow_core_laws.specs.Streams.{own_number, produced_source, stream_element}
use Rattle.flow_core_laws.specs.Window.{Window, producer}
use Rattle.flow_core_laws.specs.declared.activation.Activation.{Activation}
use Rattle.flow_core_laws.specs.declared.elem.Elem.{Elem}
use Rattle.flow_core_laws.specs.declared.outcome.Outcome.{Outcome}
use Rattle.flow_core_laws.specs.declared.task_end.TaskEnd.{TaskEnd}
use Rattle.flow_core_laws.specs.declared.task_end.TaskEnd.TheVariants.{Done, OverBudget, Poisoned, Trapped}
use Rattle.flow_core_laws.proofs.There.{end_of}
use Rattle.osview_outcomes.specs.Outcomes.{AreOutcomesOf}
use Rattle.osview_outcomes.specs.declared.kept.Outcomes.{Outcomes}
use Rattle.osview_stream.specs.Given.{element_given}
use Rattle.stream_match_layouts.specs.Layout.{span_of}
use Rattle.stream_match_layouts.specs.declared.span.Span.{Span}

module _ (outcomes : Outcomes) (state : State) (are : AreOutcomesOf outcomes state) where
  -- what an activation gives by its end
  abbrev by_end : (a place : ℕ) → TaskEnd → Option Elem
  by_end a place end = output_element (root_of a end) (get_or outcomes.outputs a []) place

  -- an activation gives what the meaning says
  pub given_as_meant : (a place : ℕ) → element_given outcomes a place ≡ output_at own_number state a place
  given_as_meant a place =
      ap (λ ends. option_and_then (by_end a place) (get_or ends a None)) are.ends
      ∙ ap (option_and_then (by_end a place)) (end_of state a)
      ∙ by_outcome (outcome_at state a) refl
    where
      same : (o : Outcome) → outcome_at state a ≡ Some o → (end : TaskEnd) → o.end ≡ end
          → output_element (root_of a end) (get_or outcomes.outputs a []) place ≡ output_element (root_of a end) o.outputs place
      same o is Done done = ap (λ vs. output_element None vs place) (are.outputs a o is done)
      same o is (Trapped code line) e = refl
      same o is OverBudget e = refl
      same o is (Poisoned root) e = refl

      by_outcome : (o : Option Outcome) → outcome_at state a ≡ o
          → option_and_then (by_end a place) (option_map (λ (q : Outcome). q.end) o) ≡ option_and_then (λ (q : Outcome). element_written a q place) o
      by_outcome None is = refl
      by_outcome (Some o) is = same o is o.end refl

  -- the element of a position by its producer
  abbrev by_source : (position : ℕ) → Option Window → Option Elem
  by_source position o = stream_element state (option_map_or (λ (w : Window). fed w.activation (w.offset + (position - w.first))) o nobody)

  -- the element of a produced position, by the span of its producer
  pub produced : (activations : List Activation) (stream position : ℕ) (span : Span) → Some span ≡ option_map span_of (producer activations stream position)
      → element_given outcomes span.frame (span.offset + (position - span.first)) ≡ stream_element state (produced_source activations stream position)
  produced activations stream position span is = by (producer activations stream position) refl is
    where
      by : (o : Option Window) → producer activations stream position ≡ o → Some span ≡ option_map span_of o
          → element_given outcomes span.frame (span.offset + (position - span.first)) ≡ stream_element state (produced_source activations stream position)
      by None p h = absurd cc
      by (Some w) p h =
          let at : span ≡ span_of w = cc in
          ap (λ (s : Span). element_given outcomes s.frame (s.offset + (position - s.first))) at
          ∙ given_as_meant w.activation (w.offset + (position - w.first))
          ∙ sym (ap (by_source position) p)

  pub unproduced : (activations : List Activation) (stream position : ℕ) → None ≡ option_map span_of (producer activations stream position)
      → None ≡ stream_element state (produced_source activations stream position)
  unproduced activations stream position is = by (producer activations stream position) refl is
    where
      by : (o : Option Window) → producer activations stream position ≡ o → None ≡ option_map span_of o
          → None ≡ stream_element state (produced_source activations stream position)
      by None p h = sym (ap (by_source position) p)
      by (Some w) p h = absurd cc
