-- Where a run in control order stands.
use Rattle.std.specs.Prelude.{◌≡◌, ℕ, ◌≤◌, List, ◌∷◌, ◌++◌, [], All, drop, length, map, sum_by}
use Rattle.epoch_run_bodies.specs.Frames.{frame_outcome}
use Rattle.epoch_run_in_order_laws.specs.Apart.{HaveEndedFrom, HoldWritten}
use Rattle.epoch_run_in_order_laws.specs.InOrder.{HaveAllEnded, HoldElements}
use Rattle.flow_core_laws.specs.Limits.{last_activation, positions_limit}
use Rattle.flow_core_laws.specs.Outcome.{State, ends_of, outcome_of}
use Rattle.flow_core_laws.specs.Poisoning.{least_root, values_of}
use Rattle.flow_core_laws.specs.declared.elem.Elem.{Elem}
use Rattle.flow_core_laws.specs.declared.outcome.Outcome.{Outcome}
use Rattle.flow_core_laws.specs.declared.task_end.TaskEnd.TheVariants.{Poisoned}
use Rattle.std.specs.Option.{option_map_or}
use Rattle.os_code.specs.Outcomes.{code_outcome}
use Rattle.flow_core_laws.specs.Streams.{stream_meaning}
use Rattle.flow_core_laws.specs.Window.{windows_of}
use Rattle.flow_core_laws.specs.declared.activation.Activation.{Activation}
use Rattle.os_code.specs.Codes.{parts_of}
use Rattle.os_code.specs.Tasks.{Fits}
use Rattle.os_code.specs.declared.code.Code.{Code}
use Rattle.os_code.specs.declared.parts.Parts.{Parts}
use Rattle.stream_match_layouts.specs.Layout.{IsLayout, IsLayoutOf, span_of}
use Rattle.stream_match_layouts.specs.declared.layout.Layout.{Layout}
use Rattle.stream_match_layouts.specs.declared.span.Span.{Span}
use Rattle.task_vm.specs.Space.{IsMadeFor}
use Rattle.epoch_run_in_order.specs.declared.in_order.InOrder.{InOrder}

-- what activations mean, with the bodies of all that will come
abbrev pub meaning_in : Parts → (all before : List Activation) → (input : List ℕ) → (budget : ℕ) → State
meaning_in code all before input budget = stream_meaning before input (frame_outcome code all budget)

-- what an activation makes of its inputs: poisoned by the least root among them, or what its task makes of the values
abbrev pub outcome_by : Parts → Activation → List Elem → (budget : ℕ) → Outcome
outcome_by code activation elements budget =
    option_map_or (λ root. outcome_of (Poisoned root) []) (least_root elements) (code_outcome code activation (values_of elements) budget)

-- The activations before have run in order: each has ended as it means among all, and the streams hold what they wrote.
pub record StandsBehind (code : Parts) (all before : List Activation) (input : List ℕ) (budget : ℕ) (order : InOrder) : Type 0 where
  pub ends_are : order.ends ≡ ends_of (meaning_in code all before input budget)
  pub have_ended : HaveAllEnded (meaning_in code all before input budget)
  pub hold : HoldElements before input (meaning_in code all before input budget) order.streams.elements order.streams.firsts

-- The activations from a number on have run apart from those before it: each has the end that it has among all so far, whether or not those
-- before have ended, and the streams hold what they wrote.
pub record StandsApart (code : Parts) (all : List Activation) (from : ℕ) (before : List Activation) (input : List ℕ) (budget : ℕ)
    (order : InOrder) : Type 0 where
  pub within : from ≤ length before
  pub ends_are : order.ends ≡ drop from (ends_of (meaning_in code all before input budget))
  pub have_ended : HaveEndedFrom from (meaning_in code all before input budget)
  pub hold : HoldWritten from before input (meaning_in code all before input budget) order.streams.elements order.streams.firsts

-- a run is made for a code: it can run its tasks, and has its streams
pub record IsReady (code : Code) (order : InOrder) : Type 0 where
  pub scratch : IsMadeFor (parts_of code) order.scratch
  pub streams : length order.streams.elements ≡ code.streams
  pub firsts : length order.streams.firsts ≡ code.streams

-- activations are those of a layout behind its first `count`, to its end, and fit the code
pub record AreLast (code : Code) (layout : Layout) (count : ℕ) (next : List Activation) : Type 0 where
  pub whole : IsLayout layout
  pub streams : length layout.writers ≡ code.streams
  pub in_layout : List Activation
  pub is_of : IsLayoutOf layout in_layout
  pub within : count ≤ length in_layout
  pub are_next : next ≡ drop count in_layout
  pub fit : All (Fits (parts_of code)) next

-- spans are those of the next activation, behind `count` others
pub record AreNext (count : ℕ) (next : Activation) (spans : List Span) : Type 0 where
  pub before : List Activation
  pub as_many : length before ≡ count
  pub are_theirs : spans ≡ map span_of (windows_of (before ++ next ∷ []) count)
  pub early : count ≤ last_activation
  pub few : sum_by (λ (s : Span). s.count) spans ≤ positions_limit
