-- What an activation reads.
use Rattle.std.specs.Prelude.{◌≡◌, ℕ, ℤ, not, List, Option, Some, map, filter, take}
use Rattle.std.specs.List.{range_with_len, flat_map}
use Rattle.flow_core_laws.specs.Poisoning.{least_root, values_of}
use Rattle.flow_core_laws.specs.Round.{gathered}
use Rattle.flow_core_laws.specs.declared.elem.Elem.{Elem}
use Rattle.stream_match_layouts.specs.declared.span.Span.{Span}
use Rattle.epoch_run_in_order.specs.Streams.{held_at}
use Rattle.epoch_run_in_order.specs.declared.inputs.Inputs.{Inputs}
use Rattle.epoch_run_in_order.specs.declared.streams.Streams.{Streams}

-- the elements that a span covers, and those that spans read
abbrev pub covered : Streams → List ℕ → Span → List (Option Elem)
covered streams input span = map (held_at streams input span.stream) (range_with_len span.first span.count)

abbrev pub covered_by : Streams → List ℕ → List Span → List (Option Elem)
covered_by streams input spans = flat_map (covered streams input) (filter (λ (s : Span). not s.write) spans)

-- the values that were read
abbrev pub values_in : Inputs → List ℤ
values_in inputs = take inputs.count inputs.places.items

-- elements that all are there were read: their values, and the least root among them
pub record AreRead (cells : List (Option Elem)) (inputs : Inputs) : Type 0 where
  pub elements : List Elem
  pub are_there : gathered cells ≡ Some elements
  pub root_is : inputs.root ≡ least_root elements
  pub values_are : values_in inputs ≡ values_of elements
