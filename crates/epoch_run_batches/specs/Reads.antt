-- What an activation reads.
use Rattle.std.specs.Prelude.{◌≡◌, ℕ, ℤ, pos, not, List, ◌++◌, Option, Some, map, filter, length, take}
use Rattle.std.specs.List.{range_with_len, flat_map}
use Rattle.flow_core_laws.specs.Poisoning.{least_root, values_of}
use Rattle.flow_core_laws.specs.Round.{gathered}
use Rattle.flow_core_laws.specs.declared.elem.Elem.{Elem}
use Rattle.flow_core_laws.specs.declared.elem.Elem.TheVariants.{Value}
use Rattle.stream_match_layouts.specs.declared.span.Span.{Span}
use Rattle.epoch_run_batches.specs.Meant.{AreMeant, Run, element_meant}
use Rattle.epoch_run_batches.specs.declared.inputs.Inputs.{Inputs}

-- the elements that a span covers, and those that spans read, as a run means them
abbrev pub covered : Run → Span → List (Option Elem)
covered run span = map (element_meant run span.stream) (range_with_len span.first span.count)

abbrev pub covered_by : Run → List Span → List (Option Elem)
covered_by run spans = flat_map (covered run) (filter (λ (s : Span). not s.write) spans)

-- the element that a byte of the input is
abbrev pub byte_element : ℕ → Option Elem
byte_element byte = Some (Value (pos byte))

-- the values that were read
abbrev pub values_in : Inputs → List ℤ
values_in inputs = take inputs.count inputs.places.items

-- elements that all are values were put into places from a first one on, up to an end
pub record ArePut (first : ℕ) (before : List ℤ) (elements : List (Option Elem)) (end : ℕ) (after : List ℤ) : Type 0 where
  pub values : List ℤ
  pub are_values : elements ≡ map (λ (v : ℤ). Some (Value v)) values
  pub are_put : take end after ≡ take first before ++ values

-- elements that all are there were read: their values, and the least root among them
pub record AreRead (cells : List (Option Elem)) (inputs : Inputs) : Type 0 where
  pub elements : List Elem
  pub are_there : gathered cells ≡ Some elements
  pub root_is : inputs.root ≡ least_root elements
  pub values_are : values_in inputs ≡ values_of elements

-- of what a span covers the first `done` elements were read, after what was read before
abbrev pub AreReadTo : Run → Span → (done : ℕ) → (was now : Inputs) → Type 0
AreReadTo run span done was now =
    (cells : List (Option Elem)) → AreRead cells was → AreRead (cells ++ map (element_meant run span.stream) (range_with_len span.first done)) now

-- as many elements as a span covers, of which each that is there is the one that it covers
pub record AreFound (run : Run) (span : Span) (elements : List (Option Elem)) : Type 0 where
  pub as_many : length elements ≡ span.count
  pub are_meant : AreMeant run span.stream span.first elements
