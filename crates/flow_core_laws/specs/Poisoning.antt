-- What an activation comes to by its inputs, of which some may be poison.
use Rattle.std.specs.Prelude.{ℕ, ℤ, min, List, [], Option, Some, None}
use Rattle.std.specs.Option.{option_map_or}
use Rattle.std.specs.List.{filter_map, reduce}
use Rattle.flow_core_laws.specs.declared.elem.Elem.{Elem}
use Rattle.flow_core_laws.specs.declared.elem.Elem.TheVariants.{Value, Poison}
use Rattle.flow_core_laws.specs.declared.task_end.TaskEnd.TheVariants.{Poisoned}
use Rattle.flow_core_laws.specs.declared.outcome.Outcome.{Outcome}
use Rattle.flow_core_laws.specs.Outcome.{outcome_of}

-- the value of an element that is one
abbrev pub value_of : Elem → Option ℤ
value_of (Value value) = Some value
value_of (Poison _) = None

-- the root of an element that is poison
abbrev pub poison_root : Elem → Option ℕ
poison_root (Value _) = None
poison_root (Poison root) = Some root

-- The values of a list of elements, in order, without those that are poison.
abbrev pub values_of : List Elem → List ℤ
values_of elements = filter_map value_of elements

-- The least root among the poisoned elements of a list, or none where each of them is a value.
abbrev pub least_root : List Elem → Option ℕ
least_root elements = reduce min (filter_map poison_root elements)

-- What an activation comes to: Poisoned with the least root among its inputs, where one of them is poison; else what
-- its body makes of their values.
abbrev pub poisoning : (ℕ → List ℤ → Outcome) → ℕ → List Elem → Outcome
poisoning body activation inputs = option_map_or (λ root. outcome_of (Poisoned root) []) (least_root inputs) (body activation (values_of inputs))
