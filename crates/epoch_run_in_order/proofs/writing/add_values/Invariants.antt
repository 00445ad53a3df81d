use Rattle.std.proofs.Common.{◌≡◌, ◌++◌, Some, map, take}
use Rattle.flow_core_laws.specs.declared.elem.Elem.TheVariants as elem
use Rattle.epoch_run_in_order.proofs.writing.add_values.Given as goal

abbrev pub invariant-loop-value : goal.invariant-loop-value
invariant-loop-value l = l.elements ≡ l.initial.elements ++ map (λ value. Some (elem.Value value)) (take l.value-index l.values)
