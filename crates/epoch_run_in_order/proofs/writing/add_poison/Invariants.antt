use Rattle.std.proofs.Common.{◌≡◌, ◌++◌, Some}
use Rattle.std.specs.Prelude.{replicate}
use Rattle.flow_core_laws.specs.declared.elem.Elem.TheVariants as elem
use Rattle.epoch_run_in_order.proofs.writing.add_poison.Given as goal

abbrev pub invariant-loop : goal.invariant-loop
invariant-loop l = l.elements ≡ l.initial.elements ++ replicate l.counter (Some (elem.Poison l.root))
