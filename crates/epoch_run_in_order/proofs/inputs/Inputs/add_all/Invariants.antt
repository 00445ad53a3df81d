use Rattle.std.proofs.Common.{◌++◌, List, Option, take}
use Rattle.flow_core_laws.specs.declared.elem.Elem.{Elem}
use Rattle.epoch_run_in_order.specs.Reading.{AreRead}
use Rattle.epoch_run_in_order.proofs.inputs.Inputs.add_all.Given as goal

abbrev pub invariant-loop-element : goal.invariant-loop-element
invariant-loop-element l = (cells : List (Option Elem)) → AreRead cells l.initial.self → AreRead (cells ++ take l.element-index l.elements) l.self
