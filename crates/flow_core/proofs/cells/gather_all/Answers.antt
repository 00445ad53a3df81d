use Rattle.std.proofs.Common.{◌≡◌, ◌++◌, ◌∷◌, [], false, None, get_or, ap, arith}
use Rattle.std.specs.Prelude.{is_some}
use Rattle.std.proofs.lemmas.Grind.{common_steps}
use Rattle.flow_core_laws.proofs.Gathering.{is_there}
use Rattle.flow_core_laws.specs.declared.elem.Elem.TheVariants.{Value, Poison}
use Rattle.flow_core.proofs.Gathering.{AreGathered-as_value, AreGathered-as_poison}
use Rattle.flow_core.proofs.cells.gather_all.Goals as goal
use Rattle.flow_core.proofs.cells.gather_all.Goals.{in-Some-Value+in_ok-push-in-Some-Value, in-Some-Poison, in-None}

pub loop-cell-preserved : goal.loop-cell-preserved
loop-cell-preserved c = elim c.match-cell.branch [
  | in-Some-Value+in_ok-push-in-Some-Value w ↦ (
      let is : w.in-Some-Value.field-0 ≡ Value w.in-Some-Value.value = first_of (cc, grind (arith, common_steps)) in
      let after : c.match-cell.into.items ≡ c.loop-cell.into.items ++ w.in-Some-Value.value ∷ [] = first_of (cc, grind (arith, common_steps)) in
      AreGathered-as_value c.args.cells.now c.loop-cell.cell-index c.loop-cell.least c.match-cell.least c.loop-cell.into.items c.match-cell.into.items w.in-Some-Value.value w.in-Some-Value.field-0 c.loop-cell-test.true w.in-Some-Value.is is w.least-is after c.loop-cell.invariant)
  | in-Some-Poison w ↦ (
      let is : w.in-Some-Poison.field-0 ≡ Poison w.in-Some-Poison.root = first_of (cc, grind (arith, common_steps)) in
      let after : c.match-cell.into.items ≡ c.loop-cell.into.items = first_of (cc, grind (arith, common_steps)) in
      AreGathered-as_poison c.args.cells.now c.loop-cell.cell-index c.loop-cell.least c.match-cell.least c.loop-cell.into.items c.match-cell.into.items w.in-Some-Poison.root w.lesser.result w.in-Some-Poison.field-0 c.loop-cell-test.true w.in-Some-Poison.is is w.lesser.ensures w.least-is after c.loop-cell.invariant)
  | in-None w ↦ (let h = is_there c.args.cells.now c.loop-cell.cell-index c.requires c.loop-cell-test.true in let z : is_some (get_or c.args.cells.now c.loop-cell.cell-index None) ≡ false = ap is_some w.in-None.is in absurd (cc))
]
