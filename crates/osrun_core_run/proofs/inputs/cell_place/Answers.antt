use Rattle.std.proofs.Common.{◌-◌, ap, arith}
use Rattle.flow_core_laws.specs.declared.plan.FramePlan.{FramePlan}
use Rattle.osrun_core_run.proofs.InputPlaces.{has_place}
use Rattle.osrun_core_run.proofs.inputs.cell_place.Goals as goal

pub input_place-requires-clause-activation : goal.input_place-requires-clause-activation
input_place-requires-clause-activation c =
    let run = c.args.planned.now in
    let first = ap (λ (f : FramePlan). f.cell) c.frame-first.ensures in
    (has_place run.plan run.control.activations c.requires.stands.0 c.requires.stands.1 run.layout c.requires.laid c.args.frame (c.args.cell - c.frame-first.result.cell) c.requires.frame
    (omega (arith, c.requires.cell.0, c.requires.cell.1, first))).0

pub input_place-requires-clause-exists : goal.input_place-requires-clause-exists
input_place-requires-clause-exists c =
    let run = c.args.planned.now in
    let first = ap (λ (f : FramePlan). f.cell) c.frame-first.ensures in
    (has_place run.plan run.control.activations c.requires.stands.0 c.requires.stands.1 run.layout c.requires.laid c.args.frame (c.args.cell - c.frame-first.result.cell) c.requires.frame
    (omega (arith, c.requires.cell.0, c.requires.cell.1, first))).1

pub returns : goal.returns
returns c = record {
  input = c.args.cell - c.frame-first.result.cell;
  is_cell = let first = ap (λ (f : FramePlan). f.cell) c.frame-first.ensures in omega (arith, c.requires.cell.0, first);
  is_place = c.input_place.ensures c.args.planned.now.control.activations c.requires.laid;
}
