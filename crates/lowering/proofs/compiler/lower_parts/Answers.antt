use Rattle.lowering_draft.proofs.ProgramLaws.{few_instrs, is_tiled, stands_for}
use Rattle.lowering.proofs.compiler.lower_parts.Goals as goal

pub returns-clause-stands : goal.returns-clause-stands
returns-clause-stands c = stands_for c.args.checked.now c.in_ok-made.made c.made_parts.result c.in_ok-made.ensures c.made_parts.ensures

pub returns-clause-tiled : goal.returns-clause-tiled
returns-clause-tiled c = is_tiled c.args.checked.now c.in_ok-made.made c.made_parts.result c.in_ok-made.ensures c.made_parts.ensures

pub returns-clause-few : goal.returns-clause-few
returns-clause-few c = few_instrs c.args.checked.now c.in_ok-made.made c.made_parts.result c.in_ok-made.ensures c.made_parts.ensures
