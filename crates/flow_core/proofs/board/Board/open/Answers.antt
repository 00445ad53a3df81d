use Rattle.std.proofs.Common.{◌∙◌, None, sym}
use Rattle.std.proofs.lemmas.Simd.{splat_is_map}
use Rattle.flow_core.proofs.board.Board.open.Goals as goal

pub returns-clause-waiting : goal.returns-clause-waiting
returns-clause-waiting c = c.in_ok-ends.ensures ∙ splat_is_map c.args.plan.now.frames c.len.result None (sym c.len.ensures)
