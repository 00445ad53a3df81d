use Rattle.std.proofs.Common.{[], arith, bytes_eq, sym, ◌∙◌}
use Rattle.os_lexer.proofs.Positions.{position_here, position_nowhere}
use Rattle.os_lexer.proofs.words.index_in.Goals as goal

pub returns-then-eq : goal.returns-then-eq
returns-then-eq c =
    sym (position_here (λ row. bytes_eq c.args.name.now row.now) c.args.table.now (record { ref_ptr = (0, 0); now = [] }) c.loop-index.index (omega arith) (λ k below. c.loop-index.invariant k _ below) (sym c.eq.ensures ∙ c.if-eq.true))

pub returns : goal.returns
returns c =
    sym (position_nowhere (λ row. bytes_eq c.args.name.now row.now) c.args.table.now (record { ref_ptr = (0, 0); now = [] }) (λ k below. c.loop-index.invariant k _ (omega arith)))
