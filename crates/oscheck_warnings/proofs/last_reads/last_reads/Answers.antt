use Rattle.std.proofs.Common.{cond, Some, Option, ap, ◌∙◌}
use Rattle.oscheck_warnings.specs.LastReads.{last_read, is_cell}
use Rattle.oscheck_warnings.specs.Meanings.{what_at}
use Rattle.oscheck_warnings.specs.declared.last_reads.Cell.{Cell}
use Rattle.oscheck_warnings.proofs.SoFar.{one_more_read_at}
use Rattle.oscheck_warnings.proofs.last_reads.last_reads.Goals as goal

pub loop-index-preserved : goal.loop-index-preserved
loop-index-preserved c =
    one_more_read_at c.args.list.now (what_at c.args.meanings.now) c.loop-index.last c.add_if.new.self c.loop-index.index _ c.loop-index.invariant c.loop-index-test.true
    (λ task slot. c.in_ok-add_if.ensures task slot ∙ ap (λ (o : Option Cell). cond (is_cell o task slot) (Some c.loop-index.index) (last_read c.loop-index.last task slot)) c.read_by.ensures)
