use Rattle.oscheck_warnings.specs.LastReads.{AreLastReads}
use Rattle.oscheck_warnings.specs.Meanings.{what_at}
use Rattle.oscheck_warnings.proofs.last_reads.last_reads.Given as goal

abbrev pub invariant-loop-index : goal.invariant-loop-index
invariant-loop-index l = AreLastReads l.list (what_at l.meanings) l.last l.index
