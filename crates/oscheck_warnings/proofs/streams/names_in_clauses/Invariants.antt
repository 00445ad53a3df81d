use Rattle.oscheck_warnings.proofs.Named.{AreMarked}
use Rattle.oscheck_warnings.proofs.streams.names_in_clauses.Given as goal

abbrev pub invariant-loop-place : goal.invariant-loop-place
invariant-loop-place l = AreMarked l.tokens l.word l.marks.items l.clause_place l.place
