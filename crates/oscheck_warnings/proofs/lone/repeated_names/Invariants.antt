use Rattle.oscheck_warnings.proofs.Repeated.{AreMarked}
use Rattle.oscheck_warnings.proofs.lone.repeated_names.Given as goal

abbrev pub invariant-loop-place : goal.invariant-loop-place
invariant-loop-place l = AreMarked l.tokens l.marks.items l.place
