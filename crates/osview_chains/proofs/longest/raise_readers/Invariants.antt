use Rattle.osview_chains.specs.Behind.{Raises}
use Rattle.osview_chains.proofs.longest.raise_readers.Given as goal

-- the pieces before this one were gone through
abbrev pub invariant-loop-number : goal.invariant-loop-number
invariant-loop-number l = Raises l.plan l.piece l.number l.frame l.least l.fn.behind l.behind
