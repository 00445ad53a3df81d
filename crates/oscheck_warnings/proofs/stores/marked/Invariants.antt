use Rattle.oscheck_warnings.specs.LastReads.{is_dead, last_read}
use Rattle.oscheck_warnings.specs.Meanings.{what_at}
use Rattle.oscheck_warnings.specs.declared.access.Access.{Access}
use Rattle.oscheck_warnings.proofs.Marked.{AreMarked}
use Rattle.oscheck_warnings.proofs.stores.marked.Given as goal

abbrev pub invariant-loop-index : goal.invariant-loop-index
invariant-loop-index l = AreMarked l.list (λ (a : Access). a.place) (is_dead (last_read l.last) (what_at l.meanings)) l.places l.index
