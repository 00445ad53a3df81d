use Rattle.std.proofs.Common.{ℕ}
use Rattle.os_ast.specs.declared.program.Item.{Item}
use Rattle.oscheck_warnings.specs.Endings.{is_open, place_of}
use Rattle.oscheck_warnings.proofs.Marked.{AreMarked}
use Rattle.oscheck_warnings.proofs.open_ends.marked.Given as goal

abbrev pub invariant-loop-index : goal.invariant-loop-index
invariant-loop-index l = AreMarked l.items place_of (λ (i : Item) (index : ℕ). is_open i) l.places l.index
