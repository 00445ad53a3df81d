use Rattle.std.proofs.Common.{◌≡◌, ℕ, List, true}
use Rattle.io_tests.proofs.files.gives.Given as goal

abbrev pub invariant-loop-call : goal.invariant-loop-call
invariant-loop-call g l = (number : ℕ) (name : List ℕ) → g.F.Files.may l.files number name ≡ true
