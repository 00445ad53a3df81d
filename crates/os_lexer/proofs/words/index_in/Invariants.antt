use Rattle.std.proofs.Common.{◌≡◌, ◌<◌, ℕ, false}
use Rattle.std.specs.Prelude.{bytes_eq, slice_index_or}
use Rattle.std.specs.Borrow.{Bor}
use Rattle.std.specs.Prelude.{List}
use Rattle.os_lexer.proofs.words.index_in.Given as goal

abbrev pub invariant-loop-index : goal.invariant-loop-index
invariant-loop-index l = (k : ℕ) (d : Bor (List ℕ)) → k < l.index → bytes_eq l.name (slice_index_or l.table k d).now ≡ false
