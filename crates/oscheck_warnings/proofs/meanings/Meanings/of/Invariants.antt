use Rattle.std.proofs.Common.{◌≡◌, ℕ, drop}
use Rattle.oscheck_warnings.specs.Meanings.{what_at, meaning_at, meaning_behind}
use Rattle.oscheck_warnings.proofs.meanings.Meanings.of.Given as goal

abbrev pub invariant-loop-name : goal.invariant-loop-name
invariant-loop-name l = (place : ℕ) → meaning_behind (what_at l.meanings place) (drop l.name-index l.names) place ≡ meaning_at l.names place
