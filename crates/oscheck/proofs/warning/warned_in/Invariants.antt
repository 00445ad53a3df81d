use Rattle.std.proofs.Common.{ℕ, Option}
use Rattle.os_ast.specs.Trees.{ProgramTree}
use Rattle.os_ast.specs.declared.names.What.{What}
use Rattle.oscheck.specs.Marks.{MarkPlaces}
use Rattle.oscheck.specs.Warned.{AreWarned}
use Rattle.oscheck.proofs.warning.warned_in.Given as goal

-- the places so far were gone over
abbrev pub invariant-loop-place : goal.invariant-loop-place
invariant-loop-place l = (p : ProgramTree) (means : ℕ → Option What) → MarkPlaces p means l.uses → AreWarned l.text l.tokens p means l.place l.all.items
