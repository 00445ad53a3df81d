use Rattle.std.proofs.Common.{◌<◌, ℕ, Option}
use Rattle.os_ast.specs.Trees.{ProgramTree}
use Rattle.os_ast.specs.declared.names.What.{What}
use Rattle.oscheck.specs.Marks.{MarkPlaces}
use Rattle.oscheck.specs.Warned.{Holds, rank}
use Rattle.oscheck_reports.specs.declared.warning.Warning.{Warning}
use Rattle.oscheck.proofs.warning.first_at.Given as goal

-- those so far don't hold
abbrev pub invariant-loop-number : goal.invariant-loop-number
invariant-loop-number l = (p : ProgramTree) (means : ℕ → Option What) → MarkPlaces p means l.uses
    → (check : Warning) → rank check < l.number → Holds l.text l.tokens p means check l.place → ⊥
