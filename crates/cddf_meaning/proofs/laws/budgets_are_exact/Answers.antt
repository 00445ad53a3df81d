use Rattle.std.proofs.Common.{subst, sym}
use Rattle.cddf_meaning.specs.Moves.{CallsFall}
use Rattle.cddf_meaning.proofs.Exact.{CallsExact, value-exact}
use Rattle.cddf_meaning.proofs.ExactFiles.{calls-exact}
use Rattle.cddf_meaning.proofs.ExactRuns.{run-exact}
use Rattle.cddf_meaning.proofs.Files.{calls-fall}
use Rattle.cddf_meaning.specs.Functions.{file_of}
use Rattle.cddf_meaning.proofs.laws.budgets_are_exact.Goals as goal

pub returns-clause-expressions : goal.returns-clause-expressions
returns-clause-expressions c = λ items. value-exact (file_of items) (calls-exact items)

pub returns-clause-statements : goal.returns-clause-statements
returns-clause-statements c =
    λ items u a s turns is. run-exact u (subst CallsFall (sym is) (calls-fall items)) (subst CallsExact (sym is) (calls-exact items)) a s turns
