use Rattle.std.proofs.Common.{subst, sym}
use Rattle.cddf_meaning.specs.Moves.{CallsFall}
use Rattle.cddf_meaning.proofs.Falls.{value-falls}
use Rattle.cddf_meaning.proofs.Files.{calls-fall}
use Rattle.cddf_meaning.proofs.Keeps.{run-keeps}
use Rattle.cddf_meaning.specs.Functions.{file_of}
use Rattle.cddf_meaning.proofs.laws.turns_never_grow.Goals as goal

pub returns-clause-expressions : goal.returns-clause-expressions
returns-clause-expressions c = λ items. value-falls (file_of items) (calls-fall items)

pub returns-clause-statements : goal.returns-clause-statements
returns-clause-statements c = λ items u a s turns is. run-keeps u (subst CallsFall (sym is) (calls-fall items)) a s turns
