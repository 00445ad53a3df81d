use Rattle.os_ast.proofs.Unique.{leveled_once}
use Rattle.os_ast.proofs.laws.leveled_in_one_way.Goals as goal

pub returns : goal.returns
returns c p = leveled_once p
