use Rattle.os_ast.proofs.Parens.{paren-differs}
use Rattle.os_ast.proofs.laws.parentheses_are_spelled.Goals as goal

pub returns : goal.returns
returns c = paren-differs
