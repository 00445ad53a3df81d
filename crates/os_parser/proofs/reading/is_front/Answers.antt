use Rattle.std.proofs.Common.{sym, refl}
use Rattle.os_ast.specs.Views.{program_tree}
use Rattle.os_parser.proofs.Fronts.{means-begun, told}
use Rattle.os_parser.proofs.reading.is_front.Goals as goal

pub returns-in-Err-Syntax : goal.returns-in-Err-Syntax
returns-in-Err-Syntax c =
    told c.args.tokens.now c.in-Err-Syntax.place c.is_end.result (sym c.is_end.ensures)
    (c.in-Err-Syntax.ensures.refused c.in-Err-Syntax.place c.in-Err-Syntax.field-0-1 (cc (c.in-Err-Syntax.is, c.in-Err-Syntax.field-0-is))).at

pub returns : goal.returns
returns c = ((λ _. means-begun c.args.tokens.now (program_tree c.in-Ok.program) c.in-Ok.ensures.found), (λ _. refl))
