use Rattle.std.proofs.Common.{subst, sym}
use Rattle.lowering.proofs.ProgramRuns.{runs_bodies, runs_control}
use Rattle.os_ast.specs.Views.{program_tree}
use Rattle.os_code.specs.Codes.{parts_of}
use Rattle.lowering_relation.specs.Laws.{CodeStandsFor}
use Rattle.lowering.proofs.compiler.lower.Goals as goal

pub returns-clause-bodies : goal.returns-clause-bodies
returns-clause-bodies c a inputs budget fits enough =
    let p = program_tree c.args.checked.now.program in
    let code = parts_of c.in_ok-new.field-0 in
    let stands : CodeStandsFor code p = subst (λ parts. CodeStandsFor parts p) (sym c.in_ok-new.ensures) c.in_ok-parts.ensures.stands in
    runs_bodies code p stands a inputs budget fits enough

pub returns-clause-control : goal.returns-clause-control
returns-clause-control c input_len budget =
    let p = program_tree c.args.checked.now.program in
    let code = parts_of c.in_ok-new.field-0 in
    let stands : CodeStandsFor code p = subst (λ parts. CodeStandsFor parts p) (sym c.in_ok-new.ensures) c.in_ok-parts.ensures.stands in
    runs_control code p stands input_len budget
