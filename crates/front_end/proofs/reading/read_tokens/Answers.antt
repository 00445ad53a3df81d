use Rattle.std.proofs.Common.{subst, sym, refl}
use Rattle.front_end.specs.Texts.{IsTrueOf}
use Rattle.front_end.specs.declared.text_error.TextError.{TextError}
use Rattle.os_ast.specs.Views.{program_tree}
use Rattle.front_end.proofs.Answers.{has_rule, true_syntax, true_violation}
use Rattle.front_end.proofs.reading.read_tokens.Goals as goal

pub returns-in-Err-clause-refused : goal.returns-in-Err-clause-refused
returns-in-Err-clause-refused c =
    subst (λ (e : TextError). IsTrueOf c.args.text.now e) (sym c.syntax_error.ensures)
    (true_syntax c.args.text.now c.args.tokens.now _ c.in-Err.error c.requires.cover refl c.in-Err.ensures.refused)

pub check-requires-clause-placed : goal.check-requires-clause-placed
check-requires-clause-placed c = c.marks_have_places.ensures c.args.tokens.now (program_tree c.in-Ok.program) c.in-Ok.ensures.found

pub returns-in-Err-check-clause-refused : goal.returns-in-Err-check-clause-refused
returns-in-Err-check-clause-refused c =
    true_violation c.args.text.now (program_tree c.in-Ok.program) c.in-Err-check.error _
    (c.args.tokens.now, c.requires.cover, c.in-Ok.ensures.found) c.in-Err-check.ensures.refused c.violation_error.ensures

pub violation_error-requires : goal.violation_error-requires
violation_error-requires c = has_rule (program_tree c.in-Ok.program) c.in-Err-check.error c.in-Err-check.ensures.refused
