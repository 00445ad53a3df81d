use Rattle.std.proofs.Common.{subst, sym}
use Rattle.front_end.specs.Texts.{IsTrueOf}
use Rattle.front_end.specs.declared.text_error.TextError.{TextError}
use Rattle.front_end.proofs.Answers.{true_fault}
use Rattle.front_end.proofs.reading.read_program.Goals as goal

pub returns-in-Err-clause-refused : goal.returns-in-Err-clause-refused
returns-in-Err-clause-refused c =
    subst (λ (e : TextError). IsTrueOf c.args.text.now e) (sym c.fault_error.ensures)
    (true_fault c.args.text.now c.in-Err.error c.in-Err.ensures.fault)
