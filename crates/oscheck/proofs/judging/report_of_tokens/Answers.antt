use Rattle.oscheck.specs.Reports.{is_violated}
use Rattle.oscheck.proofs.judging.report_of_tokens.Goals as goal

pub returns-clause-report : goal.returns-clause-report
returns-clause-report c =
    is_violated c.args.tokens.now c.in_ok-all.all c.requires.cover c.in_ok-all.ensures
    (rw c.as_slice.ensures at c.in_ok-report.ensures.findings)
    (rw c.as_slice.ensures at c.in_ok-report.ensures.notes)
