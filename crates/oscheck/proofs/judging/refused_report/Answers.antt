use Rattle.std.proofs.Common.{subst}
use Rattle.front_end.specs.Codes.{refusal_code}
use Rattle.front_end.specs.Texts.{IsRefused}
use Rattle.front_end.specs.declared.text_refusal.TextRefusal.{TextRefusal}
use Rattle.oscheck.specs.Reports.{has_fault, is_no_program}
use Rattle.oscheck.proofs.judging.refused_report.Goals as goal

pub returns-in_ok-report-in-Fault-clause-report : goal.returns-in_ok-report-in-Fault-clause-report
returns-in_ok-report-in-Fault-clause-report c =
    has_fault c.in-Fault.fault c.args.line c.in_ok-fault_found-in-Fault.field-0
    (subst (λ (r : TextRefusal). IsRefused c.args.named.text.now (refusal_code r) c.args.line) c.in-Fault.is c.requires.refused)
    c.in_ok-fault_found-in-Fault.ensures c.in_ok-report-in-Fault.ensures.findings c.in_ok-report-in-Fault.ensures.notes

pub returns-in_ok-report-in-NoProgram-clause-report : goal.returns-in_ok-report-in-NoProgram-clause-report
returns-in_ok-report-in-NoProgram-clause-report c =
    is_no_program c.args.line c.in_ok-stop_found-in-NoProgram.field-0
    (subst (λ (r : TextRefusal). IsRefused c.args.named.text.now (refusal_code r) c.args.line) c.in-NoProgram.is c.requires.refused)
    c.in_ok-stop_found-in-NoProgram.ensures c.in_ok-report-in-NoProgram.ensures.findings c.in_ok-report-in-NoProgram.ensures.notes
