use Rattle.std.proofs.Common.{◌∙◌, List, ap, length, subst, sym}
use Rattle.os_ast.specs.Views.{program_tree}
use Rattle.os_ast.specs.declared.names.Resolved.{Resolved}
use Rattle.oscheck.specs.Reports.{accepted_notes, is_accepted}
use Rattle.oscheck.specs.Warned.{AreWarned}
use Rattle.oscheck_warnings.specs.Meanings.{meaning_at}
use Rattle.oscheck.proofs.warning.report_of_tokens.Goals as goal

pub returns-clause-report : goal.returns-clause-report
returns-clause-report c =
    let p = program_tree c.args.checked.now.program in
    let ws = c.in_ok-all.all.items in
    let tokens = c.args.tokens.now in
    is_accepted tokens p ws c.requires.cover c.requires.accepted
    (subst (λ (names : List Resolved). AreWarned c.args.named.text.now tokens p (meaning_at names) (length tokens) ws) c.args.checked.now.named
    (c.in_ok-all.ensures p (meaning_at c.args.checked.now.names) c.in_ok-uses.ensures.places))
    (rw (c.most.ensures, c.deref.ensures.value) at c.in_ok-findings.ensures)
    (c.in_ok-notes.ensures ∙ ap (accepted_notes c.args.manner) (c.len.ensures ∙ sym c.deref.ensures.len ∙ ap length c.deref.ensures.value))
