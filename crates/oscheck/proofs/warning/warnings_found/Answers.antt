use Rattle.std.proofs.Common.{◌+◌, [], List, arith, subst, sym, take}
use Rattle.oscheck.specs.Findings.{EachTold, no_more}
use Rattle.oscheck.specs.Warned.{IsWarningOf}
use Rattle.oscheck_reports.specs.declared.finding.Finding.{Finding}
use Rattle.oscheck.proofs.Told.{one_more}
use Rattle.oscheck.proofs.warning.warnings_found.Goals as goal

pub loop-number-init : goal.loop-number-init
loop-number-init c = subst (λ (fs : List Finding). EachTold (IsWarningOf c.args.text.now) [] fs) (sym c.new-findings.ensures.items) no_more

pub loop-number-preserved : goal.loop-number-preserved
loop-number-preserved c =
    let Tells = IsWarningOf c.args.text.now in
    subst (λ (fs : List Finding). EachTold Tells (take (c.loop-number.number + 1) c.args.all.now) fs) (sym c.in_ok-push.ensures.items)
    (one_more Tells c.args.all.now c.loop-number.number _ c.loop-number.findings.items c.in_ok-warning_found.field-0 (omega (arith, c.min-number-end.ensures)) c.loop-number.invariant c.in_ok-warning_found.ensures)
