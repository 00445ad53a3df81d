use Rattle.std.proofs.Common.{◌≤◌, length, arith, sym, ◌∙◌}
use Rattle.std.proofs.lemmas.Bool.Decides.{nat_tests}
use Rattle.std.proofs.lemmas.List.{take_rest}
use Rattle.std.proofs.lemmas.Result.{err_from_is_err_and}
use Rattle.os_object.proofs.Parts.{no_sites, no_instrs, no_end, refused-map}
use Rattle.os_object.proofs.reading.read_parts.Goals as goal

pub returns-in_err-sites-clause-err : goal.returns-in_err-sites-clause-err
returns-in_err-sites-clause-err c =
    let p = err_from_is_err_and c.from_residual-in_err-sites.result c.from_residual-in_err-sites.ensures.1 in
    rw (p.1, p.2) (refused-map c.in_err-sites.field-0.0 _ _ c.in_err-sites.ensures.err (no_sites c.args.numbers.now _ _ (sym (take_rest c.args.numbers.now 2) ∙ c.in_ok-units.ensures.ok)))

pub returns-in_err-instrs-clause-err : goal.returns-in_err-instrs-clause-err
returns-in_err-instrs-clause-err c =
    let p = err_from_is_err_and c.from_residual-in_err-instrs.result c.from_residual-in_err-instrs.ensures.1 in
    rw (p.1, p.2) (refused-map c.in_err-instrs.field-0.0 _ _ c.in_err-instrs.ensures.err
    (no_instrs c.args.numbers.now _ _ _ _ (sym (take_rest c.args.numbers.now 2) ∙ c.in_ok-units.ensures.ok) c.in_ok-sites.ensures.ok))

pub returns-then-not-is_empty-clause-err : goal.returns-then-not-is_empty-clause-err
returns-then-not-is_empty-clause-err c =
    let some : 1 ≤ length c.in_ok-instrs.rest.now = grind (arith, nat_tests) in
    no_end c.args.numbers.now _ _ _ _ _ c.in_ok-instrs.rest.now (sym (take_rest c.args.numbers.now 2) ∙ c.in_ok-units.ensures.ok) c.in_ok-sites.ensures.ok c.in_ok-instrs.ensures.ok.1 some
