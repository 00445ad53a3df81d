use Rattle.std.proofs.Common.{sym, ◌∙◌}
use Rattle.std.proofs.lemmas.List.{take_rest}
use Rattle.std.proofs.lemmas.Result.{err_from_is_err_and}
use Rattle.os_object.proofs.Parts.{no_items, refused-map}
use Rattle.os_object.proofs.reading_lists.read_site.Goals as goal

pub returns-in_err-items-clause-err : goal.returns-in_err-items-clause-err
returns-in_err-items-clause-err c =
    let p = err_from_is_err_and c.from_residual-in_err-items.result c.from_residual-in_err-items.ensures.1 in
    rw (p.1, p.2) (refused-map c.in_err-items.field-0.0 _ _ c.in_err-items.ensures.err (no_items c.args.numbers.now _ _ (sym (take_rest c.args.numbers.now 2) ∙ c.in_ok-captured.ensures.ok)))
