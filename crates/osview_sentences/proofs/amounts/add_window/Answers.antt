use Rattle.std.proofs.Common.{◌∙◌, ◌++◌, ap, append_assoc, codes, sym}
use Rattle.std.specs.Fmt.{decimal}
use Rattle.osview_sentences.proofs.Joined.{behind}
use Rattle.osview_sentences.proofs.amounts.add_window.Goals as goal

pub returns : goal.returns
returns c =
    let old = c.args.told.now in
    let size = codes "its window has size " ++ decimal c.args.claim.horizon in
    let and = codes " and burst " in
    let burst = decimal c.args.claim.burst in
    behind old size (and ++ burst) c.in_ok-field.ensures c.in_ok-field-2.ensures ∙ ap (λ x. old ++ x) (sym (append_assoc size and burst))
