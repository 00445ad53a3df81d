use Rattle.std.proofs.Common.{◌∙◌, ◌++◌, ap, append_assoc, codes, sym}
use Rattle.std.specs.Fmt.{decimal}
use Rattle.osview_sentences.proofs.Joined.{behind}
use Rattle.osview_sentences.proofs.amounts.add_share_asked.Goals as goal

pub returns : goal.returns
returns c =
    let old = c.args.told.now in
    let has = codes "; the stream has " ++ decimal c.args.there in
    let of = codes " of the " in
    let asked = decimal c.args.asked in
    behind old (has ++ of ++ asked) (codes " asked for")
    (behind old has (of ++ asked) c.in_ok-field.ensures c.in_ok-field-2.ensures ∙ ap (λ x. old ++ x) (sym (append_assoc has of asked))) c.in_ok-add.ensures
