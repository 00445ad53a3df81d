use Rattle.std.proofs.Common.{◌∙◌, ◌++◌, ap, append_assoc, codes, sym}
use Rattle.std.specs.Fmt.{decimal}
use Rattle.osview_sentences.proofs.Joined.{behind}
use Rattle.osview_sentences.proofs.wording.add_who.Goals as goal

pub returns : goal.returns
returns c =
    let old = c.args.told.now in
    let who = codes "activation " ++ decimal c.args.activation in
    let task = codes ", of the task in line " in
    let at = decimal c.args.line in
    behind old (who ++ task ++ at) (codes ", ")
    (behind old who (task ++ at) c.in_ok-field.ensures c.in_ok-field-2.ensures ∙ ap (λ x. old ++ x) (sym (append_assoc who task at))) c.in_ok-add.ensures
