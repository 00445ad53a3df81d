use Rattle.std.proofs.Common.{◌++◌, codes}
use Rattle.std.specs.Fmt.{decimal}
use Rattle.osview_sentences.proofs.Joined.{behind}
use Rattle.osview_sentences.proofs.wording.add_giver.Goals as goal

pub returns : goal.returns
returns c =
    let who = codes " from activation " ++ decimal c.args.giver in
    let old = c.args.told.now in
    behind old (who ++ codes ", which ") c.args.fares.now (behind old who (codes ", which ") c.in_ok-field.ensures c.in_ok-add.ensures) c.in_ok-add-2.ensures
