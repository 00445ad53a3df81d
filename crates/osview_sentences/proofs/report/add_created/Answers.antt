use Rattle.std.proofs.Common.{◌++◌, codes}
use Rattle.std.specs.Fmt.{decimal}
use Rattle.osview_text.specs.Words.{activation_word}
use Rattle.osview_sentences.proofs.Joined.{behind_as}
use Rattle.osview_sentences.proofs.report.add_created.Goals as goal

pub returns : goal.returns
returns c =
    let count = c.args.count in
    behind_as c.args.told.now (codes " after " ++ decimal count) (activation_word count) c.in_ok-field.ensures c.in_ok-add.ensures c.activation_word.ensures
