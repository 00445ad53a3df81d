use Rattle.std.proofs.Common.{◌++◌, codes}
use Rattle.std.specs.Fmt.{decimal}
use Rattle.osview_sentences.proofs.Joined.{behind}
use Rattle.osview_sentences.proofs.report.add_likewise.Goals as goal

pub returns : goal.returns
returns c = behind c.args.told.now (codes "; likewise " ++ decimal c.args.more) (codes " more of this task") c.in_ok-field.ensures c.in_ok-add.ensures
