use Rattle.std.proofs.Common.{◌++◌, codes}
use Rattle.std.specs.Fmt.{decimal}
use Rattle.osview_sentences.proofs.Joined.{behind}
use Rattle.osview_sentences.proofs.readers.add_reads.Goals as goal

pub returns : goal.returns
returns c = behind c.args.told.now (codes "; the task in line " ++ decimal c.args.at) (codes " reads this stream too") c.in_ok-field.ensures c.in_ok-add.ensures
