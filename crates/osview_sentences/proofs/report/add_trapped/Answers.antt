use Rattle.std.proofs.Common.{◌++◌, codes}
use Rattle.std.specs.Fmt.{decimal}
use Rattle.osview_sentences.specs.Report.{created_text}
use Rattle.osview_sentences.specs.Sentences.{trap_text}
use Rattle.osview_sentences.proofs.Joined.{behind, behind_as}
use Rattle.osview_sentences.proofs.report.add_trapped.Goals as goal

pub returns : goal.returns
returns c =
    let at = codes "main trapped in line " ++ decimal c.args.at in
    let created = created_text c.args.count in
    let old = c.args.told.now in
    behind_as old (at ++ created ++ codes ": ") (trap_text c.args.code)
    (behind old (at ++ created) (codes ": ") (behind old at created c.in_ok-field.ensures c.in_ok-add_created.ensures) c.in_ok-add.ensures) c.in_ok-add-2.ensures
    c.trap_text.ensures
