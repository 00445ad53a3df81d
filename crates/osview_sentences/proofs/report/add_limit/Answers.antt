use Rattle.std.proofs.Common.{◌++◌, codes}
use Rattle.osview_sentences.specs.Report.{created_text, limit_text}
use Rattle.osview_sentences.proofs.Joined.{behind, behind_as}
use Rattle.osview_sentences.proofs.report.add_limit.Goals as goal

pub returns : goal.returns
returns c =
    let stopped = codes "main was stopped" in
    let created = created_text c.args.count in
    let old = c.args.told.now in
    behind_as old (stopped ++ created) (limit_text c.args.limit) (behind old stopped created c.in_ok-add.ensures c.in_ok-add_created.ensures) c.in_ok-add-2.ensures
    c.limit_text.ensures
