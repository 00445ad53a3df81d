use Rattle.std.proofs.Common.{◌∙◌, ap}
use Rattle.osview_sentences.specs.Report.{limit_words}
use Rattle.osview_sentences.proofs.Codes.{limit_of_code}
use Rattle.osview_sentences.proofs.report.limit_text.Goals as goal

pub returns : goal.returns
returns c = c.limit_words.ensures ∙ ap limit_words c.unwrap_or.ensures
    ∙ limit_of_code c.args.limit c.of_code.result c.of_code.ensures.has_it c.of_code.ensures.finds_it
