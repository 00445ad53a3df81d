use Rattle.std.proofs.Common.{◌∙◌, ◌++◌, ap, count_by, length}
use Rattle.collector.specs.Status.{has_done}
use Rattle.collector.specs.Written.{written}
use Rattle.osview_sentences.specs.Contexts.{say_over}
use Rattle.osview_sentences.specs.Facts.{sentences}
use Rattle.osview_sentences.specs.Passing.{passing_lines}
use Rattle.osview_sentences.specs.Report.{heading, sentence_lines}
use Rattle.osview_sentences.proofs.report.report_text.Goals as goal

pub returns : goal.returns
returns c =
    let run = c.args.run.now in
    let control = c.args.control in
    let ends = run.ends.now in
    let activations = run.activations.now in
    let of = c.requires.laid in
    let passing = passing_lines run.text.now run.names.now run.lines.now activations in
    let lines = sentence_lines (say_over run) (sentences activations run.layout.now.input_len ends.ends run.lines.now) in
    let n = c.count_all.result in
    let is = c.count_all.ensures in
    c.into_bytes.ensures ∙ c.in_ok-add_sentences.ensures
    ∙ ap (λ x. x ++ lines) (c.in_ok-add_passing.ensures ∙ ap (λ x. x ++ passing) (c.in_ok-add_heading.ensures ∙ ap (λ x. x ++ heading control n.activations n.done n.there n.claimed) c.new-told.ensures))
    ∙ ap (λ k. heading control k n.done n.there n.claimed ++ passing ++ lines) (is.activations activations of)
    ∙ ap (λ k. heading control (length activations) k n.there n.claimed ++ passing ++ lines) is.done
    ∙ ap (λ k. heading control (length activations) (count_by has_done ends.ends) k n.claimed ++ passing ++ lines) is.there
    ∙ ap (λ k. heading control (length activations) (count_by has_done ends.ends) (length (written ends.output)) k ++ passing ++ lines) (is.claimed activations of)
