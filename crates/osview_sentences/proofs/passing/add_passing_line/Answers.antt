use Rattle.std.proofs.Common.{◌≡◌, ◌∙◌, ◌-◌, ◌++◌, ap, codes, slice_index_or}
use Rattle.osview_sentences.specs.Amounts.{window_text}
use Rattle.osview_sentences.specs.Names.{stream_text}
use Rattle.osview_sentences.specs.Passing.{more_passing_text, passing_count}
use Rattle.osview_sentences.specs.Sentences.{who_text}
use Rattle.osview_sentences.proofs.Joined.{behind, behind_as}
use Rattle.osview_sentences.proofs.passing.add_passing_line.Goals as goal

pub returns : goal.returns
returns c =
    let old = c.args.told.now in
    let run = c.args.run.now in
    let who = who_text c.args.frame (slice_index_or run.lines.now c.args.frame 0) in
    let leaves = codes "leaves elements of stream " in
    let stream = stream_text run.text.now run.names.now c.args.claim.stream in
    let out = codes " out: " in
    let window = window_text c.args.claim in
    let more = more_passing_text (passing_count run.activations.now - 1) in
    let same_more : more_passing_text c.saturating_sub.result ≡ more =
    ap more_passing_text (c.saturating_sub.ensures ∙ ap (λ k. k - 1) c.passing_count-count.ensures) in
    let first : c.add_who.new.told ≡ old ++ who = c.in_ok-add_who.ensures ∙ ap (λ line. old ++ who_text c.args.frame line) c.line_of.ensures in
    behind old (who ++ leaves ++ stream ++ out ++ window ++ more) (codes "\n")
    (behind_as old (who ++ leaves ++ stream ++ out ++ window) more
    (behind old (who ++ leaves ++ stream ++ out) window
    (behind old (who ++ leaves ++ stream) out (behind old (who ++ leaves) stream (behind old who leaves first c.in_ok-add.ensures) c.in_ok-add_stream.ensures) c.in_ok-add-2.ensures)
    c.in_ok-add_window.ensures) c.in_ok-add_more_passing.ensures same_more) c.in_ok-add-3.ensures
