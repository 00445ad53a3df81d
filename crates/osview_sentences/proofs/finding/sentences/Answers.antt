use Rattle.std.proofs.Common.{◌≡◌, ◌∙◌, ◌++◌, ap, arith, length, slice_index_or, sym}
use Rattle.std.specs.List.{flat_map, range_with_len}
use Rattle.osview_sentences.specs.Facts.{sentence_at, sentence_of}
use Rattle.osview_sentences.proofs.Stretches.{one_more}
use Rattle.stream_match_layouts.proofs.Sums.{frames_bound}
use Rattle.stream_match_layouts.proofs.Tallies.{frame_count-is}
use Rattle.osview_sentences.proofs.finding.sentences.Goals as goal

pub overflow_cast-frame-end : goal.overflow_cast-frame-end
overflow_cast-frame-end c = omega (arith, c.len.ensures, frames_bound c.args.layout.now c.requires)

pub loop-frame-preserved : goal.loop-frame-preserved
loop-frame-preserved c = λ activations of.
    let f = sentence_at activations c.args.layout.now.input_len c.args.ends.now.ends c.args.lines.now in
    let k = c.loop-frame.frame in
    let so_far = flat_map f (range_with_len 0 k) in
    c.in_ok-add_sentence.ensures
    ∙ ap (λ xs. xs ++ sentence_of k c.line_of.result c.fact_of-fact.result) (c.loop-frame.invariant activations of)
    ∙ ap (λ at. so_far ++ sentence_of k at c.fact_of-fact.result) c.line_of.ensures
    ∙ ap (λ what. so_far ++ sentence_of k (slice_index_or c.args.lines.now k 0) what) (c.fact_of-fact.ensures activations of)
    ∙ sym (one_more f k)

pub returns : goal.returns
returns c = λ activations of.
    let f = sentence_at activations c.args.layout.now.input_len c.args.ends.now.ends c.args.lines.now in
    let all : c.loop-frame.frame ≡ length activations =
    let count = frame_count-is c.args.layout.now activations of in omega (arith, c.len.ensures, c.loop-frame-test.false, c.loop-frame.auto.frame-end, count) in
    c.loop-frame.invariant activations of ∙ ap (λ n. flat_map f (range_with_len 0 n)) all
