use Rattle.std.proofs.Common.{◌<◌, arith, length}
use Rattle.osview_sentences.specs.Contexts.{say_over}
use Rattle.osview_sentences.proofs.Counted.{left_behind, line_told}
use Rattle.osview_sentences.proofs.report.add_lines.Goals as goal

pub loop-sentence-preserved : goal.loop-sentence-preserved
loop-sentence-preserved c =
    let all = c.args.all.now in
    let k = c.loop-sentence.sentence-index in
    let lt : k < length all = omega (arith, c.loop-sentence-test.true) in
    record {
      told =
          line_told (say_over c.args.over.now.run) all k _ c.loop-sentence.tally
          c.args.told.now c.loop-sentence.told c.add_told_for.new.told c.take-count.result lt c.loop-sentence.invariant.told c.loop-sentence.invariant.rest
          c.take-count.ensures.taken c.in_ok-add_told_for.ensures;
      rest = λ s. left_behind all k _ s lt (c.loop-sentence.invariant.rest s) (c.take-count.ensures.others s);
    }
