use Rattle.std.proofs.Common.{◌<◌, arith, length}
use Rattle.osview_sentences.specs.Sentences.{is_alike}
use Rattle.osview_sentences.proofs.Counted.{one_more_counted}
use Rattle.osview_sentences.proofs.tally.Tally.of.Goals as goal

pub loop-sentence-preserved : goal.loop-sentence-preserved
loop-sentence-preserved c = λ s.
    let lt : c.loop-sentence.sentence-index < length c.args.all.now = omega (arith, c.loop-sentence-test.true) in
    one_more_counted (is_alike s) c.args.all.now c.loop-sentence.sentence-index _ lt (c.loop-sentence.invariant s) (c.in_ok-add.ensures s)
