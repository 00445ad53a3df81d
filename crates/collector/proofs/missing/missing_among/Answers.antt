use Rattle.std.proofs.Common.{◌∙◌, sym}
use Rattle.collector.proofs.ReadPlaces.{found_in, none_in_span, none_in_writer}
use Rattle.collector.proofs.missing.missing_among.Goals as goal
use Rattle.collector.proofs.missing.missing_among.Goals.{then-not-span+in_default, else-not-span}

pub returns-in-Some-clause-missing : goal.returns-in-Some-clause-missing
returns-in-Some-clause-missing c = λ activations of.
    sym (c.loop-span.invariant activations of ∙ found_in activations c.args.layout.now.input_len c.args.ends.now.ends c.args.spans.now c.loop-span.span-index _ c.in-Some.position c.loop-span-test.true c.if-not-span.true (c.in-Some.ensures activations of))

pub loop-span-preserved : goal.loop-span-preserved
loop-span-preserved c = λ activations of.
    c.loop-span.invariant activations of
    ∙ elim c.if-not-span.branch [
      | then-not-span+in_default w ↦ none_in_span activations c.args.layout.now.input_len c.args.ends.now.ends c.args.spans.now c.loop-span.span-index _ c.loop-span-test.true w.if-not-span.true (w.in_default.ensures activations of)
      | else-not-span w ↦ none_in_writer activations c.args.layout.now.input_len c.args.ends.now.ends c.args.spans.now c.loop-span.span-index _ c.loop-span-test.true w.if-not-span.false
    ]
