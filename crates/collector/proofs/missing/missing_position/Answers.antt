use Rattle.std.proofs.Common.{◌≡◌, ◌∙◌, ◌≤◌, ◌<◌, ◌+◌, Some, max, arith, ap, sym}
use Rattle.collector.proofs.ReadPlaces.{input_gap, input_full}
use Rattle.collector.proofs.missing.missing_position.Goals as goal

pub returns-then-position-end : goal.returns-then-position-end
returns-then-position-end c = λ activations of.
    let span = c.args.span in
    let len = c.args.layout.now.input_len in
    let is : c.max-position.result ≡ max span.first len = c.max-position.ensures ∙ ap (max span.first) c.from-2.ensures in
    let within : max span.first len < span.first + span.count = omega (arith, is, c.from.ensures, c.if-position-end.true) in
    ap Some is ∙ sym (input_gap activations len c.args.ends.now.ends span.stream span.first span.count c.if-span-ne0.false within)

pub returns-else-position-end : goal.returns-else-position-end
returns-else-position-end c = λ activations of.
    let span = c.args.span in
    let len = c.args.layout.now.input_len in
    let is : c.max-position.result ≡ max span.first len = c.max-position.ensures ∙ ap (max span.first) c.from-2.ensures in
    let past : span.first + span.count ≤ max span.first len = omega (arith, is, c.from.ensures, c.if-position-end.false) in
    sym (input_full activations len c.args.ends.now.ends span.stream span.first span.count c.if-span-ne0.false past)
