use Rattle.std.proofs.Common.{◌≡◌, ◌-◌, ◌∷◌, ◌++◌, ◌∙◌, [], ap, arith, length, map}
use Rattle.std.specs.List.{range_with_len}
use Rattle.epoch_run_in_order.specs.Behind.{blank_on}
use Rattle.epoch_run_in_order.proofs.StreamsBehind.{blank_more}
use Rattle.epoch_run_in_order.proofs.streams_behind.add_blanks.Goals as goal

pub loop-stream-preserved : goal.loop-stream-preserved
loop-stream-preserved c = record {
  few = omega (arith, c.loop-stream-test.true, c.len-stream-end.ensures);
  added = blank_more c.args.layout.now c.loop-stream.stream c.args.elements.now c.loop-stream.elements c.push.new.self c.loop-stream.auto.stream
      c.loop-stream.invariant.added (c.in_ok-push.ensures.ok ∙ ap (λ b. c.loop-stream.elements ++ b ∷ []) c.in_ok-blank.ensures);
}

pub returns : goal.returns
returns c =
    let few = c.loop-stream.invariant.few in
    let low = c.loop-stream.auto.stream in
    let past = c.loop-stream-test.false in
    let len = c.len-stream-end.ensures in
    c.loop-stream.invariant.added
    ∙ ap (λ k. c.args.elements.now ++ map (blank_on c.args.layout.now) (range_with_len 2 k))
    (let e : c.loop-stream.stream - 2 ≡ length c.args.layout.now.writers - 2 = omega (arith, few, low, past, len) in e)
