use Rattle.std.proofs.Common.{◌≡◌, ◌-◌, ◌∙◌, [], ap, arith, length, map}
use Rattle.std.specs.List.{flat_map, range_with_len}
use Rattle.std.specs.Prelude.{slice_index, slice_index_or}
use Rattle.epoch_run_in_order_laws.specs.InOrder.{kept_on}
use Rattle.stream_match.specs.Kept.{kept_of}
use Rattle.epoch_run_in_order.proofs.HeldStreams.{stream_more}
use Rattle.epoch_run_in_order.proofs.holding.keep_all.Goals as goal

pub loop-stream-preserved : goal.loop-stream-preserved
loop-stream-preserved c = record {
  few = omega (arith, c.loop-stream-test.true);
  kept = stream_more (λ stream. kept_on stream (slice_index c.args.streams.now.firsts stream) (slice_index_or c.args.streams.now.elements stream []))
      c.loop-stream.stream (map kept_of c.loop-stream.kept.items) (map kept_of c.keep.new.kept.items) c.loop-stream.auto.stream c.loop-stream.invariant.kept c.in_ok-keep.ensures;
}

pub returns : goal.returns
returns c =
    let few = c.loop-stream.invariant.few in
    let low = c.loop-stream.auto.stream in
    let past = c.loop-stream-test.false in
    let all = c.in-Ok.ensures in
    let len = c.len.ensures in
    c.loop-stream.invariant.kept
    ∙ ap (λ k. flat_map (λ stream. kept_on stream (slice_index c.args.streams.now.firsts stream) (slice_index_or c.args.streams.now.elements stream [])) (range_with_len 2 k))
    (let e : c.loop-stream.stream - 2 ≡ length c.args.streams.now.elements - 2 = omega (arith, few, low, past, all, len) in e)
