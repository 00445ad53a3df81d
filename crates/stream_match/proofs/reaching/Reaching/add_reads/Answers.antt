use Rattle.std.proofs.Common.{◌+◌, ◌++◌, ◌∷◌, [], ◌∙◌, get_or, take, ap, arith}
use Rattle.stream_match_layouts.specs.Spans.{read_count}
use Rattle.stream_match_layouts.specs.Writers.{no_span}
use Rattle.stream_match.specs.EpochPlan.{read_reach}
use Rattle.stream_match.specs.EpochCode.{with_positions}
use Rattle.stream_match_layouts.proofs.Tallies.{read-le, tally_fits}
use Rattle.stream_match.proofs.Behind.{span_added, span_next, read_total}
use Rattle.stream_match.proofs.reaching.Reaching.add_reads.Goals as goal

pub add-requires : goal.add-requires
add-requires c =
    let spans = c.args.spans.now in
    let k = c.loop-span.span-index in
    let q = c.requires in
    omega (arith, c.loop-span.invariant.next, c.reads.ensures, read_total (take k spans), tally_fits read_count read-le spans k no_span c.loop-span-test.true)

pub loop-span-preserved : goal.loop-span-preserved
loop-span-preserved c =
    let spans = c.args.spans.now in
    let k = c.loop-span.span-index in
    let s = get_or spans k no_span in
    let i = c.loop-span.invariant in
    let self = c.args.self.now in
    record {
      stretches = span_added read_reach c.args.to self.next spans k no_span self.stretches c.loop-span.self.stretches c.add.new.self.stretches c.loop-span.self.next c.loop-span-test.true i.stretches i.next
          (c.in_ok-add.ensures.stretches ∙ ap (λ n. c.loop-span.self.stretches ++ with_positions (record { to = c.args.to; stream = s.stream; first = s.first; count = n; at = c.loop-span.self.next } ∷ [])) c.reads.ensures);
      next = span_next read_reach self.next spans k no_span c.loop-span.self.next c.add.new.self.next c.loop-span-test.true i.next (c.in_ok-add.ensures.next ∙ ap (λ n. c.loop-span.self.next + n) c.reads.ensures);
    }
