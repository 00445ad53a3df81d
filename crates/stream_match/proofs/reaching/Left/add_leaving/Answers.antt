use Rattle.std.proofs.Common.{take, arith}
use Rattle.stream_match_layouts.specs.declared.span.Span.{Span}
use Rattle.stream_match_layouts.specs.Writers.{no_span}
use Rattle.stream_match.specs.EpochPlan.{leaving_reach}
use Rattle.stream_match_layouts.proofs.Tallies.{tally_fits}
use Rattle.stream_match.proofs.Behind.{span_added, span_next, leaving_total}
use Rattle.stream_match.proofs.Leaves.{left_added}
use Rattle.stream_match.proofs.reaching.Left.add_leaving.Goals as goal

pub add_left-requires-clause-room : goal.add_left-requires-clause-room
add_left-requires-clause-room c =
    let spans = c.args.spans.now in
    let k = c.loop-span.span-index in
    let q = c.requires.room in
    omega (arith, c.loop-span.invariant.next, leaving_total c.args.cursors.now (take k spans), tally_fits (λ (s : Span). s.count) (λ s. omega arith) spans k no_span c.loop-span-test.true)

pub loop-span-preserved : goal.loop-span-preserved
loop-span-preserved c =
    let spans = c.args.spans.now in
    let k = c.loop-span.span-index in
    let i = c.loop-span.invariant in
    let self = c.args.self.now in
    let now = c.loop-span.self in
    let new = c.add_left.new.self in
    let added = c.in_ok-add_left.ensures in
    let cursors = c.args.cursors.now in
    let lt = c.loop-span-test.true in
    record {
      stretches = span_added (leaving_reach cursors) c.args.to self.next spans k no_span self.stretches now.stretches new.stretches now.next lt i.stretches i.next added.stretches;
      pieces = left_added cursors c.args.from c.args.to self.next spans k no_span self.pieces now.pieces new.pieces now.next lt i.pieces i.next added.pieces;
      next = span_next (leaving_reach cursors) self.next spans k no_span now.next new.next lt i.next added.next;
    }
