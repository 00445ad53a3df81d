use Rattle.std.proofs.Common.{◌+◌, ◌++◌, ◌∙◌, get_or, map, ap, sym, arith}
use Rattle.std.specs.Prelude.{sum_by}
use Rattle.std.specs.List.{flat_map, range_with_len}
use Rattle.stream_match_layouts.specs.declared.span.Span.{Span}
use Rattle.stream_match_layouts.specs.Spans.{spans_of}
use Rattle.stream_match.specs.Weave.{total}
use Rattle.stream_match.specs.EpochPlan.{read_reach}
use Rattle.stream_match.specs.EpochCode.{stretches_from, read_part, with_positions}
use Rattle.stream_match.proofs.Behind.{few_frames, reads_few, frame_few, reads_more, parts_more, read_total, with_positions-append}
use Rattle.stream_match.proofs.reaching.reading.Goals as goal

pub overflow_cast-number : goal.overflow_cast-number
overflow_cast-number c = omega (arith, few_frames c.args.layout.now c.requires.layout c.args.frames.now c.requires.frames)

pub add_reads-requires : goal.add_reads-requires
add_reads-requires c =
    let layout = c.args.layout.now in
    let frames = c.args.frames.now in
    let k = c.loop-number.number in
    omega (arith, c.loop-number.invariant.next, reads_few layout c.requires.layout frames c.requires.frames k, frame_few layout c.requires.layout frames c.requires.frames (get_or frames k 0), ap (λ xs. sum_by (λ (s : Span). s.count) xs) c.spans_of.ensures)

pub loop-number-preserved : goal.loop-number-preserved
loop-number-preserved c =
    let layout = c.args.layout.now in
    let frames = c.args.frames.now in
    let k = c.loop-number.number in
    let i = c.loop-number.invariant in
    let reads = read_total (spans_of layout (get_or frames k 0)) in
    record {
      stretches = c.in_ok-add_reads.ensures.stretches
          ∙ ap (λ xs. c.loop-number.reading.stretches ++ with_positions (stretches_from k c.loop-number.reading.next (map read_reach xs))) c.spans_of.ensures
          ∙ ap (λ xs. xs ++ with_positions (stretches_from k c.loop-number.reading.next (map read_reach (spans_of layout (get_or frames k 0))))) i.stretches
          ∙ ap (λ m. with_positions (flat_map (read_part layout frames) (range_with_len 0 k)) ++ with_positions (stretches_from k m (map read_reach (spans_of layout (get_or frames k 0))))) i.next
          ∙ sym (ap with_positions (parts_more layout c.requires.layout frames k) ∙ with_positions-append (flat_map (read_part layout frames) (range_with_len 0 k)) (read_part layout frames k));
      next = (let b = c.in_ok-add_reads.ensures.next ∙ ap (λ xs. c.loop-number.reading.next + total (map read_reach xs)) c.spans_of.ensures in
          omega (arith, b, reads, i.next, reads_more layout c.requires.layout frames k (omega arith)));
    }
