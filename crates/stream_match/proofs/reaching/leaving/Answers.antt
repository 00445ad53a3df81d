use Rattle.std.proofs.Common.{◌+◌, ◌<◌, ◌++◌, ◌^◌, ◌∙◌, ℕ, length, get_or, take, map, ap, sym, subst, arith}
use Rattle.std.specs.Prelude.{sum_by, All, true, ◌≡◌}
use Rattle.std.specs.List.{flat_map}
use Rattle.std.proofs.lemmas.Grind.{flat_map-append}
use Rattle.flow_core_epochs.proofs.Carried.{has_all}
use Rattle.std.proofs.lemmas.List.Sums.{sum_by-append}
use Rattle.stream_match_layouts.specs.declared.span.Span.{Span}
use Rattle.stream_match_layouts.specs.Spans.{spans_of}
use Rattle.stream_match.specs.Weave.{Reach, total}
use Rattle.stream_match.specs.EpochPlan.{staying, leaving_reach, leaving_reaches}
use Rattle.stream_match.specs.EpochCode.{pieces_for, left_pieces, stretches_from, with_positions}
use Rattle.stream_match.proofs.Leaves.{left_are, left_offsets}
use Rattle.stream_match.proofs.Behind.{few_frames, frame_few, left_few, spans_exist, spans_small, leaving_more, stretches-append, with_positions-append}
use Rattle.stream_match.proofs.reaching.leaving.Goals as goal

pub overflow_cast-frames : goal.overflow_cast-frames
overflow_cast-frames c = omega (arith, few_frames c.args.layout.now c.requires.layout c.args.frames.now c.requires.frames)

pub add_leaving-requires-clause-room : goal.add_leaving-requires-clause-room
add_leaving-requires-clause-room c =
    let layout = c.args.layout.now in
    let frames = c.args.frames.now in
    let k = c.loop-number.number in
    omega (arith, c.loop-number.invariant.next, c.requires.next, left_few layout c.requires.layout frames c.requires.frames c.args.cursors.now k, frame_few layout c.requires.layout frames c.requires.frames (get_or frames k 0), ap (λ xs. sum_by (λ (s : Span). s.count) xs) c.spans_of.ensures)

pub add_leaving-requires-clause-exist : goal.add_leaving-requires-clause-exist
add_leaving-requires-clause-exist c =
    let layout = c.args.layout.now in
    let a = get_or c.args.frames.now c.loop-number.number 0 in
    subst (λ xs. (k : ℕ) (d : Span) → k < length xs → (get_or xs k d).stream < length c.args.cursors.now) (sym c.spans_of.ensures)
    (λ k d lt. subst (λ n. (get_or (spans_of layout a) k d).stream < n) (sym c.requires.cursors) (spans_exist layout c.requires.layout a k d (c.requires.frames.exist c.loop-number.number c.loop-number-test.true) lt))

pub add_leaving-requires-clause-small : goal.add_leaving-requires-clause-small
add_leaving-requires-clause-small c =
    let layout = c.args.layout.now in
    let a = get_or c.args.frames.now c.loop-number.number 0 in
    subst (λ xs. (k : ℕ) (d : Span) → k < length xs → (get_or xs k d).first + staying c.args.cursors.now (get_or xs k d) < 2 ^ 63) (sym c.spans_of.ensures)
    (λ k d lt. spans_small layout c.requires.layout c.args.cursors.now c.requires.cursors c.requires.small a k d (c.requires.frames.exist c.loop-number.number c.loop-number-test.true) lt)

pub add_leaving-requires-clause-offsets : goal.add_leaving-requires-clause-offsets
add_leaving-requires-clause-offsets c =
    let layout = c.args.layout.now in
    let n = c.loop-number.number in
    let a = get_or c.args.frames.now n 0 in
    subst (All (λ (s : Span). s.write ≡ true → s.offset + s.count < 2 ^ 32)) (sym c.spans_of.ensures)
    (has_all (λ (s : Span). s.write ≡ true → s.offset + s.count < 2 ^ 32) (spans_of layout a) (λ s has. left_offsets layout c.requires.layout c.args.frames.now c.requires.frames n c.loop-number-test.true s has))

pub loop-number-preserved : goal.loop-number-preserved
loop-number-preserved c =
    let layout = c.args.layout.now in
    let frames = c.args.frames.now in
    let cursors = c.args.cursors.now in
    let k = c.loop-number.number in
    let n = length frames in
    let i = c.loop-number.invariant in
    let before = leaving_reaches layout (take k frames) cursors in
    let here = map (leaving_reach cursors) (spans_of layout (get_or frames k 0)) in
    let more = leaving_more layout c.requires.layout frames cursors k c.loop-number-test.true in
    record {
      stretches = c.in_ok-add_leaving.ensures.stretches
          ∙ ap (λ xs. c.loop-number.leaving.stretches ++ with_positions (stretches_from n c.loop-number.leaving.next (map (leaving_reach cursors) xs))) c.spans_of.ensures
          ∙ ap (λ xs. xs ++ with_positions (stretches_from n c.loop-number.leaving.next here)) i.stretches
          ∙ ap (λ m. with_positions (stretches_from n c.args.next before) ++ with_positions (stretches_from n m here)) i.next
          ∙ sym (ap with_positions (ap (stretches_from n c.args.next) more ∙ stretches-append n c.args.next before here) ∙ with_positions-append (stretches_from n c.args.next before) (stretches_from n (c.args.next + total before) here));
      pieces = (let added = c.in_ok-add_leaving.ensures in
          let stretches = added.stretches ∙ ap (λ xs. c.loop-number.leaving.stretches ++ with_positions (stretches_from n c.loop-number.leaving.next (map (leaving_reach cursors) xs))) c.spans_of.ensures in
          added.pieces
          ∙ ap (λ xs. c.loop-number.leaving.pieces ++ left_pieces cursors k n c.loop-number.leaving.next xs) c.spans_of.ensures
          ∙ ap (λ ps. ps ++ left_pieces cursors k n c.loop-number.leaving.next (spans_of layout (get_or frames k 0))) i.pieces
          ∙ ap (λ ps. flat_map (pieces_for layout frames) c.loop-number.leaving.stretches ++ ps) (left_are layout c.requires.layout frames c.requires.frames k c.loop-number-test.true cursors n c.loop-number.leaving.next (spans_of layout (get_or frames k 0)) (λ s h. h))
          ∙ sym (ap (flat_map (pieces_for layout frames)) stretches ∙ flat_map-append (pieces_for layout frames) c.loop-number.leaving.stretches (with_positions (stretches_from n c.loop-number.leaving.next here))));
      next = (let a = ap total more ∙ sum_by-append (λ (x : Reach). x.count) before here in
          let b = c.in_ok-add_leaving.ensures.next ∙ ap (λ xs. c.loop-number.leaving.next + total (map (leaving_reach cursors) xs)) c.spans_of.ensures in
          omega (arith, a, b, i.next));
    }

pub overflow_cast-number : goal.overflow_cast-number
overflow_cast-number c = omega (arith, few_frames c.args.layout.now c.requires.layout c.args.frames.now c.requires.frames)
