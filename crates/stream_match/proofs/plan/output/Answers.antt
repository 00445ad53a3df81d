use Rattle.std.proofs.Common.{◌≡◌, ℕ, ◌+◌, ◌++◌, ◌∷◌, [], ◌∙◌, List, length, get_or, ap, refl, sym, subst, arith}
use Rattle.std.specs.Prelude.{All, nat_lt}
use Rattle.std.specs.List.{flat_map}
use Rattle.std.proofs.lemmas.List.Elements.{All-filter}
use Rattle.stream_match_layouts.specs.declared.layout.Layout.{Layout}
use Rattle.stream_match_layouts.specs.Layout.{IsLayout}
use Rattle.stream_match_layouts.specs.Spans.{frame_count}
use Rattle.stream_match_layouts.proofs.Sums.{cells_few, frames_bound}
use Rattle.stream_match.specs.declared.stretch.Stretch.{Stretch}
use Rattle.stream_match.specs.Weave.{total}
use Rattle.stream_match.specs.EpochCode.{Ascend, pieces_for, stretches_from, with_positions, reads_before}
use Rattle.stream_match.specs.Whole.{all_frames, output_reach}
use Rattle.stream_match.specs.Walking.{IsStretch}
use Rattle.stream_match.proofs.Behind.{total_one, few_frames}
use Rattle.stream_match.proofs.EpochRows.{sink_are_stretches}
use Rattle.stream_match.proofs.Whole.{are, can_leave, count_is}
use Rattle.stream_match.proofs.plan.output.Goals as goal

pub overflow_cast-frames : goal.overflow_cast-frames
overflow_cast-frames c = omega (arith, c.frames.ensures, frames_bound c.args.layout.now c.requires.layout)

pub overflow_cast-count : goal.overflow_cast-count
overflow_cast-count c = omega (arith, ap (λ xs. get_or xs 1 0) c.as_slice.ensures, cells_few c.args.layout.now c.requires.layout)

pub add-requires : goal.add-requires
add-requires c =
    let few = (can_leave c.args.layout.now c.requires.layout).few in
    omega (arith, few, total_one (output_reach c.args.layout.now), c.requires.next, ap (λ xs. get_or xs 1 0) c.as_slice.ensures)

-- the stretch of the output
made : (layout : Layout) (n at count : ℕ) (stretches old : List Stretch) → n ≡ frame_count layout → IsLayout layout → at ≡ reads_before layout (all_frames layout) (length (all_frames layout)) → count ≡ get_or layout.cursors.writes 1 0 → old ≡ []
    → stretches ≡ old ++ with_positions (record { to = n; stream = 1; first = 0; count = count; at = at } ∷ [])
    → stretches ≡ with_positions (stretches_from (length (all_frames layout)) (reads_before layout (all_frames layout) (length (all_frames layout))) (output_reach layout ∷ []))
made layout n at count stretches old all_are is behind written none step =
    step ∙ ap (λ (xs : List Stretch). xs ++ with_positions (record { to = n; stream = 1; first = 0; count = count; at = at } ∷ [])) none
    ∙ ap (λ m. with_positions (record { to = m; stream = 1; first = 0; count = count; at = at } ∷ [])) (all_are ∙ sym (count_is layout is))
    ∙ ap (λ m. with_positions (record { to = length (all_frames layout); stream = 1; first = 0; count = m; at = at } ∷ [])) written
    ∙ ap (λ m. with_positions (record { to = length (all_frames layout); stream = 1; first = 0; count = get_or layout.cursors.writes 1 0; at = m } ∷ [])) behind

pub gathered-requires-clause-ascend : goal.gathered-requires-clause-ascend
gathered-requires-clause-ascend c = subst Ascend (sym c.requires.frames) (are c.args.layout.now c.requires.layout).ascend

pub gathered-requires-clause-few : goal.gathered-requires-clause-few
gathered-requires-clause-few c = omega (arith, ap length c.requires.frames, few_frames c.args.layout.now c.requires.layout (all_frames c.args.layout.now) (are c.args.layout.now c.requires.layout))

pub gathered-requires-clause-stretches : goal.gathered-requires-clause-stretches
gathered-requires-clause-stretches c =
    let layout = c.args.layout.now in
    let is = c.requires.layout in
    let all = all_frames layout in
    let at = reads_before layout all (length all) in
    subst (All (IsStretch layout)) (sym (c.as_slice-2.ensures ∙ made layout c.frames.result c.args.next (get_or c.as_slice.result.now 1 0) c.add.new.self.stretches c.new.result c.frames.ensures is c.requires.next (ap (λ xs. get_or xs 1 0) c.as_slice.ensures) c.new.ensures c.in_ok-add.ensures.stretches))
    (All-filter (λ (s : Stretch). nat_lt 0 s.count) (IsStretch layout) (stretches_from (length all) at (output_reach layout ∷ [])) (sink_are_stretches layout is all (are layout is) (output_reach layout ∷ []) (can_leave layout is) at refl))

pub returns : goal.returns
returns c =
    let layout = c.args.layout.now in
    let all = all_frames layout in
    let is = c.requires.layout in
    let k : get_or c.as_slice.result.now 1 0 ≡ get_or layout.cursors.writes 1 0 = ap (λ xs. get_or xs 1 0) c.as_slice.ensures in
    record {
      stretches_are = made layout c.frames.result c.args.next (get_or c.as_slice.result.now 1 0) c.add.new.self.stretches c.new.result c.frames.ensures is c.requires.next k c.new.ensures c.in_ok-add.ensures.stretches;
      pieces_are = c.in_ok-pieces.ensures ∙ ap (λ fs. flat_map (pieces_for layout fs) c.as_slice-2.result.now) c.requires.frames ∙ ap (flat_map (pieces_for layout all)) c.as_slice-2.ensures;
      next_is = c.in_ok-add.ensures.next ∙ ap (λ m. c.args.next + m) (k ∙ sym (total_one (output_reach layout))) ∙ ap (λ m. m + total (output_reach layout ∷ [])) c.requires.next;
    }
