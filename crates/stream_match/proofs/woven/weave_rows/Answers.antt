use Rattle.std.proofs.Common.{◌≡◌, ◌∙◌, ◌+◌, ◌-◌, ◌++◌, ◌<◌, ℕ, List, length, get_or, map, ap, sym, subst, refl, arith}
use Rattle.std.specs.Prelude.{All, sum_by}
use Rattle.std.specs.List.{flat_map, range_with_len}
use Rattle.std.proofs.lemmas.List.FromFn.{length-map-range_with_len}
use Rattle.flow_core_laws.specs.declared.plan.FramePlan.{FramePlan}
use Rattle.flow_core_laws.specs.declared.plan.Piece.{Piece}
use Rattle.stream_match_layouts.specs.declared.layout.Layout.{Layout}
use Rattle.stream_match.specs.Stretch.{by_frame}
use Rattle.stream_match.specs.Walking.{HasPlace}
use Rattle.stream_match.specs.EpochCode.{IsEmpty, epoch_frame, empty_in, filled_cells}
use Rattle.stream_match.proofs.Behind.{few_frames}
use Rattle.stream_match.proofs.EpochRows.{has_place}
use Rattle.stream_match.proofs.EpochMade.{rows_of, gathered_both, cells_left, waits_left, reads_fit, reads_stretches, reads_into_frames, reads_end, pieces_from_frames, pieces_are_few, end_few, plan_made}
use Rattle.stream_match.proofs.woven.weave_rows.Goals as goal

plans_count : (plans : List FramePlan) (layout : Layout) (frames : List ℕ) (pieces : List Piece) (waits : List ℕ) → plans ≡ map (epoch_frame layout frames pieces waits) (range_with_len 0 (length frames)) → length plans ≡ length frames
plans_count plans layout frames pieces waits are = ap length are ∙ length-map-range_with_len (epoch_frame layout frames pieces waits) 0 (length frames)

pub filled-requires-clause-reads : goal.filled-requires-clause-reads
filled-requires-clause-reads c =
    let layout = c.args.layout.now in
    let is = c.requires.layout in
    let frames = c.args.frames.now in
    let sink = c.requires.left.0 in
    let rows = rows_of layout frames sink c.args.read.now c.args.left.now c.as_slice-reads.result.now c.as_slice-leaves.result.now c.requires.read c.requires.left.2 c.as_slice-reads.ensures c.as_slice-leaves.ensures in
    reads_end layout is frames c.requires.frames sink c.requires.left.1 c.as_slice-reads.result.now c.as_slice-leaves.result.now c.args.read.now.next c.args.left.now.next rows

pub filled-requires-clause-frames : goal.filled-requires-clause-frames
filled-requires-clause-frames c =
    let few = few_frames c.args.layout.now c.requires.layout c.args.frames.now c.requires.frames in
    omega (arith, few)

pub filled-requires-clause-into : goal.filled-requires-clause-into
filled-requires-clause-into c =
    let layout = c.args.layout.now in
    let is = c.requires.layout in
    let frames = c.args.frames.now in
    let sink = c.requires.left.0 in
    let rows = rows_of layout frames sink c.args.read.now c.args.left.now c.as_slice-reads.result.now c.as_slice-leaves.result.now c.requires.read c.requires.left.2 c.as_slice-reads.ensures c.as_slice-leaves.ensures in
    reads_into_frames layout is frames c.requires.frames sink c.requires.left.1 c.as_slice-reads.result.now c.as_slice-leaves.result.now c.args.read.now.next c.args.left.now.next rows

pub filled-requires-clause-few : goal.filled-requires-clause-few
filled-requires-clause-few c =
    let layout = c.args.layout.now in
    let is = c.requires.layout in
    let frames = c.args.frames.now in
    let input = c.args.input.now in
    let kept = c.args.kept.now in
    let sink = c.requires.left.0 in
    let can = c.requires.left.1 in
    let reads = c.as_slice-reads.result.now in
    let leaves = c.as_slice-leaves.result.now in
    let next = c.args.read.now.next in
    let end = c.args.left.now.next in
    let rows = rows_of layout frames sink c.args.read.now c.args.left.now reads leaves c.requires.read c.requires.left.2 c.as_slice-reads.ensures c.as_slice-leaves.ensures in
    let nothing = subst (All (IsEmpty input kept)) (sym c.as_slice-leaves.ensures) c.requires.nothing in
    omega (arith, end_few layout is frames c.requires.frames sink can reads leaves next end rows, reads_fit layout is frames c.requires.frames sink can reads leaves next end rows input kept nothing)

pub gathered-requires-clause-few : goal.gathered-requires-clause-few
gathered-requires-clause-few c =
    let layout = c.args.layout.now in
    let is = c.requires.layout in
    let frames = c.args.frames.now in
    let sink = c.requires.left.0 in
    let rows = rows_of layout frames sink c.args.read.now c.args.left.now c.as_slice-reads.result.now c.as_slice-leaves.result.now c.requires.read c.requires.left.2 c.as_slice-reads.ensures c.as_slice-leaves.ensures in
    omega (arith, few_frames layout is frames c.requires.frames)

pub gathered-requires-clause-stretches : goal.gathered-requires-clause-stretches
gathered-requires-clause-stretches c =
    let layout = c.args.layout.now in
    let is = c.requires.layout in
    let frames = c.args.frames.now in
    let sink = c.requires.left.0 in
    let rows = rows_of layout frames sink c.args.read.now c.args.left.now c.as_slice-reads.result.now c.as_slice-leaves.result.now c.requires.read c.requires.left.2 c.as_slice-reads.ensures c.as_slice-leaves.ensures in
    reads_stretches layout is frames c.requires.frames sink c.requires.left.1 c.as_slice-reads.result.now c.as_slice-leaves.result.now c.args.read.now.next c.args.left.now.next rows

pub epoch_frames-requires-clause-from : goal.epoch_frames-requires-clause-from
epoch_frames-requires-clause-from c =
    let layout = c.args.layout.now in
    let is = c.requires.layout in
    let frames = c.args.frames.now in
    let sink = c.requires.left.0 in
    let rows = rows_of layout frames sink c.args.read.now c.args.left.now c.as_slice-reads.result.now c.as_slice-leaves.result.now c.requires.read c.requires.left.2 c.as_slice-reads.ensures c.as_slice-leaves.ensures in
    pieces_from_frames layout is frames c.requires.frames sink c.requires.left.1 c.as_slice-reads.result.now c.as_slice-leaves.result.now c.args.read.now.next c.args.left.now.next rows c.args.input.now c.args.kept.now c.as_slice-2.result.now (c.as_slice-2.ensures ∙ (gathered_both c.args.layout.now c.args.frames.now c.requires.left.0 c.args.left.now c.as_slice-reads.result.now c.as_slice-leaves.result.now c.in_ok-pieces.pieces c.as_slice.result.now c.append.new.pieces c.requires.left.2 c.as_slice-leaves.ensures c.in_ok-pieces.ensures c.as_slice.ensures c.in_ok-append.ensures))

pub epoch_frames-requires-clause-few : goal.epoch_frames-requires-clause-few
epoch_frames-requires-clause-few c =
    let layout = c.args.layout.now in
    let is = c.requires.layout in
    let frames = c.args.frames.now in
    let sink = c.requires.left.0 in
    let rows = rows_of layout frames sink c.args.read.now c.args.left.now c.as_slice-reads.result.now c.as_slice-leaves.result.now c.requires.read c.requires.left.2 c.as_slice-reads.ensures c.as_slice-leaves.ensures in
    omega (arith, pieces_are_few layout is frames c.requires.frames sink c.requires.left.1 c.as_slice-reads.result.now c.as_slice-leaves.result.now c.args.read.now.next c.args.left.now.next rows c.as_slice-2.result.now (c.as_slice-2.ensures ∙ (gathered_both c.args.layout.now c.args.frames.now c.requires.left.0 c.args.left.now c.as_slice-reads.result.now c.as_slice-leaves.result.now c.in_ok-pieces.pieces c.as_slice.result.now c.append.new.pieces c.requires.left.2 c.as_slice-leaves.ensures c.in_ok-pieces.ensures c.as_slice.ensures c.in_ok-append.ensures)))

pub epoch_frames-requires-clause-waits : goal.epoch_frames-requires-clause-waits
epoch_frames-requires-clause-waits c = ap length c.as_slice-waits.ensures.value ∙ c.in_ok-filled.ensures.frames

pub place_by_frame-requires-clause-from : goal.place_by_frame-requires-clause-from
place_by_frame-requires-clause-from c =
    let layout = c.args.layout.now in
    let is = c.requires.layout in
    let frames = c.args.frames.now in
    let sink = c.requires.left.0 in
    let rows = rows_of layout frames sink c.args.read.now c.args.left.now c.as_slice-reads.result.now c.as_slice-leaves.result.now c.requires.read c.requires.left.2 c.as_slice-reads.ensures c.as_slice-leaves.ensures in
    subst (λ n. All (λ (p : Piece). p.from < n) c.append.new.pieces) (sym (plans_count c.as_slice-3.result.now layout frames c.as_slice-2.result.now c.as_slice-waits.result.now (c.as_slice-3.ensures ∙ c.in_ok-plans.ensures))) (pieces_from_frames layout is frames c.requires.frames sink c.requires.left.1 c.as_slice-reads.result.now c.as_slice-leaves.result.now c.args.read.now.next c.args.left.now.next rows c.args.input.now c.args.kept.now c.append.new.pieces ((gathered_both c.args.layout.now c.args.frames.now c.requires.left.0 c.args.left.now c.as_slice-reads.result.now c.as_slice-leaves.result.now c.in_ok-pieces.pieces c.as_slice.result.now c.append.new.pieces c.requires.left.2 c.as_slice-leaves.ensures c.in_ok-pieces.ensures c.as_slice.ensures c.in_ok-append.ensures)))

pub place_by_frame-requires-clause-few : goal.place_by_frame-requires-clause-few
place_by_frame-requires-clause-few c =
    let layout = c.args.layout.now in
    let is = c.requires.layout in
    let frames = c.args.frames.now in
    let sink = c.requires.left.0 in
    let rows = rows_of layout frames sink c.args.read.now c.args.left.now c.as_slice-reads.result.now c.as_slice-leaves.result.now c.requires.read c.requires.left.2 c.as_slice-reads.ensures c.as_slice-leaves.ensures in
    omega (arith, pieces_are_few layout is frames c.requires.frames sink c.requires.left.1 c.as_slice-reads.result.now c.as_slice-leaves.result.now c.args.read.now.next c.args.left.now.next rows c.append.new.pieces ((gathered_both c.args.layout.now c.args.frames.now c.requires.left.0 c.args.left.now c.as_slice-reads.result.now c.as_slice-leaves.result.now c.in_ok-pieces.pieces c.as_slice.result.now c.append.new.pieces c.requires.left.2 c.as_slice-leaves.ensures c.in_ok-pieces.ensures c.as_slice.ensures c.in_ok-append.ensures)))

pub place_by_frame-requires-clause-places : goal.place_by_frame-requires-clause-places
place_by_frame-requires-clause-places c =
    let layout = c.args.layout.now in
    let is = c.requires.layout in
    let frames = c.args.frames.now in
    let sink = c.requires.left.0 in
    let rows = rows_of layout frames sink c.args.read.now c.args.left.now c.as_slice-reads.result.now c.as_slice-leaves.result.now c.requires.read c.requires.left.2 c.as_slice-reads.ensures c.as_slice-leaves.ensures in
    subst (λ n. HasPlace c.as_slice-3.result.now c.append.new.pieces n) (sym (plans_count c.as_slice-3.result.now layout frames c.as_slice-2.result.now c.as_slice-waits.result.now (c.as_slice-3.ensures ∙ c.in_ok-plans.ensures))) (subst (λ ps. HasPlace c.as_slice-3.result.now ps (length frames)) c.as_slice-2.ensures (has_place layout frames c.as_slice-2.result.now c.as_slice-waits.result.now c.as_slice-3.result.now (c.as_slice-3.ensures ∙ c.in_ok-plans.ensures)))

pub bounds-waits-frames : goal.bounds-waits-frames
bounds-waits-frames c = omega (arith, ap length c.as_slice-waits.ensures.value, c.in_ok-filled.ensures.frames)

pub overflow_cast-carried : goal.overflow_cast-carried
overflow_cast-carried c =
    let layout = c.args.layout.now in
    let is = c.requires.layout in
    let frames = c.args.frames.now in
    let sink = c.requires.left.0 in
    let rows = rows_of layout frames sink c.args.read.now c.args.left.now c.as_slice-reads.result.now c.as_slice-leaves.result.now c.requires.read c.requires.left.2 c.as_slice-reads.ensures c.as_slice-leaves.ensures in
    omega (arith, ap length (gathered_both c.args.layout.now c.args.frames.now c.requires.left.0 c.args.left.now c.as_slice-reads.result.now c.as_slice-leaves.result.now c.in_ok-pieces.pieces c.as_slice.result.now c.append.new.pieces c.requires.left.2 c.as_slice-leaves.ensures c.in_ok-pieces.ensures c.as_slice.ensures c.in_ok-append.ensures), c.len-carried.ensures, pieces_are_few layout is frames c.requires.frames sink c.requires.left.1 c.as_slice-reads.result.now c.as_slice-leaves.result.now c.args.read.now.next c.args.left.now.next rows c.append.new.pieces (gathered_both c.args.layout.now c.args.frames.now c.requires.left.0 c.args.left.now c.as_slice-reads.result.now c.as_slice-leaves.result.now c.in_ok-pieces.pieces c.as_slice.result.now c.append.new.pieces c.requires.left.2 c.as_slice-leaves.ensures c.in_ok-pieces.ensures c.as_slice.ensures c.in_ok-append.ensures))

pub returns : goal.returns
returns c = λ sink can is_left.
    let layout = c.args.layout.now in
    let is = c.requires.layout in
    let frames = c.args.frames.now in
    let rows = rows_of layout frames sink c.args.read.now c.args.left.now c.as_slice-reads.result.now c.as_slice-leaves.result.now c.requires.read is_left c.as_slice-reads.ensures c.as_slice-leaves.ensures in
    let waits = c.as_slice-waits.result.now in
    let waits_are = c.as_slice-waits.ensures.value in
    let input = c.args.input.now in
    let kept = c.args.kept.now in
    let reads = c.as_slice-reads.result.now in
    let leaves = c.as_slice-leaves.result.now in
    let next = c.args.read.now.next in
    let end = c.args.left.now.next in
    let nothing = subst (All (IsEmpty input kept)) (sym c.as_slice-leaves.ensures) c.requires.nothing in
    plan_made layout is frames c.requires.frames sink can c.as_slice-reads.result.now c.as_slice-leaves.result.now c.args.read.now.next c.args.left.now.next rows c.args.input.now c.args.kept.now c.in_ok-filled.filled.cells waits c.append.new.pieces c.in_ok-plans.plans c.in_ok-placed.placed c.in_ok-numbers.numbers (c.args.left.now.next - c.args.read.now.next) (get_or waits (length frames) 0) c.len-carried.result
    (c.in_ok-filled.ensures.cells ∙ ap (λ xs. flat_map (filled_cells input kept) reads ++ xs) (sym (cells_left layout is frames c.requires.frames sink can reads leaves next end rows input kept nothing)))
    (λ f lt. ap (λ xs. get_or xs f 0) waits_are ∙ c.in_ok-filled.ensures.waits f lt ∙ ap (λ n. sum_by (empty_in input kept f) reads + n) (sym (waits_left layout is frames c.requires.frames sink can reads leaves next end rows input kept nothing f)))
    (gathered_both c.args.layout.now c.args.frames.now sink c.args.left.now c.as_slice-reads.result.now c.as_slice-leaves.result.now c.in_ok-pieces.pieces c.as_slice.result.now c.append.new.pieces is_left c.as_slice-leaves.ensures c.in_ok-pieces.ensures c.as_slice.ensures c.in_ok-append.ensures)
    (c.in_ok-plans.ensures ∙ ap (λ ps. map (epoch_frame layout frames ps waits) (range_with_len 0 (length frames))) c.as_slice-2.ensures)
    (c.in_ok-placed.ensures ∙ ap (λ n. by_frame c.append.new.pieces n) (plans_count c.as_slice-3.result.now layout frames c.as_slice-2.result.now waits (c.as_slice-3.ensures ∙ c.in_ok-plans.ensures)))
    c.in_ok-numbers.ensures
    refl
    refl
    c.len-carried.ensures
