use Rattle.std.proofs.Common.{◌∙◌, ◌+◌, length, ap, refl, sym, subst}
use Rattle.std.specs.Prelude.{All}
use Rattle.std.specs.List.{flat_map}
use Rattle.stream_match.specs.Weave.{total}
use Rattle.stream_match.specs.EpochPlan.{leaving_reaches}
use Rattle.stream_match.specs.EpochCode.{IsEmpty, IsRead, IsLeft, CanLeave, stretches_from, with_positions}
use Rattle.stream_match.specs.Stretch.{stretch_places}
use Rattle.stream_match.proofs.Rows.{places_from_stretches}
use Rattle.stream_match.proofs.EpochRows.{leaving_can}
use Rattle.stream_match.proofs.EpochMade.{rows_of, leaves_end, no_places}
use Rattle.stream_match.proofs.Behind.{over_positions}
use Rattle.stream_match.proofs.Empty.{empty_left}
use Rattle.stream_match.proofs.epoch.weave.Goals as goal

pub returns-clause-small : goal.returns-clause-small
returns-clause-small c =
    let layout = c.args.layout.now in
    let frames = c.args.frames.now in
    let read = c.in_ok-read.ensures in
    let left = c.in_ok-left.ensures in
    let sink = leaving_reaches layout frames c.args.cursors.now in
    let is_read : IsRead layout frames c.in_ok-read.read = record { stretches_are = read.stretches; next_is = read.next } in
    let is_left : IsLeft layout frames sink c.in_ok-left.left = record { stretches_are = left.stretches ∙ ap (λ n. with_positions (stretches_from (length frames) n sink)) read.next; pieces_are = left.pieces; next_is = left.next ∙ ap (λ n. n + total sink) read.next } in
    leaves_end layout c.requires.layout frames c.requires.frames sink (leaving_can layout c.requires.layout frames c.requires.frames c.args.cursors.now c.requires.cursors c.requires.small) c.in_ok-read.read.stretches c.in_ok-left.left.stretches c.in_ok-read.read.next c.in_ok-left.left.next
    (rows_of layout frames sink c.in_ok-read.read c.in_ok-left.left c.in_ok-read.read.stretches c.in_ok-left.left.stretches is_read is_left refl refl)

pub weave_rows-requires-clause-read : goal.weave_rows-requires-clause-read
weave_rows-requires-clause-read c = record { stretches_are = c.in_ok-read.ensures.stretches; next_is = c.in_ok-read.ensures.next }

pub weave_rows-requires-clause-left : goal.weave_rows-requires-clause-left
weave_rows-requires-clause-left c =
    let layout = c.args.layout.now in
    let frames = c.args.frames.now in
    let read = c.in_ok-read.ensures in
    let left = c.in_ok-left.ensures in
    let sink = leaving_reaches layout frames c.args.cursors.now in (
      sink,
      leaving_can layout c.requires.layout frames c.requires.frames c.args.cursors.now c.requires.cursors c.requires.small,
      record { stretches_are = left.stretches ∙ ap (λ n. with_positions (stretches_from (length frames) n sink)) read.next; pieces_are = left.pieces; next_is = left.next ∙ ap (λ n. n + total sink) read.next },
    )

pub weave_rows-requires-clause-nothing : goal.weave_rows-requires-clause-nothing
weave_rows-requires-clause-nothing c =
    let frames = c.args.frames.now in
    let (activations, is_of, outside) = c.requires.outside in
    subst (All (IsEmpty c.args.input.now c.args.kept.now)) (sym c.in_ok-left.ensures.stretches)
    (empty_left c.args.layout.now c.requires.layout activations is_of c.args.input.now frames c.requires.frames c.args.kept.now c.args.cursors.now outside (length frames) c.in_ok-read.read.next)

pub returns-clause-plan : goal.returns-clause-plan
returns-clause-plan c =
    let layout = c.args.layout.now in
    let frames = c.args.frames.now in
    let read = c.in_ok-read.ensures in
    let left = c.in_ok-left.ensures in
    let sink = leaving_reaches layout frames c.args.cursors.now in
    let can : CanLeave layout frames sink = leaving_can layout c.requires.layout frames c.requires.frames c.args.cursors.now c.requires.cursors c.requires.small in
    let is_left : IsLeft layout frames sink c.in_ok-left.left = record { stretches_are = left.stretches ∙ ap (λ n. with_positions (stretches_from (length frames) n sink)) read.next; pieces_are = left.pieces; next_is = left.next ∙ ap (λ n. n + total sink) read.next } in
    record {
      woven = c.in_ok-plan.ensures sink can is_left;
      places_are = ap (flat_map stretch_places) left.stretches ∙ over_positions stretch_places (stretches_from (length frames) c.in_ok-read.read.next sink) no_places ∙ places_from_stretches (length frames) c.in_ok-read.read.next sink;
    }
