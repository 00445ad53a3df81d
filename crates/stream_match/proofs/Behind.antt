-- Stretches one behind another.
use Rattle.std.proofs.Common.{◌≡◌, ℕ, zero, suc, ◌+◌, ◌-◌, ◌^◌, ◌<◌, ◌≤◌, Bool, true, false, cond, List, [], ◌∷◌, ◌++◌, length, take, map, get_or, refl, sym, ap, ◌∙◌, subst, inl, inr, arith, zero-add}
use Rattle.std.specs.Prelude.{sum_by, All, ◌==◌, nat_lt}
use Rattle.std.specs.List.{flat_map, range_with_len}
use Rattle.std.proofs.lemmas.Bool.{cases_lt, ltb-false}
use Rattle.std.proofs.lemmas.List.Elements.{filter-append}
use Rattle.std.proofs.lemmas.Grind.{flat_map-append}
use Rattle.std.proofs.lemmas.List.{append-nil, append_assoc, map-append, take_more}
use Rattle.std.proofs.lemmas.List.Sums.{sum_by-append, sum_by-cons, sum_by_more, sum_by-take-le}
use Rattle.std.proofs.lemmas.Option.{slice_get-get_or, slice_get_within, get_or_from_slice_get}
use Rattle.flow_core_laws.specs.declared.plan.Piece.{Piece}
use Rattle.flow_core_laws.proofs.Stretches.{flat_map-range_more}
use Rattle.flow_core_laws.specs.Window.{Window, windows, windows_of}
use Rattle.flow_core_epochs.proofs.Members.{Has, of_map}
use Rattle.flow_core_epochs.proofs.Written.{has_window}
use Rattle.stream_match_layouts.specs.declared.span.Span.{Span}
use Rattle.stream_match_layouts.specs.declared.layout.Layout.{Layout}
use Rattle.stream_match.specs.declared.stretch.Stretch.{Stretch}
use Rattle.stream_match_layouts.specs.Layout.{span_of, IsLayout}
use Rattle.stream_match_layouts.specs.Spans.{frame_count, read_count, write_count, spans_of}
use Rattle.stream_match.specs.Stretch.{by_frame, pieces_from}
use Rattle.stream_match.specs.Weave.{Reach, total}
use Rattle.stream_match.specs.EpochPlan.{AscendInLayout, read_reach, staying, leaving_reach, leaving_reaches}
use Rattle.stream_match.specs.EpochCode.{stretches_from, with_positions, reads_before, read_part, epoch_frame}
use Rattle.stream_match_layouts.proofs.Windows.{no_window}
use Rattle.stream_match_layouts.proofs.Writers.{window_number}
use Rattle.stream_match_layouts.proofs.Sums.{frames_are, frames_bound, first_small}
use Rattle.stream_match_layouts.proofs.Tallies.{spans-few, counts-few, sum-le, write-le}
use Rattle.stream_match_layouts.proofs.FrameSpans.{spans_of-windows}
use Rattle.stream_match.proofs.WovenSound.{sum_by-map}
use Rattle.stream_match.proofs.EpochWeave.{over_frame, both_frames, frames_within, all_leaving-le, leaving-le, span_stream}

pub with_positions-append : (xs ys : List Stretch) → with_positions (xs ++ ys) ≡ with_positions xs ++ with_positions ys
with_positions-append xs ys = filter-append (λ (s : Stretch). nat_lt 0 s.count) xs ys

-- what goes over stretches and makes nothing of one without positions makes the same of those that have some
pub over_positions : {B : Type 0} (g : Stretch → List B) (xs : List Stretch) → ((s : Stretch) → s.count ≡ 0 → g s ≡ []) → flat_map g (with_positions xs) ≡ flat_map g xs
over_positions g [] none = refl
over_positions g (s ∷ xs) none = by_test (over_positions g xs none) (nat_lt 0 s.count) refl
  where
    by_test : flat_map g (with_positions xs) ≡ flat_map g xs → (b : Bool) → nat_lt 0 s.count ≡ b → flat_map g (cond b (s ∷ with_positions xs) (with_positions xs)) ≡ g s ++ flat_map g xs
    by_test rest true e = ap (λ ys. g s ++ ys) rest
    by_test rest false e = rest ∙ sym (ap (λ ys. ys ++ flat_map g xs) (none s (let le = ltb-false 0 s.count e in omega arith)))

pub stretches-append : (to at : ℕ) (xs ys : List Reach) → stretches_from to at (xs ++ ys) ≡ stretches_from to at xs ++ stretches_from to (at + total xs) ys
stretches-append to at [] ys = ap (λ k. stretches_from to k ys) (let e : at ≡ at + 0 = omega arith in e)
stretches-append to at (r ∷ rs) ys =
    ap (λ ss. record { to = to; stream = r.stream; first = r.first; count = r.count; at = at } ∷ ss)
    (stretches-append to (at + r.count) rs ys ∙ ap (λ k. stretches_from to (at + r.count) rs ++ stretches_from to k ys) (let s : total (r ∷ rs) ≡ r.count + total rs = sum_by-cons (λ (x : Reach). x.count) r rs in let e : at + r.count + total rs ≡ at + total (r ∷ rs) = omega (arith, s) in e))

-- one more span
map_more : (g : Span → Reach) (spans : List Span) (k : ℕ) (d : Span) → k < length spans → map g (take (k + 1) spans) ≡ map g (take k spans) ++ g (get_or spans k d) ∷ []
map_more g spans k d lt = ap (map g) (take_more spans k d lt) ∙ map-append g (take k spans) (get_or spans k d ∷ [])

pub span_added : (g : Span → Reach) (to at : ℕ) (spans : List Span) (k : ℕ) (d : Span) (old mid new : List Stretch) (next : ℕ) → k < length spans → mid ≡ old ++ with_positions (stretches_from to at (map g (take k spans))) → next ≡ at + total (map g (take k spans)) → new ≡ mid ++ with_positions (stretches_from to next (g (get_or spans k d) ∷ []))
    → new ≡ old ++ with_positions (stretches_from to at (map g (take (k + 1) spans)))
span_added g to at spans k d old mid new next lt before next_is step =
    let now = stretches_from to at (map g (take k spans)) in
    let one = g (get_or spans k d) ∷ [] in
    step ∙ ap (λ xs. xs ++ with_positions (stretches_from to next one)) before
    ∙ ap (λ n. (old ++ with_positions now) ++ with_positions (stretches_from to n one)) next_is
    ∙ append_assoc old (with_positions now) (with_positions (stretches_from to (at + total (map g (take k spans))) one))
    ∙ ap (λ xs. old ++ xs) (sym (ap with_positions (ap (stretches_from to at) (map_more g spans k d lt) ∙ stretches-append to at (map g (take k spans)) one)
    ∙ with_positions-append now (stretches_from to (at + total (map g (take k spans))) one)))

pub total_one : (r : Reach) → total (r ∷ []) ≡ r.count
total_one r = sum_by-cons (λ (x : Reach). x.count) r [] ∙ (let e : r.count + 0 ≡ r.count = omega arith in e)

pub span_next : (g : Span → Reach) (at : ℕ) (spans : List Span) (k : ℕ) (d : Span) (next new : ℕ) → k < length spans → next ≡ at + total (map g (take k spans)) → new ≡ next + (g (get_or spans k d)).count → new ≡ at + total (map g (take (k + 1) spans))
span_next g at spans k d next new lt before step =
    let a = ap total (map_more g spans k d lt) ∙ sum_by-append (λ (x : Reach). x.count) (map g (take k spans)) (g (get_or spans k d) ∷ []) in
    let b = total_one (g (get_or spans k d)) in
    omega (arith, a, b)

pub read_total : (rs : List Span) → total (map read_reach rs) ≡ sum_by read_count rs
read_total rs = sum_by-map (λ (r : Reach). r.count) read_reach rs

pub leaving_total : (cursors : List ℕ) (rs : List Span) → total (map (leaving_reach cursors) rs) ≤ sum_by (λ (s : Span). s.count) rs
leaving_total cursors rs = omega (arith, leaving-le cursors rs, sum-le write_count (λ (s : Span). s.count) rs write-le)

module _ (layout : Layout) (is : IsLayout layout) where
  -- the spans of frames begin early
  pub span_small : (a : ℕ) (s : Span) → a < frame_count layout → Has (spans_of layout a) s → s.first < 2 ^ 62
  span_small a s lt has =
      let n = frames_are layout is in
      let a_lt : a < length is.activations = omega (arith, n) in
      let (w, w_in, w_is) = of_map span_of (windows_of is.activations a) s (subst (λ xs. Has xs s) (spans_of-windows layout is.activations is.is_of a a_lt) has) in
      let (number, at) = has_window is.activations a w a_lt w_in in
      let within = slice_get_within (windows is.activations) number w at in
      let same : window_number is.activations number ≡ w = get_or_from_slice_get (windows is.activations) number w no_window at in
      subst (λ (t : Span). t.first < 2 ^ 62) w_is (subst (λ (v : Window). v.first < 2 ^ 62) same (first_small layout is number within))

  pub spans_exist : (a k : ℕ) (d : Span) → a < frame_count layout → k < length (spans_of layout a) → (get_or (spans_of layout a) k d).stream < length layout.writers
  spans_exist a k d lt k_lt = span_stream layout is a (get_or (spans_of layout a) k d) lt (k, slice_get-get_or (spans_of layout a) k d k_lt)

  pub spans_small : (cursors : List ℕ) → length cursors ≡ length layout.writers → All (λ cursor. cursor < 2 ^ 62) cursors → (a k : ℕ) (d : Span) → a < frame_count layout → k < length (spans_of layout a) → (get_or (spans_of layout a) k d).first + staying cursors (get_or (spans_of layout a) k d) < 2 ^ 63
  spans_small cursors len small a k d lt k_lt =
      let s = get_or (spans_of layout a) k d in
      let first = span_small a s lt (k, slice_get-get_or (spans_of layout a) k d k_lt) in
      let exists = spans_exist a k d lt k_lt in
      let cursor = small s.stream 0 (omega (arith, len)) in
      omega (arith, first, from (s.stream == 1) (get_or cursors s.stream 0) cursor)
    where
      from : (b : Bool) (n : ℕ) → n < 2 ^ 62 → cond {A = ℕ} b 0 n < 2 ^ 62
      from true n h = omega arith
      from false n h = h

  module _ (frames : List ℕ) (are : AscendInLayout layout frames) where
    at_least : (i : ℕ) → i < length frames → i ≤ get_or frames i 0
    at_least zero lt = omega arith
    at_least (suc i) lt = omega (arith, at_least i (omega arith), are.ascend i (suc i) (omega arith) lt)

    pub few_frames : length frames ≤ 65536
    few_frames = elim (cases_lt 0 (length frames)) [
      | inl lt ↦ omega (arith, at_least (length frames - 1) (omega arith), are.exist (length frames - 1) (omega arith), frames_bound layout is)
      | inr ge ↦ omega arith
    ]

    -- all that the frames read and write
    pub parts_few : sum_by (over_frame read_count layout) frames + sum_by (over_frame write_count layout) frames ≤ 4194304
    parts_few = omega (arith, both_frames layout frames, frames_within layout is (λ (s : Span). s.count) frames 0 (λ i lt. omega arith) are.exist are.ascend, spans-few layout is.activations is.is_of is.lawful.positions_are_few)

    pub reads_few : (k : ℕ) → reads_before layout frames k ≤ 4194304
    reads_few k = omega (arith, parts_few, sum_by-take-le (over_frame read_count layout) frames k)

    pub frame_few : (a : ℕ) → sum_by (λ (s : Span). s.count) (spans_of layout a) ≤ 4194304
    frame_few a = counts-few layout is.activations is.is_of is.lawful.positions_are_few a

    pub left_few : (cursors : List ℕ) (k : ℕ) → reads_before layout frames (length frames) + total (leaving_reaches layout (take k frames) cursors) ≤ 4194304
    left_few cursors k =
        omega (arith, parts_few, sum_by-take-le (over_frame read_count layout) frames (length frames), all_leaving-le layout cursors (take k frames), sum_by-take-le (over_frame write_count layout) frames k)

  pub reads_more : (frames : List ℕ) (k : ℕ) → k < length frames → reads_before layout frames (k + 1) ≡ reads_before layout frames k + sum_by read_count (spans_of layout (get_or frames k 0))
  reads_more frames k lt = sum_by_more (over_frame read_count layout) frames k 0 lt

  pub parts_more : (frames : List ℕ) (k : ℕ) → flat_map (read_part layout frames) (range_with_len 0 (k + 1)) ≡ flat_map (read_part layout frames) (range_with_len 0 k) ++ read_part layout frames k
  parts_more frames k = flat_map-range_more (read_part layout frames) 0 k ∙ ap (λ n. flat_map (read_part layout frames) (range_with_len 0 k) ++ read_part layout frames n) (zero-add k)

  pub leaving_more : (frames cursors : List ℕ) (k : ℕ) → k < length frames → leaving_reaches layout (take (k + 1) frames) cursors ≡ leaving_reaches layout (take k frames) cursors ++ map (leaving_reach cursors) (spans_of layout (get_or frames k 0))
  leaving_more frames cursors k lt =
      let g : ℕ → List Reach = λ a. map (leaving_reach cursors) (spans_of layout a) in
      ap (flat_map g) (take_more frames k 0 lt) ∙ flat_map-append g (take k frames) (get_or frames k 0 ∷ []) ∙ ap (λ xs. flat_map g (take k frames) ++ xs) (append-nil (g (get_or frames k 0)))

-- a frame by its fields
pub epoch_frame_is : (layout : Layout) (frames : List ℕ) (all : List Piece) (waits : List ℕ) (f cell inputs outputs wait piece pieces : ℕ)
    → cell ≡ reads_before layout frames f → inputs ≡ sum_by read_count (spans_of layout (get_or frames f 0)) → outputs ≡ sum_by write_count (spans_of layout (get_or frames f 0)) → wait ≡ get_or waits f 0 → piece ≡ length (by_frame all f) → pieces ≡ length (pieces_from all f)
    → record { cell = cell; inputs = inputs; outputs = outputs; wait = wait; piece = piece; pieces = pieces } ≡ epoch_frame layout frames all waits f
epoch_frame_is layout frames all waits f cell inputs outputs wait piece pieces a b c d e g =
    let r = reads_before layout frames f in
    let i = sum_by read_count (spans_of layout (get_or frames f 0)) in
    let o = sum_by write_count (spans_of layout (get_or frames f 0)) in
    ap (λ x. record { cell = x; inputs = inputs; outputs = outputs; wait = wait; piece = piece; pieces = pieces }) a
    ∙ ap (λ x. record { cell = r; inputs = x; outputs = outputs; wait = wait; piece = piece; pieces = pieces }) b
    ∙ ap (λ x. record { cell = r; inputs = i; outputs = x; wait = wait; piece = piece; pieces = pieces }) c
    ∙ ap (λ x. record { cell = r; inputs = i; outputs = o; wait = x; piece = piece; pieces = pieces }) d
    ∙ ap (λ x. record { cell = r; inputs = i; outputs = o; wait = get_or waits f 0; piece = x; pieces = pieces }) e
    ∙ ap (λ x. record { cell = r; inputs = i; outputs = o; wait = get_or waits f 0; piece = length (by_frame all f); pieces = x }) g
