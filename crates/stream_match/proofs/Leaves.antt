-- What leaves a frame: each of its write spans makes one piece.
use Rattle.std.proofs.Common.{◌≡◌, ℕ, ◌+◌, ◌-◌, ◌^◌, ◌<◌, Bool, true, false, cond, List, [], ◌∷◌, ◌++◌, Some, length, take, map, get_or, refl, sym, ap, ◌∙◌, subst, arith}
use Rattle.std.specs.Prelude.{not, ◌&&◌, ◌==◌, nat_lt}
use Rattle.std.specs.Option.{option_map_or}
use Rattle.std.specs.List.{flat_map, range_with_len}
use Rattle.std.proofs.lemmas.Bool.{lt-ltb, le-ltb, ltb-true}
use Rattle.std.proofs.lemmas.List.{append-nil, append_assoc, take_more}
use Rattle.std.proofs.lemmas.List.Sums.{sum_by-cons}
use Rattle.std.proofs.lemmas.Option.{slice_get_within, get_or_from_slice_get}
use Rattle.flow_core_laws.specs.declared.plan.Piece.{Piece}
use Rattle.flow_core_laws.specs.FirstPosition.{is_write_to}
use Rattle.flow_core_laws.specs.Window.{Window, windows, windows_of, window_of, claims_of, claims_at}
use Rattle.flow_core_epochs.specs.Epoch.{number_among}
use Rattle.flow_core_epochs.proofs.Members.{Has, of_map, has_head, has_tail}
use Rattle.flow_core_epochs.proofs.Written.{has_window}
use Rattle.stream_match_layouts.specs.declared.span.Span.{Span}
use Rattle.stream_match_layouts.specs.declared.layout.Layout.{Layout}
use Rattle.stream_match_layouts.specs.Layout.{span_of, IsLayout}
use Rattle.stream_match_layouts.specs.Spans.{frame_count, write_count, spans_of}
use Rattle.stream_match_layouts.specs.Writers.{span_at, writers_on, writer_at, HasWriters}
use Rattle.stream_match_layouts.proofs.Windows.{no_window}
use Rattle.stream_match_layouts.proofs.Writers.{window_number, span_at-window, stands, has_writers}
use Rattle.stream_match_layouts.proofs.Sums.{frames_are}
use Rattle.stream_match_layouts.proofs.Tallies.{sum-le, write-le}
use Rattle.stream_match_layouts.proofs.FrameSpans.{spans_of-windows, output_within}
use Rattle.stream_match.specs.declared.stretch.Stretch.{Stretch}
use Rattle.stream_match.specs.Stretch.{overlap_first, overlap_end, piece_between, overlap, pieces_into}
use Rattle.stream_match.specs.Weave.{Reach, total}
use Rattle.stream_match.specs.EpochPlan.{AscendInLayout, staying, leaving_reach}
use Rattle.stream_match.specs.EpochCode.{pieces_for, renumbered, stretches_from, with_positions, left_piece, left_pieces}
use Rattle.stream_match.proofs.Counting.{same_test}
use Rattle.stream_match.proofs.LookUp.{found_number}
use Rattle.stream_match.proofs.Walks.{Found, overlap_at, one_piece}
use Rattle.stream_match.proofs.EpochWeave.{span_stream}
use Rattle.stream_match.proofs.Behind.{frame_few}

-- a write span of a frame stands among those of its stream
pub record IsWriter (layout : Layout) (a : ℕ) (s : Span) : Type 0 where
  pub place : ℕ
  pub within : place < length (writers_on layout s.stream)
  pub is : writer_at layout s.stream place ≡ s
  pub of_frame : s.frame ≡ a

module _ (layout : Layout) (is : IsLayout layout) where
  pub is_writer : (a : ℕ) (s : Span) → a < frame_count layout → Has (spans_of layout a) s → s.write ≡ true → IsWriter layout a s
  is_writer a s lt has writes =
      let n = frames_are layout is in
      let a_lt : a < length is.activations = omega (arith, n) in
      let (w, w_in, w_is) = of_map span_of (windows_of is.activations a) s (subst (λ xs. Has xs s) (spans_of-windows layout is.activations is.is_of a a_lt) has) in
      let (number, at) = has_window is.activations a w a_lt w_in in
      let within = slice_get_within (windows is.activations) number w at in
      let same : window_number is.activations number ≡ w = get_or_from_slice_get (windows is.activations) number w no_window at in
      let (k, k_in, k_is) = of_map (window_of a (claims_of (take a is.activations)) (claims_at is.activations a)) (range_with_len 0 (length (claims_at is.activations a))) w w_in in
      let exists = span_stream layout is a s lt has in
      let write : w.claim.write ≡ true = ap (λ (t : Span). t.write) w_is ∙ writes in
      let stream : w.claim.stream ≡ s.stream = ap (λ (t : Span). t.stream) w_is in
      let test : is_write_to s.stream w.claim ≡ true = ap (λ b. b && w.claim.stream == s.stream) write ∙ same_test w.claim.stream s.stream stream in
      let (place, place_lt, number_is) = stands layout is.activations is.is_of s.stream exists number within (ap (λ (v : Window). is_write_to s.stream v.claim) same ∙ test) in
      record {
        place = place;
        within = place_lt;
        is = ap (span_at layout) number_is ∙ span_at-window layout is.activations is.is_of number within ∙ ap span_of same ∙ w_is;
        of_frame = sym (ap (λ (t : Span). t.frame) w_is) ∙ sym (ap (λ (v : Window). v.activation) k_is);
      }

  -- what a span writes behind those of its positions that stay is one piece
  one_into : (a : ℕ) (s : Span) (to stay at : ℕ) → IsWriter layout a s → HasWriters layout s.stream → stay < s.count
      → pieces_into layout (record { to = to; stream = s.stream; first = s.first + stay; count = s.count - stay; at = at }) ≡ piece_between (record { to = to; stream = s.stream; first = s.first + stay; count = s.count - stay; at = at }) s ∷ []
  one_into a s to stay at w has some =
      let stretch : Stretch = record { to = to; stream = s.stream; first = s.first + stay; count = s.count - stay; at = at } in
      let p : Piece = piece_between stretch s in
      let within = w.within in
      let overlaps : overlap_first stretch s < overlap_end stretch s = omega arith in
      let one : overlap_at layout stretch w.place ≡ p ∷ [] = ap (overlap stretch) w.is ∙ ap (λ b. cond b (piece_between stretch s ∷ []) []) (lt-ltb (overlap_first stretch s) (overlap_end stretch s) overlaps) in
      let found : Found layout stretch w.place p = record {
        within = within;
        overlaps = subst (λ (t : Span). overlap_first stretch t < overlap_end stretch t) (sym w.is) overlaps;
        is = ap (piece_between stretch) (sym w.is);
        one = one;
      } in
      one_piece layout stretch w.place p has found (omega arith)

  module _ (frames : List ℕ) (are : AscendInLayout layout frames) (n : ℕ) (n_lt : n < length frames) where
    one_for : (s : Span) (to stay at : ℕ) → Has (spans_of layout (get_or frames n 0)) s → s.write ≡ true → stay < s.count
        → pieces_for layout frames (record { to = to; stream = s.stream; first = s.first + stay; count = s.count - stay; at = at }) ≡ record { from = n; to = to; first = s.offset + stay; count = s.count - stay; at = at } ∷ []
    one_for s to stay at has writes some =
        let a = get_or frames n 0 in
        let w = is_writer a s (are.exist n n_lt) has writes in
        let writers = has_writers layout is.activations is.is_of s.stream (span_stream layout is a s (are.exist n n_lt) has) is.lawful in
        let stretch : Stretch = record { to = to; stream = s.stream; first = s.first + stay; count = s.count - stay; at = at } in
        let p : Piece = piece_between stretch s in
        let number : number_among frames s.frame ≡ Some n = found_number frames s.frame n are.ascend n_lt (sym w.of_frame) in
        let first : p.first ≡ s.offset + stay = omega arith in
        let count : p.count ≡ s.count - stay = omega arith in
        let place : p.at ≡ at = omega arith in
        ap (flat_map (renumbered frames)) (one_into a s to stay at w writers some)
        ∙ append-nil (renumbered frames p)
        ∙ ap (λ o. option_map_or (λ f. record { from = f; to = p.to; first = p.first; count = p.count; at = p.at } ∷ []) o []) number
        ∙ ap (λ k. record { from = n; to = to; first = k; count = p.count; at = p.at } ∷ []) first
        ∙ ap (λ k. record { from = n; to = to; first = s.offset + stay; count = k; at = p.at } ∷ []) count
        ∙ ap (λ k. record { from = n; to = to; first = s.offset + stay; count = s.count - stay; at = k } ∷ []) place

    -- what a span leaves, by its piece
    one_left : (cursors : List ℕ) (s : Span) (to at : ℕ) → Has (spans_of layout (get_or frames n 0)) s → 0 < (leaving_reach cursors s).count
        → pieces_for layout frames (record { to = to; stream = s.stream; first = s.first + staying cursors s; count = (leaving_reach cursors s).count; at = at })
        ≡ record { from = n; to = to; first = s.offset + staying cursors s; count = (leaving_reach cursors s).count; at = at } ∷ []
    one_left cursors s to at has some = by_write s.write refl
      where
        by_write : (b : Bool) → s.write ≡ b
            → pieces_for layout frames (record { to = to; stream = s.stream; first = s.first + staying cursors s; count = (leaving_reach cursors s).count; at = at })
            ≡ record { from = n; to = to; first = s.offset + staying cursors s; count = (leaving_reach cursors s).count; at = at } ∷ []
        by_write false e = absurd (let none : write_count s ≡ 0 = ap (λ b. cond {A = ℕ} b s.count 0) e in omega arith)
        by_write true e =
            let whole : write_count s ≡ s.count = ap (λ b. cond {A = ℕ} b s.count 0) e in
            let count : (leaving_reach cursors s).count ≡ s.count - staying cursors s = ap (λ k. k - staying cursors s) whole in
            ap (λ k. pieces_for layout frames (record { to = to; stream = s.stream; first = s.first + staying cursors s; count = k; at = at })) count
            ∙ one_for s to (staying cursors s) at has e (omega arith)
            ∙ ap (λ k. record { from = n; to = to; first = s.offset + staying cursors s; count = k; at = at } ∷ []) (sym count)

    -- and what spans of the frame leave
    pub left_are : (cursors : List ℕ) (to at : ℕ) (ss : List Span) → ((s : Span) → Has ss s → Has (spans_of layout (get_or frames n 0)) s)
        → left_pieces cursors n to at ss ≡ flat_map (pieces_for layout frames) (with_positions (stretches_from to at (map (leaving_reach cursors) ss)))
    left_are cursors to at [] sub = refl
    left_are cursors to at (s ∷ ss) sub = by_test (nat_lt 0 (leaving_reach cursors s).count) refl (left_are cursors to (at + (leaving_reach cursors s).count) ss (λ x h. sub x (has_tail s ss x h)))
      where
        stretch : Stretch
        stretch = record { to = to; stream = s.stream; first = s.first + staying cursors s; count = (leaving_reach cursors s).count; at = at }

        rest : List Stretch
        rest = with_positions (stretches_from to (at + (leaving_reach cursors s).count) (map (leaving_reach cursors) ss))

        p : Piece
        p = record { from = n; to = to; first = s.offset + staying cursors s; count = (leaving_reach cursors s).count; at = at }

        by_test : (b : Bool) → nat_lt 0 (leaving_reach cursors s).count ≡ b
            → left_pieces cursors n to (at + (leaving_reach cursors s).count) ss ≡ flat_map (pieces_for layout frames) (with_positions (stretches_from to (at + (leaving_reach cursors s).count) (map (leaving_reach cursors) ss)))
            → cond b (record { from = n; to = to; first = s.offset + staying cursors s; count = (leaving_reach cursors s).count; at = at } ∷ []) [] ++ left_pieces cursors n to (at + (leaving_reach cursors s).count) ss
            ≡ flat_map (pieces_for layout frames) (cond b (record { to = to; stream = s.stream; first = s.first + staying cursors s; count = (leaving_reach cursors s).count; at = at } ∷ with_positions (stretches_from to (at + (leaving_reach cursors s).count) (map (leaving_reach cursors) ss))) (with_positions (stretches_from to (at + (leaving_reach cursors s).count) (map (leaving_reach cursors) ss))))
        by_test false e r = r
        by_test true e r =
            ap (λ xs. p ∷ xs) r
            ∙ ap (λ xs. xs ++ flat_map (pieces_for layout frames) rest) (sym (one_left cursors s to at (sub s (has_head s ss)) (ltb-true 0 (leaving_reach cursors s).count e)))

    -- a write span lies within the outputs of its frame, and these are few
    pub left_offsets : (s : Span) → Has (spans_of layout (get_or frames n 0)) s → s.write ≡ true → s.offset + s.count < 2 ^ 32
    left_offsets s has writes =
        let a = get_or frames n 0 in
        let w = is_writer a s (are.exist n n_lt) has writes in
        let within = output_within layout is s.stream (span_stream layout is a s (are.exist n n_lt) has) w.place w.within in
        let offset = ap (λ (t : Span). t.offset) w.is in
        let count = ap (λ (t : Span). t.count) w.is in
        let few = frame_few layout is frames are (writer_at layout s.stream w.place).frame in
        omega (arith, within, offset, count, few, sum-le write_count (λ (t : Span). t.count) (spans_of layout (writer_at layout s.stream w.place).frame) write-le)

-- one more span
pub left_more : (cursors : List ℕ) (from to at : ℕ) (xs : List Span) (s : Span) → left_pieces cursors from to at (xs ++ s ∷ []) ≡ left_pieces cursors from to at xs ++ left_piece cursors from to (at + total (map (leaving_reach cursors) xs)) s
left_more cursors from to at [] s = append-nil (left_piece cursors from to at s) ∙ ap (λ k. left_piece cursors from to k s) (let e : at ≡ at + 0 = omega arith in e)
left_more cursors from to at (x ∷ xs) s =
    let r = leaving_reach cursors x in
    ap (λ ps. left_piece cursors from to at x ++ ps) (left_more cursors from to (at + r.count) xs s)
    ∙ sym (append_assoc (left_piece cursors from to at x) (left_pieces cursors from to (at + r.count) xs) (left_piece cursors from to (at + r.count + total (map (leaving_reach cursors) xs)) s))
    ∙ ap (λ k. left_pieces cursors from to at (x ∷ xs) ++ left_piece cursors from to k s) (let t = sum_by-cons (λ (q : Reach). q.count) r (map (leaving_reach cursors) xs) in let e : at + r.count + total (map (leaving_reach cursors) xs) ≡ at + total (map (leaving_reach cursors) (x ∷ xs)) = omega (arith, t) in e)

pub left_added : (cursors : List ℕ) (from to at : ℕ) (spans : List Span) (k : ℕ) (d : Span) (old mid new : List Piece) (next : ℕ) → k < length spans → mid ≡ old ++ left_pieces cursors from to at (take k spans) → next ≡ at + total (map (leaving_reach cursors) (take k spans))
    → new ≡ mid ++ left_piece cursors from to next (get_or spans k d) → new ≡ old ++ left_pieces cursors from to at (take (k + 1) spans)
left_added cursors from to at spans k d old mid new next lt before next_is step =
    let now = left_pieces cursors from to at (take k spans) in
    let s = get_or spans k d in
    step ∙ ap (λ xs. xs ++ left_piece cursors from to next s) before
    ∙ append_assoc old now (left_piece cursors from to next s)
    ∙ ap (λ m. old ++ (now ++ left_piece cursors from to m s)) next_is
    ∙ ap (λ xs. old ++ xs) (sym (ap (left_pieces cursors from to at) (take_more spans k d lt) ∙ left_more cursors from to at (take k spans) s))

pub not_true : (b : Bool) → not b ≡ true → b ≡ false
not_true true e = absurd (cc)
not_true false e = refl

pub not_false : (b : Bool) → not b ≡ false → b ≡ true
not_false true e = refl
not_false false e = absurd (cc)

-- a span that leaves nothing
pub left_none : (cursors : List ℕ) (from to at : ℕ) (s : Span) → (leaving_reach cursors s).count ≡ 0
    → (with_positions (stretches_from to at (leaving_reach cursors s ∷ [])) ≡ []) × (left_piece cursors from to at s ≡ [])
left_none cursors from to at s none =
    let e = le-ltb 0 (leaving_reach cursors s).count (omega arith) in (
      ap (λ b. cond b (stretches_from to at (leaving_reach cursors s ∷ [])) []) e,
      ap (λ b. cond b (record { from = from; to = to; first = s.offset + staying cursors s; count = (leaving_reach cursors s).count; at = at } ∷ []) []) e,
    )

-- a span that leaves some of its positions
pub left_some : (cursors : List ℕ) (from to at stay : ℕ) (s : Span) → s.write ≡ true → stay ≡ staying cursors s → stay < s.count
    → (with_positions (stretches_from to at (leaving_reach cursors s ∷ [])) ≡ record { to = to; stream = s.stream; first = s.first + stay; count = s.count - stay; at = at } ∷ [])
    × (left_piece cursors from to at s ≡ record { from = from; to = to; first = s.offset + stay; count = s.count - stay; at = at } ∷ [])
    × ((leaving_reach cursors s).count ≡ s.count - stay)
left_some cursors from to at stay s writes stay_is some =
    let whole : write_count s ≡ s.count = ap (λ b. cond {A = ℕ} b s.count 0) writes in
    let count : (leaving_reach cursors s).count ≡ s.count - stay = omega (arith, whole) in
    let e = lt-ltb 0 (leaving_reach cursors s).count (omega arith) in (
      ap (λ b. cond b (stretches_from to at (leaving_reach cursors s ∷ [])) []) e
          ∙ ap (λ k. record { to = to; stream = s.stream; first = s.first + k; count = (leaving_reach cursors s).count; at = at } ∷ []) (sym stay_is)
          ∙ ap (λ k. record { to = to; stream = s.stream; first = s.first + stay; count = k; at = at } ∷ []) count,
      ap (λ b. cond b (record { from = from; to = to; first = s.offset + staying cursors s; count = (leaving_reach cursors s).count; at = at } ∷ []) []) e
          ∙ ap (λ k. record { from = from; to = to; first = s.offset + k; count = (leaving_reach cursors s).count; at = at } ∷ []) (sym stay_is)
          ∙ ap (λ k. record { from = from; to = to; first = s.offset + stay; count = k; at = at } ∷ []) count,
      count,
    )
