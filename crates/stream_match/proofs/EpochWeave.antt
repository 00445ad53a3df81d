-- The plan of an epoch can be woven.
use Rattle.std.proofs.Common.{◌≡◌, ℕ, pos, zero, suc, ◌+◌, ◌-◌, ◌<◌, ◌≤◌, cond, List, Option, Some, None, length, take, map, get_or, refl, sym, ap, ◌∙◌, subst, ◌⊎◌, inl, inr, arith, Bool, true, false, [], ◌∷◌, zero-add}
use Rattle.std.specs.Prelude.{All, slice_get, sum_by, find, option_and_then, ◌==◌}
use Rattle.std.specs.Option.{option_map, option_map_or}
use Rattle.std.specs.List.{range_with_len}
use Rattle.std.proofs.lemmas.Bool.{cases_lt, and_parts, eqb-true, lt-ltb, le-ltb}
use Rattle.std.proofs.lemmas.List.{take_all, take-take}
use Rattle.std.proofs.lemmas.List.FromFn.{fill_by_all}
use Rattle.std.proofs.lemmas.List.Sums.{sum_by_more, sum_by-append, sum_by-cons, sum_by-take-le}
use Rattle.std.proofs.lemmas.Option.{slice_get-get_or, slice_get_within, get_or_from_slice_get, same_Some}
use Rattle.flow_core_laws.proofs.FewPieces.{other_test}
use Rattle.flow_core_laws.specs.declared.activation.Activation.{Activation}
use Rattle.flow_core_laws.specs.Window.{Window, windows, producer, windows_of}
use Rattle.flow_core_laws.proofs.Sources.{find_passes}
use Rattle.flow_core_laws.proofs.Windows.{producer_by_number}
use Rattle.flow_core_laws.specs.declared.elem.Elem.TheVariants.{Value}
use Rattle.flow_core_laws.specs.declared.place.Place.{Place}
use Rattle.flow_core_epochs.specs.Epoch.{number_among, Kept, is_at, value_kept}
use Rattle.flow_core_epochs.proofs.Members.{Has, of_map, of_flat_map}
use Rattle.flow_core_epochs.proofs.Carried.{all_has, has_all}
use Rattle.flow_core_epochs.proofs.Frames.{numbers_back}
use Rattle.stream_match_layouts.specs.declared.span.Span.{Span}
use Rattle.stream_match_layouts.specs.declared.layout.Layout.{Layout}
use Rattle.stream_match_layouts.specs.Layout.{IsLayout, IsLayoutOf, span_of}
use Rattle.stream_match_layouts.specs.Writers.{writers_on, writer_at, end_of}
use Rattle.stream_match_layouts.specs.Spans.{frame_count, spans_of, read_count, write_count, start_of}
use Rattle.stream_match_layouts.proofs.Writers.{window_number, there, has_writers, number_at, number_exists, writer_is, found, lawful_window}
use Rattle.stream_match_layouts.proofs.Sums.{frames_bound, frames_are}
use Rattle.stream_match_layouts.proofs.Tallies.{spans-few, sums-next, sum-le}
use Rattle.stream_match_layouts.proofs.FrameSpans.{output_within, no_input_writer, spans_of-windows, start-le}
use Rattle.stream_match.specs.Weave.{Reach, no_reach, total, Weave, cells_of_first, reach_at, WritesAt, CanWeave}
use Rattle.stream_match.specs.EpochPlan.{reaches_over, AscendInLayout, read_reach, leaving_reaches, opening_element, weave_over, WrittenOutside, epoch_weave, staying, leaving_reach}
use Rattle.stream_match.proofs.WovenSound.{sum_by-map}
use Rattle.stream_match.proofs.Weaving.{first-more}
use Rattle.flow_core_epochs.proofs.Written.{has_window}
use Rattle.stream_match_layouts.specs.Lawful.{IsLawfulClaim}
use Rattle.stream_match_layouts.proofs.Windows.{no_window}

-- a sum over the spans of a frame
abbrev pub over_frame : (Span → ℕ) → Layout → ℕ → ℕ
over_frame h layout a = sum_by h (spans_of layout a)

read_and_write : (b : Bool) (n : ℕ) → cond {A = ℕ} b 0 n + cond {A = ℕ} b n 0 ≡ n
read_and_write true n = zero-add n
read_and_write false n = let e : n + 0 ≡ n = omega arith in e

both_spans : (xs : List Span) → sum_by read_count xs + sum_by write_count xs ≡ sum_by (λ (s : Span). s.count) xs
both_spans [] = refl
both_spans (x ∷ xs) = omega (arith, sum_by-cons read_count x xs, sum_by-cons write_count x xs, sum_by-cons (λ (s : Span). s.count) x xs, both_spans xs, read_and_write x.write x.count)

pub both_frames : (layout : Layout) (xs : List ℕ) → sum_by (over_frame read_count layout) xs + sum_by (over_frame write_count layout) xs ≡ sum_by (over_frame (λ (s : Span). s.count) layout) xs
both_frames layout [] = refl
both_frames layout (x ∷ xs) = omega (arith, sum_by-cons (over_frame read_count layout) x xs, sum_by-cons (over_frame write_count layout) x xs, sum_by-cons (over_frame (λ (s : Span). s.count) layout) x xs, both_frames layout xs, both_spans (spans_of layout x))

pub leaving-le : (cursors : List ℕ) (xs : List Span) → total (map (leaving_reach cursors) xs) ≤ sum_by write_count xs
leaving-le cursors xs = omega (arith, sum_by-map (λ (r : Reach). r.count) (leaving_reach cursors) xs, sum-le (λ s. write_count s - staying cursors s) write_count xs (λ s. omega arith))

pub all_leaving-le : (layout : Layout) (cursors xs : List ℕ) → total (leaving_reaches layout xs cursors) ≤ sum_by (over_frame write_count layout) xs
all_leaving-le layout cursors [] = omega arith
all_leaving-le layout cursors (x ∷ xs) =
    let a : total (leaving_reaches layout (x ∷ xs) cursors) ≡ total (map (leaving_reach cursors) (spans_of layout x)) + total (leaving_reaches layout xs cursors) = sum_by-append (λ (r : Reach). r.count) (map (leaving_reach cursors) (spans_of layout x)) (leaving_reaches layout xs cursors) in
    omega (arith, a, leaving-le cursors (spans_of layout x), all_leaving-le layout cursors xs, sum_by-cons (over_frame write_count layout) x xs)

sum_take-le : (h : Span → ℕ) (xs : List Span) (i j : ℕ) → i ≤ j → sum_by h (take i xs) ≤ sum_by h (take j xs)
sum_take-le h xs i j le = let e = ap (sum_by h) (take-take i j xs le) in let l = sum_by-take-le h (take j xs) i in omega arith

module _ (layout : Layout) (is : IsLayout layout) where
  before : (Span → ℕ) → ℕ → ℕ
  before h f = sum_by h (take (start_of layout f) layout.spans)

  -- a sum over frames that ascend is part of the whole
  pub frames_within : (h : Span → ℕ) (xs : List ℕ) (low : ℕ) → ((i : ℕ) → i < length xs → low ≤ get_or xs i 0) → ((i : ℕ) → i < length xs → get_or xs i 0 < frame_count layout) → ((i j : ℕ) → i < j → j < length xs → get_or xs i 0 < get_or xs j 0)
      → sum_by (over_frame h layout) xs + sum_by h (take (start_of layout low) layout.spans) ≤ sum_by h layout.spans
  frames_within h [] low above below ascend = omega (arith, sum_by-take-le h layout.spans (start_of layout low))
  frames_within h (x ∷ xs) low above below ascend =
      let x_low : low ≤ x = above 0 (omega arith) in
      let x_high : x < frame_count layout = below 0 (omega arith) in
      let n = frames_are layout is in
      let rest = frames_within h xs (x + 1) (λ i lt. let a : x < get_or xs i 0 = ascend 0 (suc i) (omega arith) (omega arith) in omega arith) (λ i lt. below (suc i) (omega arith)) (λ i j ij lt. ascend (suc i) (suc j) (omega arith) (omega arith)) in
      let next = sums-next layout is.activations is.is_of h x (omega (arith, n)) in
      let e = ap (start_of layout) (let z : low + (x - low) ≡ x = omega arith in z) in
      let start : start_of layout low ≤ start_of layout x = omega (arith, e, start-le layout is.activations is.is_of low (x - low) (omega (arith, n))) in
      let up = sum_take-le h layout.spans (start_of layout low) (start_of layout x) start in
      omega (arith, sum_by-cons (over_frame h layout) x xs, rest, next, up)

  -- ---- streams

  pub span_stream : (a : ℕ) (s : Span) → a < frame_count layout → Has (spans_of layout a) s → s.stream < length layout.writers
  span_stream a s lt has =
      let n = frames_are layout is in
      let a_lt : a < length is.activations = omega (arith, n) in
      let (w, w_in, w_is) = of_map span_of (windows_of is.activations a) s (subst (λ xs. Has xs s) (spans_of-windows layout is.activations is.is_of a a_lt) has) in
      let (number, at) = has_window is.activations a w a_lt w_in in
      let within = slice_get_within (windows is.activations) number w at in
      let same : window_number is.activations number ≡ w = get_or_from_slice_get (windows is.activations) number w no_window at in
      let lawful = subst (λ (v : Window). IsLawfulClaim (length layout.writers) v.claim) same (lawful_window (length layout.writers) is.activations is.lawful number within) in
      subst (λ (t : Span). t.stream < length layout.writers) w_is lawful.stream_exists

module _ (layout : Layout) (is : IsLayout layout) (frames : List ℕ) (cursors : List ℕ) (are : AscendInLayout layout frames) where
  pub leaving_exist : All (λ (r : Reach). r.stream < length layout.writers) (leaving_reaches layout frames cursors)
  leaving_exist = has_all (λ (r : Reach). r.stream < length layout.writers) (leaving_reaches layout frames cursors) (λ r h.
      let p = of_flat_map (λ a. map (leaving_reach cursors) (spans_of layout a)) frames r h in
      let q = of_map (leaving_reach cursors) (spans_of layout p.0) r p.2 in
      let lt : p.0 < frame_count layout = subst (λ b. b < frame_count layout) (get_or_from_slice_get frames p.1.0 p.0 0 p.1.1) (are.exist p.1.0 (slice_get_within frames p.1.0 p.0 p.1.1)) in
      subst (λ (t : Reach). t.stream < length layout.writers) q.2 (span_stream layout is p.0 q.0 lt q.1))

  pub leaving_fits : sum_by (over_frame read_count layout) frames + total (leaving_reaches layout frames cursors) ≤ 4194304
  leaving_fits = omega (arith, all_leaving-le layout cursors frames, both_frames layout frames, frames_within layout is (λ (s : Span). s.count) frames 0 (λ i lt. omega arith) are.exist are.ascend, spans-few layout is.activations is.is_of is.lawful.positions_are_few)

module _ (layout : Layout) (is : IsLayout layout) (activations : List Activation) (of : IsLayoutOf layout activations) (input : List ℕ) (frames : List ℕ) (kept : List Kept) (sink : List Reach) (exist : All (λ (r : Reach). r.stream < length layout.writers) sink) (fits : sum_by (over_frame read_count layout) frames + total sink ≤ 4194304) (are : AscendInLayout layout frames) (outside : WrittenOutside activations frames kept) where
  abbrev weave : Weave
  weave = weave_over layout input frames kept sink

  -- ---- limits

  at_least : (i : ℕ) → i < length frames → i ≤ get_or frames i 0
  at_least zero lt = omega arith
  at_least (suc i) lt = omega (arith, at_least i (omega arith), are.ascend i (suc i) (omega arith) lt)

  few : length frames ≤ 65536
  few = elim (cases_lt 0 (length frames)) [
    | inl lt ↦ omega (arith, at_least (length frames - 1) (omega arith), are.exist (length frames - 1) (omega arith), frames_bound layout is)
    | inr ge ↦ omega arith
  ]

  read_total : (rs : List Span) → total (map read_reach rs) ≡ sum_by read_count rs
  read_total rs = sum_by-map (λ (r : Reach). r.count) read_reach rs

  pub reaches-frame : (f : ℕ) → f < length frames → reaches_over layout frames sink f ≡ map read_reach (spans_of layout (get_or frames f 0))
  reaches-frame f lt = ap (λ b. cond b (map read_reach (spans_of layout (get_or frames f 0))) sink) (lt-ltb f (length frames) lt)

  pub reaches-sink : reaches_over layout frames sink (length frames) ≡ sink
  reaches-sink = ap (λ b. cond b (map read_reach (spans_of layout (get_or frames (length frames) 0))) sink) (le-ltb (length frames) (length frames) (omega arith))

  pub first-is : (k : ℕ) → k ≤ length frames → length (cells_of_first (weave_over layout input frames kept sink) k) ≡ sum_by (over_frame read_count layout) (take k frames)
  first-is zero le = refl
  first-is (suc k) le =
      let e : suc k ≡ k + 1 = omega arith in
      let a = ap (λ m. length (cells_of_first (weave_over layout input frames kept sink) m)) e ∙ first-more (weave_over layout input frames kept sink) k in
      let b = ap total (reaches-frame k (omega arith)) ∙ read_total (spans_of layout (get_or frames k 0)) in
      let c = ap (λ m. sum_by (over_frame read_count layout) (take m frames)) e ∙ sum_by_more (over_frame read_count layout) frames k 0 (omega arith) in
      omega (arith, a, b, c, first-is k (omega arith))

  all_within : sum_by (over_frame (λ (s : Span). s.count) layout) frames ≤ 4194304
  all_within = omega (arith, frames_within layout is (λ (s : Span). s.count) frames 0 (λ i lt. omega arith) are.exist are.ascend, spans-few layout is.activations is.is_of is.lawful.positions_are_few)

  cells_few : length (cells_of_first (weave_over layout input frames kept sink) (length frames + 1)) ≤ 4194304
  cells_few =
      let a = first-more (weave_over layout input frames kept sink) (length frames) in
      let b = first-is (length frames) (omega arith) ∙ ap (sum_by (over_frame read_count layout)) (take_all (length frames) frames (omega arith)) in
      let c = ap total reaches-sink in
      omega (arith, a, b, c)

  outputs_few : sum_by (λ f. sum_by write_count (spans_of layout (get_or frames f 0))) (range_with_len 0 (length frames)) ≤ 4194304
  outputs_few =
      let e = ap (sum_by (over_frame write_count layout)) (fill_by_all (λ f. get_or frames f 0) frames (length frames) 0 refl (λ k l. refl)) ∙ sum_by-map (over_frame write_count layout) (λ f. get_or frames f 0) (range_with_len 0 (length frames)) in
      omega (arith, e, both_frames layout frames, all_within)

  -- ---- streams and numbers

  pub in_frames : (a : ℕ) → Has frames a → a < frame_count layout
  in_frames a (i, at) = subst (λ b. b < frame_count layout) (get_or_from_slice_get frames i a 0 at) (are.exist i (slice_get_within frames i a at))

  reach_stream : (f : ℕ) (r : Reach) → Has (reaches_over layout frames sink f) r → r.stream < length layout.writers
  reach_stream f r has = by_test (cases_lt f (length frames)) has
    where
      by_test : (f < length frames) ⊎ (length frames ≤ f) → Has (reaches_over layout frames sink f) r → r.stream < length layout.writers
      by_test (inl lt) h =
          let (s, s_in, s_is) = of_map read_reach (spans_of layout (get_or frames f 0)) r (subst (λ xs. Has xs r) (reaches-frame f lt) h) in
          subst (λ (q : Reach). q.stream < length layout.writers) s_is (span_stream layout is (get_or frames f 0) s (are.exist f lt) s_in)
      by_test (inr ge) h =
          let e : reaches_over layout frames sink f ≡ sink = ap (λ b. cond b (map read_reach (spans_of layout (get_or frames f 0))) sink) (le-ltb f (length frames) ge) in
          all_has (λ (q : Reach). q.stream < length layout.writers) sink r exist (subst (λ xs. Has xs r) e h)

  pub stream_exists : (f i : ℕ) → i < length (reaches_over layout frames sink f) → (reach_at (weave_over layout input frames kept sink) f i).stream < length layout.writers
  stream_exists f i lt = reach_stream f (reach_at (weave_over layout input frames kept sink) f i) (i, slice_get-get_or (reaches_over layout frames sink f) i no_reach lt)

  -- ---- what is kept

  -- the write span at a place is the producer's
  pub produces : (stream position place : ℕ) (exists : stream < length layout.writers) (lt : place < length (writers_on layout stream)) → (writer_at layout stream place).first ≤ position → position < end_of (writer_at layout stream place)
      → producer activations stream position ≡ Some (window_number activations (number_at layout activations of stream exists place))
  produces stream position place exists lt low high =
      producer_by_number activations stream position ∙ ap (option_and_then (λ n. slice_get (windows activations) n)) (found layout activations of stream exists position place lt low high)
      ∙ there activations (number_at layout activations of stream exists place) (number_exists layout activations of stream exists place lt)

  -- no element that a frame writes is kept
  pub none_kept : (stream position place g : ℕ) → stream < length layout.writers → WritesAt layout (weave_over layout input frames kept sink) stream position place g → value_kept kept (record { stream = stream; position = position }) ≡ None
  none_kept stream position place g exists w = by_find (find (is_at (record { stream = stream; position = position })) kept) refl
    where
      p : Place
      p = record { stream = stream; position = position }

      by_find : (o : Option Kept) → find (is_at (record { stream = stream; position = position })) kept ≡ o → option_map (λ (k : Kept). k.value) (find (is_at (record { stream = stream; position = position })) kept) ≡ None
      by_find None e = ap (option_map (λ (k : Kept). k.value)) e
      by_find (Some k) e =
          let (i, at, passes) = find_passes (is_at (record { stream = stream; position = position })) kept k e in
          let parts = and_parts (k.place.stream == stream) (k.place.position == position) passes in
          let on_stream = eqb-true k.place.stream stream parts.0 in
          let at_position = eqb-true k.place.position position parts.1 in
          let (v, v_is, none) = subst (λ (l : Kept). (v : Window) × (producer activations l.place.stream l.place.position ≡ Some v) × (number_among frames v.activation ≡ None)) (get_or_from_slice_get kept i k k at) (outside i k (slice_get_within kept i k at)) in
          let writer = produces stream position place exists w.within w.from w.to in
          let same : v ≡ window_number activations (number_at layout activations of stream exists place) = same_Some _ _ (sym v_is ∙ ap (λ s. producer activations s k.place.position) on_stream ∙ ap (producer activations stream) at_position ∙ writer) in
          let frame : (writer_at layout stream place).frame ≡ v.activation = ap (λ (s : Span). s.frame) (writer_is layout activations of stream exists place w.within) ∙ ap (λ (u : Window). u.activation) (sym same) in
          let contra : Some g ≡ None = sym w.is_frame ∙ ap (number_among frames) frame ∙ none in
          absurd (cc)

  pub can_weave_over : CanWeave layout (weave_over layout input frames kept sink)
  can_weave_over = record {
    frames_are_few = few;
    cells_are_few = cells_few;
    outputs_are_few = outputs_few;
    activations_are_of_frames = refl;
    activations_ascend = are.ascend;
    numbers_exist = λ a f h. slice_get_within frames f a (numbers_back frames a f h);
    have_writers = λ f i le lt. has_writers layout is.activations is.is_of (reach_at (weave_over layout input frames kept sink) f i).stream (stream_exists f i lt) is.lawful;
    outputs_fit = λ f i place g le lt place_lt h.
        let stream = (reach_at (weave_over layout input frames kept sink) f i).stream in
        let a = (writer_at layout stream place).frame in
        let at : get_or frames g 0 ≡ a = get_or_from_slice_get frames g a 0 (numbers_back frames a g h) in
        subst (λ b. (writer_at layout stream place).offset + (writer_at layout stream place).count ≤ sum_by write_count (spans_of layout b)) (sym at) (output_within layout is stream (stream_exists f i lt) place place_lt);
    spares = λ f i position place g le lt w.
        let stream = (reach_at (weave_over layout input frames kept sink) f i).stream in
        let exists = stream_exists f i lt in
        ap (λ o. option_map_or (λ v. Some v) o (opening_element input stream position)) (none_kept stream position place g exists w)
        ∙ ap (λ b. cond b (option_map (λ byte. Value (pos byte)) (slice_get input position)) None) (other_test stream 0 (no_input_writer layout is stream exists place w.within));
  }

pub can_weave : (layout : Layout) (is : IsLayout layout) (activations : List Activation) (of : IsLayoutOf layout activations) (input : List ℕ) (frames : List ℕ) (kept : List Kept) (cursors : List ℕ) (are : AscendInLayout layout frames) (outside : WrittenOutside activations frames kept) → CanWeave layout (epoch_weave layout input frames kept cursors)
can_weave layout is activations of input frames kept cursors are outside = can_weave_over layout is activations of input frames kept (leaving_reaches layout frames cursors) (leaving_exist layout is frames cursors are) (leaving_fits layout is frames cursors are) are outside
