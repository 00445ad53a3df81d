-- What the spans of an activation read, and where it lies.
use Rattle.std.proofs.Common.{◌≡◌, ℕ, zero, suc, ◌+◌, ◌-◌, ◌<◌, ◌≤◌, Bool, true, false, cond, not, All, List, [], ◌∷◌, ◌++◌, Option, Some, None, length, take, drop, drop-cons, get_or, map, find, max, refl, sym, ap, ◌∙◌, subst, arith, zero-add}
use Rattle.std.specs.Prelude.{filter}
use Rattle.std.specs.List.{flat_map, range_with_len}
use Rattle.std.specs.Option.{option_map, option_or}
use Rattle.std.proofs.lemmas.Bool.{lt-ltb, le-ltb}
use Rattle.std.proofs.lemmas.List.FromFn.{get_or-map-range_with_len}
use Rattle.flow_core_laws.specs.declared.activation.Activation.{Activation}
use Rattle.flow_core_laws.specs.declared.place.Place.{Place}
use Rattle.flow_core_laws.specs.declared.task_end.TaskEnd.{TaskEnd}
use Rattle.flow_core_laws.specs.FirstPosition.{write_cursor}
use Rattle.flow_core_laws.specs.Place.{places_of, input_places, written_count}
use Rattle.flow_core_laws.specs.There.{missing_place}
use Rattle.flow_core_laws.specs.Window.{Window, windows, windows_of}
use Rattle.stream_match_layouts.specs.declared.layout.Layout.{Layout}
use Rattle.stream_match_layouts.specs.declared.span.Span.{Span}
use Rattle.stream_match_layouts.specs.Layout.{IsLayout, IsLayoutOf, span_of, claims_in}
use Rattle.stream_match_layouts.specs.Spans.{frame_count, start_of, spans_of}
use Rattle.stream_match_layouts.specs.Writers.{span_at, no_span}
use Rattle.stream_match_layouts.proofs.Sums.{frames_are, span_exists, span_ends}
use Rattle.stream_match_layouts.proofs.FrameSpans.{spans_of-windows}
use Rattle.stream_match_layouts.proofs.Tallies.{frame_count-is, start-within, start-next}
use Rattle.stream_match_layouts.proofs.Windows.{claims_in-windows}
use Rattle.collector.specs.Walking.{IsSpanIn, is_gap, is_missing, first_gap, read_places}
use Rattle.collector.proofs.Searches.{from_bound, none_in, find-map, find-parts}

-- the places that the spans of windows read are those of the input windows
pub reads_are : (ws : List Window) → flat_map read_places (map span_of ws) ≡ flat_map places_of (filter (λ (w : Window). not w.claim.write) ws)
reads_are [] = refl
reads_are (w ∷ ws) = by w.claim.write (reads_are ws)
  where
    by : (b : Bool) → flat_map read_places (map span_of ws) ≡ flat_map places_of (filter (λ (v : Window). not v.claim.write) ws)
        → cond b [] (places_of w) ++ flat_map read_places (map span_of ws) ≡ flat_map places_of (cond (not b) (w ∷ filter (λ (v : Window). not v.claim.write) ws) (filter (λ (v : Window). not v.claim.write) ws))
    by true h = h
    by false h = ap (λ xs. places_of w ++ xs) h

-- the first missing place of an activation by its spans
pub missing_by_spans : (layout : Layout) (activations : List Activation) → IsLayoutOf layout activations → (input_len : ℕ) (ends : List (Option TaskEnd)) (a : ℕ) → a < frame_count layout
    → find (is_missing activations input_len ends) (flat_map read_places (spans_of layout a)) ≡ missing_place activations input_len ends a
unfolding input_places
missing_by_spans layout activations of input_len ends a lt =
    let exists : a < length activations = omega (arith, frame_count-is layout activations of) in
    ap (find (is_missing activations input_len ends)) (ap (flat_map read_places) (spans_of-windows layout activations of a exists) ∙ reads_are (windows_of activations a))

-- ---- the first missing place, span by span

module _ (activations : List Activation) (input_len : ℕ) (ends : List (Option TaskEnd)) where
  abbrev first_of : List Span → Option Place
  first_of spans = find (is_missing activations input_len ends) (flat_map read_places spans)

  -- the first missing place that a span reads
  in_span : (span : Span) → span.write ≡ false → find (is_missing activations input_len ends) (read_places span) ≡ option_map (λ p. record { stream = span.stream; position = p }) (first_gap activations input_len ends span.stream span.first span.count)
  in_span span reads =
      let place : ℕ → Place = λ p. record { stream = span.stream; position = p } in
      ap (λ (b : Bool). find (is_missing activations input_len ends) (cond b [] (map place (range_with_len span.first span.count)))) reads ∙ find-map (is_missing activations input_len ends) place (range_with_len span.first span.count)

  one_more : (spans : List Span) (k : ℕ) (d : Span) → k < length spans → first_of (drop k spans) ≡ option_or (find (is_missing activations input_len ends) (read_places (get_or spans k d))) (first_of (drop (k + 1) spans))
  one_more spans k d lt = ap first_of (drop-cons spans k d lt ∙ ap (λ n. get_or spans k d ∷ drop n spans) (let e : suc k ≡ k + 1 = omega arith in e)) ∙ find-parts (is_missing activations input_len ends) read_places (get_or spans k d) (drop (k + 1) spans)

  -- a span that reads has one
  pub found_in : (spans : List Span) (k : ℕ) (d : Span) (position : ℕ) → k < length spans → (get_or spans k d).write ≡ false
      → Some position ≡ first_gap activations input_len ends (get_or spans k d).stream (get_or spans k d).first (get_or spans k d).count
      → first_of (drop k spans) ≡ Some (record { stream = (get_or spans k d).stream; position = position })
  found_in spans k d position lt reads is =
      one_more spans k d lt ∙ ap (λ o. option_or o (first_of (drop (k + 1) spans))) (in_span (get_or spans k d) reads ∙ ap (option_map (λ p. record { stream = (get_or spans k d).stream; position = p })) (sym is))

  -- one that reads has none
  pub none_in_span : (spans : List Span) (k : ℕ) (d : Span) → k < length spans → (get_or spans k d).write ≡ false
      → None ≡ first_gap activations input_len ends (get_or spans k d).stream (get_or spans k d).first (get_or spans k d).count
      → first_of (drop k spans) ≡ first_of (drop (k + 1) spans)
  none_in_span spans k d lt reads is =
      one_more spans k d lt ∙ ap (λ o. option_or o (first_of (drop (k + 1) spans))) (in_span (get_or spans k d) reads ∙ ap (option_map (λ p. record { stream = (get_or spans k d).stream; position = p })) (sym is))

  -- one that writes has none
  pub none_in_writer : (spans : List Span) (k : ℕ) (d : Span) → k < length spans → (get_or spans k d).write ≡ true → first_of (drop k spans) ≡ first_of (drop (k + 1) spans)
  none_in_writer spans k d lt writes =
      let span = get_or spans k d in
      let place : ℕ → Place = λ p. record { stream = span.stream; position = p } in
      one_more spans k d lt ∙ ap (λ (b : Bool). option_or (find (is_missing activations input_len ends) (cond b [] (map place (range_with_len span.first span.count)))) (first_of (drop (k + 1) spans))) writes

-- ---- where the spans lie

pub span_in : (layout : Layout) (is : IsLayout layout) (number : ℕ) → number < length layout.spans → IsSpanIn layout (span_at layout number)
span_in layout is number lt = record { stream_exists = span_exists layout is number lt; ends = span_ends layout is number lt }

-- an element of a part of a list is one of the list
get_or-part : {X : Type 0} (xs : List X) (a n k : ℕ) (d : X) → k < n → get_or (take n (drop a xs)) k d ≡ get_or xs (a + k) d
get_or-part {X = X} xs zero n k d lt = get_or-front xs n k lt ∙ ap (λ j. get_or xs j d) (sym (zero-add k))
  where
    get_or-front : (ys : List X) (m j : ℕ) → j < m → get_or (take m ys) j d ≡ get_or ys j d
    get_or-front [] zero j l = refl
    get_or-front [] (suc m) j l = refl
    get_or-front (y ∷ ys) zero j l = absurd (omega arith)
    get_or-front (y ∷ ys) (suc m) zero l = refl
    get_or-front (y ∷ ys) (suc m) (suc j) l = get_or-front ys m j (omega arith)
get_or-part [] (suc a) zero k d lt = refl
get_or-part [] (suc a) (suc n) k d lt = refl
get_or-part (x ∷ xs) (suc a) n k d lt = get_or-part xs a n k d lt ∙ ap (λ j. get_or (x ∷ xs) j d) (let e : suc (a + k) ≡ suc a + k = omega arith in e)

pub spans_in : (layout : Layout) (is : IsLayout layout) (first end : ℕ) → first ≤ end → end ≤ length layout.spans → All (IsSpanIn layout) (take (end - first) (drop first layout.spans))
spans_in layout is first end ordered within k d lt =
    let n : length (take (end - first) (drop first layout.spans)) ≤ end - first = length-take-min (end - first) (drop first layout.spans) in
    let inside : first + k < length layout.spans = omega arith in
    subst (IsSpanIn layout) (sym (get_or-part layout.spans first (end - first) k d (omega arith) ∙ same layout.spans (first + k) d inside)) (span_in layout is (first + k) inside)
  where
    length-take-min : (m : ℕ) (xs : List Span) → length (take m xs) ≤ m
    length-take-min zero xs = omega arith
    length-take-min (suc m) [] = omega arith
    length-take-min (suc m) (x ∷ xs) = let h = length-take-min m xs in omega arith

    same : (xs : List Span) (j : ℕ) (e : Span) → j < length xs → get_or xs j e ≡ get_or xs j no_span
    same [] j e l = absurd (omega arith)
    same (x ∷ xs) zero e l = refl
    same (x ∷ xs) (suc j) e l = same xs j e (omega arith)

-- the spans of an activation lie among all
pub starts_ordered : (layout : Layout) (is : IsLayout layout) (a : ℕ) → a < frame_count layout → (start_of layout a ≤ start_of layout (a + 1)) × (start_of layout (a + 1) ≤ length layout.spans)
starts_ordered layout is a lt =
    let exists : a < length is.activations = omega (arith, frames_are layout is) in
    (omega (arith, start-next layout is.activations is.is_of a exists), start-within layout is.activations is.is_of a exists)

-- ---- the input

-- the first position that the input doesn't have
pub input_gap : (activations : List Activation) (input_len : ℕ) (ends : List (Option TaskEnd)) (stream first count : ℕ) → stream ≡ 0 → max first input_len < first + count
    → first_gap activations input_len ends stream first count ≡ Some (max first input_len)
input_gap activations input_len ends stream first count is within =
    let gap = is_gap activations input_len ends 0 in
    ap (λ s. first_gap activations input_len ends s first count) is
    ∙ from_bound gap first count input_len (λ k lt. ap not (lt-ltb k input_len lt)) (ap not (le-ltb (max first input_len) input_len (omega arith))) within

pub input_full : (activations : List Activation) (input_len : ℕ) (ends : List (Option TaskEnd)) (stream first count : ℕ) → stream ≡ 0 → first + count ≤ max first input_len
    → first_gap activations input_len ends stream first count ≡ None
input_full activations input_len ends stream first count is past =
    ap (λ s. first_gap activations input_len ends s first count) is
    ∙ none_in (is_gap activations input_len ends 0) first count input_len (λ k lt. ap not (lt-ltb k input_len lt)) past

-- ---- the output

-- how many positions of the output are claimed for writing
pub claimed_by : (layout : Layout) (activations : List Activation) → IsLayoutOf layout activations → 1 < length layout.writers → get_or layout.cursors.writes 1 0 ≡ written_count activations 1
claimed_by layout activations of two =
    ap (λ xs. get_or xs 1 0) of.of_windows.writes ∙ get_or-map-range_with_len (λ s. write_cursor s (claims_in (windows activations))) 0 (length layout.writers) 1 1 0 two (zero-add 1) ∙ ap (write_cursor 1) (claims_in-windows activations)
