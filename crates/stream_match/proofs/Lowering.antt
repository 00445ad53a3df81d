-- Cursors that are lowered.
use Rattle.std.proofs.Common.{◌≡◌, ℕ, ◌+◌, ◌<◌, min, Bool, true, false, cond, List, [], ◌∷◌, ◌++◌, map, length, get_or, take, refl, sym, ap, ◌∙◌, subst, arith}
use Rattle.std.specs.Prelude.{slice_index, filter, fold, All}
use Rattle.std.specs.List.{range_with_len, flat_map}
use Rattle.std.proofs.lemmas.Grind.{fold-append, flat_map-append}
use Rattle.std.proofs.lemmas.List.{take_more, append-nil, same_lists, get_or_default}
use Rattle.std.proofs.lemmas.List.Elements.{filter-append}
use Rattle.std.proofs.lemmas.List.FromFn.{get_or-map-range_with_len, length-map-range_with_len}
use Rattle.flow_core_laws.specs.declared.activation.Activation.{Activation}
use Rattle.flow_core_laws.specs.FirstPosition.{is_read_of, read_cursor}
use Rattle.flow_core_laws.specs.Window.{Window, windows, windows_of, claims_of}
use Rattle.stream_match_layouts.specs.declared.span.Span.{Span}
use Rattle.stream_match_layouts.specs.declared.layout.Layout.{Layout}
use Rattle.stream_match_layouts.specs.Lawful.{IsLawfulClaim}
use Rattle.stream_match_layouts.specs.Layout.{span_of, claims_in, IsLayout, IsLayoutOf}
use Rattle.stream_match_layouts.specs.Spans.{frame_count, spans_of}
use Rattle.stream_match_layouts.proofs.FrameSpans.{spans_of-windows}
use Rattle.stream_match_layouts.proofs.Tallies.{frame_count-is}
use Rattle.stream_match_layouts.proofs.Windows.{claims_in-windows}
use Rattle.flow_core_epochs.specs.Epoch.{read_from}
use Rattle.flow_core_epochs.proofs.Members.{Has, of_map, has_tail}
use Rattle.flow_core_epochs.proofs.Carried.{all_has, has_all, has_claim}
use Rattle.stream_match.specs.Cursors.{is_read_on, firsts, lowered}

map_append : {A B : Type 0} (f : A → B) (xs ys : List A) → map f (xs ++ ys) ≡ map f xs ++ map f ys
map_append f [] ys = refl
map_append f (x ∷ xs) ys = ap (λ zs. f x ∷ zs) (map_append f xs ys)

pub firsts-append : (stream : ℕ) (xs ys : List Span) → firsts stream (xs ++ ys) ≡ firsts stream xs ++ firsts stream ys
firsts-append stream xs ys = ap (map (λ (s : Span). s.first)) (filter-append (is_read_on stream) xs ys) ∙ map_append (λ (s : Span). s.first) (filter (is_read_on stream) xs) (filter (is_read_on stream) ys)

-- one more span
pub lowered_more : (stream cursor : ℕ) (spans : List Span) (i : ℕ) (d : Span) → i < length spans → fold min cursor (firsts stream (take (i + 1) spans)) ≡ lowered stream (get_or spans i d) (fold min cursor (firsts stream (take i spans)))
lowered_more stream cursor spans i d lt =
    let before = take i spans in
    let span = get_or spans i d in
    ap (λ xs. fold min cursor (firsts stream xs)) (take_more spans i d lt)
    ∙ ap (fold min cursor) (firsts-append stream before (span ∷ []))
    ∙ fold-append min cursor (firsts stream before) (firsts stream (span ∷ []))
    ∙ by_test (is_read_on stream span) span (fold min cursor (firsts stream before))
  where
    by_test : (b : Bool) (s : Span) (n : ℕ) → fold min n (map (λ (s : Span). s.first) (cond b (s ∷ []) [])) ≡ cond b (min n s.first) n
    by_test true s n = refl
    by_test false s n = refl

-- what the spans of frames read
abbrev pub frame_firsts : Layout → ℕ → List ℕ → List ℕ
frame_firsts layout stream frames = flat_map (λ f. firsts stream (spans_of layout f)) frames

-- one more frame
pub frames_more : (layout : Layout) (stream cursor : ℕ) (frames : List ℕ) (i : ℕ) → i < length frames → fold min cursor (frame_firsts layout stream (take (i + 1) frames)) ≡ fold min (fold min cursor (frame_firsts layout stream (take i frames))) (firsts stream (spans_of layout (get_or frames i 0)))
frames_more layout stream cursor frames i lt =
    let before = take i frames in
    let f = get_or frames i 0 in
    ap (λ xs. fold min cursor (frame_firsts layout stream xs)) (take_more frames i 0 lt)
    ∙ ap (fold min cursor) (flat_map-append (λ f. firsts stream (spans_of layout f)) before (f ∷ []) ∙ ap (λ ys. frame_firsts layout stream before ++ ys) (append-nil (firsts stream (spans_of layout f))))
    ∙ fold-append min cursor (frame_firsts layout stream before) (firsts stream (spans_of layout f))

-- the streams of a frame's spans exist
pub streams_exist : (layout : Layout) (is : IsLayout layout) (f : ℕ) → f < frame_count layout → All (λ (s : Span). s.stream < length layout.writers) (spans_of layout f)
streams_exist layout is f lt = subst (All (λ (s : Span). s.stream < length layout.writers)) (sym (spans_of-windows layout is.activations is.is_of f here)) (has_all (λ (s : Span). s.stream < length layout.writers) (map span_of (windows_of is.activations f)) each)
  where
    here : f < length is.activations
    here = omega (arith, frame_count-is layout is.activations is.is_of)

    each : (s : Span) → Has (map span_of (windows_of is.activations f)) s → s.stream < length layout.writers
    each s h =
        let (w, at, same) = of_map span_of (windows_of is.activations f) s h in
        let c = all_has (IsLawfulClaim (length layout.writers)) (claims_of is.activations) w.claim is.lawful.claims_are_lawful (has_claim is.activations f w here at) in
        subst (λ (t : Span). t.stream < length layout.writers) same c.stream_exists

-- the windows of frames begin where their spans do
firsts_of_windows : (stream : ℕ) (ws : List Window) → firsts stream (map span_of ws) ≡ map (λ (w : Window). w.first) (filter (λ (w : Window). is_read_of stream w.claim) ws)
firsts_of_windows stream [] = refl
firsts_of_windows stream (w ∷ ws) = by_test (is_read_of stream w.claim) (firsts_of_windows stream ws)
  where
    by_test : (b : Bool) → firsts stream (map span_of ws) ≡ map (λ (v : Window). v.first) (filter (λ (v : Window). is_read_of stream v.claim) ws) → map (λ (s : Span). s.first) (cond b (span_of w ∷ filter (is_read_on stream) (map span_of ws)) (filter (is_read_on stream) (map span_of ws))) ≡ map (λ (v : Window). v.first) (cond b (w ∷ filter (λ (v : Window). is_read_of stream v.claim) ws) (filter (λ (v : Window). is_read_of stream v.claim) ws))
    by_test true rest = ap (λ ns. w.first ∷ ns) rest
    by_test false rest = rest

firsts_of_frames : (layout : Layout) (activations : List Activation) → IsLayoutOf layout activations → (stream : ℕ) (frames : List ℕ) → ((f : ℕ) → Has frames f → f < length activations) → frame_firsts layout stream frames ≡ map (λ (w : Window). w.first) (filter (λ (w : Window). is_read_of stream w.claim) (flat_map (windows_of activations) frames))
firsts_of_frames layout activations of stream [] exist = refl
firsts_of_frames layout activations of stream (f ∷ frames) exist =
    let here : firsts stream (spans_of layout f) ≡ map (λ (w : Window). w.first) (filter (λ (w : Window). is_read_of stream w.claim) (windows_of activations f)) = ap (firsts stream) (spans_of-windows layout activations of f (exist f (0, refl))) ∙ firsts_of_windows stream (windows_of activations f) in
    ap (λ xs. xs ++ frame_firsts layout stream frames) here
    ∙ ap (λ ys. map (λ (w : Window). w.first) (filter (λ (w : Window). is_read_of stream w.claim) (windows_of activations f)) ++ ys) (firsts_of_frames layout activations of stream frames (λ g h. exist g (has_tail f frames g h)))
    ∙ sym (map_append (λ (w : Window). w.first) (filter (λ (w : Window). is_read_of stream w.claim) (windows_of activations f)) (filter (λ (w : Window). is_read_of stream w.claim) (flat_map (windows_of activations) frames)))
    ∙ ap (map (λ (w : Window). w.first)) (sym (filter-append (λ (w : Window). is_read_of stream w.claim) (windows_of activations f) (flat_map (windows_of activations) frames)))

-- the cursors of all streams
pub cursors_are : (layout : Layout) (activations : List Activation) → IsLayoutOf layout activations → (frames cursors : List ℕ) → ((f : ℕ) → Has frames f → f < length activations) → length cursors ≡ length layout.cursors.reads → ((stream : ℕ) → slice_index cursors stream ≡ fold min (slice_index layout.cursors.reads stream) (frame_firsts layout stream frames)) → cursors ≡ map (read_from activations frames) (range_with_len 0 (length layout.writers))
cursors_are layout activations of frames cursors exist len lowered_to = same_lists cursors (map (read_from activations frames) (range_with_len 0 n)) (len ∙ l ∙ sym (length-map-range_with_len (read_from activations frames) 0 n)) (λ k d lt. at k d (omega (arith, len, l)) lt)
  where
    n : ℕ
    n = length layout.writers

    l : length layout.cursors.reads ≡ length layout.writers
    l = ap length of.of_windows.reads ∙ length-map-range_with_len (λ stream. read_cursor stream (claims_in (windows activations))) 0 n

    at : (k d : ℕ) → k < length layout.writers → k < length cursors → get_or cursors k d ≡ get_or (map (read_from activations frames) (range_with_len 0 (length layout.writers))) k d
    at k d lt within =
        get_or_default cursors k d 0 within
        ∙ lowered_to k
        ∙ ap (λ c. fold min c (frame_firsts layout k frames)) (ap (λ xs. get_or xs k 0) of.of_windows.reads ∙ get_or-map-range_with_len (λ stream. read_cursor stream (claims_in (windows activations))) 0 n k k 0 lt (omega arith) ∙ ap (read_cursor k) (claims_in-windows activations))
        ∙ ap (fold min (read_cursor k (claims_of activations))) (firsts_of_frames layout activations of k frames exist)
        ∙ sym (get_or-map-range_with_len (read_from activations frames) 0 n k k d lt (omega arith))

-- each stream has a read cursor
pub length-reads : (layout : Layout) (is : IsLayout layout) → length layout.cursors.reads ≡ length layout.writers
length-reads layout is = ap length is.is_of.of_windows.reads ∙ length-map-range_with_len (λ stream. read_cursor stream (claims_in (windows is.activations))) 0 (length layout.writers)

-- a frame's spans can lower the cursors
pub may_lower : (layout : Layout) (is : IsLayout layout) (f : ℕ) (spans : List Span) (cursors : List ℕ) → f < frame_count layout → spans ≡ spans_of layout f → length cursors ≡ length layout.cursors.reads → All (λ (s : Span). s.stream < length cursors) spans
may_lower layout is f spans cursors lt is_spans len =
    let n : length layout.writers ≡ length cursors = sym (len ∙ length-reads layout is) in
    subst (λ (ss : List Span). All (λ (s : Span). s.stream < length cursors) ss) (sym is_spans) (subst (λ m. All (λ (s : Span). s.stream < m) (spans_of layout f)) n (streams_exist layout is f lt))

-- frames below the count are activations
pub frames_exist : (layout : Layout) (activations : List Activation) → IsLayoutOf layout activations → (frames : List ℕ) → All (λ f. f < frame_count layout) frames → (f : ℕ) → Has frames f → f < length activations
frames_exist layout activations of frames exist f h = let lt = all_has (λ f. f < frame_count layout) frames f exist h in omega (arith, frame_count-is layout activations of)
