-- Where the elements stand that an activation reads, span by span.
use Rattle.std.proofs.Common.{◌≡◌, ℕ, zero, suc, ◌+◌, ◌-◌, ◌<◌, ◌≤◌, ◌^◌, Bool, true, false, cond, not, All, List, [], ◌∷◌, ◌++◌, Option, Some, None, length, drop, drop-cons, get_or, slice_get, refl, sym, ap, ◌∙◌, arith}
use Rattle.std.specs.Prelude.{IsSome, filter, is_some}
use Rattle.std.specs.List.{flat_map}
use Rattle.std.proofs.lemmas.List.{length-map}
use Rattle.std.proofs.lemmas.List.Elements.{All-weaker}
use Rattle.std.proofs.lemmas.List.Folds.{flat_map-map}
use Rattle.std.proofs.lemmas.List.FromFn.{get_or-map-range_with_len, length-map-range_with_len}
use Rattle.std.proofs.lemmas.Option.{slice_get-get_or}
use Rattle.collector.proofs.ReadPlaces.{spans_in, starts_ordered}
use Rattle.collector.specs.Walking.{IsSpanIn, read_places}
use Rattle.flow_core_laws.proofs.Stretches.{slice_get-append_left, slice_get-append_right}
use Rattle.flow_core_laws.specs.Element.{Source}
use Rattle.flow_core_laws.specs.Place.{input_places, places_from, places_of}
use Rattle.flow_core_laws.specs.Plans.{cell_source, frame_at}
use Rattle.flow_core_laws.specs.StandsFor.{StandsFor}
use Rattle.flow_core_laws.specs.Streams.{stream_source}
use Rattle.flow_core_laws.specs.Window.{Window, windows_of}
use Rattle.flow_core_laws.specs.declared.activation.Activation.{Activation}
use Rattle.flow_core_laws.specs.declared.place.Place.{Place}
use Rattle.flow_core_laws.specs.declared.plan.Plan.{Plan}
use Rattle.stream_match_layouts.proofs.FrameSpans.{spans_of-windows}
use Rattle.stream_match_layouts.proofs.Tallies.{frame_count-is}
use Rattle.stream_match_layouts.specs.Layout.{IsLayout, IsLayoutOf, span_of}
use Rattle.stream_match_layouts.specs.Spans.{frame_count, read_count, spans_of}
use Rattle.stream_match_layouts.specs.declared.layout.Layout.{Layout}
use Rattle.stream_match_layouts.specs.declared.span.Span.{Span}

-- ---- one span

-- it reads as many places as it counts
reads_length : (span : Span) → length (read_places span) ≡ read_count span
reads_length span = by span.write
  where
    by : (b : Bool) → length (cond b [] (places_from span.stream span.first span.count)) ≡ cond b 0 span.count
    by true = refl
    by false = length-map-range_with_len (λ (p : ℕ). record { stream = span.stream; position = p }) span.first span.count

-- one behind the other from its first one on
pub read_at : (span : Span) (k : ℕ) → k < read_count span → slice_get (read_places span) k ≡ Some (record { stream = span.stream; position = span.first + k })
read_at span k within = by span.write within
  where
    place : ℕ → Place
    place p = record { stream = span.stream; position = p }

    by : (b : Bool) → k < cond b 0 span.count → slice_get (cond b [] (places_from span.stream span.first span.count)) k ≡ Some (place (span.first + k))
    by true lt = absurd (omega arith)
    by false lt =
        slice_get-get_or (places_from span.stream span.first span.count) k (place 0) (omega (arith, length-map-range_with_len place span.first span.count, lt))
        ∙ ap (λ (p : Place). Some p) (get_or-map-range_with_len place span.first span.count k (span.first + k) (place 0) lt refl)

-- ---- the spans of an activation

-- the parts of the elements that pass a test are the parts of all elements, where those of the others are empty
parts_kept : {A B : Type 0} (f : A → List B) (test : A → Bool) (xs : List A) → flat_map (λ (x : A). cond (test x) [] (f x)) xs ≡ flat_map f (filter (λ (x : A). not (test x)) xs)
parts_kept f test [] = refl
parts_kept {A = A} f test (x ∷ xs) = by (test x) (parts_kept f test xs)
  where
    by : (b : Bool) → flat_map (λ (y : A). cond (test y) [] (f y)) xs ≡ flat_map f (filter (λ (y : A). not (test y)) xs)
        → cond b [] (f x) ++ flat_map (λ (y : A). cond (test y) [] (f y)) xs
        ≡ flat_map f (cond (not b) (x ∷ filter (λ (y : A). not (test y)) xs) (filter (λ (y : A). not (test y)) xs))
    by true h = h
    by false h = ap (λ ys. f x ++ ys) h

-- they read its inputs
pub places_by_spans : (layout : Layout) (activations : List Activation) → IsLayoutOf layout activations → (a : ℕ) → a < frame_count layout
    → flat_map read_places (spans_of layout a) ≡ input_places activations a
unfolding input_places
places_by_spans layout activations of a lt =
    let exists : a < length activations = omega (arith, frame_count-is layout activations of) in
    ap (flat_map read_places) (spans_of-windows layout activations of a exists)
    ∙ flat_map-map read_places span_of (windows_of activations a)
    ∙ parts_kept places_of (λ (w : Window). w.claim.write) (windows_of activations a)

-- their positions are few
pub spans_fit : (layout : Layout) → IsLayout layout → (a : ℕ) → a < frame_count layout → All (λ (span : Span). span.first + read_count span < 2 ^ 63) (spans_of layout a)
spans_fit layout is a lt =
    let s = starts_ordered layout is a lt in
    All-weaker (IsSpanIn layout) (λ (span : Span). span.first + read_count span < 2 ^ 63) (λ span h. h.ends) (spans_of layout a) (spans_in layout is _ _ s.0 s.1)

-- ---- span by span

-- the place of a number among those that the spans from a number on read
abbrev place_from : List Span → ℕ → ℕ → Option Place
place_from spans k left = slice_get (flat_map read_places (drop k spans)) left

parts : (spans : List Span) (k : ℕ) (d : Span) → k < length spans
    → flat_map read_places (drop k spans) ≡ read_places (get_or spans k d) ++ flat_map read_places (drop (k + 1) spans)
parts spans k d lt =
    ap (flat_map read_places) (drop-cons spans k d lt)
    ∙ ap (λ n. read_places (get_or spans k d) ++ flat_map read_places (drop n spans)) (let e : suc k ≡ k + 1 = omega arith in e)

-- it is one of the first span's
pub in_span : (spans : List Span) (k : ℕ) (d : Span) (left : ℕ) (place : Option Place) → k < length spans → left < read_count (get_or spans k d)
    → slice_get (read_places (get_or spans k d)) left ≡ place → place_from spans k left ≡ place
in_span spans k d left place lt inside at =
    ap (λ places. slice_get places left) (parts spans k d lt)
    ∙ slice_get-append_left (read_places (get_or spans k d)) (flat_map read_places (drop (k + 1) spans)) left (omega (arith, reads_length (get_or spans k d), inside))
    ∙ at

-- or it stands behind it
pub past_span : (spans : List Span) (k : ℕ) (d : Span) (left : ℕ) → k < length spans → read_count (get_or spans k d) ≤ left
    → place_from spans k left ≡ place_from spans (k + 1) (left - read_count (get_or spans k d))
past_span spans k d left lt behind =
    let span = get_or spans k d in
    ap (λ places. slice_get places left) (parts spans k d lt)
    ∙ ap (slice_get (read_places span ++ flat_map read_places (drop (k + 1) spans))) (let e : left ≡ length (read_places span) + (left - read_count span) = omega (arith, reads_length span, behind) in e)
    ∙ slice_get-append_right (read_places span) (flat_map read_places (drop (k + 1) spans)) (left - read_count span)

-- behind the last span there is none
pub none_left : (spans : List Span) (k left : ℕ) → length spans ≤ k → place_from spans k left ≡ None
none_left [] zero left past = refl
none_left [] (suc k) left past = refl
none_left (s ∷ spans) zero left past = absurd (omega arith)
none_left (s ∷ spans) (suc k) left past = none_left spans k left (omega arith)

-- ---- the cells of a plan

-- an activation has as many inputs as its frame has cells
pub as_many_inputs : (plan : Plan) (activations : List Activation) (input : List ℕ) → StandsFor plan activations input → (frame : ℕ) → frame < length plan.frames
    → length (input_places activations frame) ≡ (frame_at plan frame).inputs
as_many_inputs plan activations input stands frame exists =
    let f = frame_at plan frame in
    sym (length-map (input_places activations frame) (stream_source activations input))
    ∙ sym (ap (λ (sources : List Source). length sources) (stands.cells_are_window_elements frame (omega (arith, stands.frames_are_activations, exists))))
    ∙ length-map-range_with_len (cell_source plan) f.cell f.inputs

-- the cells of a frame have places of its activation's inputs
pub has_place : (plan : Plan) (activations : List Activation) (input : List ℕ) → StandsFor plan activations input → (layout : Layout) → IsLayoutOf layout activations
    → (frame number : ℕ) → frame < length plan.frames → number < (frame_at plan frame).inputs
    → (frame < frame_count layout) × IsSome (slice_get (flat_map read_places (spans_of layout frame)) number)
has_place plan activations input stands layout of frame number exists within =
    let there : frame < frame_count layout = omega (arith, frame_count-is layout activations of, stands.frames_are_activations, exists) in
    let places = flat_map read_places (spans_of layout frame) in
    let long : length places ≡ (frame_at plan frame).inputs =
    ap (λ (xs : List Place). length xs) (places_by_spans layout activations of frame there) ∙ as_many_inputs plan activations input stands frame exists in
    (there, ap is_some (slice_get-get_or places number (record { stream = 0; position = 0 }) (omega (arith, long, within))))
