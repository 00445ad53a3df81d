-- Whether an activation reads an element that another one should write, span by span and position by position.
use Rattle.std.proofs.Common.{◌≡◌, ℕ, zero, suc, ◌+◌, ◌-◌, ◌<◌, ◌≤◌, ◌||◌, Bool, true, false, cond, List, [], ◌∷◌, Option, Some, None, length, drop, drop-cons, get_or, map, refl, ap, ◌∙◌, arith}
use Rattle.std.specs.Prelude.{slice_get, option_and_then}
use Rattle.std.specs.List.{flat_map, list_any, range_with_len}
use Rattle.std.specs.Option.{option_map}
use Rattle.std.proofs.lemmas.List.Folds.{list_any-append}
use Rattle.flow_core_laws.specs.declared.activation.Activation.{Activation}
use Rattle.flow_core_laws.specs.declared.place.Place.{Place}
use Rattle.flow_core_laws.specs.Place.{places_from, input_places}
use Rattle.flow_core_laws.specs.Window.{Window, windows_of, producer, producer_number}
use Rattle.stream_match_layouts.specs.declared.layout.Layout.{Layout}
use Rattle.stream_match_layouts.specs.declared.span.Span.{Span}
use Rattle.stream_match_layouts.specs.Layout.{IsLayoutOf, span_of}
use Rattle.stream_match_layouts.specs.Spans.{frame_count, spans_of}
use Rattle.stream_match_layouts.proofs.FrameSpans.{spans_of-windows}
use Rattle.stream_match_layouts.proofs.Tallies.{frame_count-is}
use Rattle.collector.specs.Walking.{read_places}
use Rattle.collector.proofs.Producers.{span_by_number}
use Rattle.collector.proofs.ReadPlaces.{reads_are}
use Rattle.wait_certs.specs.Searching.{is_produced_by, reads_from}

-- the activation of the span of a producer's number is the producer's
pub frame_by_number : (layout : Layout) (activations : List Activation) → IsLayoutOf layout activations → (stream position : ℕ) (number : Option ℕ) → number ≡ producer_number activations stream position
    → option_map (λ (s : Span). s.frame) (option_and_then (λ n. slice_get layout.spans n) number) ≡ option_map (λ (w : Window). w.activation) (producer activations stream position)
frame_by_number layout activations of stream position number is =
    ap (option_map (λ (s : Span). s.frame)) (span_by_number layout activations of stream position number is) ∙ by (producer activations stream position)
  where
    by : (o : Option Window) → option_map (λ (s : Span). s.frame) (option_map span_of o) ≡ option_map (λ (w : Window). w.activation) o
    by None = refl
    by (Some w) = refl

-- what an activation reads by its spans
pub reads_by_spans : (layout : Layout) (activations : List Activation) → IsLayoutOf layout activations → (a writer : ℕ) → a < frame_count layout
    → list_any (is_produced_by activations writer) (flat_map read_places (spans_of layout a)) ≡ reads_from activations a writer
unfolding input_places
reads_by_spans layout activations of a writer lt =
    let exists : a < length activations = omega (arith, frame_count-is layout activations of) in
    ap (list_any (is_produced_by activations writer)) (ap (flat_map read_places) (spans_of-windows layout activations of a exists) ∙ reads_are (windows_of activations a))

-- one position of a range passes, and one position less, where it doesn't
one_position : (p : ℕ → Bool) (at end : ℕ) → at < end → list_any p (range_with_len at (end - at)) ≡ (p at || list_any p (range_with_len (at + 1) (end - (at + 1))))
one_position p at end lt =
    let n = end - (at + 1) in
    let all : end - at ≡ suc n = omega arith in
    ap (λ m. list_any p (range_with_len at m)) all

pub position_passes : (p : ℕ → Bool) (at end : ℕ) → at < end → p at ≡ true → list_any p (range_with_len at (end - at)) ≡ true
position_passes p at end lt passes = one_position p at end lt ∙ ap (λ b. b || list_any p (range_with_len (at + 1) (end - (at + 1)))) passes

pub position_fails : (p : ℕ → Bool) (at end : ℕ) → at < end → p at ≡ false → list_any p (range_with_len at (end - at)) ≡ list_any p (range_with_len (at + 1) (end - (at + 1)))
position_fails p at end lt fails = one_position p at end lt ∙ ap (λ b. b || list_any p (range_with_len (at + 1) (end - (at + 1)))) fails

-- a test of images
pub any-map : {X Y : Type 0} (p : Y → Bool) (f : X → Y) (xs : List X) → list_any p (map f xs) ≡ list_any (λ x. p (f x)) xs
any-map p f [] = refl
any-map p f (x ∷ xs) = ap (λ b. p (f x) || b) (any-map p f xs)

-- one span less
pub span_less : (p : Place → Bool) (spans : List Span) (k : ℕ) (d : Span) → k < length spans
    → list_any p (flat_map read_places (drop k spans)) ≡ (list_any p (read_places (get_or spans k d)) || list_any p (flat_map read_places (drop (k + 1) spans)))
span_less p spans k d lt =
    ap (λ ss. list_any p (flat_map read_places ss)) (drop-cons spans k d lt ∙ ap (λ n. get_or spans k d ∷ drop n spans) (let e : suc k ≡ k + 1 = omega arith in e))
    ∙ list_any-append p (read_places (get_or spans k d)) (flat_map read_places (drop (k + 1) spans))

-- what is tested of a span that reads, and of one that writes
pub of_reader : (p : Place → Bool) (span : Span) → span.write ≡ false → list_any p (read_places span) ≡ list_any p (places_from span.stream span.first span.count)
of_reader p span reads = ap (λ b. list_any p (cond b [] (places_from span.stream span.first span.count))) reads

pub of_writer : (p : Place → Bool) (span : Span) → span.write ≡ true → list_any p (read_places span) ≡ false
of_writer p span writes = ap (λ b. list_any p (cond b [] (places_from span.stream span.first span.count))) writes

-- nothing is left at the end
pub none_left : (p : Place → Bool) (spans : List Span) (k : ℕ) → length spans ≤ k → list_any p (flat_map read_places (drop k spans)) ≡ false
none_left p [] zero h = refl
none_left p [] (suc k) h = refl
none_left p (s ∷ spans) zero h = absurd (omega arith)
none_left p (s ∷ spans) (suc k) h = none_left p spans k (omega arith)
