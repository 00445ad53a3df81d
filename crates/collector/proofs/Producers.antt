-- The producer of a position, and how far its element and those behind it are there.
use Rattle.std.proofs.Common.{◌≡◌, ℕ, ◌+◌, ◌<◌, ◌≤◌, ◌&&◌, true, false, cond, not, List, Option, Some, None, length, refl, sym, ap, ◌∙◌, subst, arith}
use Rattle.std.specs.Prelude.{IfSome, slice_get, option_and_then, nat_lt, nat_le, ◌==◌}
use Rattle.std.specs.Option.{option_map, option_map_or}
use Rattle.std.proofs.lemmas.Bool.{and_parts, eqb-true, le-leb, lt-ltb}
use Rattle.std.proofs.lemmas.Bool.Decides.{nat_tests}
use Rattle.std.proofs.lemmas.Option.{same_Some, slice_get-map, slice_get_within, get_or_from_slice_get}
use Rattle.flow_core_laws.specs.declared.activation.Activation.{Activation}
use Rattle.flow_core_laws.specs.declared.task_end.TaskEnd.{TaskEnd}
use Rattle.flow_core_laws.specs.FirstPosition.{is_write_to}
use Rattle.flow_core_laws.specs.Outcome.{has_end_at}
use Rattle.flow_core_laws.specs.Window.{Window, windows, is_written_by, producer, producer_number}
use Rattle.flow_core_laws.proofs.Sources.{find_passes}
use Rattle.flow_core_laws.proofs.Windows.{written, producer_of, producer_by_number}
use Rattle.stream_match_layouts.specs.declared.layout.Layout.{Layout}
use Rattle.stream_match_layouts.specs.declared.span.Span.{Span}
use Rattle.stream_match_layouts.specs.Layout.{IsLayout, IsLayoutOf, span_of}
use Rattle.stream_match_layouts.proofs.Writers.{end_small, window_number}
use Rattle.stream_match_layouts.proofs.Windows.{no_window}
use Rattle.collector.specs.Missing.{WritesAt}
use Rattle.collector.specs.Walking.{is_gap, Reaches}

-- the span of the producer's number is that of the producer
pub span_by_number : (layout : Layout) (activations : List Activation) → IsLayoutOf layout activations → (stream position : ℕ) (number : Option ℕ) → number ≡ producer_number activations stream position
    → option_and_then (λ n. slice_get layout.spans n) number ≡ option_map span_of (producer activations stream position)
span_by_number layout activations of stream position number is =
    by number ∙ ap (λ o. option_map span_of (option_and_then (λ n. slice_get (windows activations) n) o)) is ∙ ap (option_map span_of) (sym (producer_by_number activations stream position))
  where
    by : (o : Option ℕ) → option_and_then (λ n. slice_get layout.spans n) o ≡ option_map span_of (option_and_then (λ n. slice_get (windows activations) n) o)
    by None = refl
    by (Some n) = ap (λ spans. slice_get spans n) of.of_windows.spans ∙ slice_get-map span_of (windows activations) n

-- the window of a producer's span
pub record Produces (activations : List Activation) (stream position : ℕ) (span : Span) : Type 0 where
  pub window : Window
  pub number : ℕ
  pub is : span ≡ span_of window
  pub produces : producer activations stream position ≡ Some window
  pub stands : slice_get (windows activations) number ≡ Some window
  pub on_stream : is_write_to stream window.claim ≡ true
  pub from : window.first ≤ position
  pub to : position < window.first + window.claim.horizon

pub produces_of : (activations : List Activation) (stream position : ℕ) (span : Span) → Some span ≡ option_map span_of (producer activations stream position) → Produces activations stream position span
produces_of activations stream position span h = by (producer activations stream position) refl h
  where
    by : (o : Option Window) → producer activations stream position ≡ o → Some span ≡ option_map span_of o → Produces activations stream position span
    by None is h = absurd cc
    by (Some w) is h =
        let (i, at, passes) = find_passes (is_written_by stream position) (windows activations) w is in
        let writes = written stream position w passes in
        record { window = w; number = i; is = same_Some span (span_of w) h; produces = is; stands = at; on_stream = writes.on_stream; from = writes.from; to = writes.to }

-- the span of a producer writes the stream and covers the position
pub covers_if : (activations : List Activation) (stream position : ℕ) (found : Option Span) → found ≡ option_map span_of (producer activations stream position)
    → IfSome found (WritesAt stream position)
covers_if activations stream position None is = tt
covers_if activations stream position (Some span) is =
    let p = produces_of activations stream position span is in
    let parts = and_parts p.window.claim.write (p.window.claim.stream == stream) p.on_stream in
    subst (WritesAt stream position) (sym p.is) (record { writes = parts.0; on_stream = eqb-true p.window.claim.stream stream parts.1; from = p.from; to = p.to })

-- its end fits
pub producer_small : (layout : Layout) (is : IsLayout layout) (stream position : ℕ) (span : Span) → Some span ≡ option_map span_of (producer is.activations stream position) → span.first + span.count ≤ 4194304
producer_small layout is stream position span h =
    let p = produces_of is.activations stream position span h in
    let same : window_number is.activations p.number ≡ p.window = get_or_from_slice_get (windows is.activations) p.number p.window no_window p.stands in
    let small = end_small (length layout.writers) is.activations is.lawful p.number stream (slice_get_within (windows is.activations) p.number p.window p.stands) (ap (λ (w : Window). is_write_to stream w.claim) same ∙ p.on_stream) in
    let end : (window_number is.activations p.number).first + (window_number is.activations p.number).claim.horizon ≡ p.window.first + p.window.claim.horizon = ap (λ (w : Window). w.first + w.claim.horizon) same in
    subst (λ (s : Span). s.first + s.count ≤ 4194304) (sym p.is) (omega (arith, small, end))

-- an element of a stream that isn't the input isn't there where its producer isn't Done
gap_by : (activations : List Activation) (input_len : ℕ) (ends : List (Option TaskEnd)) (stream position : ℕ) (o : Option Window) → 0 < stream → producer activations stream position ≡ o
    → is_gap activations input_len ends stream position ≡ not (option_map_or (λ (w : Window). has_end_at ends w.activation) o false)
gap_by activations input_len ends stream position o positive is =
    let other : (stream == 0) ≡ false = grind (arith, nat_tests) in
    ap (λ b. not (cond b (nat_lt position input_len) (option_map_or (λ (w : Window). has_end_at ends w.activation) (producer activations stream position) false))) other
    ∙ ap (λ p. not (option_map_or (λ (w : Window). has_end_at ends w.activation) p false)) is

-- an element without producer isn't there
pub gap_by_nobody : (activations : List Activation) (input_len : ℕ) (ends : List (Option TaskEnd)) (stream position : ℕ) → 0 < stream → None ≡ option_map span_of (producer activations stream position) → is_gap activations input_len ends stream position ≡ true
gap_by_nobody activations input_len ends stream position positive h = by (producer activations stream position) refl h
  where
    by : (o : Option Window) → producer activations stream position ≡ o → None ≡ option_map span_of o → is_gap activations input_len ends stream position ≡ true
    by None is h = gap_by activations input_len ends stream position None positive is
    by (Some w) is h = absurd cc

-- nor is one whose producer isn't Done
pub gap_by_producer : (activations : List Activation) (input_len : ℕ) (ends : List (Option TaskEnd)) (stream position : ℕ) (span : Span) → 0 < stream → Some span ≡ option_map span_of (producer activations stream position) → has_end_at ends span.frame ≡ false
    → is_gap activations input_len ends stream position ≡ true
gap_by_producer activations input_len ends stream position span positive h open_end =
    let p = produces_of activations stream position span h in
    gap_by activations input_len ends stream position (Some p.window) positive p.produces ∙ ap (λ (s : Span). not (has_end_at ends s.frame)) (sym p.is) ∙ ap not open_end

-- up to the end of a producer that is Done all elements are there
pub reaches : (activations : List Activation) (input_len : ℕ) (ends : List (Option TaskEnd)) (stream position : ℕ) (span : Span) → 0 < stream → Some span ≡ option_map span_of (producer activations stream position) → has_end_at ends span.frame ≡ true
    → Reaches activations input_len ends stream position (Some (span.first + span.count))
reaches activations input_len ends stream position span positive h done =
    let p = produces_of activations stream position span h in
    let w = p.window in
    let end : span.first + span.count ≡ w.first + w.claim.horizon = ap (λ (s : Span). s.first + s.count) p.is in
    let to = p.to in
    let from = p.from in (
      omega arith,
      λ q low high.
          let high_in : q < w.first + w.claim.horizon = omega arith in
          let low_in : w.first ≤ q = omega arith in
          let passes : is_written_by stream q w ≡ true =
          ap (λ b. b && nat_le w.first q && nat_lt q (w.first + w.claim.horizon)) p.on_stream ∙ ap (λ b. b && nat_lt q (w.first + w.claim.horizon)) (le-leb w.first q low_in) ∙ lt-ltb q (w.first + w.claim.horizon) high_in in
          gap_by activations input_len ends stream q (Some w) positive (producer_of activations stream q p.number w p.stands passes) ∙ ap (λ (s : Span). not (has_end_at ends s.frame)) (sym p.is) ∙ ap not done,
    )
