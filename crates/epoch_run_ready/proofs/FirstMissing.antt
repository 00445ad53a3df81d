-- Positions of streams whose elements can't come.
use Rattle.std.proofs.Common.{◌≡◌, ◌≢◌, ℕ, ◌<◌, ◌≤◌, List, Bool, true, false, cond, ◌⊎◌, inl, inr, length, min, get_or, set, refl, sym, ap, ◌∙◌, subst, arith}
use Rattle.std.specs.Prelude.{◌==◌, Contains}
use Rattle.std.proofs.lemmas.Bool.{cases_eq, cases_lt, and_parts, eqb-true}
use Rattle.std.proofs.lemmas.List.{get_or-set_same, get_or-set_other, length-set}
use Rattle.std.proofs.lemmas.List.FromFn.{length-map-range_with_len}
use Rattle.std.proofs.lemmas.Option.{slice_get_within, get_or_from_slice_get}
use Rattle.flow_core_epochs.proofs.Members.{Has, of_map}
use Rattle.flow_core_epochs.proofs.Reading.{has_contained}
use Rattle.flow_core_epochs.proofs.Written.{has_window, window_activation}
use Rattle.flow_core_laws.specs.FirstPosition.{write_cursor}
use Rattle.flow_core_laws.specs.Window.{Window, windows, windows_of}
use Rattle.stream_match_layouts.proofs.FrameSpans.{spans_of-windows}
use Rattle.stream_match_layouts.proofs.Sums.{frames_are}
use Rattle.stream_match_layouts.proofs.Windows.{no_window}
use Rattle.stream_match_layouts.proofs.Writers.{lawful_window, length-spans, span_at-window, window_number}
use Rattle.stream_match_layouts.specs.Layout.{claims_in, IsLayout, span_of}
use Rattle.stream_match_layouts.specs.Spans.{frame_count, spans_of}
use Rattle.stream_match_layouts.specs.Writers.{span_at}
use Rattle.stream_match_layouts.specs.declared.layout.Layout.{Layout}
use Rattle.stream_match_layouts.specs.declared.span.Span.{Span}
use Rattle.epoch_run_ready.specs.Lowering.{as_before, is_written_on, IsLowered, lowered, to_write}
use Rattle.epoch_run_ready.specs.Waiting.{AreMissing, behind, PositionCannotCome, is_stuck, stuck, written_until}

-- one more span
pub lowered_more : (spans : List Span) (stream before now after : ℕ) (span : Span) → Contains spans span → IsLowered spans stream before now → after ≡ lowered stream span now → IsLowered spans stream before after
lowered_more spans stream before now after span is_one so_far step = by_test (is_written_on stream span) refl step
  where
    as_far : after ≡ now → IsLowered spans stream before now → IsLowered spans stream before after
    as_far e (as_before b) = as_before (e ∙ b)
    as_far e (to_write s c w on at) = to_write s c w on (e ∙ at)

    by_test : (b : Bool) → is_written_on stream span ≡ b → after ≡ cond b (min now span.first) now → IsLowered spans stream before after
    by_test false e same = as_far same so_far
    by_test true e least =
        let parts = and_parts span.write (span.stream == stream) e in
        elim (cases_lt span.first now) [
          | inl lt ↦ to_write span is_one parts.0 (eqb-true span.stream stream parts.1) (omega (arith, least))
          | inr ge ↦ as_far (omega (arith, least)) so_far
        ]

-- by one span alone
pub lowered_one : (spans : List Span) (stream before after : ℕ) (span : Span) → Contains spans span → after ≡ lowered stream span before → IsLowered spans stream before after
lowered_one spans stream before after span is_one step = lowered_more spans stream before before after span is_one (as_before refl) step

-- behind all that is written
pub behind_missing : (layout : Layout) (is : IsLayout layout) (waits : List Bool) → AreMissing layout waits (set layout.cursors.writes 0 layout.input_len)
behind_missing layout is waits = record { one_each = length-set layout.cursors.writes 0 layout.input_len ∙ streams; cannot_come = λ stream lt. behind (until stream (cases_eq stream 0)) }
  where
    streams : length layout.cursors.writes ≡ length layout.writers
    streams = ap length is.is_of.of_windows.writes ∙ length-map-range_with_len (λ stream. write_cursor stream (claims_in (windows is.activations))) 0 (length layout.writers)

    at_other : (stream : ℕ) → stream ≢ 0 → (b : Bool) → (stream == 0) ≡ b → cond b layout.input_len (get_or layout.cursors.writes stream 0) ≤ get_or layout.cursors.writes stream 0
    at_other stream other true e = absurd (other (eqb-true stream 0 e))
    at_other stream other false e = omega arith

    until : (stream : ℕ) → (stream ≡ 0) ⊎ (stream ≢ 0) → written_until layout stream ≤ get_or (set layout.cursors.writes 0 layout.input_len) stream 0
    until stream (inl zero_is) =
        let here : get_or (set layout.cursors.writes 0 layout.input_len) 0 0 ≡ layout.input_len = get_or-set_same layout.cursors.writes 0 layout.input_len 0 (omega (arith, streams, is.has_output)) in
        subst (λ n. written_until layout n ≤ get_or (set layout.cursors.writes 0 layout.input_len) n 0) (sym zero_is) (omega (arith, here))
    until stream (inr other) = subst (λ n. written_until layout stream ≤ n) (sym (get_or-set_other layout.cursors.writes 0 stream layout.input_len 0 other)) (at_other stream other (stream == 0) refl)

-- what a stuck activation writes
written_missing : (layout : Layout) (is : IsLayout layout) (waits : List Bool) (a : ℕ) (s : Span) → a < frame_count layout → Has (spans_of layout a) s → s.write ≡ true → is_stuck waits a ≡ true → PositionCannotCome layout waits s.stream s.first
written_missing layout is waits a s lt has writes marked =
    let n = frames_are layout is in
    let a_lt : a < length is.activations = omega (arith, n) in
    let (w, w_in, w_is) = of_map span_of (windows_of is.activations a) s (subst (λ xs. Has xs s) (spans_of-windows layout is.activations is.is_of a a_lt) has) in
    let (number, at) = has_window is.activations a w a_lt w_in in
    let within = slice_get_within (windows is.activations) number w at in
    let same : window_number is.activations number ≡ w = get_or_from_slice_get (windows is.activations) number w no_window at in
    let here : span_at layout number ≡ s = span_at-window layout is.activations is.is_of number within ∙ ap span_of same ∙ w_is in
    let law = lawful_window (length layout.writers) is.activations is.lawful number within in
    let w_writes : (window_number is.activations number).claim.write ≡ true = ap (λ (v : Window). v.claim.write) same ∙ ap (λ (t : Span). t.write) w_is ∙ writes in
    let on : (window_number is.activations number).claim.stream ≡ s.stream = ap (λ (v : Window). v.claim.stream) same ∙ ap (λ (t : Span). t.stream) w_is in
    let horizon : (window_number is.activations number).claim.horizon ≡ s.count = ap (λ (v : Window). v.claim.horizon) same ∙ ap (λ (t : Span). t.count) w_is in
    let frame : s.frame ≡ a = sym (ap (λ (t : Span). t.frame) w_is) ∙ window_activation is.activations a w w_in in
    let first = ap (λ (t : Span). t.first) here in
    let count = ap (λ (t : Span). t.count) here in
    stuck number (λ z. law.input_is_read w_writes (on ∙ z)) (omega (arith, length-spans layout is.activations is.is_of, within)) (ap (λ (t : Span). t.write) here ∙ writes) (ap (λ (t : Span). t.stream) here)
    (omega (arith, first)) (omega (arith, first, count, horizon, law.smallest)) (ap (is_stuck waits) (ap (λ (t : Span). t.frame) here ∙ frame) ∙ marked)

-- lowered to what a stuck activation writes
pub missing_lowered : (layout : Layout) (is : IsLayout layout) (waits : List Bool) (a : ℕ) (spans : List Span) (old new : List ℕ) → a < frame_count layout → spans ≡ spans_of layout a → is_stuck waits a ≡ true → AreMissing layout waits old → length new ≡ length old
    → ((stream : ℕ) → IsLowered spans stream (get_or old stream 0) (get_or new stream 0)) → AreMissing layout waits new
missing_lowered layout is waits a spans old new lt spans_are marked are len low = record { one_each = len ∙ are.one_each; cannot_come = λ stream s_lt. at stream (are.cannot_come stream s_lt) (low stream) }
  where
    at : (stream : ℕ) → PositionCannotCome layout waits stream (get_or old stream 0) → IsLowered spans stream (get_or old stream 0) (get_or new stream 0) → PositionCannotCome layout waits stream (get_or new stream 0)
    at stream before (as_before e) = subst (PositionCannotCome layout waits stream) (sym e) before
    at stream before (to_write span is_one writes on first) =
        let has = has_contained (spans_of layout a) span (subst (λ xs. Contains xs span) spans_are is_one) in
        subst (λ n. PositionCannotCome layout waits n (get_or new stream 0)) on (subst (PositionCannotCome layout waits span.stream) (sym first) (written_missing layout is waits a span lt has writes marked))
