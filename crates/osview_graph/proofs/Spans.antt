-- The spans of a run that is drawn are those of its windows.
use Rattle.std.proofs.Common.{◌≡◌, ◌∙◌, ◌^◌, ◌≤◌, ◌<◌, ℕ, Bool, true, false, cond, inl, inr, ap, arith, get_or, length, sym}
use Rattle.std.specs.Prelude.{◌&&◌}
use Rattle.std.proofs.lemmas.Bool.{cases_lt}
use Rattle.std.proofs.lemmas.List.{get_or_past, get_or_default}
use Rattle.flow_core_laws.specs.Window.{Window, windows}
use Rattle.osview_graph.specs.Drawing.{IsDrawn, run_of}
use Rattle.collector.specs.Status.{has_done}
use Rattle.osview_graph.specs.DrawnRun.{end_at}
use Rattle.osview_graph.specs.Streams.{no_window, window_at, written_by}
use Rattle.osview_graph.specs.declared.drawn.Drawn.{Drawn}
use Rattle.stream_match_layouts.specs.Layout.{span_of}
use Rattle.stream_match_layouts.specs.Writers.{no_span}
use Rattle.stream_match_layouts.specs.declared.span.Span.{Span}
use Rattle.stream_match_layouts.proofs.Sums.{first_small, spans_bound}
use Rattle.stream_match_layouts.proofs.Writers.{lawful_window, length-spans, span_at-window}

module _ (drawn : Drawn) (is : IsDrawn drawn) where
  -- how many there are
  pub count : length drawn.layout.now.spans ≡ length (windows drawn.activations.now)
  count = length-spans drawn.layout.now drawn.activations.now is.laid

  pub few : length drawn.layout.now.spans ≤ 4194304
  few = spans_bound drawn.layout.now is.layout

  -- a span by its number
  pub span_is : (k : ℕ) (d : Span) → k < length drawn.layout.now.spans → get_or drawn.layout.now.spans k d ≡ span_of (window_at (run_of drawn) k)
  span_is k d lt =
      get_or_default drawn.layout.now.spans k d no_span lt
      ∙ span_at-window drawn.layout.now drawn.activations.now is.laid k (omega (arith, count, lt))

  -- a window of the lawful activations has the same size and begins at the same position
  same_span : (k : ℕ) → k < length drawn.layout.now.spans → span_of (window_at (run_of drawn) k) ≡ span_of (get_or (windows is.layout.activations) k no_window)
  same_span k lt =
      sym (span_is k no_span lt)
      ∙ span_at-window drawn.layout.now is.layout.activations is.layout.is_of k (omega (arith, length-spans drawn.layout.now is.layout.activations is.layout.is_of, lt))

  pub largest : (k : ℕ) → (window_at (run_of drawn) k).claim.horizon ≤ 65536
  largest k = elim (cases_lt k (length drawn.layout.now.spans)) [
    | inl lt ↦
        let lawful = (lawful_window (length drawn.layout.now.writers) is.layout.activations is.layout.lawful k (omega (arith, length-spans drawn.layout.now is.layout.activations is.layout.is_of, lt))).largest in
        let same = ap (λ (s : Span). s.count) (same_span k lt) in
        omega (arith, lawful, same)
    | inr past ↦
        let none = ap (λ (w : Window). w.claim.horizon) (get_or_past (windows drawn.activations.now) k no_window (omega (arith, count, past))) in
        omega (arith, none)
  ]

  pub begins_small : (k : ℕ) → k < length drawn.layout.now.spans → (window_at (run_of drawn) k).first < 2 ^ 62
  begins_small k lt =
      let small = first_small drawn.layout.now is.layout k (omega (arith, length-spans drawn.layout.now is.layout.activations is.layout.is_of, lt)) in
      let same = ap (λ (s : Span). s.first) (same_span k lt) in
      omega (arith, small, same)

  -- what a window gives is no more than it covers
  pub given-le : (k : ℕ) → written_by (run_of drawn) (window_at (run_of drawn) k) ≤ 65536
  given-le k = by (window_at (run_of drawn) k).claim.write (has_done (end_at (run_of drawn) (window_at (run_of drawn) k).activation)) where
    by : (b d : Bool) → cond {A = ℕ} (b && d) (window_at (run_of drawn) k).claim.horizon 0 ≤ 65536
    by true true = largest k
    by true false = omega arith
    by false d = omega arith

  pub stream_small : (k : ℕ) → k < length drawn.layout.now.spans → (window_at (run_of drawn) k).claim.stream < drawn.streams
  stream_small k lt = (lawful_window drawn.streams drawn.activations.now is.lawful k (omega (arith, count, lt))).stream_exists

  pub writer_exists : (k : ℕ) → k < length drawn.layout.now.spans → (window_at (run_of drawn) k).claim.stream < length drawn.layout.now.writers
  writer_exists k lt =
      let exists = (lawful_window (length drawn.layout.now.writers) is.layout.activations is.layout.lawful k (omega (arith, length-spans drawn.layout.now is.layout.activations is.layout.is_of, lt))).stream_exists in
      let same = ap (λ (s : Span). s.stream) (same_span k lt) in
      omega (arith, exists, same)
