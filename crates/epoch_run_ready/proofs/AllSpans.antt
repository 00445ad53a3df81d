-- The spans of all activations.
use Rattle.std.proofs.Common.{◌<◌, ◌^◌, All, length, sym, ◌∙◌, subst, arith}
use Rattle.std.proofs.lemmas.List.{get_or_default}
use Rattle.flow_core_laws.specs.Window.{windows}
use Rattle.stream_match_layouts.proofs.Sums.{first_small}
use Rattle.stream_match_layouts.proofs.Writers.{lawful_window, length-spans, span_at-window}
use Rattle.stream_match_layouts.specs.Layout.{IsLayout}
use Rattle.stream_match_layouts.specs.Writers.{no_span}
use Rattle.stream_match_layouts.specs.declared.layout.Layout.{Layout}
use Rattle.stream_match_layouts.specs.declared.span.Span.{Span}

module _ (layout : Layout) (is : IsLayout layout) where
  -- each is on a stream of the layout
  pub all_exist : All (λ (s : Span). s.stream < length layout.writers) layout.spans
  all_exist = λ i d lt.
      let within : i < length (windows is.activations) = omega (arith, lt, length-spans layout is.activations is.is_of) in
      let here = span_at-window layout is.activations is.is_of i within in
      subst (λ (s : Span). s.stream < length layout.writers) (sym here ∙ get_or_default layout.spans i no_span d lt)
      (lawful_window (length layout.writers) is.activations is.lawful i within).stream_exists

  -- and begins early
  pub all_small : All (λ (s : Span). s.first < 2 ^ 62) layout.spans
  all_small = λ i d lt.
      let within : i < length (windows is.activations) = omega (arith, lt, length-spans layout is.activations is.is_of) in
      let here = span_at-window layout is.activations is.is_of i within in
      subst (λ (s : Span). s.first < 2 ^ 62) (sym here ∙ get_or_default layout.spans i no_span d lt) (first_small layout is i within)
