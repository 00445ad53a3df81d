-- How many positions of a stream are claimed for writing.
use Rattle.std.proofs.Common.{◌≡◌, ◌∙◌, ◌+◌, ◌<◌, ◌≤◌, ◌&&◌, ℕ, suc, Bool, true, false, cond, All, List, [], ◌∷◌, ap, arith, filter, length, get_or, map, refl, sum_by, sym, zero-add}
use Rattle.std.specs.Prelude.{◌==◌}
use Rattle.std.proofs.lemmas.Bool.{ne_eqb}
use Rattle.std.proofs.lemmas.List.FromFn.{get_or-map-range_with_len, length-map-range_with_len}
use Rattle.std.proofs.lemmas.List.Sums.{sum_by-cons}
use Rattle.stream_match_layouts.proofs.Windows.{claims_in-windows}
use Rattle.flow_core_laws.specs.FirstPosition.{is_write_to, write_cursor}
use Rattle.flow_core_laws.specs.Place.{written_count}
use Rattle.flow_core_laws.specs.Window.{Window, claims_of, windows}
use Rattle.flow_core_laws.specs.declared.claim.Claim.{Claim}
use Rattle.flow_core_laws.specs.declared.activation.Activation.{Activation}
use Rattle.stream_match_layouts.specs.Lawful.{IsLawfulClaim}
use Rattle.stream_match_layouts.specs.Layout.{IsLayout, IsLayoutOf, claims_in, span_of}
use Rattle.stream_match_layouts.specs.declared.layout.Layout.{Layout}
use Rattle.stream_match_layouts.specs.declared.span.Span.{Span}

-- the cursor of a stream that is there
pub claimed_of : (layout : Layout) (activations : List Activation) → IsLayoutOf layout activations → (stream : ℕ) → stream < length layout.writers
    → get_or layout.cursors.writes stream 0 ≡ written_count activations stream
claimed_of layout activations of stream exists =
    ap (λ xs. get_or xs stream 0) of.of_windows.writes
    ∙ get_or-map-range_with_len (λ s. write_cursor s (claims_in (windows activations))) 0 (length layout.writers) stream stream 0 exists (zero-add stream)
    ∙ ap (write_cursor stream) (claims_in-windows activations)

-- a claim on a stream that is there doesn't write to one that isn't
other_stream : (n stream : ℕ) (write : Bool) (at : ℕ) → at < n → n ≤ stream → (write && (at == stream)) ≡ false
other_stream n stream true at exists past = ne_eqb at stream (λ same. let e : at ≡ stream = same in omega (arith, e, exists, past))
other_stream n stream false at exists past = refl

-- so nothing is claimed there
none_in : (n stream : ℕ) (claims : List Claim) → All (IsLawfulClaim n) claims → n ≤ stream → write_cursor stream claims ≡ 0
none_in n stream [] lawful past = refl
none_in n stream (c ∷ claims) lawful past =
    let here : IsLawfulClaim n c = lawful 0 c (omega arith) in
    let other : is_write_to stream c ≡ false = other_stream n stream c.write c.stream here.stream_exists past in
    ap (λ (b : Bool). sum_by (λ (x : Claim). x.horizon) (cond b (c ∷ filter (is_write_to stream) claims) (filter (is_write_to stream) claims))) other
    ∙ none_in n stream claims (λ k d lt. lawful (suc k) d (omega arith)) past

-- what spans claim for writing on a stream
abbrev claimed_by : (stream : ℕ) → List Span → ℕ
claimed_by stream spans = sum_by (λ (s : Span). s.count) (filter (λ (s : Span). s.write && s.stream == stream) spans)

-- one more span with one more claim
by_test : (stream : ℕ) (w : Window) (ws : List Window) → claimed_by stream (map span_of ws) ≡ write_cursor stream (claims_in ws) → (b : Bool)
    → sum_by (λ (s : Span). s.count) (cond b (span_of w ∷ filter (λ (s : Span). s.write && s.stream == stream) (map span_of ws)) (filter (λ (s : Span). s.write && s.stream == stream) (map span_of ws)))
    ≡ sum_by (λ (c : Claim). c.horizon) (cond b (w.claim ∷ filter (is_write_to stream) (claims_in ws)) (filter (is_write_to stream) (claims_in ws)))
by_test stream w ws rest true =
    sum_by-cons (λ (s : Span). s.count) (span_of w) (filter (λ (s : Span). s.write && s.stream == stream) (map span_of ws))
    ∙ ap (λ (n : ℕ). w.claim.horizon + n) rest
    ∙ sym (sum_by-cons (λ (c : Claim). c.horizon) w.claim (filter (is_write_to stream) (claims_in ws)))
by_test stream w ws rest false = rest

-- is what the claims of their windows do
claims_of_spans : (stream : ℕ) (ws : List Window) → claimed_by stream (map span_of ws) ≡ write_cursor stream (claims_in ws)
claims_of_spans stream [] = refl
claims_of_spans stream (w ∷ ws) = by_test stream w ws (claims_of_spans stream ws) (is_write_to stream w.claim)

by_spans : (layout : Layout) (activations : List Activation) → IsLayoutOf layout activations → (stream : ℕ) → claimed_by stream layout.spans ≡ written_count activations stream
by_spans layout activations of stream =
    ap (claimed_by stream) of.of_windows.spans ∙ claims_of_spans stream (windows activations) ∙ ap (write_cursor stream) (claims_in-windows activations)

pub none_claimed : (layout : Layout) → IsLayout layout → (activations : List Activation) → IsLayoutOf layout activations → (stream : ℕ)
    → length layout.writers ≤ stream → written_count activations stream ≡ 0
none_claimed layout is activations of stream past =
    sym (by_spans layout activations of stream) ∙ by_spans layout is.activations is.is_of stream
    ∙ none_in (length layout.writers) stream (claims_of is.activations) is.lawful.claims_are_lawful past

-- as many cursors as streams
pub length-writes : (layout : Layout) (activations : List Activation) → IsLayoutOf layout activations → length layout.cursors.writes ≡ length layout.writers
length-writes layout activations of = ap length of.of_windows.writes ∙ length-map-range_with_len _ 0 (length layout.writers)
