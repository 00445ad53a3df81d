-- The spans of a frame, and sums over them.
use Rattle.std.proofs.Common.{◌≡◌, ℕ, ◌+◌, ◌-◌, ◌<◌, ◌≤◌, Bool, true, false, cond, List, [], ◌∷◌, ◌++◌, length, take, drop, map, get_or, refl, sym, ap, ◌∙◌, arith, zero-add}
use Rattle.std.specs.Prelude.{sum_by}
use Rattle.std.proofs.Math.Seq.{take-add}
use Rattle.std.proofs.lemmas.List.{length-append, take_all}
use Rattle.std.proofs.lemmas.List.FromFn.{get_or-map-range_with_len, length-map-range_with_len}
use Rattle.std.proofs.lemmas.List.Sums.{sum_by-append, sum_by-cons, sum_by_more_le, sum_by-take-drop, sum_by-take-le}
use Rattle.flow_core_laws.specs.declared.activation.Activation.{Activation}
use Rattle.flow_core_laws.specs.declared.claim.Claim.{Claim}
use Rattle.flow_core_laws.specs.Window.{Window, windows, claims_of, claims_at}
use Rattle.flow_core_laws.proofs.Windows.{claims_of-take_more, claims_split, length-windows}
use Rattle.stream_match_layouts.specs.declared.span.Span.{Span}
use Rattle.stream_match_layouts.specs.declared.layout.Layout.{Layout}
use Rattle.stream_match_layouts.specs.Layout.{span_of, claims_in, IsLayoutOf}
use Rattle.stream_match_layouts.specs.Spans.{frame_count, start_of, spans_of, read_count, write_count, cells_before}
use Rattle.stream_match_layouts.proofs.Windows.{claims_in-windows}
use Rattle.stream_match_layouts.proofs.Writers.{length-spans}

pub sum_counts : (ws : List Window) → sum_by (λ (s : Span). s.count) (map span_of ws) ≡ sum_by (λ (c : Claim). c.horizon) (claims_in ws)
sum_counts [] = refl
sum_counts (w ∷ ws) = sum_by-cons (λ (s : Span). s.count) (span_of w) (map span_of ws) ∙ ap (λ n. w.claim.horizon + n) (sum_counts ws) ∙ sym (sum_by-cons (λ (c : Claim). c.horizon) w.claim (claims_in ws))

module _ (layout : Layout) (activations : List Activation) (of : IsLayoutOf layout activations) where
  pub frame_count-is : frame_count layout ≡ length activations
  frame_count-is = let e = ap length of.starts ∙ length-map-range_with_len (λ a. length (claims_of (take a activations))) 0 (length activations + 1) in omega arith

  -- where the spans of a frame begin
  pub start-is : (f : ℕ) → f ≤ length activations → start_of layout f ≡ length (claims_of (take f activations))
  start-is f le = ap (λ xs. get_or xs f 0) of.starts ∙ get_or-map-range_with_len (λ a. length (claims_of (take a activations))) 0 (length activations + 1) f f 0 (omega arith) (zero-add f)

  pub start-next : (f : ℕ) → f < length activations → start_of layout (f + 1) ≡ start_of layout f + length (claims_at activations f)
  start-next f lt =
      let a = start-is f (omega arith) in
      let b = start-is (f + 1) (omega arith) in
      let c = ap length (claims_of-take_more activations f) ∙ length-append (claims_of (take f activations)) (claims_at activations f) in
      omega (arith, a, b, c)

  pub start-within : (f : ℕ) → f < length activations → start_of layout (f + 1) ≤ length layout.spans
  start-within f lt =
      let a = start-is f (omega arith) in
      let b = start-next f lt in
      let c = ap length (claims_split activations f) ∙ length-append (claims_of (take f activations) ++ claims_at activations f) (claims_of (drop (f + 1) activations)) in
      let d = length-append (claims_of (take f activations)) (claims_at activations f) in
      omega (arith, a, b, c, d, length-spans layout activations of, length-windows activations)

  pub start-first : start_of layout 0 ≡ 0
  start-first = start-is 0 (omega arith)

  pub start-last : start_of layout (length activations) ≡ length layout.spans
  start-last = start-is (length activations) (omega arith) ∙ ap (λ xs. length (claims_of xs)) (take_all (length activations) activations (omega arith)) ∙ sym (length-spans layout activations of ∙ length-windows activations)

  -- a sum over the spans before a frame, and before the next one
  pub sums-next : (h : Span → ℕ) (f : ℕ) → f < length activations → sum_by h (take (start_of layout (f + 1)) layout.spans) ≡ sum_by h (take (start_of layout f) layout.spans) + sum_by h (spans_of layout f)
  sums-next h f lt =
      let a = start_of layout f in
      let b = start_of layout (f + 1) in
      let n = start-next f lt in
      ap (λ k. sum_by h (take k layout.spans)) (let e : b ≡ a + (b - a) = omega arith in e)
      ∙ ap (sum_by h) (take-add a (b - a) layout.spans)
      ∙ sum_by-append h (take a layout.spans) (take (b - a) (drop a layout.spans))

  pub cells-next : (f : ℕ) → f < length activations → cells_before layout (start_of layout (f + 1)) ≡ cells_before layout (start_of layout f) + sum_by read_count (spans_of layout f)
  cells-next f lt = sums-next read_count f lt

  pub spans-few : sum_by (λ (c : Claim). c.horizon) (claims_of activations) ≤ 4194304 → sum_by (λ (s : Span). s.count) layout.spans ≤ 4194304
  spans-few few = omega (arith, ap (sum_by (λ (s : Span). s.count)) of.of_windows.spans ∙ sum_counts (windows activations) ∙ ap (sum_by (λ (c : Claim). c.horizon)) (claims_in-windows activations))

  -- the positions of a frame's spans
  pub counts-few : sum_by (λ (c : Claim). c.horizon) (claims_of activations) ≤ 4194304 → (f : ℕ) → sum_by (λ (s : Span). s.count) (spans_of layout f) ≤ 4194304
  counts-few few f =
      let a = start_of layout f in
      let whole = ap (sum_by (λ (s : Span). s.count)) of.of_windows.spans ∙ sum_counts (windows activations) ∙ ap (sum_by (λ (c : Claim). c.horizon)) (claims_in-windows activations) in
      let rest = sum_by-take-drop (λ (s : Span). s.count) layout.spans a in
      let part = sum_by-take-le (λ (s : Span). s.count) (drop a layout.spans) (start_of layout (f + 1) - a) in
      omega (arith, whole, rest, part)

-- a sum of smaller terms is smaller
pub sum-le : (f g : Span → ℕ) (xs : List Span) → ((s : Span) → f s ≤ g s) → sum_by f xs ≤ sum_by g xs
sum-le f g [] h = omega arith
sum-le f g (x ∷ xs) h = omega (arith, sum_by-cons f x xs, sum_by-cons g x xs, h x, sum-le f g xs h)

pub read-le : (s : Span) → read_count s ≤ s.count
read-le s = at s.write
  where
    at : (b : Bool) → cond {A = ℕ} b 0 s.count ≤ s.count
    at true = omega arith
    at false = omega arith

pub write-le : (s : Span) → write_count s ≤ s.count
write-le s = at s.write
  where
    at : (b : Bool) → cond {A = ℕ} b s.count 0 ≤ s.count
    at true = omega arith
    at false = omega arith

-- a sum so far and the next term are within the whole
pub tally_fits : (f : Span → ℕ) → ((s : Span) → f s ≤ s.count) → (xs : List Span) (k : ℕ) (d : Span) → k < length xs → sum_by f (take k xs) + f (get_or xs k d) ≤ sum_by (λ (s : Span). s.count) xs
tally_fits f h xs k d lt = omega (arith, sum_by_more_le f xs k d lt, sum-le f (λ (s : Span). s.count) xs h)
