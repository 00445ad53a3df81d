-- The layout with the spans of the next activations behind its own.
use Rattle.std.proofs.Common.{◌≡◌, ℕ, ◌+◌, ◌<◌, Bool, cond, true, false, List, [], ◌∷◌, ◌++◌, All, length, map, get_or, set, refl, sym, ap, ◌∙◌, subst, arith}
use Rattle.std.proofs.lemmas.List.{append-nil, append_assoc, length-append, length-map, length-set, get_or-map}
use Rattle.std.proofs.lemmas.List.Elements.{All-map}
use Rattle.epoch_run_portions.proofs.Passing.{All-back}
use Rattle.flow_core_laws.specs.declared.activation.Activation.{Activation}
use Rattle.flow_core_laws.specs.declared.claim.Claim.{Claim}
use Rattle.flow_core_laws.specs.Window.{Window, claims_of, windows}
use Rattle.stream_match_layouts.specs.declared.cursors.Cursors.{Cursors}
use Rattle.stream_match_layouts.specs.declared.layout.Layout.{Layout}
use Rattle.stream_match_layouts.specs.declared.span.Span.{Span}
use Rattle.stream_match_layouts.specs.Adding.{with_claim}
use Rattle.stream_match_layouts.specs.Cursors.{span_by}
use Rattle.stream_match_layouts.specs.Lawful.{AreLawful, IsLawfulClaim}
use Rattle.stream_match_layouts.specs.Layout.{IsLayoutOf, TakesMore, span_of}
use Rattle.stream_match_layouts.proofs.Bounds.{length-claims-le}
use Rattle.stream_match_layouts.proofs.Windows.{claims_in-windows}
use Rattle.epoch_run.specs.NextSpans.{ComeBehind, FitBehind, joined, with_next, with_writer, with_writers}
use Rattle.epoch_run.specs.declared.next_spans.NextSpans.{NextSpans}

-- ---- writers

pub with_writers-push : (ws : List (List ℕ)) (n : ℕ) (spans : List Span) (s : Span) → with_writers ws n (spans ++ s ∷ []) ≡ with_writer (with_writers ws n spans) (n + length spans) s
with_writers-push ws n [] s = ap (λ k. with_writer ws k s) (let e : n ≡ n + 0 = omega arith in e)
with_writers-push ws n (t ∷ spans) s =
    with_writers-push (with_writer ws n t) (n + 1) spans s
    ∙ ap (λ k. with_writer (with_writers (with_writer ws n t) (n + 1) spans) k s) (let e : (n + 1) + length spans ≡ n + length (t ∷ spans) = omega arith in e)

pub length-with_writer : (ws : List (List ℕ)) (n : ℕ) (s : Span) → length (with_writer ws n s) ≡ length ws
length-with_writer ws n s = at s.write
  where
    at : (b : Bool) → length (cond b (set ws s.stream (get_or ws s.stream [] ++ n ∷ [])) ws) ≡ length ws
    at true = length-set ws s.stream _
    at false = refl

pub length-with_writers : (ws : List (List ℕ)) (n : ℕ) (spans : List Span) → length (with_writers ws n spans) ≡ length ws
length-with_writers ws n [] = refl
length-with_writers ws n (s ∷ spans) = length-with_writers (with_writer ws n s) (n + 1) spans ∙ length-with_writer ws n s

-- there are as many streams as before
pub length-joined : (layout : Layout) (next : NextSpans) → length (joined layout next).writers ≡ length layout.writers
length-joined layout next = length-with_writers layout.writers (length layout.spans) next.spans

-- ---- no activation

pub joined-none : (layout : Layout) (next : NextSpans) → next.spans ≡ [] → next.starts ≡ [] → next.cursors ≡ layout.cursors → joined layout next ≡ layout
joined-none layout next spans starts cursors =
    let l : List Span → List ℕ → List (List ℕ) → Cursors → Layout = λ xs ys ws cs. record { spans = xs; starts = ys; writers = ws; cursors = cs; input_len = layout.input_len } in
    ap (λ xs. l (layout.spans ++ xs) (layout.starts ++ next.starts) (with_writers layout.writers (length layout.spans) xs) next.cursors) spans
    ∙ ap (λ xs. l xs (layout.starts ++ next.starts) layout.writers next.cursors) (append-nil layout.spans)
    ∙ ap (λ ys. l layout.spans (layout.starts ++ ys) layout.writers next.cursors) starts
    ∙ ap (λ ys. l layout.spans ys layout.writers next.cursors) (append-nil layout.starts)
    ∙ ap (λ cs. l layout.spans layout.starts layout.writers cs) cursors

-- ---- one more claim

pub joined-with_next : (layout : Layout) (next : NextSpans) (frame : ℕ) (claim : Claim) (offset : ℕ) → joined layout (with_next next frame claim offset) ≡ with_claim (joined layout next) frame claim offset
joined-with_next layout next frame claim offset =
    let s : Span = span_by next.cursors frame claim offset in
    let ws : List (List ℕ) = with_writers layout.writers (length layout.spans) next.spans in
    let after = with_next next frame claim offset in
    let l : List Span → List (List ℕ) → Layout = λ xs vs. record { spans = xs; starts = layout.starts ++ next.starts; writers = vs; cursors = after.cursors; input_len = layout.input_len } in
    ap (λ xs. l xs (with_writers layout.writers (length layout.spans) (next.spans ++ s ∷ []))) (sym (append_assoc layout.spans next.spans (s ∷ [])))
    ∙ ap (l ((layout.spans ++ next.spans) ++ s ∷ [])) (with_writers-push layout.writers (length layout.spans) next.spans s ∙ ap (λ k. with_writer ws k s) (sym (length-append layout.spans next.spans)))

-- ---- what was laid out for lawful activations can be put behind the layout

module _ (layout : Layout) (next : NextSpans) (all : List Activation) (is_of : IsLayoutOf (joined layout next) all) (lawful : AreLawful (length layout.writers) all) where
  claims_lawful : All (IsLawfulClaim (length layout.writers)) (map (λ (w : Window). w.claim) (windows all))
  claims_lawful = subst (All (IsLawfulClaim (length layout.writers))) (sym (claims_in-windows all)) lawful.claims_are_lawful

  on_streams : All (λ (s : Span). s.stream < length layout.writers) (map span_of (windows all))
  on_streams = All-map (λ (s : Span). s.stream < length layout.writers) span_of (windows all)
      (λ k d lt. (subst (IsLawfulClaim (length layout.writers)) (get_or-map (λ (w : Window). w.claim) (windows all) k d d.claim lt)
      (claims_lawful k d.claim (omega (arith, length-map (windows all) (λ (w : Window). w.claim))))).stream_exists)

  pub fit_behind : FitBehind layout next
  fit_behind =
      let spans = is_of.of_windows.spans in
      let count : length layout.spans + length next.spans ≡ length (claims_of all) =
      sym (length-append layout.spans next.spans) ∙ ap length spans ∙ length-map (windows all) span_of ∙ sym (length-map (windows all) (λ (w : Window). w.claim)) ∙ ap length (claims_in-windows all) in
      let few = lawful.positions_are_few in
      record {
        few = omega (arith, count, few, length-claims-le (length layout.writers) (claims_of all) lawful.claims_are_lawful);
        exist = All-back (λ (s : Span). s.stream < length layout.writers) layout.spans next.spans (subst (All (λ (s : Span). s.stream < length layout.writers)) (sym spans) on_streams);
      }

-- the same for the activations that the layout takes more of
pub fits : (layout : Layout) (next : NextSpans) (more : List Activation) → TakesMore layout more → ComeBehind layout more next → FitBehind layout next
fits layout next more takes come = fit_behind layout next (takes.before ++ more) (come.laid takes.before takes.is_of) takes.lawful
