-- The spans of a frame by its windows, and where its stretches and outputs lie.
use Rattle.std.proofs.Common.{◌≡◌, ◌≢◌, ℕ, zero, suc, ◌+◌, ◌-◌, ◌<◌, ◌≤◌, Bool, true, false, cond, List, [], ◌∷◌, ◌++◌, length, take, drop, map, refl, sym, ap, ◌∙◌, subst, arith, zero-add}
use Rattle.std.specs.Prelude.{sum_by, filter, ◌==◌}
use Rattle.std.specs.List.{flat_map, range_with_len}
use Rattle.std.proofs.lemmas.Bool.{and_parts, eqb-true}
use Rattle.std.proofs.lemmas.List.{take_all}
use Rattle.std.proofs.lemmas.List.Sums.{sum_by-cons}
use Rattle.std.proofs.Math.Seq.{take-append_seam}
use Rattle.flow_core_laws.specs.declared.claim.Claim.{Claim}
use Rattle.flow_core_laws.specs.declared.activation.Activation.{Activation}
use Rattle.flow_core_laws.specs.Window.{Window, windows, windows_of, claims_of, claims_at, claim_at, offset_after}
use Rattle.flow_core_laws.proofs.There.{offset_within}
use Rattle.flow_core_laws.proofs.Windows.{is_window, length-windows_before, length-windows_behind}
use Rattle.flow_core_laws.proofs.Stretches.{flat_map-range-add}
use Rattle.stream_match_layouts.specs.declared.span.Span.{Span}
use Rattle.stream_match_layouts.specs.declared.layout.Layout.{Layout}
use Rattle.stream_match_layouts.specs.Layout.{span_of, claims_in, IsLayoutOf, IsLayout}
use Rattle.stream_match_layouts.specs.Writers.{span_at, writers_on, writer_at}
use Rattle.stream_match_layouts.specs.Spans.{frame_count, start_of, spans_of, write_count}
use Rattle.stream_match_layouts.proofs.Windows.{claims_in-first}
use Rattle.stream_match_layouts.proofs.Writers.{window_number, span_at-window, length-spans, there, number_at, number_exists, is_writer, writer_is, lawful_window}
use Rattle.stream_match_layouts.proofs.Sums.{frames_are}
use Rattle.stream_match_layouts.proofs.Tallies.{start-is, start-next}

-- a part in the middle
part_is : {X : Type 0} (before part after : List X) (a n : ℕ) → a ≡ length before → n ≡ length part → take n (drop a (before ++ (part ++ after))) ≡ part
part_is before part after a n a_is n_is =
    ap (λ k. take n (drop k (before ++ (part ++ after)))) a_is ∙ ap (take n) (drop-front before (part ++ after)) ∙ ap (λ k. take k (part ++ after)) n_is ∙ take-append_seam part after
  where
    drop-front : {Y : Type 0} (xs ys : List Y) → drop (length xs) (xs ++ ys) ≡ ys
    drop-front [] ys = refl
    drop-front (x ∷ xs) ys = drop-front xs ys

take_map : {A B : Type 0} (f : A → B) (n : ℕ) (xs : List A) → take n (map f xs) ≡ map f (take n xs)
take_map f zero xs = refl
take_map f (suc n) [] = refl
take_map f (suc n) (x ∷ xs) = ap (λ ys. f x ∷ ys) (take_map f n xs)

drop_map : {A B : Type 0} (f : A → B) (n : ℕ) (xs : List A) → drop n (map f xs) ≡ map f (drop n xs)
drop_map f zero xs = refl
drop_map f (suc n) [] = refl
drop_map f (suc n) (x ∷ xs) = drop_map f n xs

-- the windows of an activation stand together
windows_split : (activations : List Activation) (a : ℕ) → a < length activations → windows activations ≡ flat_map (windows_of activations) (range_with_len 0 a) ++ (windows_of activations a ++ flat_map (windows_of activations) (range_with_len (a + 1) (length activations - (a + 1))))
unfolding windows
windows_split activations a lt =
    let m = length activations - (a + 1) in
    ap (λ n. flat_map (windows_of activations) (range_with_len 0 n)) (let e : length activations ≡ a + suc m = omega arith in e)
    ∙ flat_map-range-add (windows_of activations) 0 a (suc m)
    ∙ ap (λ k. flat_map (windows_of activations) (range_with_len 0 a) ++ (windows_of activations k ++ flat_map (windows_of activations) (range_with_len (k + 1) m))) (zero-add a)

pub spans_of-windows : (layout : Layout) (activations : List Activation) → IsLayoutOf layout activations → (a : ℕ) → a < length activations → spans_of layout a ≡ map span_of (windows_of activations a)
spans_of-windows layout activations of a lt =
    let first = start_of layout a in
    let n = start_of layout (a + 1) - first in
    let s = start-is layout activations of a (omega arith) in
    let next = start-next layout activations of a lt in
    let count = length-windows_behind a (claims_of (take a activations)) (claims_at activations a) in
    ap (λ xs. take n (drop first xs)) of.of_windows.spans
    ∙ ap (take n) (drop_map span_of first (windows activations)) ∙ take_map span_of n (drop first (windows activations))
    ∙ ap (λ ws. map span_of (take n (drop first ws))) (windows_split activations a lt)
    ∙ ap (map span_of) (part_is (flat_map (windows_of activations) (range_with_len 0 a)) (windows_of activations a) (flat_map (windows_of activations) (range_with_len (a + 1) (length activations - (a + 1)))) first n (s ∙ sym (length-windows_before activations a)) (omega (arith, next, count)))

pub claims_in-windows_of : (activations : List Activation) (a : ℕ) → claims_in (windows_of activations a) ≡ claims_at activations a
claims_in-windows_of activations a = claims_in-first a (claims_of (take a activations)) (claims_at activations a) (length (claims_at activations a)) (omega arith) ∙ take_all (length (claims_at activations a)) (claims_at activations a) (omega arith)

-- what a frame's spans write
pub written_spans : (ws : List Window) → sum_by write_count (map span_of ws) ≡ sum_by (λ (c : Claim). c.horizon) (filter (λ (c : Claim). c.write) (claims_in ws))
written_spans [] = refl
written_spans (w ∷ ws) = sum_by-cons write_count (span_of w) (map span_of ws) ∙ ap (λ n. cond {A = ℕ} w.claim.write w.claim.horizon 0 + n) (written_spans ws) ∙ at w.claim.write
  where
    at : (b : Bool) → cond {A = ℕ} b w.claim.horizon 0 + sum_by (λ (c : Claim). c.horizon) (filter (λ (c : Claim). c.write) (claims_in ws)) ≡ sum_by (λ (c : Claim). c.horizon) (cond b (w.claim ∷ filter (λ (c : Claim). c.write) (claims_in ws)) (filter (λ (c : Claim). c.write) (claims_in ws)))
    at true = sym (sum_by-cons (λ (c : Claim). c.horizon) w.claim (filter (λ (c : Claim). c.write) (claims_in ws)))
    at false = zero-add (sum_by (λ (c : Claim). c.horizon) (filter (λ (c : Claim). c.write) (claims_in ws)))

pub outputs-are : (layout : Layout) (activations : List Activation) → IsLayoutOf layout activations → (a : ℕ) → a < length activations → sum_by write_count (spans_of layout a) ≡ sum_by (λ (c : Claim). c.horizon) (filter (λ (c : Claim). c.write) (claims_at activations a))
outputs-are layout activations of a lt = ap (sum_by write_count) (spans_of-windows layout activations of a lt) ∙ written_spans (windows_of activations a) ∙ ap (λ cs. sum_by (λ (c : Claim). c.horizon) (filter (λ (c : Claim). c.write) cs)) (claims_in-windows_of activations a)

-- where the spans of later frames begin
pub start-le : (layout : Layout) (activations : List Activation) → IsLayoutOf layout activations → (f d : ℕ) → f + d ≤ length activations → start_of layout f ≤ start_of layout (f + d)
start-le layout activations of f zero le = omega (arith, ap (start_of layout) (let e : f + 0 ≡ f = omega arith in e))
start-le layout activations of f (suc d) le =
    let e = ap (start_of layout) (let z : f + suc d ≡ (f + d) + 1 = omega arith in z) in
    omega (arith, e, start-next layout activations of (f + d) (omega arith), start-le layout activations of f d (omega arith))

-- ---- the frame of a stretch

-- the span of a number lies among those of its frame
pub record InFrame (layout : Layout) (number frame : ℕ) : Type 0 where
  pub exists : frame < frame_count layout
  pub from : start_of layout frame ≤ number
  pub to : number < start_of layout (frame + 1)

pub in_frame : (layout : Layout) (is : IsLayout layout) (number : ℕ) → number < length layout.spans → InFrame layout number (span_at layout number).frame
in_frame layout is number lt =
    let within : number < length (windows is.activations) = omega (arith, length-spans layout is.activations is.is_of) in
    let w = is_window is.activations number (window_number is.activations number) (there is.activations number within) in
    let frame : (span_at layout number).frame ≡ w.a = ap (λ (s : Span). s.frame) (span_at-window layout is.activations is.is_of number within) ∙ ap (λ (v : Window). v.activation) w.is in
    let e = w.exists in
    let k = w.within in
    let b = w.behind in
    let s = start-is layout is.activations is.is_of w.a (omega arith) in
    let n = start-next layout is.activations is.is_of w.a e in
    subst (InFrame layout number) (sym frame) (record { exists = omega (arith, frames_are layout is); from = omega (arith, s); to = omega (arith, s, n) })

-- an output window lies within the outputs of its frame
pub output_within : (layout : Layout) (is : IsLayout layout) (stream : ℕ) (exists : stream < length layout.writers) (place : ℕ) → place < length (writers_on layout stream)
    → (writer_at layout stream place).offset + (writer_at layout stream place).count ≤ sum_by write_count (spans_of layout (writer_at layout stream place).frame)
output_within layout is stream exists place lt =
    let number = number_at layout is.activations is.is_of stream exists place in
    let within = number_exists layout is.activations is.is_of stream exists place lt in
    let w = is_window is.activations number (window_number is.activations number) (there is.activations number within) in
    let v = window_number is.activations number in
    let cs = claims_at is.activations w.a in
    let span = writer_is layout is.activations is.is_of stream exists place lt in
    let claim : v.claim ≡ claim_at cs w.k = ap (λ (u : Window). u.claim) w.is in
    let writes = (and_parts v.claim.write (v.claim.stream == stream) (is_writer layout is.activations is.is_of stream exists place lt)).0 in
    let fits = offset_within cs w.k w.within (ap (λ (c : Claim). c.write) (sym claim) ∙ writes) in
    let offset : v.offset ≡ offset_after (take w.k cs) (claim_at cs w.k) = ap (λ (u : Window). u.offset) w.is in
    let horizon = ap (λ (c : Claim). c.horizon) claim in
    let o = ap (λ (s : Span). s.offset) span in
    let h = ap (λ (s : Span). s.count) span in
    let frame : (writer_at layout stream place).frame ≡ w.a = ap (λ (s : Span). s.frame) span ∙ ap (λ (u : Window). u.activation) w.is in
    subst (λ f. (writer_at layout stream place).offset + (writer_at layout stream place).count ≤ sum_by write_count (spans_of layout f)) (sym frame)
    (omega (arith, fits, offset, horizon, o, h, outputs-are layout is.activations is.is_of w.a w.exists))

-- nobody writes to the input
pub no_input_writer : (layout : Layout) (is : IsLayout layout) (stream : ℕ) (exists : stream < length layout.writers) (place : ℕ) → place < length (writers_on layout stream) → stream ≢ 0
no_input_writer layout is stream exists place lt zero_is =
    let number = number_at layout is.activations is.is_of stream exists place in
    let within = number_exists layout is.activations is.is_of stream exists place lt in
    let v = window_number is.activations number in
    let parts = and_parts v.claim.write (v.claim.stream == stream) (is_writer layout is.activations is.is_of stream exists place lt) in
    (lawful_window (length layout.writers) is.activations is.lawful number within).input_is_read parts.0 (eqb-true v.claim.stream stream parts.1 ∙ zero_is)
