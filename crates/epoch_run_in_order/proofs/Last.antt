-- The last activations of a layout, one by one.
use Rattle.std.proofs.Common.{◌≡◌, ℕ, ◌+◌, ◌<◌, List, [], ◌∷◌, ◌++◌, Some, map, length, get_or, take, drop, sym, ap, ◌∙◌, arith}
use Rattle.std.specs.Prelude.{slice_get}
use Rattle.std.proofs.lemmas.List.{get_or-drop, get_or-take, length-append, length-drop, length-take, take-append-drop, take_more}
use Rattle.std.proofs.lemmas.List.FromFn.{length-map-range_with_len}
use Rattle.std.proofs.lemmas.Option.{get_or_from_slice_get, slice_get-get_or, slice_get_within}
use Rattle.flow_core_laws.specs.declared.activation.Activation.{Activation}
use Rattle.flow_core_laws.specs.Window.{claims_of, windows_of}
use Rattle.flow_core_epochs.proofs.Reading.{windows_of_more}
use Rattle.os_code.specs.declared.code.Code.{Code}
use Rattle.stream_match_layouts.specs.declared.layout.Layout.{Layout}
use Rattle.stream_match_layouts.specs.declared.span.Span.{Span}
use Rattle.stream_match_layouts.specs.Layout.{IsLayoutOf, span_of}
use Rattle.stream_match_layouts.specs.Spans.{frame_count, spans_of}
use Rattle.stream_match_layouts.proofs.FrameSpans.{spans_of-windows}
use Rattle.stream_match_layouts.proofs.Sums.{frames_are, frames_bound}
use Rattle.stream_match_layouts.proofs.Tallies.{counts-few}
use Rattle.stream_match.proofs.Behind.{spans_exist}
use Rattle.epoch_run_in_order.specs.Standing.{AreLast, AreNext}

-- the next one stands in the whole list behind those that ran
pub next_there : (given activations : List Activation) (first count : ℕ) (d : Activation) → drop first given ≡ activations → count < length activations → slice_get given (first + count) ≡ Some (get_or activations count d)
next_there given activations first count d are lt =
    let size = ap length are in
    let within : first + count < length given = omega (arith, size, length-drop first given) in
    slice_get-get_or given (first + count) d within ∙ ap Some (sym (get_or-drop first given count d) ∙ ap (λ xs. get_or xs count d) are)

pub take_next : (given : List Activation) (n : ℕ) (x : Activation) → slice_get given n ≡ Some x → take (n + 1) given ≡ take n given ++ x ∷ []
take_next given n x at = take_more given n x (slice_get_within given n x at) ∙ ap (λ y. take n given ++ y ∷ []) (get_or_from_slice_get given n x x at)

-- and has the spans of the layout behind those of the ones before it
pub next_spans : (layout : Layout) (given : List Activation) (n : ℕ) (x : Activation) → IsLayoutOf layout given → slice_get given n ≡ Some x → spans_of layout n ≡ map span_of (windows_of (take n given ++ x ∷ []) n)
next_spans layout given n x is at =
    let lt = slice_get_within given n x at in
    let front : take n given ++ x ∷ [] ≡ take (n + 1) given = sym (take_next given n x at) in
    let size = length-append (take n given) (x ∷ []) in
    let few = length-take n given in
    let split : given ≡ (take n given ++ x ∷ []) ++ drop (n + 1) given = sym (take-append-drop (n + 1) given) ∙ ap (λ xs. xs ++ drop (n + 1) given) (sym front) in
    spans_of-windows layout given is n lt
    ∙ ap (λ xs. map span_of (windows_of xs n)) split
    ∙ ap (map span_of) (windows_of_more (take n given ++ x ∷ []) (drop (n + 1) given) n (omega (arith, size, few, lt)))

pub frames_of : (layout : Layout) (given : List Activation) → IsLayoutOf layout given → frame_count layout ≡ length given
frames_of layout given is = let e = ap length is.starts ∙ length-map-range_with_len (λ a. length (claims_of (take a given))) 0 (length given + 1) in omega arith

module _ (code : Code) (layout : Layout) (first : ℕ) (activations : List Activation) (last : AreLast code layout first activations) where
  pub is_frame : (count : ℕ) → count < length activations → first + count < frame_count layout
  is_frame count lt = omega (arith, frames_of layout last.in_layout last.is_of, ap length last.are_next, length-drop first last.in_layout)

  pub are_next : (count : ℕ) (d : Activation) → count < length activations → AreNext (first + count) (get_or activations count d) (spans_of layout (first + count))
  are_next count d lt =
      let n = first + count in
      let x = get_or activations count d in
      let at = next_there last.in_layout activations first count d (sym last.are_next) lt in
      let within = slice_get_within last.in_layout n x at in
      let few = length-take n last.in_layout in
      record {
        before = take n last.in_layout;
        as_many = omega (arith, few, within);
        are_theirs = next_spans layout last.in_layout n x last.is_of at;
        early = omega (arith, is_frame count lt, frames_are layout last.whole, frames_bound layout last.whole);
        few = counts-few layout last.whole.activations last.whole.is_of last.whole.lawful.positions_are_few n;
      }

  pub streams_exist : (count k : ℕ) (d : Span) → count < length activations → k < length (spans_of layout (first + count)) → (get_or (spans_of layout (first + count)) k d).stream < code.streams
  streams_exist count k d lt k_lt = omega (arith, spans_exist layout last.whole (first + count) k d (is_frame count lt) k_lt, last.streams)

-- the first ones of a list that begins another are the first ones there too
pub prefix_there : (all given : List Activation) (n : ℕ) (x : Activation) → given ≡ take (length given) all → slice_get given n ≡ Some x → slice_get all n ≡ Some x
prefix_there all given n x is at =
    let lt = slice_get_within given n x at in
    let few = ap length is ∙ length-take (length given) all in
    slice_get-get_or all n x (omega (arith, lt, few)) ∙ ap Some (sym (get_or-take (length given) all n x lt) ∙ ap (λ xs. get_or xs n x) (sym is) ∙ get_or_from_slice_get given n x x at)
