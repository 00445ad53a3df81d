-- The write spans of a stream by the windows, and who produces an element.
use Rattle.std.proofs.Common.{◌≡◌, ℕ, ◌+◌, ◌^◌, ◌<◌, ◌≤◌, Bool, true, false, cond, List, [], Some, None, length, take, get_or, refl, sym, ap, ◌∙◌, subst, inl, inr, arith, zero-add}
use Rattle.std.specs.Prelude.{slice_get, not, ◌&&◌, ◌==◌, nat_lt, nat_le}
use Rattle.std.specs.Option.{option_map_or}
use Rattle.std.specs.List.{range_with_len, position_or_len}
use Rattle.std.proofs.lemmas.Bool.{and_parts, eqb-true, cases_lt, le-ltb, le-leb, lt-ltb}
use Rattle.std.proofs.lemmas.List.{get_or-map, length-map}
use Rattle.std.proofs.lemmas.List.FromFn.{get_or-map-range_with_len, length-range_with_len}
use Rattle.std.proofs.lemmas.List.Filters.{length-filter_both}
use Rattle.std.proofs.lemmas.List.Sums.{position_or_len_is, sum_by_more_le}
use Rattle.std.proofs.lemmas.Option.{slice_get-get_or, slice_get_within, get_or_from_slice_get}
use Rattle.flow_core_laws.specs.declared.claim.Claim.{Claim}
use Rattle.flow_core_laws.specs.declared.activation.Activation.{Activation}
use Rattle.flow_core_laws.specs.FirstPosition.{is_write_to, write_cursor}
use Rattle.flow_core_laws.specs.Window.{Window, windows, claims_of, is_written_by, producer_number}
use Rattle.flow_core_laws.proofs.Sources.{position_only}
use Rattle.flow_core_laws.proofs.Windows.{window_at, length-windows, written, first_of_write, apart, one_writer_of}
use Rattle.stream_match_layouts.specs.declared.span.Span.{Span}
use Rattle.stream_match_layouts.specs.declared.layout.Layout.{Layout}
use Rattle.stream_match_layouts.specs.Lawful.{IsLawfulClaim, AreLawful}
use Rattle.stream_match_layouts.specs.Layout.{span_of, writes_at, writers_of, IsLayoutOf}
use Rattle.stream_match_layouts.specs.Writers.{no_span, span_at, writers_on, writer_at, end_of, HasWriters, FirstBehind}
use Rattle.stream_match_layouts.proofs.Windows.{no_window}
use Rattle.stream_match_layouts.proofs.Bounds.{write_cursor-le, length-claims-le}
use Rattle.flow_core_laws.proofs.Filtered.{Passes, filtered_each, filtered_ascends, filtered_all}

-- a window by its number
abbrev pub window_number : List Activation → ℕ → Window
window_number activations number = get_or (windows activations) number no_window

-- the span of a number is its window's
pub span_at-window : (layout : Layout) (activations : List Activation) → IsLayoutOf layout activations → (number : ℕ) → number < length (windows activations) → span_at layout number ≡ span_of (window_number activations number)
span_at-window layout activations of number lt = ap (λ xs. get_or xs number no_span) of.of_windows.spans ∙ get_or-map span_of (windows activations) number no_window no_span lt

pub length-spans : (layout : Layout) (activations : List Activation) → IsLayoutOf layout activations → length layout.spans ≡ length (windows activations)
length-spans layout activations of = ap length of.of_windows.spans ∙ length-map (windows activations) span_of

pub there : (activations : List Activation) (number : ℕ) → number < length (windows activations) → slice_get (windows activations) number ≡ Some (window_number activations number)
there activations number lt = slice_get-get_or (windows activations) number no_window lt

-- a lawful window
pub lawful_window : (n : ℕ) (activations : List Activation) → AreLawful n activations → (number : ℕ) → number < length (windows activations) → IsLawfulClaim n (window_number activations number).claim
lawful_window n activations lawful number lt =
    let w = window_number activations number in
    subst (IsLawfulClaim n) (get_or_from_slice_get (claims_of activations) number w.claim w.claim (window_at activations number w (there activations number lt)).is_claim)
    (lawful.claims_are_lawful number w.claim (omega (arith, length-windows activations)))

-- a write window ends within the positions that are claimed
pub end_small : (n : ℕ) (activations : List Activation) → AreLawful n activations → (number stream : ℕ) → number < length (windows activations) → is_write_to stream (window_number activations number).claim ≡ true
    → (window_number activations number).first + (window_number activations number).claim.horizon ≤ 4194304
end_small n activations lawful number stream lt writes =
    let w = window_number activations number in
    let cs = claims_of activations in
    let at = window_at activations number w (there activations number lt) in
    let first : w.first ≡ write_cursor stream (take number cs) = at.begins ∙ first_of_write stream (take number cs) w.claim writes in
    let claim : get_or cs number w.claim ≡ w.claim = get_or_from_slice_get cs number w.claim w.claim at.is_claim in
    let h = ap (λ (c : Claim). c.horizon) claim in
    let all = lawful.positions_are_few in
    omega (arith, first, h, write_cursor-le stream (take number cs), sum_by_more_le (λ (c : Claim). c.horizon) cs number w.claim (omega (arith, length-windows activations)))

module _ (layout : Layout) (activations : List Activation) (of : IsLayoutOf layout activations) (stream : ℕ) (exists : stream < length layout.writers) where
  test : ℕ → Bool
  test = writes_at stream (windows activations)

  pub writers-is : writers_on layout stream ≡ writers_of (windows activations) stream
  writers-is = ap (λ xs. get_or xs stream []) of.of_windows.writers ∙ get_or-map-range_with_len (writers_of (windows activations)) 0 (length layout.writers) stream stream [] exists (zero-add stream)

  -- the number of the write span at a place
  abbrev pub number_at : ℕ → ℕ
  number_at place = get_or (writers_on layout stream) place 0

  pub writes_number : (place : ℕ) → place < length (writers_on layout stream) → Passes (writes_at stream (windows activations)) 0 (length (windows activations)) (number_at place)
  writes_number place lt = subst (λ xs. Passes (writes_at stream (windows activations)) 0 (length (windows activations)) (get_or xs place 0)) (sym writers-is) (filtered_each (writes_at stream (windows activations)) 0 (length (windows activations)) place (subst (λ xs. place < length xs) writers-is lt))

  pub number_exists : (place : ℕ) → place < length (writers_on layout stream) → number_at place < length (windows activations)
  number_exists place lt = let h = (writes_number place lt).high in omega arith

  pub is_writer : (place : ℕ) → place < length (writers_on layout stream) → is_write_to stream (window_number activations (number_at place)).claim ≡ true
  is_writer place lt = sym (ap (λ o. option_map_or (λ (w : Window). is_write_to stream w.claim) o false) (there activations (number_at place) (number_exists place lt))) ∙ (writes_number place lt).passes

  pub ascends : (i j : ℕ) → i < j → j < length (writers_on layout stream) → number_at i < number_at j
  ascends i j ij lt = subst (λ xs. get_or xs i 0 < get_or xs j 0) (sym writers-is) (filtered_ascends (writes_at stream (windows activations)) 0 (length (windows activations)) i j ij (subst (λ xs. j < length xs) writers-is lt))

  -- each window that writes to the stream stands somewhere
  pub stands : (number : ℕ) → number < length (windows activations) → is_write_to stream (window_number activations number).claim ≡ true → (place : ℕ) × (place < length (writers_on layout stream)) × (number_at place ≡ number)
  stands number lt writes =
      let passes : writes_at stream (windows activations) number ≡ true = ap (λ o. option_map_or (λ (w : Window). is_write_to stream w.claim) o false) (there activations number lt) ∙ writes in
      subst (λ xs. (place : ℕ) × (place < length xs) × (get_or xs place 0 ≡ number)) (sym writers-is) (filtered_all (writes_at stream (windows activations)) 0 (length (windows activations)) number (omega arith) (omega arith) passes)

  pub writer_is : (place : ℕ) → place < length (writers_on layout stream) → writer_at layout stream place ≡ span_of (window_number activations (number_at place))
  writer_is place lt = span_at-window layout activations of (number_at place) (number_exists place lt)

  few_writers : AreLawful (length layout.writers) activations → length (writers_on layout stream) ≤ 4194304
  few_writers lawful =
      let all = lawful.positions_are_few in
      let filtered = length-filter_both (writes_at stream (windows activations)) (λ n. not (writes_at stream (windows activations) n)) (λ n. refl) (range_with_len 0 (length (windows activations))) in
      omega (arith, ap length writers-is, filtered, length-range_with_len 0 (length (windows activations)), length-windows activations, length-claims-le (length layout.writers) (claims_of activations) lawful.claims_are_lawful)

  pub has_writers : AreLawful (length layout.writers) activations → HasWriters layout stream
  has_writers lawful = record {
    few = few_writers lawful;
    exist = λ place lt. let e = number_exists place lt in omega (arith, length-spans layout activations of);
    write = λ place lt. ap (λ (s : Span). s.write) (writer_is place lt) ∙ (and_parts (window_number activations (number_at place)).claim.write ((window_number activations (number_at place)).claim.stream == stream) (is_writer place lt)).0;
    on_stream = λ place lt. ap (λ (s : Span). s.stream) (writer_is place lt) ∙ eqb-true (window_number activations (number_at place)).claim.stream stream (and_parts (window_number activations (number_at place)).claim.write ((window_number activations (number_at place)).claim.stream == stream) (is_writer place lt)).1;
    not_empty = λ place lt. subst (λ (s : Span). 1 ≤ s.count) (sym (writer_is place lt)) (lawful_window (length layout.writers) activations lawful (number_at place) (number_exists place lt)).smallest;
    in_order = λ i j ij lt. let li : i < length (writers_on layout stream) = omega arith in
        subst (λ (s : Span). end_of s ≤ (writer_at layout stream j).first) (sym (writer_is i li)) (subst (λ (s : Span). end_of (span_of (window_number activations (number_at i))) ≤ s.first) (sym (writer_is j lt))
        (apart activations stream (number_at i) (number_at j) (window_number activations (number_at i)) (window_number activations (number_at j)) (there activations (number_at i) (number_exists i li)) (there activations (number_at j) (number_exists j lt)) (is_writer i li) (is_writer j lt) (ascends i j ij lt)));
    small = λ place lt. subst (λ (s : Span). end_of s < 2 ^ 62) (sym (writer_is place lt)) (let s = end_small (length layout.writers) activations lawful (number_at place) stream (number_exists place lt) (is_writer place lt) in omega arith);
  }

  -- the write span that covers a position is its producer
  pub found : (at place : ℕ) → place < length (writers_on layout stream) → (writer_at layout stream place).first ≤ at → at < end_of (writer_at layout stream place) → producer_number activations stream at ≡ Some (number_at place)
  found at place lt low high =
      let w = window_number activations (number_at place) in
      let from : w.first ≤ at = subst (λ (s : Span). s.first ≤ at) (writer_is place lt) low in
      let to : at < w.first + w.claim.horizon = subst (λ (s : Span). at < end_of s) (writer_is place lt) high in
      let passes : is_written_by stream at w ≡ true =
      ap (λ b. b && nat_le w.first at && nat_lt at (w.first + w.claim.horizon)) (is_writer place lt) ∙ ap (λ b. b && nat_lt at (w.first + w.claim.horizon)) (le-leb w.first at from) ∙ lt-ltb at (w.first + w.claim.horizon) to in
      position_only (is_written_by stream at) (windows activations) (number_at place) w (there activations (number_at place) (number_exists place lt)) passes
      (λ j v v_at v_writes. one_writer_of activations stream at j (number_at place) v w v_at (there activations (number_at place) (number_exists place lt)) v_writes passes)

  -- where no write span covers it, it has none
  pub not_found : (at : ℕ) → ((place : ℕ) → place < length (writers_on layout stream) → (writer_at layout stream place).first ≤ at → at < end_of (writer_at layout stream place) → ⊥) → producer_number activations stream at ≡ None
  not_found at free =
      let all = windows activations in
      let e : position_or_len (is_written_by stream at) all ≡ length all = position_or_len_is (is_written_by stream at) all (length all) no_window (omega arith) (λ k lt. fails k lt (is_written_by stream at (window_number activations k)) refl) (λ lt. absurd (omega arith)) in
      ap (λ i. cond (nat_lt i (length all)) (Some i) None) e ∙ ap (λ b. cond b (Some (length all)) None) (le-ltb (length all) (length all) (omega arith))
    where
      fails : (k : ℕ) → k < length (windows activations) → (b : Bool) → is_written_by stream at (window_number activations k) ≡ b → is_written_by stream at (window_number activations k) ≡ false
      fails k lt false e = e
      fails k lt true e =
          let w = written stream at (window_number activations k) e in
          let (place, place_lt, is) = stands k lt w.on_stream in
          let same : writer_at layout stream place ≡ span_of (window_number activations k) = writer_is place place_lt ∙ ap (λ n. span_of (window_number activations n)) is in
          absurd (free place place_lt (subst (λ (s : Span). s.first ≤ at) (sym same) w.from) (subst (λ (s : Span). at < end_of s) (sym same) w.to))

-- a position before which some write spans end, and at which the next one hasn't begun, has no producer
pub between : (layout : Layout) (stream at place : ℕ) → HasWriters layout stream → FirstBehind layout stream at place → (place < length (writers_on layout stream) → at < (writer_at layout stream place).first)
    → (i : ℕ) → i < length (writers_on layout stream) → (writer_at layout stream i).first ≤ at → at < end_of (writer_at layout stream i) → ⊥
between layout stream at place has first free i lt low high = elim (cases_lt i place) [
  | inl l ↦ (let b = first.before i l in omega arith)
  | inr g ↦ elim (cases_lt place i) [
    | inl l ↦ (let f = free (omega arith) in let o = has.in_order place i l lt in omega arith)
    | inr g' ↦ (let same : i ≡ place = omega arith in let f = free (omega arith) in let e = ap (λ p. (writer_at layout stream p).first) same in omega arith)
  ]
]

-- what stands at a place among numbers
pub number_place : (xs : List ℕ) (place n : ℕ) → slice_get xs place ≡ Some n → (place < length xs) × (get_or xs place 0 ≡ n)
number_place xs place n h = (slice_get_within xs place n h, get_or_from_slice_get xs place n 0 h)

pub past_places : (xs : List ℕ) (place : ℕ) → slice_get xs place ≡ None → length xs ≤ place
past_places xs place h = elim (cases_lt place (length xs)) [
  | inl lt ↦ absurd (let e : Some (get_or xs place 0) ≡ None = sym (slice_get-get_or xs place 0 lt) ∙ h in cc)
  | inr ge ↦ ge
]
