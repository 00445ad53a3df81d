-- What the next activation adds to what streams hold.
use Rattle.std.proofs.Common.{◌≡◌, ◌≢◌, ℕ, ℤ, ◌<◌, ◌≤◌, List, [], ◌∷◌, ◌++◌, Option, Some, None, Bool, true, false, cond, map, length, get_or, drop, suc, refl, sym, ap, ◌∙◌, arith}
use Rattle.std.specs.Prelude.{filter, slice_set, sum_by, ◌==◌, ◌&&◌}
use Rattle.std.specs.List.{flat_map, range_with_len}
use Rattle.std.proofs.lemmas.Bool.{eqb-true}
use Rattle.std.proofs.lemmas.Bool.Decides.{nat_tests}
use Rattle.std.proofs.lemmas.Grind.{flat_map-append}
use Rattle.std.proofs.lemmas.List.{append-nil, append_assoc, drop-append-le, get_or-set_other, get_or-set_same, length-map, length-set}
use Rattle.std.proofs.lemmas.List.Elements.{filter-append}
use Rattle.std.proofs.lemmas.List.FromFn.{length-map-range_with_len}
use Rattle.std.proofs.lemmas.List.Sums.{sum_by-append}
use Rattle.flow_core_laws.specs.declared.activation.Activation.{Activation}
use Rattle.flow_core_laws.specs.declared.claim.Claim.{Claim}
use Rattle.flow_core_laws.specs.declared.elem.Elem.{Elem}
use Rattle.flow_core_laws.specs.declared.outcome.Outcome.{Outcome}
use Rattle.flow_core_laws.specs.declared.place.Place.{Place}
use Rattle.flow_core_laws.specs.declared.task_end.TaskEnd.{TaskEnd}
use Rattle.flow_core_laws.specs.declared.task_end.TaskEnd.TheVariants.{Done, Trapped, OverBudget, Poisoned}
use Rattle.flow_core_laws.specs.Element.{output_element}
use Rattle.flow_core_laws.specs.FirstPosition.{is_write_to}
use Rattle.flow_core_laws.specs.Outcome.{State, root_of}
use Rattle.flow_core_laws.specs.Place.{places_from, written_count}
use Rattle.flow_core_laws.specs.Streams.{stream_element, stream_source}
use Rattle.flow_core_laws.specs.Window.{Window, claims_of, windows_of}
use Rattle.flow_core_epochs.proofs.Reading.{cursor_grows}
use Rattle.epoch_run_in_order_laws.specs.InOrder.{HoldElements, elements_on, written_in, written_to}
use Rattle.epoch_run_in_order_laws.proofs.Growing.{elements_grow}
use Rattle.stream_match_layouts.specs.declared.span.Span.{Span}
use Rattle.stream_match_layouts.specs.Layout.{span_of}
use Rattle.epoch_run_in_order.specs.Writing.{with_span, with_spans, written_through}

-- each stream keeps its place
pub length-with_span : (root : Option ℕ) (outputs : List ℤ) (elements : List (List (Option Elem))) (s : Span) → length (with_span root outputs elements s) ≡ length elements
length-with_span root outputs elements s = by s.write
  where
    by : (b : Bool) → length (cond b (slice_set elements s.stream (get_or elements s.stream [] ++ written_through root outputs s)) elements) ≡ length elements
    by true = length-set elements s.stream (get_or elements s.stream [] ++ written_through root outputs s)
    by false = refl

pub length-with_spans : (root : Option ℕ) (outputs : List ℤ) (elements : List (List (Option Elem))) (ss : List Span) → length (with_spans root outputs elements ss) ≡ length elements
length-with_spans root outputs elements [] = refl
length-with_spans root outputs elements (s ∷ ss) = length-with_spans root outputs (with_span root outputs elements s) ss ∙ length-with_span root outputs elements s

module _ (root : Option ℕ) (outputs : List ℤ) (stream : ℕ) where
  abbrev pub to_stream : Window → Bool
  to_stream w = is_write_to stream w.claim

  abbrev pub through : Window → List (Option Elem)
  through w = written_through root outputs (span_of w)

  abbrev pub added : List Window → List (Option Elem)
  added ws = flat_map through (filter to_stream ws)

  -- one window more
  with_one : (elements : List (List (Option Elem))) (w : Window) → w.claim.stream < length elements
      → get_or (with_span root outputs elements (span_of w)) stream [] ≡ get_or elements stream [] ++ added (w ∷ [])
  with_one elements w lt = by w.claim.write (w.claim.stream == stream) refl
    where
      by : (b t : Bool) → (w.claim.stream == stream) ≡ t
          → get_or (cond b (slice_set elements w.claim.stream (get_or elements w.claim.stream [] ++ through w)) elements) stream []
          ≡ get_or elements stream [] ++ flat_map through (cond (b && t) (w ∷ []) [])
      by false t e = sym (append-nil (get_or elements stream []))
      by true true e =
          let same : w.claim.stream ≡ stream = eqb-true w.claim.stream stream e in
          ap (λ n. get_or (slice_set elements w.claim.stream (get_or elements w.claim.stream [] ++ through w)) n []) (sym same)
          ∙ get_or-set_same elements w.claim.stream (get_or elements w.claim.stream [] ++ through w) [] lt
          ∙ ap (λ n. get_or elements n [] ++ through w) same
          ∙ ap (λ xs. get_or elements stream [] ++ xs) (sym (append-nil (through w)))
      by true false e =
          let other : stream ≢ w.claim.stream = λ same. (let h : (w.claim.stream == stream) ≡ true = grind (arith, nat_tests) in absurd (cc)) in
          get_or-set_other elements w.claim.stream stream (get_or elements w.claim.stream [] ++ through w) [] other
          ∙ sym (append-nil (get_or elements stream []))

  -- all windows
  pub with_all : (elements : List (List (Option Elem))) (ws : List Window) → ((k : ℕ) (d : Window) → k < length ws → (get_or ws k d).claim.stream < length elements)
      → get_or (with_spans root outputs elements (map span_of ws)) stream [] ≡ get_or elements stream [] ++ added ws
  with_all elements [] each = sym (append-nil (get_or elements stream []))
  with_all elements (w ∷ ws) each =
      let more = with_span root outputs elements (span_of w) in
      let n = length-with_span root outputs elements (span_of w) in
      with_all more ws (λ k d lt. (let h : (get_or ws k d).claim.stream < length elements = each (suc k) d (omega arith) in omega (arith, n, h)))
      ∙ ap (λ xs. xs ++ added ws) (with_one elements w (each 0 w (omega arith)))
      ∙ append_assoc (get_or elements stream []) (added (w ∷ [])) (added ws)
      ∙ ap (λ xs. get_or elements stream [] ++ xs) (sym (flat_map-append through (filter to_stream (w ∷ [])) (filter to_stream ws)) ∙ ap (flat_map through) (sym (filter-append to_stream (w ∷ []) ws)))

-- poison is written whatever the outputs hold
poison_through : (outputs other : List ℤ) (root : ℕ) (places : List ℕ) → map (output_element (Some root) outputs) places ≡ map (output_element (Some root) other) places
poison_through outputs other root [] = refl
poison_through outputs other root (p ∷ ps) = ap (λ xs. output_element (Some root) outputs p ∷ xs) (poison_through outputs other root ps)

-- what is written through a window is what the outcome says
pub outcome_through : (number : ℕ) (o : Outcome) (outputs : List ℤ) → (o.end ≡ Done → outputs ≡ o.outputs) → (ws : List Window) → flat_map (λ (w : Window). written_through (root_of number o.end) outputs (span_of w)) ws ≡ flat_map (written_in number o) ws
outcome_through number o outputs done ws = over ws
  where
    at : (end : TaskEnd) → (end ≡ Done → outputs ≡ o.outputs) → (places : List ℕ) → map (output_element (root_of number end) outputs) places ≡ map (output_element (root_of number end) o.outputs) places
    at Done same places = ap (λ values. map (output_element None values) places) (same refl)
    at (Trapped code line) same places = poison_through outputs o.outputs number places
    at OverBudget same places = poison_through outputs o.outputs number places
    at (Poisoned root) same places = poison_through outputs o.outputs root places

    over : (vs : List Window) → flat_map (λ (w : Window). written_through (root_of number o.end) outputs (span_of w)) vs ≡ flat_map (written_in number o) vs
    over [] = refl
    over (w ∷ vs) = ap (λ xs. xs ++ flat_map (λ (w : Window). written_through (root_of number o.end) outputs (span_of w)) vs) (at o.end done (range_with_len w.offset w.claim.horizon)) ∙ ap (λ xs. written_in number o w ++ xs) (over vs)

-- how many positions are claimed for writing never falls
written_grows : (s : ℕ) (before : List Activation) (next : Activation) → written_count before s ≤ written_count (before ++ next ∷ []) s
written_grows s before next =
    let joined = ap (λ cs. sum_by (λ (c : Claim). c.horizon) (filter (is_write_to s) cs)) (flat_map-append (λ (x : Activation). x.claims) before (next ∷ [])) in
    let parts = ap (sum_by (λ (c : Claim). c.horizon)) (filter-append (is_write_to s) (claims_of before) (claims_of (next ∷ []))) in
    let sums = sum_by-append (λ (c : Claim). c.horizon) (filter (is_write_to s) (claims_of before)) (filter (is_write_to s) (claims_of (next ∷ []))) in
    omega (arith, joined, parts, sums)

length-elements_on : (before : List Activation) (input : List ℕ) (state : State) (s : ℕ) → length (elements_on before input state s) ≡ written_count before s
length-elements_on before input state s = length-map (places_from s 0 (written_count before s)) (λ (p : Place). stream_element state (stream_source before input p)) ∙ length-map-range_with_len (λ position. record { stream = s; position = position }) 0 (written_count before s)

-- behind what a stream held stands what the next activation wrote to it
pub stream_grows : (before : List Activation) (next : Activation) (o : Outcome) (root : Option ℕ) (outputs : List ℤ) (elements more : List (List (Option Elem)))
    → root ≡ root_of (length before) o.end → (o.end ≡ Done → outputs ≡ o.outputs)
    → ((k : ℕ) (d : Window) → k < length (windows_of (before ++ next ∷ []) (length before)) → (get_or (windows_of (before ++ next ∷ []) (length before)) k d).claim.stream < length elements)
    → more ≡ with_spans root outputs elements (map span_of (windows_of (before ++ next ∷ []) (length before)))
    → (s : ℕ) → get_or more s [] ≡ get_or elements s [] ++ written_to (length before) o (windows_of (before ++ next ∷ []) (length before)) s
stream_grows before next o root outputs elements more root_is done each is s =
    let ws = windows_of (before ++ next ∷ []) (length before) in
    let new_is : flat_map (λ (w : Window). written_through root outputs (span_of w)) (filter (λ (w : Window). is_write_to s w.claim) ws) ≡ written_to (length before) o ws s =
    ap (λ r. flat_map (λ (w : Window). written_through r outputs (span_of w)) (filter (λ (w : Window). is_write_to s w.claim) ws)) root_is ∙ outcome_through (length before) o outputs done (filter (λ (w : Window). is_write_to s w.claim) ws) in
    ap (λ xs. get_or xs s []) is
    ∙ with_all root outputs s elements ws each
    ∙ ap (λ xs. get_or elements s [] ++ xs) new_is

-- the streams hold what they held, and what the next activation wrote
pub hold_more : (before : List Activation) (next : Activation) (input : List ℕ) (state : State) (o : Outcome) (root : Option ℕ) (outputs : List ℤ) (elements more : List (List (Option Elem))) (firsts : List ℕ)
    → HoldElements before input state elements firsts → length state ≡ length before → root ≡ root_of (length before) o.end → (o.end ≡ Done → outputs ≡ o.outputs)
    → ((k : ℕ) (d : Window) → k < length (windows_of (before ++ next ∷ []) (length before)) → (get_or (windows_of (before ++ next ∷ []) (length before)) k d).claim.stream < length elements)
    → more ≡ with_spans root outputs elements (map span_of (windows_of (before ++ next ∷ []) (length before)))
    → HoldElements (before ++ next ∷ []) input (state ++ Some o ∷ []) more firsts
hold_more before next input state o root outputs elements more firsts hold as_many root_is done each is = record {
  as_many = omega (arith, hold.as_many, size);
  has_output = omega (arith, hold.has_output, size);
  are_theirs = theirs;
  are_claimed = λ s lt. omega (arith, hold.are_claimed s (omega (arith, size)), written_grows s before next);
  are_read_no_more = λ s lt. omega (arith, hold.are_read_no_more s (omega (arith, size)), cursor_grows s before (next ∷ []));
  output_is_whole = hold.output_is_whole;
}
  where
    ws : List Window
    ws = windows_of (before ++ next ∷ []) (length before)

    size : length more ≡ length elements
    size = ap length is ∙ length-with_spans root outputs elements (map span_of ws)

    theirs : (s : ℕ) → 1 ≤ s → s < length more → get_or more s [] ≡ drop (get_or firsts s 0) (elements_on (before ++ next ∷ []) input (state ++ Some o ∷ []) s)
    theirs s some lt =
        let first = get_or firsts s 0 in
        let old = elements_on before input state s in
        let wrote = written_to (length before) o ws s in
        stream_grows before next o root outputs elements more root_is done each is s
        ∙ ap (λ xs. xs ++ wrote) (hold.are_theirs s some (omega (arith, size)))
        ∙ sym (drop-append-le first old wrote (omega (arith, length-elements_on before input state s, hold.are_claimed s (omega (arith, size)))))
        ∙ ap (drop first) (sym (elements_grow before next input state o s some as_many))
