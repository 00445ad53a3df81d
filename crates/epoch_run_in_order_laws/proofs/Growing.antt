-- The elements of a stream by the windows that write it, and what one more activation adds to them.
use Rattle.std.proofs.Common.{◌≡◌, ℕ, zero, suc, ◌+◌, ◌-◌, ◌<◌, ◌≤◌, List, [], ◌∷◌, ◌++◌, Option, Some, None, Bool, true, false, cond, map, length, get_or, take, refl, sym, ap, ◌∙◌, arith}
use Rattle.std.specs.Prelude.{slice_get, filter, sum_by, option_and_then, ◌==◌}
use Rattle.std.specs.Option.{option_map_or}
use Rattle.std.specs.List.{flat_map, range_with_len}
use Rattle.std.proofs.lemmas.Bool.{and_parts, eqb-true}
use Rattle.std.proofs.lemmas.Grind.{flat_map-append}
use Rattle.std.proofs.lemmas.List.{append-nil, get_or_append_left, get_or-append_right, length-append, take_all, take_more}
use Rattle.std.proofs.lemmas.List.Elements.{filter-append}
use Rattle.std.proofs.lemmas.List.Sums.{sum_by-append}
use Rattle.std.proofs.lemmas.Option.{get_or_from_slice_get, slice_get-get_or}
use mathlib.Core.List.{map-map}
use Rattle.flow_core_laws.specs.declared.activation.Activation.{Activation}
use Rattle.flow_core_laws.specs.declared.claim.Claim.{Claim}
use Rattle.flow_core_laws.specs.declared.elem.Elem.{Elem}
use Rattle.flow_core_laws.specs.declared.outcome.Outcome.{Outcome}
use Rattle.flow_core_laws.specs.declared.place.Place.{Place}
use Rattle.flow_core_laws.specs.Element.{fed, nobody, element_written}
use Rattle.flow_core_laws.specs.FirstPosition.{first_position, is_write_to, write_cursor}
use Rattle.flow_core_laws.specs.Outcome.{State, outcome_at}
use Rattle.flow_core_laws.specs.Streams.{input_source, produced_source, stream_source, stream_element}
use Rattle.flow_core_laws.specs.Window.{Window, windows, windows_of, claims_of, no_claim, producer}
use Rattle.flow_core_laws.proofs.Stretches.{flat_map-range_more, flat_map-range-same, map-range-add, map-range-shift}
use Rattle.flow_core_laws.proofs.Windows.{first_of_write, is_window, length-windows, producer_of, window_at}
use Rattle.flow_core_epochs.proofs.Reading.{windows_of_more}
use Rattle.flow_core_epochs.proofs.Written.{is_written_test, window_activation}
use Rattle.epoch_run_in_order_laws.specs.InOrder.{elements_on, written_in}
use Rattle.epoch_run_in_order_laws.specs.Laws.{ElementsGrow}

no_window : Window
no_window = record { activation = 0; claim = no_claim; first = 0; offset = 0 }

-- what a claim adds to the write cursor of a stream
write_cursor_more : (stream : ℕ) (claims : List Claim) (c : Claim) (b : Bool) → is_write_to stream c ≡ b → write_cursor stream (claims ++ c ∷ []) ≡ write_cursor stream claims + cond b c.horizon 0
write_cursor_more stream claims c b h =
    ap (sum_by (λ (d : Claim). d.horizon)) (filter-append (is_write_to stream) claims (c ∷ []))
    ∙ sum_by-append (λ (d : Claim). d.horizon) (filter (is_write_to stream) claims) (filter (is_write_to stream) (c ∷ []))
    ∙ ap (λ (t : Bool). write_cursor stream claims + sum_by (λ (d : Claim). d.horizon) (cond t (c ∷ []) [])) h
    ∙ ap (λ n. write_cursor stream claims + n) (one b)
  where
    one : (t : Bool) → sum_by (λ (d : Claim). d.horizon) (cond t (c ∷ []) []) ≡ cond t c.horizon 0
    one true = let e : 0 + c.horizon ≡ c.horizon = omega arith in e
    one false = refl

-- parts that are the same for each element of a list
same_parts : {A B : Type 0} (f g : A → List B) (test : A → Bool) (xs : List A) → ((i : ℕ) (x : A) → slice_get xs i ≡ Some x → f x ≡ g x) → flat_map f (filter test xs) ≡ flat_map g (filter test xs)
same_parts f g test [] same = refl
same_parts {A = A} {B = B} f g test (x ∷ xs) same = by_test (test x) (same_parts f g test xs (λ i y at. same (suc i) y at))
  where
    by_test : (b : Bool) → flat_map f (filter test xs) ≡ flat_map g (filter test xs) → flat_map f (cond b (x ∷ filter test xs) (filter test xs)) ≡ flat_map g (cond b (x ∷ filter test xs) (filter test xs))
    by_test true rest = ap (λ (ys : List B). ys ++ flat_map f (filter test xs)) (same 0 x refl) ∙ ap (λ (ys : List B). g x ++ ys) rest
    by_test false rest = rest

-- the elements of a window in a state
abbrev window_elements : State → Window → List (Option Elem)
window_elements state w = map (λ place. stream_element state (fed w.activation place)) (range_with_len w.offset w.claim.horizon)

module _ (acts : List Activation) (input : List ℕ) (state : State) (stream : ℕ) where
  abbrev writes : Window → Bool
  writes w = is_write_to stream w.claim

  -- the element at a position of the stream
  abbrev element_at : ℕ → Option Elem
  element_at position = stream_element state (stream_source acts input (record { stream = stream; position = position }))

  -- a position in a window has its element
  element_of_window : 1 ≤ stream → (i : ℕ) (w : Window) → slice_get (windows acts) i ≡ Some w → writes w ≡ true → (k : ℕ) → k < w.claim.horizon → element_at (w.first + k) ≡ stream_element state (fed w.activation (w.offset + k))
  element_of_window positive i w at is_write k lt =
      let p : Place = record { stream = stream; position = w.first + k } in
      let parts = and_parts w.claim.write (w.claim.stream == stream) is_write in
      let is : producer acts stream (w.first + k) ≡ Some w = producer_of acts stream (w.first + k) i w at (is_written_test w p parts.0 (record { stream = sym (eqb-true w.claim.stream stream parts.1); from = omega arith; to = omega arith })) in
      let e : w.first + k - w.first ≡ k = omega arith in
      other_stream (stream == 0) refl
      ∙ ap (λ (o : Option Window). stream_element state (option_map_or (λ (v : Window). fed v.activation (v.offset + (w.first + k - v.first))) o nobody)) is
      ∙ ap (λ n. stream_element state (fed w.activation (w.offset + n))) e
    where
      other_stream : (b : Bool) → (stream == 0) ≡ b → stream_element state (cond b (input_source input (w.first + k)) (produced_source acts stream (w.first + k))) ≡ stream_element state (produced_source acts stream (w.first + k))
      other_stream true e = let z : stream ≡ 0 = eqb-true stream 0 e in absurd (omega arith)
      other_stream false e = refl

  -- the elements below the write cursor after the first claims are those of the first windows
  abbrev AreByWindows : ℕ → Type 0
  AreByWindows i = map element_at (range_with_len 0 (write_cursor stream (take i (claims_of acts)))) ≡ flat_map (window_elements state) (filter writes (take i (windows acts)))

  one_more_window : 1 ≤ stream → (i : ℕ) → i < length (windows acts) → AreByWindows i → AreByWindows (suc i)
  one_more_window positive i lt before = by_test (writes w) refl
    where
      cs : List Claim
      cs = claims_of acts

      w : Window
      w = get_or (windows acts) i no_window

      at : slice_get (windows acts) i ≡ Some w
      at = slice_get-get_or (windows acts) i no_window (omega arith)

      begins : w.first ≡ first_position (take i cs) w.claim
      begins = (window_at acts i w at).begins

      more : take (suc i) (windows acts) ≡ take i (windows acts) ++ w ∷ []
      more = ap (λ n. take n (windows acts)) (let e : suc i ≡ i + 1 = omega arith in e) ∙ take_more (windows acts) i no_window (omega arith)

      more_claims : take (suc i) cs ≡ take i cs ++ w.claim ∷ []
      more_claims = ap (λ n. take n cs) (let e : suc i ≡ i + 1 = omega arith in e) ∙ take_more cs i w.claim (omega (arith, length-windows acts)) ∙ ap (λ (c : Claim). take i cs ++ c ∷ []) (get_or_from_slice_get cs i w.claim w.claim (window_at acts i w at).is_claim)

      cursor : (b : Bool) → writes w ≡ b → write_cursor stream (take (suc i) cs) ≡ write_cursor stream (take i cs) + cond b w.claim.horizon 0
      cursor b h = ap (write_cursor stream) more_claims ∙ write_cursor_more stream (take i cs) w.claim b h

      filtered : (b : Bool) → writes w ≡ b → flat_map (window_elements state) (filter writes (take (suc i) (windows acts))) ≡ flat_map (window_elements state) (filter writes (take i (windows acts))) ++ flat_map (window_elements state) (cond b (w ∷ []) [])
      filtered b h =
          ap (λ ws. flat_map (window_elements state) (filter writes ws)) more
          ∙ ap (flat_map (window_elements state)) (filter-append writes (take i (windows acts)) (w ∷ []))
          ∙ flat_map-append (window_elements state) (filter writes (take i (windows acts))) (filter writes (w ∷ []))
          ∙ ap (λ (t : Bool). flat_map (window_elements state) (filter writes (take i (windows acts))) ++ flat_map (window_elements state) (cond t (w ∷ []) [])) h

      by_test : (b : Bool) → writes w ≡ b → map element_at (range_with_len 0 (write_cursor stream (take (suc i) cs))) ≡ flat_map (window_elements state) (filter writes (take (suc i) (windows acts)))
      by_test false h =
          ap (λ n. map element_at (range_with_len 0 n)) (cursor false h ∙ (let e : write_cursor stream (take i cs) + 0 ≡ write_cursor stream (take i cs) = omega arith in e))
          ∙ before
          ∙ sym (filtered false h ∙ append-nil (flat_map (window_elements state) (filter writes (take i (windows acts)))))
      by_test true h =
          let n = write_cursor stream (take i cs) in
          let first : w.first ≡ n = begins ∙ first_of_write stream (take i cs) w.claim h in
          ap (λ m. map element_at (range_with_len 0 m)) (cursor true h)
          ∙ map-range-add element_at 0 n w.claim.horizon
          ∙ ap (λ (ys : List (Option Elem)). ys ++ map element_at (range_with_len (0 + n) w.claim.horizon)) before
          ∙ ap (λ (ys : List (Option Elem)). flat_map (window_elements state) (filter writes (take i (windows acts))) ++ ys) (map-range-shift element_at (λ place. stream_element state (fed w.activation place)) (0 + n) w.offset w.claim.horizon (λ k lt. ap element_at (let e : 0 + n + k ≡ w.first + k = omega (arith, first) in e) ∙ element_of_window positive i w at h k lt))
          ∙ sym (filtered true h ∙ ap (λ (ys : List (Option Elem)). flat_map (window_elements state) (filter writes (take i (windows acts))) ++ ys) (append-nil (window_elements state w)))

  by_windows : 1 ≤ stream → (i : ℕ) → i ≤ length (windows acts) → AreByWindows i
  by_windows positive zero le = refl
  by_windows positive (suc i) le = one_more_window positive i (omega arith) (by_windows positive i (omega arith))

  -- the elements of a stream, window by window
  elements_by_windows : 1 ≤ stream → elements_on acts input state stream ≡ flat_map (window_elements state) (filter writes (windows acts))
  elements_by_windows positive =
      let n = length (windows acts) in
      map-map (λ (p : Place). stream_element state (stream_source acts input p)) (λ position. record { stream = stream; position = position }) (range_with_len 0 (write_cursor stream (claims_of acts)))
      ∙ ap (λ (cs : List Claim). map element_at (range_with_len 0 (write_cursor stream cs))) (sym (take_all n (claims_of acts) (omega (arith, length-windows acts))))
      ∙ by_windows positive n (omega arith)
      ∙ ap (λ (ws : List Window). flat_map (window_elements state) (filter writes ws)) (take_all n (windows acts) (omega arith))

-- the windows with one more activation
windows_one_more : (before : List Activation) (next : Activation) → windows (before ++ next ∷ []) ≡ windows before ++ windows_of (before ++ next ∷ []) (length before)
unfolding windows
windows_one_more before next =
    let acts = before ++ next ∷ [] in
    let n = length before in
    ap (λ m. flat_map (windows_of acts) (range_with_len 0 m)) (length-append before (next ∷ []))
    ∙ flat_map-range_more (windows_of acts) 0 n
    ∙ ap (λ k. flat_map (windows_of acts) (range_with_len 0 n) ++ windows_of acts k) (let e : 0 + n ≡ n = omega arith in e)
    ∙ ap (λ (ws : List Window). ws ++ windows_of acts n) (flat_map-range-same (windows_of acts) (windows_of before) 0 n (λ k low high. windows_of_more before (next ∷ []) k (omega arith)))

-- the elements of a window by the outcome of its activation
window_by_outcome : (state : State) (w : Window) (o : Option Outcome) → outcome_at state w.activation ≡ o → window_elements state w ≡ map (λ place. option_and_then (λ (q : Outcome). element_written w.activation q place) o) (range_with_len w.offset w.claim.horizon)
window_by_outcome state w o h = ap (λ (p : Option Outcome). map (λ place. option_and_then (λ (q : Outcome). element_written w.activation q place) p) (range_with_len w.offset w.claim.horizon)) h

pub elements_grow : ElementsGrow
elements_grow before next input state outcome stream positive len =
    elements_by_windows acts input more stream positive
    ∙ ap (λ (ws : List Window). flat_map (window_elements more) (filter writes_it ws)) (windows_one_more before next)
    ∙ ap (flat_map (window_elements more)) (filter-append writes_it (windows before) (windows_of acts n))
    ∙ flat_map-append (window_elements more) (filter writes_it (windows before)) (filter writes_it (windows_of acts n))
    ∙ ap (λ (ys : List (Option Elem)). ys ++ flat_map (window_elements more) (filter writes_it (windows_of acts n))) (same_parts (window_elements more) (window_elements state) writes_it (windows before) earlier ∙ sym (elements_by_windows before input state stream positive))
    ∙ ap (λ (ys : List (Option Elem)). elements_on before input state stream ++ ys) (same_parts (window_elements more) (written_in n outcome) writes_it (windows_of acts n) later)
  where
    acts : List Activation
    acts = before ++ next ∷ []

    n : ℕ
    n = length before

    more : State
    more = state ++ Some outcome ∷ []

    writes_it : Window → Bool
    writes_it w = is_write_to stream w.claim

    earlier : (i : ℕ) (w : Window) → slice_get (windows before) i ≡ Some w → window_elements more w ≡ window_elements state w
    earlier i w at =
        let s = is_window before i w at in
        let e : w.activation ≡ s.a = ap (λ (v : Window). v.activation) s.is in
        let l = s.exists in
        window_by_outcome more w (outcome_at state w.activation) (get_or_append_left state (Some outcome ∷ []) None w.activation (omega arith))

    last : outcome_at more n ≡ Some outcome
    last = get_or-append_right state (Some outcome ∷ []) n n None len (omega arith) ∙ ap (λ k. get_or (Some outcome ∷ []) k None) (let e : n - n ≡ 0 = omega arith in e)

    later : (i : ℕ) (w : Window) → slice_get (windows_of acts n) i ≡ Some w → window_elements more w ≡ written_in n outcome w
    later i w at =
        let e : w.activation ≡ n = window_activation acts n w (i, at) in
        window_by_outcome more w (Some outcome) (ap (outcome_at more) e ∙ last) ∙ ap (λ a. map (element_written a outcome) (range_with_len w.offset w.claim.horizon)) e
