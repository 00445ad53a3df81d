-- That what isn't marked leaves out only what waits.
use Rattle.std.proofs.Common.{◌≡◌, ◌≢◌, ℕ, pos, zero, suc, ◌+◌, ◌-◌, ◌<◌, ◌≤◌, List, [], ◌∷◌, Option, Some, None, Bool, true, false, cond, length, get_or, max, refl, sym, ap, ◌∙◌, subst, arith, zero-add}
use Rattle.std.specs.Prelude.{◌==◌, Contains, filter, not, slice_get}
use Rattle.std.specs.Option.{option_map_or}
use Rattle.std.specs.List.{range_with_len}
use Rattle.std.proofs.lemmas.Bool.{eqb-true}
use Rattle.std.proofs.lemmas.List.FromFn.{get_or-map-range_with_len}
use Rattle.std.proofs.lemmas.Option.{same_Some, slice_get-get_or, slice_get_within, get_or_from_slice_get}
use Rattle.flow_core_epochs.proofs.Carried.{produced_by, produced_by_nobody}
use Rattle.flow_core_epochs.proofs.Frames.{ascending_numbered, numbers_back, open_all, open_ascend, open_each}
use Rattle.flow_core_epochs.proofs.Held.{written_within}
use Rattle.flow_core_epochs.proofs.Members.{Has, in_filter, in_flat_map, in_map, in_range, of_filter, of_map}
use Rattle.flow_core_epochs.proofs.Reading.{has_contained}
use Rattle.flow_core_epochs.proofs.Written.{is_written_test, LiesIn}
use Rattle.flow_core_epochs.specs.Epoch as epoch
use Rattle.flow_core_epochs.specs.Epoch.{LeaveOutWaiting, number_among, open_in, left_out, unwritten}
use Rattle.flow_core_laws.proofs.Windows.{producer_of}
use Rattle.flow_core_laws.specs.declared.elem.Elem.TheVariants.{Value}
use Rattle.flow_core_laws.specs.Element.{fed, initial, nobody}
use Rattle.flow_core_laws.specs.FirstPosition.{write_cursor}
use Rattle.flow_core_laws.specs.Outcome.{outcome_at}
use Rattle.flow_core_laws.specs.Place.{input_places, places_of}
use Rattle.flow_core_laws.specs.Streams.{input_source, produced_source, stream_source}
use Rattle.flow_core_laws.specs.Window.{Window, claims_of, producer, windows, windows_of}
use Rattle.flow_core_laws.specs.declared.activation.Activation.{Activation}
use Rattle.flow_core_laws.specs.declared.place.Place.{Place}
use Rattle.flow_core_laws.specs.declared.task_end.TaskEnd.{TaskEnd}
use Rattle.stream_match.specs.EpochCode.{Ascend}
use Rattle.stream_match_layouts.proofs.FrameSpans.{spans_of-windows}
use Rattle.stream_match_layouts.proofs.Tallies.{frame_count-is}
use Rattle.stream_match_layouts.proofs.Windows.{claims_in-windows}
use Rattle.stream_match_layouts.proofs.Writers.{length-spans, number_place, span_at-window, there, window_number}
use Rattle.stream_match_layouts.specs.Layout.{claims_in, IsLayoutOf, span_of}
use Rattle.stream_match_layouts.specs.Spans.{frame_count, spans_of}
use Rattle.stream_match_layouts.specs.Writers.{HasWriters, span_at, writer_at, writers_on}
use Rattle.stream_match_layouts.specs.declared.layout.Layout.{Layout}
use Rattle.stream_match_layouts.specs.declared.span.Span.{Span}
use Rattle.epoch_run_ready.specs.Waiting.{PositionCannotCome, behind, stuck, HasWaitingSpan, SpanWaits, is_stuck, written_until}

-- numbers ascend
abbrev Ascends : List ℕ → Type 0
Ascends xs = (f g a b : ℕ) → f < g → slice_get xs f ≡ Some a → slice_get xs g ≡ Some b → a < b

ascends_cons : (x : ℕ) (xs : List ℕ) → Ascends xs → ((y : ℕ) → Has xs y → x < y) → Ascends (x ∷ xs)
ascends_cons x xs h above zero zero a b lt a_at b_at = absurd (omega arith)
ascends_cons x xs h above zero (suc g) a b lt a_at b_at = omega (arith, same_Some x a a_at, above b (g, b_at))
ascends_cons x xs h above (suc f) zero a b lt a_at b_at = absurd (omega arith)
ascends_cons x xs h above (suc f) (suc g) a b lt a_at b_at = h f g a b (omega arith) a_at b_at

-- and those that pass a test
ascends_filter : (test : ℕ → Bool) (xs : List ℕ) → Ascends xs → Ascends (filter test xs)
ascends_filter test [] h = h
ascends_filter test (x ∷ xs) h = by_test (test x) (ascends_filter test xs (λ f g a b lt a_at b_at. h (suc f) (suc g) a b (omega arith) a_at b_at))
  where
    above : (y : ℕ) → Has xs y → x < y
    above y (i, at) = h 0 (suc i) x y (omega arith) refl at

    by_test : (b : Bool) → Ascends (filter test xs) → Ascends (cond b (x ∷ filter test xs) (filter test xs))
    by_test true rest = ascends_cons x (filter test xs) rest (λ y g. above y (of_filter test xs y g).0)
    by_test false rest = rest

pub contained : {A : Type 0} (xs : List A) (x : A) → Has xs x → Contains xs x
contained xs x (i, at) = (i, slice_get_within xs i x at, get_or_from_slice_get xs i x x at)

-- what the write span at a place gives to a span that reads
pub writer_waits : (layout : Layout) (waits : List Bool) (span writer : Span) (place number : ℕ) → HasWriters layout span.stream → span.write ≡ false → span.stream ≢ 0 → slice_get (writers_on layout span.stream) place ≡ Some number → writer ≡ span_at layout number
    → (max span.first writer.first < span.first + span.count) × (max span.first writer.first < writer.first + writer.count) → is_stuck waits writer.frame ≡ true → SpanWaits layout waits span
writer_waits layout waits span writer place number has reads other at is meet s =
    let (lt, same) = number_place (writers_on layout span.stream) place number at in
    let at_place : writer_at layout span.stream place ≡ span_at layout number = ap (span_at layout) same in
    record {
      reads = reads;
      position = max span.first writer.first;
      from = omega arith;
      to = omega (arith, meet.0);
      cannot_come = stuck number other (subst (λ n. n < length layout.spans) same (has.exist place lt)) (sym (ap (λ (t : Span). t.write) at_place) ∙ has.write place lt) (sym (ap (λ (t : Span). t.stream) at_place) ∙ has.on_stream place lt)
          (omega (arith, ap (λ (t : Span). t.first) is)) (omega (arith, meet.1, ap (λ (t : Span). t.first) is, ap (λ (t : Span). t.count) is)) (ap (is_stuck waits) (sym (ap (λ (t : Span). t.frame) is)) ∙ s);
    }

-- the activations that have no end ascend
pub open_readers_ascend : (ends : List (Option TaskEnd)) (count : ℕ) → Ascend (open_in ends count)
open_readers_ascend ends count f g lt within =
    let readers = open_in ends count in
    open_ascend ends count f g (get_or readers f 0) (get_or readers g 0) lt (slice_get-get_or readers f 0 (omega arith)) (slice_get-get_or readers g 0 within)

module _ (layout : Layout) (activations : List Activation) (of : IsLayoutOf layout activations) (input : List ℕ) (over : length input ≡ layout.input_len) (ends : List (Option TaskEnd)) (readers : List ℕ) (open_are : readers ≡ open_in ends (frame_count layout)) (waits : List Bool) (are_readers : (a : ℕ) → is_stuck waits a ≡ true → (f : ℕ) × (slice_get readers f ≡ Some a)) where
  abbrev test : ℕ → Bool
  test a = not (get_or waits a false)

  abbrev frames : List ℕ
  frames = filter (λ a. not (get_or waits a false)) (open_in ends (frame_count layout))

  -- what has a mark is no frame
  pub not_frame : (a : ℕ) → get_or waits a false ≡ true → number_among frames a ≡ None
  not_frame a m = by_number (number_among frames a) refl
    where
      by_number : (n : Option ℕ) → number_among frames a ≡ n → number_among frames a ≡ None
      by_number None e = e
      by_number (Some f) e =
          let passes = (of_filter test (open_in ends (frame_count layout)) a (f, numbers_back frames a f e)).1 in
          let fails : test a ≡ false = ap not m in
          absurd (cc)

  stuck_fed : (a place : ℕ) → is_stuck waits a ≡ true → epoch.CannotCome ends frames (fed a place)
  stuck_fed a place m =
      let (f, at) = are_readers a m in
      left_out a place (open_each ends (frame_count layout) f a (subst (λ (xs : List ℕ). slice_get xs f ≡ Some a) open_are at)).1 (not_frame a m)

  -- nobody writes behind all that is written
  written_is : (stream : ℕ) → stream < length layout.writers → stream ≢ 0 → written_until layout stream ≡ write_cursor stream (claims_of activations)
  written_is stream exists other = by_test (stream == 0) refl
    where
      by_test : (b : Bool) → (stream == 0) ≡ b → cond b layout.input_len (get_or layout.cursors.writes stream 0) ≡ write_cursor stream (claims_of activations)
      by_test true e = absurd (other (eqb-true stream 0 e))
      by_test false e =
          ap (λ xs. get_or xs stream 0) of.of_windows.writes
          ∙ get_or-map-range_with_len (λ s. write_cursor s (claims_in (windows activations))) 0 (length layout.writers) stream stream 0 exists (zero-add stream)
          ∙ ap (write_cursor stream) (claims_in-windows activations)

  nobody_writes : (stream position : ℕ) → stream < length layout.writers → stream ≢ 0 → written_until layout stream ≤ position → (o : Option Window) → producer activations stream position ≡ o → producer activations stream position ≡ None
  nobody_writes stream position exists other le None e = e
  nobody_writes stream position exists other le (Some w) e = absurd (omega (arith, written_within activations stream position w e, written_is stream exists other))

  of_input : (position : ℕ) → layout.input_len ≤ position → input_source input position ≡ nobody
  of_input position le = by_byte (slice_get input position) refl
    where
      by_byte : (o : Option ℕ) → slice_get input position ≡ o → option_map_or (λ byte. initial (Value (pos byte))) o nobody ≡ nobody
      by_byte None e = refl
      by_byte (Some byte) e = absurd (omega (arith, over, slice_get_within input position byte e))

  cannot_come : (p : Place) → p.stream < length layout.writers → PositionCannotCome layout waits p.stream p.position → epoch.CannotCome ends frames (stream_source activations input p)
  cannot_come p exists (behind le) = by_stream (p.stream == 0) refl
    where
      by_stream : (b : Bool) → (p.stream == 0) ≡ b → epoch.CannotCome ends frames (stream_source activations input p)
      by_stream true e =
          let le' : layout.input_len ≤ p.position = subst (λ (b : Bool). cond b layout.input_len (get_or layout.cursors.writes p.stream 0) ≤ p.position) e le in
          subst (epoch.CannotCome ends frames) (sym (ap (λ (b : Bool). cond b (input_source input p.position) (produced_source activations p.stream p.position)) e ∙ of_input p.position le')) unwritten
      by_stream false e =
          let other : p.stream ≢ 0 = λ z. let t : (p.stream == 0) ≡ true = ap (λ n. n == 0) z in absurd (cc) in
          subst (epoch.CannotCome ends frames) (sym (produced_by_nobody activations input p other (nobody_writes p.stream p.position exists other le (producer activations p.stream p.position) refl))) unwritten
  cannot_come p exists (stuck number other lt writes on from to s) =
      let n : number < length (windows activations) = omega (arith, length-spans layout activations of) in
      let w = window_number activations number in
      let is : span_at layout number ≡ span_of w = span_at-window layout activations of number n in
      let write : w.claim.write ≡ true = sym (ap (λ (t : Span). t.write) is) ∙ writes in
      let stream : w.claim.stream ≡ p.stream = sym (ap (λ (t : Span). t.stream) is) ∙ on in
      let lies : LiesIn w p = record { stream = sym stream; from = omega (arith, ap (λ (t : Span). t.first) is); to = omega (arith, ap (λ (t : Span). t.first) is, ap (λ (t : Span). t.count) is) } in
      let made = producer_of activations p.stream p.position number w (there activations number n) (is_written_test w p write lies) in
      subst (epoch.CannotCome ends frames) (sym (produced_by activations input p w other made)) (stuck_fed w.activation (w.offset + (p.position - w.first)) (ap (is_stuck waits) (sym (ap (λ (t : Span). t.frame) is)) ∙ s))

  -- what has a mark reads such an element
  pub reads_it : (a : ℕ) → a < length activations → ((s : Span) → Has (spans_of layout a) s → s.stream < length layout.writers) → HasWaitingSpan layout waits (spans_of layout a)
      → (p : Place) × (Contains (input_places activations a) p) × epoch.CannotCome ends frames (stream_source activations input p)
  unfolding input_places
  reads_it a lt exist h =
      let s = h.span in
      let has = has_contained (spans_of layout a) s h.is_one in
      let (w, w_in, w_is) = of_map span_of (windows_of activations a) s (subst (λ xs. Has xs s) (spans_of-windows layout activations of a lt) has) in
      let p : Place = record { stream = w.claim.stream; position = h.waits_for.position } in
      let reads : not w.claim.write ≡ true = ap not (ap (λ (t : Span). t.write) w_is ∙ h.waits_for.reads) in
      let low : w.first ≤ h.waits_for.position = omega (arith, ap (λ (t : Span). t.first) w_is, h.waits_for.from) in
      let high : h.waits_for.position < w.first + w.claim.horizon = omega (arith, ap (λ (t : Span). t.first) w_is, ap (λ (t : Span). t.count) w_is, h.waits_for.to) in
      let stream : s.stream ≡ w.claim.stream = sym (ap (λ (t : Span). t.stream) w_is) in
      let at : Has (places_of w) p = in_map (λ position. record { stream = w.claim.stream; position = position }) (range_with_len w.first w.claim.horizon) h.waits_for.position (in_range w.first w.claim.horizon h.waits_for.position low high) in
      let read = in_flat_map places_of (filter (λ (w : Window). not w.claim.write) (windows_of activations a)) w p (in_filter (λ (w : Window). not w.claim.write) (windows_of activations a) w w_in reads) at in
      (p, contained (input_places activations a) p read, cannot_come p (subst (λ n. n < length layout.writers) stream (exist s has)) (subst (λ n. PositionCannotCome layout waits n h.waits_for.position) stream h.waits_for.cannot_come))

  pub leave_out : ((a : ℕ) → a < length activations → get_or waits a false ≡ true → (p : Place) × (Contains (input_places activations a) p) × epoch.CannotCome ends frames (stream_source activations input p))
      → LeaveOutWaiting activations input ends frames
  leave_out wait = record {
    are_open = λ f a h. let (g, at) = (of_filter test all_open a (f, h)).0 in let e = open_each ends (frame_count layout) g a at in (omega (arith, count, e.0), e.1);
    ascend = ascend;
    others_wait = λ a lt none out. by_mark a lt none out (get_or waits a false) refl;
  }
    where
      all_open : List ℕ
      all_open = open_in ends (frame_count layout)

      count : frame_count layout ≡ length activations
      count = frame_count-is layout activations of

      ascend : Ascends (filter (λ a. not (get_or waits a false)) (open_in ends (frame_count layout)))
      ascend = ascends_filter test all_open (open_ascend ends (frame_count layout))

      by_mark : (a : ℕ) → a < length activations → outcome_at ends a ≡ None → number_among frames a ≡ None → (b : Bool) → get_or waits a false ≡ b
          → (p : Place) × (Contains (input_places activations a) p) × epoch.CannotCome ends frames (stream_source activations input p)
      by_mark a lt none out true m = wait a lt m
      by_mark a lt none out false m =
          let (f, at) = open_all ends (frame_count layout) a (omega (arith, count)) none in
          let (g, g_at) = in_filter test all_open a (f, at) (ap not m) in
          let numbered = ascending_numbered frames ascend g a g_at in
          absurd (cc)
