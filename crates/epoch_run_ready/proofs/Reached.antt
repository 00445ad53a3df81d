-- That what nothing new reaches waits as it did.
use Rattle.std.proofs.Common.{◌≡◌, ◌≢◌, ℕ, ◌+◌, ◌-◌, ◌<◌, ◌≤◌, ◌⊎◌, List, [], Option, Some, None, Bool, true, false, cond, inl, inr, length, get_or, pos, refl, sym, ap, ◌∙◌, subst, arith}
use Rattle.std.specs.Prelude.{◌==◌, Contains, not, slice_get}
use Rattle.std.specs.Option.{option_map_or}
use Rattle.std.proofs.lemmas.Bool.{and_parts, cases_eq}
use Rattle.std.proofs.lemmas.Option.{get_or_from_slice_get, slice_get_within}
use Rattle.flow_core_epochs.proofs.Carried.{all_has, is_producer, produced_by, produced_by_nobody, wrote}
use Rattle.flow_core_epochs.proofs.Frames.{open_all, open_each}
use Rattle.flow_core_epochs.proofs.Members.{Has, in_map}
use Rattle.flow_core_epochs.proofs.Reading.{has_contained, read_in}
use Rattle.flow_core_epochs.proofs.Written.{written_in}
use Rattle.flow_core_epochs.specs.Epoch.{CannotCome, left_out, number_among, open_in, unwritten}
use Rattle.flow_core_laws.specs.declared.elem.Elem.TheVariants.{Value}
use Rattle.flow_core_laws.specs.Element.{Source, fed, initial, nobody}
use Rattle.flow_core_laws.specs.Outcome.{outcome_at}
use Rattle.flow_core_laws.specs.Place.{input_places}
use Rattle.flow_core_laws.specs.Streams.{input_source, produced_source, stream_source}
use Rattle.flow_core_laws.specs.Window.{Window, producer, windows_of}
use Rattle.flow_core_laws.specs.declared.activation.Activation.{Activation}
use Rattle.flow_core_laws.specs.declared.place.Place.{Place}
use Rattle.flow_core_laws.specs.declared.task_end.TaskEnd.{TaskEnd}
use Rattle.stream_match_layouts.proofs.FrameSpans.{spans_of-windows}
use Rattle.stream_match_layouts.proofs.Tallies.{frame_count-is}
use Rattle.stream_match_layouts.specs.Layout.{IsLayoutOf, span_of}
use Rattle.stream_match_layouts.specs.Spans.{frame_count, spans_of}
use Rattle.stream_match_layouts.specs.Writers.{end_of}
use Rattle.stream_match_layouts.specs.declared.layout.Layout.{Layout}
use Rattle.stream_match_layouts.specs.declared.span.Span.{Span}
use Rattle.epoch_run_ready.specs.Newest.{WaitBefore}
use Rattle.epoch_run_ready.specs.Unreached.{AreUnreached, WriteBehind}

-- the input is fed by nobody
not_fed : (o : Option ℕ) (a place : ℕ) → option_map_or (λ byte. initial (Value (pos byte))) o nobody ≢ fed a place
not_fed None a place e = absurd (cc)
not_fed (Some byte) a place e = absurd (cc)

-- what can't come where none runs can't come where some run and its producer isn't one of them
none_of_them : (ends : List (Option TaskEnd)) (frames : List ℕ) (source : Source) → ((a place : ℕ) → source ≡ fed a place → outcome_at ends a ≡ None → number_among frames a ≡ None) → CannotCome ends [] source → CannotCome ends frames source
none_of_them ends frames source out unwritten = unwritten
none_of_them ends frames source out (left_out a place none was) = left_out a place none (out a place refl none)

module _ (layout : Layout) (activations : List Activation) (of : IsLayoutOf layout activations) (input : List ℕ) (ends : List (Option TaskEnd)) (first : ℕ) (base : List Bool) (are : AreUnreached layout (open_in ends (frame_count layout)) first base) where
  count : frame_count layout ≡ length activations
  count = frame_count-is layout activations of

  -- the producer of what one reads is one, where it has no end
  producer_is : (a : ℕ) (p : Place) (w : Window) → a < length activations → get_or base a false ≡ true → Has (input_places activations a) p → producer activations p.stream p.position ≡ Some w → outcome_at ends w.activation ≡ None → get_or base w.activation false ≡ true
  producer_is a p w lt m reads made none =
      let (r, r_in, r_is, r_lies) = read_in activations a p reads in
      let exists : w.activation < length activations = (is_producer activations p.stream p.position w made).exists in
      let (v, v_in, v_writes, v_lies) = written_in activations w.activation p (wrote activations p w made) in
      let read_span : Has (spans_of layout a) (span_of r) = subst (λ ss. Has ss (span_of r)) (sym (spans_of-windows layout activations of a lt)) (in_map span_of (windows_of activations a) r r_in) in
      let write_span : Has (spans_of layout w.activation) (span_of v) = subst (λ ss. Has ss (span_of v)) (sym (spans_of-windows layout activations of w.activation exists)) (in_map span_of (windows_of activations w.activation) v v_in) in
      let read_low = all_has (λ (s : Span). s.write ≡ false → end_of s ≤ get_or are.low s.stream 0) (spans_of layout a) (span_of r) (are.are_judged.read_before a m) read_span (not_write r.claim.write (and_parts (not r.claim.write) (r.claim.stream == p.stream) r_is).0) in
      let low : p.position < get_or are.low p.stream 0 = omega (arith, r_lies.to, read_low, ap (λ n. get_or are.low n 0) r_lies.stream) in
      let (f, at) = open_all ends (frame_count layout) w.activation (omega (arith, count)) none in
      let is : get_or (open_in ends (frame_count layout)) f 0 ≡ w.activation = get_or_from_slice_get (open_in ends (frame_count layout)) f w.activation 0 at in
      by_other v v_lies.from v_writes v_lies.stream write_span low f is (are.are_judged.others f (omega arith) (slice_get_within (open_in ends (frame_count layout)) f w.activation at))
    where
      not_write : (b : Bool) → not b ≡ true → b ≡ false
      not_write true h = absurd (cc)
      not_write false h = refl

      by_other : (v : Window) → v.first ≤ p.position → v.claim.write ≡ true → p.stream ≡ v.claim.stream → Has (spans_of layout w.activation) (span_of v) → p.position < get_or are.low p.stream 0 → (f : ℕ) → get_or (open_in ends (frame_count layout)) f 0 ≡ w.activation
          → (get_or base (get_or (open_in ends (frame_count layout)) f 0) false ≡ true) ⊎ WriteBehind are.low (spans_of layout (get_or (open_in ends (frame_count layout)) f 0)) → get_or base w.activation false ≡ true
      by_other v from writes stream write_span low f is (inl marked) = sym (ap (λ n. get_or base n false) is) ∙ marked
      by_other v from writes stream write_span low f is (inr behind) =
          let here : WriteBehind are.low (spans_of layout w.activation) = subst (λ n. WriteBehind are.low (spans_of layout n)) is behind in
          let high = all_has (λ (s : Span). s.write ≡ true → get_or are.low s.stream 0 ≤ s.first) (spans_of layout w.activation) (span_of v) here write_span writes in
          absurd (omega (arith, high, low, from, ap (λ n. get_or are.low n 0) stream))

  -- so what it reads can't come, where none of them runs
  pub waits_still : (frames : List ℕ) → WaitBefore activations input ends first → ((a : ℕ) → get_or base a false ≡ true → number_among frames a ≡ None) → (a : ℕ) → a < length activations → get_or base a false ≡ true
      → (p : Place) × (Contains (input_places activations a) p) × CannotCome ends frames (stream_source activations input p)
  waits_still frames wait out a lt m =
      let (f, at) = are.are_judged.are_readers a m in
      let (p, reads, cannot) = wait a (are.are_judged.are_before a m) (open_each ends (frame_count layout) f a at).1 in
      (p, reads, none_of_them ends frames (stream_source activations input p) (λ b place e none. producer_out p (has_contained (input_places activations a) p reads) b place e none (cases_eq p.stream 0)) cannot)
    where
      producer_out : (p : Place) → Has (input_places activations a) p → (b place : ℕ) → stream_source activations input p ≡ fed b place → outcome_at ends b ≡ None → (p.stream ≡ 0) ⊎ (p.stream ≢ 0) → number_among frames b ≡ None
      producer_out p reads b place e none (inl zero_is) =
          let is : (p.stream == 0) ≡ true = ap (λ n. n == 0) zero_is in
          absurd (not_fed (slice_get input p.position) b place (sym (ap (λ (t : Bool). cond t (input_source input p.position) (produced_source activations p.stream p.position)) is) ∙ e))
      producer_out p reads b place e none (inr other) = by_producer (producer activations p.stream p.position) refl
        where
          same_fed : (c d q r : ℕ) → fed c q ≡ fed d r → c ≡ d
          same_fed c d q r h = cc

          by_producer : (o : Option Window) → producer activations p.stream p.position ≡ o → number_among frames b ≡ None
          by_producer None made = absurd (let never : nobody ≡ fed b place = sym (produced_by_nobody activations input p other made) ∙ e in cc)
          by_producer (Some w) made =
              let same : w.activation ≡ b = same_fed w.activation b (w.offset + (p.position - w.first)) place (sym (produced_by activations input p w other made) ∙ e) in
              out b (subst (λ n. get_or base n false ≡ true) same (producer_is a p w lt m reads made (ap (λ n. outcome_at ends n) same ∙ none)))
