-- That frames leave out only what waits: what had a mark before, and what got one since it waits.
use Rattle.std.proofs.Common.{◌≡◌, ℕ, ◌<◌, ◌⊎◌, List, Option, Some, None, Bool, true, false, inl, inr, length, get_or, sym, ap, ◌∙◌, subst}
use Rattle.std.specs.Prelude.{Contains, slice_get}
use Rattle.flow_core_epochs.proofs.Members.{Has}
use Rattle.flow_core_epochs.specs.Epoch.{CannotCome, LeaveOutWaiting, number_among, open_in}
use Rattle.flow_core_laws.specs.Place.{input_places}
use Rattle.flow_core_laws.specs.Streams.{stream_source}
use Rattle.flow_core_laws.specs.declared.activation.Activation.{Activation}
use Rattle.flow_core_laws.specs.declared.place.Place.{Place}
use Rattle.flow_core_laws.specs.declared.task_end.TaskEnd.{TaskEnd}
use Rattle.stream_match.specs.EpochCode.{Ascend}
use Rattle.stream_match_layouts.proofs.Tallies.{frame_count-is}
use Rattle.stream_match_layouts.specs.Layout.{IsLayoutOf}
use Rattle.stream_match_layouts.specs.Spans.{frame_count, spans_of}
use Rattle.stream_match_layouts.specs.declared.layout.Layout.{Layout}
use Rattle.stream_match_layouts.specs.declared.span.Span.{Span}
use Rattle.epoch_run_ready.specs.Waiting.{AreUnmarked, IsWaiting}
use Rattle.epoch_run_ready.proofs.Passing.{unmarked}
use Rattle.epoch_run_ready.proofs.Stuck.{leave_out, not_frame, open_readers_ascend, reads_it}

module _ (layout : Layout) (activations : List Activation) (of : IsLayoutOf layout activations) (input : List ℕ) (over : length input ≡ layout.input_len) (ends : List (Option TaskEnd)) (readers : List ℕ) (open_are : readers ≡ open_in ends (frame_count layout)) where
  -- an activation reads an element that can't come where frames run
  abbrev pub Waits : List ℕ → ℕ → Type 0
  Waits frames a = (p : Place) × (Contains (input_places activations a) p) × CannotCome ends frames (stream_source activations input p)

  pub left_out_wait : (base : List Bool) (frames : List ℕ) → ((a : ℕ) (s : Span) → a < frame_count layout → Has (spans_of layout a) s → s.stream < length layout.writers) → ((a : ℕ) → get_or base a false ≡ true → (f : ℕ) × (slice_get readers f ≡ Some a))
      → ((fs : List ℕ) → ((a : ℕ) → get_or base a false ≡ true → number_among fs a ≡ None) → (a : ℕ) → a < length activations → get_or base a false ≡ true → Waits fs a) → AreUnmarked layout readers base frames → LeaveOutWaiting activations input ends frames
  left_out_wait base frames exist base_readers base_wait are =
      let ascend : Ascend readers = subst Ascend (sym open_are) (open_readers_ascend ends (frame_count layout)) in
      subst (LeaveOutWaiting activations input ends) (sym (are.others ascend ∙ ap (unmarked are.waits) open_are))
      (leave_out layout activations of input over ends readers open_are are.waits reader (λ a lt m. by a lt (are.are_marked.more_wait a m)))
    where
      fs : List ℕ
      fs = unmarked are.waits (open_in ends (frame_count layout))

      reader : (a : ℕ) → get_or are.waits a false ≡ true → (f : ℕ) × (slice_get readers f ≡ Some a)
      reader a m = of_mark (are.are_marked.more_wait a m)
        where
          of_mark : (get_or base a false ≡ true) ⊎ IsWaiting layout readers are.waits a → (f : ℕ) × (slice_get readers f ≡ Some a)
          of_mark (inl was) = base_readers a was
          of_mark (inr w) = (w.number, w.is_reader)

      by : (a : ℕ) → a < length activations → (get_or base a false ≡ true) ⊎ IsWaiting layout readers are.waits a → Waits (unmarked are.waits (open_in ends (frame_count layout))) a
      by a lt (inl was) = base_wait fs (λ b m. not_frame layout activations of input over ends readers open_are are.waits reader b (are.are_marked.are_kept b m)) a lt was
      by a lt (inr w) = reads_it layout activations of input over ends readers open_are are.waits reader a lt (λ s h. exist a s (subst (λ n. a < n) (sym (frame_count-is layout activations of)) lt) h) w.waits_for
