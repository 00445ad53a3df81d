-- The frames of an epoch, and the streams of what they write.
use Rattle.std.proofs.Common.{◌≡◌, ℕ, ◌<◌, List, Option, Some, None, All, ◌⊎◌, inl, inr, length, map, subst, arith}
use Rattle.std.specs.Prelude.{◌==◌, ◌||◌, filter, is_none, nat_le, slice_get}
use Rattle.std.specs.List.{flat_map, range_with_len}
use Rattle.std.proofs.lemmas.Bool.{cases_order}
use Rattle.std.proofs.lemmas.List.{get_or_default}
use Rattle.std.proofs.lemmas.Option.{get_or_from_slice_get, slice_get_within}
use Rattle.flow_core_epochs.proofs.Carried.{all_has, has_all, is_producer, wrote}
use Rattle.flow_core_epochs.proofs.Members.{Has, in_map, of_filter, of_flat_map, of_map}
use Rattle.flow_core_epochs.specs.Epoch as epoch
use Rattle.flow_core_epochs.specs.Epoch.{IsOutside, leaving_places, number_among, open_in, read_from, written_places}
use Rattle.flow_core_laws.proofs.Filtered.{filtered_ascends, filtered_each}
use Rattle.flow_core_laws.specs.Outcome.{outcome_at}
use Rattle.flow_core_laws.specs.Place.{places_of}
use Rattle.flow_core_laws.specs.Window.{Window, producer, windows_of}
use Rattle.flow_core_laws.specs.declared.activation.Activation.{Activation}
use Rattle.flow_core_laws.specs.declared.place.Place.{Place}
use Rattle.stream_match.proofs.Lowering.{streams_exist}
use Rattle.stream_match.specs.EpochPlan.{AscendInLayout}
use Rattle.stream_match.specs.Kept.{kept_of}
use Rattle.stream_match.specs.declared.kept.Kept.{Kept}
use Rattle.stream_match_layouts.proofs.FrameSpans.{spans_of-windows}
use Rattle.stream_match_layouts.proofs.Tallies.{frame_count-is}
use Rattle.stream_match_layouts.specs.Layout.{IsLayout, IsLayoutOf, span_of}
use Rattle.stream_match_layouts.specs.Spans.{frame_count}
use Rattle.stream_match_layouts.specs.declared.layout.Layout.{Layout}
use Rattle.stream_match_layouts.specs.declared.span.Span.{Span}

-- activations without an outcome ascend
pub are_frames : {O : Type 0} (layout : Layout) (state : List (Option O)) (count : ℕ) → frame_count layout ≡ count → AscendInLayout layout (open_in state count)
are_frames layout state count is = record {
  exist = λ i lt. let p = filtered_each (λ a. is_none (outcome_at state a)) 0 count i lt in let high = p.high in omega arith;
  ascend = λ i j less lt. filtered_ascends (λ a. is_none (outcome_at state a)) 0 count i j less lt;
}

module _ (layout : Layout) (frames : List ℕ) (are : AscendInLayout layout frames) where
  pub frame_exists : (f a : ℕ) → slice_get frames f ≡ Some a → a < frame_count layout
  frame_exists f a at = subst (λ b. b < frame_count layout) (get_or_from_slice_get frames f a 0 at) (are.exist f (slice_get_within frames f a at))

  pub frames_differ : (f g a : ℕ) → slice_get frames f ≡ Some a → slice_get frames g ≡ Some a → f ≡ g
  frames_differ f g a at also = by (cases_order f g)
    where
      by : (f ≡ g) ⊎ ((f < g) ⊎ (g < f)) → f ≡ g
      by (inl same) = same
      by (inr (inl less)) =
          let l = are.ascend f g less (slice_get_within frames g a also) in
          let x = get_or_from_slice_get frames f a 0 at in
          let y = get_or_from_slice_get frames g a 0 also in
          absurd (omega arith)
      by (inr (inr more)) =
          let l = are.ascend g f more (slice_get_within frames f a at) in
          let x = get_or_from_slice_get frames f a 0 at in
          let y = get_or_from_slice_get frames g a 0 also in
          absurd (omega arith)

  pub all_exist : All (λ f. f < frame_count layout) frames
  all_exist = λ i d lt. subst (λ a. a < frame_count layout) (get_or_default frames i 0 d lt) (are.exist i lt)

module _ (layout : Layout) (is : IsLayout layout) (activations : List Activation) (laid : IsLayoutOf layout activations) where
  -- what an activation writes is on streams of the layout
  written_exists : (a : ℕ) (p : Place) → a < length activations → Has (written_places activations a) p → p.stream < length layout.writers
  written_exists a p lt h =
      let (w, at, covers) = of_flat_map places_of (filter (λ (w : Window). w.claim.write) (windows_of activations a)) p h in
      let stands = of_filter (λ (w : Window). w.claim.write) (windows_of activations a) w at in
      let (position, within, same) = of_map (λ position. record { stream = w.claim.stream; position = position }) (range_with_len w.first w.claim.horizon) p covers in
      let all = subst (All (λ (s : Span). s.stream < length layout.writers)) (spans_of-windows layout activations laid a lt)
      (streams_exist layout is a (omega (arith, frame_count-is layout activations laid))) in
      let lt : w.claim.stream < length layout.writers =
      all_has (λ (s : Span). s.stream < length layout.writers) (map span_of (windows_of activations a)) (span_of w) all (in_map span_of (windows_of activations a) w stands.0) in
      subst (λ (q : Place). q.stream < length layout.writers) same lt

  pub places_exist : (readers frames : List ℕ) (places : List Place) → All (λ f. f < length activations) frames → places ≡ leaving_places activations readers frames
      → All (λ (p : Place). p.stream < length layout.writers) places
  places_exist readers frames places exist leave = has_all (λ (p : Place). p.stream < length layout.writers) places each
    where
      each : (p : Place) → Has places p → p.stream < length layout.writers
      each p h =
          let left = subst (λ (ps : List Place). Has ps p) leave h in
          let passes = of_filter (λ (q : Place). q.stream == 1 || nat_le (read_from activations readers q.stream) q.position) (flat_map (written_places activations) frames) p left in
          let (a, at, writes) = of_flat_map (written_places activations) frames p passes.0 in
          written_exists a p (all_has (λ f. f < length activations) frames a exist at) writes

  pub kept_exist : (frames : List ℕ) (kept : List Kept) → IsOutside activations frames (map kept_of kept) → All (λ (k : Kept). k.stream < length layout.writers) kept
  kept_exist frames kept outside = has_all (λ (k : Kept). k.stream < length layout.writers) kept each
    where
      each : (k : Kept) → Has kept k → k.stream < length layout.writers
      each k h =
          let p : Place = record { stream = k.stream; position = k.position } in
          let (w, found, other) = all_has (λ (l : epoch.Kept). (w : Window) × (producer activations l.place.stream l.place.position ≡ Some w) × (number_among frames w.activation ≡ None)) (map kept_of kept) (kept_of k) outside.written_outside (in_map kept_of kept k h) in
          written_exists w.activation p (is_producer activations k.stream k.position w found).exists (wrote activations p w found)
