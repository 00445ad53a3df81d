-- The plan of a whole run is sound, and stands for it.
use Rattle.std.proofs.Common.{◌≡◌, ℕ, pos, zero, suc, ◌+◌, ◌-◌, ◌^◌, ◌<◌, ◌≤◌, Bool, true, false, cond, List, [], ◌∷◌, Option, Some, None, length, map, get_or, refl, ap, ◌∙◌, arith, zero-add}
use Rattle.std.specs.Prelude.{slice_get, sum_by, All, ◌==◌}
use Rattle.std.specs.Option.{option_map_or}
use Rattle.std.specs.List.{flat_map, range_with_len}
use Rattle.std.proofs.lemmas.List.{append-nil, take_all}
use Rattle.std.proofs.lemmas.List.FromFn.{length-range_with_len, get_or-map-range_with_len}
use Rattle.std.proofs.lemmas.Option.{slice_get-get_or, slice_get_within}
use Rattle.flow_core_laws.specs.declared.activation.Activation.{Activation}
use Rattle.flow_core_laws.specs.FirstPosition.{write_cursor}
use Rattle.flow_core_laws.specs.Window.{Window, windows, is_written_by, producer}
use Rattle.flow_core_laws.specs.Place.{places_from, input_places, written_count, output_places}
use Rattle.flow_core_laws.proofs.Sources.{find_passes}
use Rattle.flow_core_laws.proofs.Windows.{is_window}
use Rattle.flow_core_epochs.specs.Epoch.{number_among, among, epoch_source}
use Rattle.flow_core_laws.specs.declared.plan.Plan.{Plan}
use Rattle.flow_core_laws.specs.IsSound.{IsSound}
use Rattle.flow_core_laws.specs.StandsFor.{StandsFor}
use Rattle.flow_core_laws.specs.Element.{initial, fed, nobody}
use Rattle.flow_core_laws.specs.Streams.{input_source, produced_source, stream_source}
use Rattle.flow_core_laws.specs.Plans.{plan_reads}
use Rattle.flow_core_laws.specs.declared.elem.Elem.TheVariants.{Value}
use Rattle.flow_core_laws.specs.declared.place.Place.{Place}
use Rattle.stream_match_layouts.specs.declared.layout.Layout.{Layout}
use Rattle.stream_match_layouts.specs.Layout.{claims_in, IsLayout, IsLayoutOf}
use Rattle.stream_match_layouts.specs.Spans.{frame_count, read_count}
use Rattle.stream_match_layouts.proofs.Windows.{claims_in-windows}
use Rattle.stream_match_layouts.proofs.Sums.{cells_few, cells_before-all}
use Rattle.stream_match_layouts.proofs.Tallies.{frame_count-is}
use Rattle.stream_match.specs.Weave.{Reach, total, reach_places, IsWoven, CanWeave}
use Rattle.stream_match.specs.EpochPlan.{AscendInLayout, WrittenOutside}
use Rattle.stream_match.specs.Whole.{all_frames, output_reach, whole_weave}
use Rattle.stream_match.specs.EpochCode.{CanLeave}
use Rattle.stream_match.proofs.EpochWeave.{over_frame, frames_within, reaches-sink, can_weave_over}
use Rattle.stream_match.proofs.LookUp.{found_number}
use Rattle.stream_match.proofs.Behind.{total_one}
use Rattle.stream_match.proofs.EpochTop.{map-same}
use Rattle.stream_match.proofs.Weaving.{length-frames}
use Rattle.stream_match.proofs.WovenSound.{woven_sound}
use Rattle.stream_match.proofs.EpochStands.{reads_over, reads_frame, outputs_written}

range_at : (a n i d : ℕ) → i < n → get_or (range_with_len a n) i d ≡ a + i
range_at a zero i d lt = absurd (omega arith)
range_at a (suc n) zero d lt = let e : a ≡ a + 0 = omega arith in e
range_at a (suc n) (suc i) d lt = range_at (a + 1) n i d (omega arith) ∙ (let e : a + 1 + i ≡ a + suc i = omega arith in e)

single : {A : Type 0} (P : A → Type 0) (x : A) → P x → All P (x ∷ [])
single P x p zero d lt = p
single P x p (suc k) d lt = absurd (omega arith)

module _ (layout : Layout) (is : IsLayout layout) where
  at_is : (i : ℕ) → i < frame_count layout → get_or (all_frames layout) i 0 ≡ i
  at_is i lt = range_at 0 (frame_count layout) i 0 lt ∙ zero-add i

  pub count_is : length (all_frames layout) ≡ frame_count layout
  count_is = length-range_with_len 0 (frame_count layout)

  pub are : AscendInLayout layout (all_frames layout)
  are = record {
    exist = λ i lt. omega (arith, at_is i (omega (arith, count_is)), count_is);
    ascend = λ i j less lt. omega (arith, at_is i (omega (arith, count_is)), at_is j (omega (arith, count_is)));
  }

  exist : All (λ (r : Reach). r.stream < length layout.writers) (output_reach layout ∷ [])
  exist = single (λ (r : Reach). r.stream < length layout.writers) (output_reach layout) (let t = is.has_output in omega arith)

  fits : sum_by (over_frame read_count layout) (all_frames layout) + total (output_reach layout ∷ []) ≤ 4194304
  fits = omega (arith, frames_within layout is read_count (all_frames layout) 0 (λ i lt. omega arith) are.exist are.ascend, cells_before-all layout, cells_few layout is, total_one (output_reach layout))

  -- the output can leave all frames
  pub can_leave : CanLeave layout (all_frames layout) (output_reach layout ∷ [])
  can_leave = record {
    exist = exist;
    small = single (λ (r : Reach). r.first < 2 ^ 62) (output_reach layout) (omega arith);
    few = omega (arith, fits, ap (sum_by (over_frame read_count layout)) (take_all (length (all_frames layout)) (all_frames layout) (omega arith)));
  }

  module _ (activations : List Activation) (of : IsLayoutOf layout activations) (input : List ℕ) where
    outside : WrittenOutside activations (all_frames layout) []
    outside k d lt = absurd (omega arith)

    can : CanWeave layout (whole_weave layout input)
    can = can_weave_over layout is activations of input (all_frames layout) [] (output_reach layout ∷ []) exist fits are outside

    number : (a : ℕ) → a < length activations → number_among (all_frames layout) a ≡ Some a
    number a lt = let n = frame_count-is layout activations of in found_number (all_frames layout) a a are.ascend (omega (arith, count_is, n)) (at_is a (omega (arith, n)))

    stands_at : (a : ℕ) → a < length activations → slice_get (all_frames layout) a ≡ Some a
    stands_at a lt = let n = frame_count-is layout activations of in slice_get-get_or (all_frames layout) a 0 (omega (arith, count_is, n)) ∙ ap (λ k. Some k) (at_is a (omega (arith, n)))

    -- every producer is a frame
    produced : (stream position : ℕ) (o : Option Window) → producer activations stream position ≡ o → among (all_frames layout) (option_map_or (λ (w : Window). fed w.activation (w.offset + (position - w.first))) o nobody) ≡ option_map_or (λ (w : Window). fed w.activation (w.offset + (position - w.first))) o nobody
    produced stream position None e = refl
    produced stream position (Some w) e =
        let (i, at, passes) = find_passes (is_written_by stream position) (windows activations) w e in
        let v = is_window activations i w at in
        let a : w.activation ≡ v.a = ap (λ (u : Window). u.activation) v.is in
        let lt : w.activation < length activations = let x = v.exists in omega arith in
        ap (λ o. option_map_or (λ f. fed f (w.offset + (position - w.first))) o nobody) (number w.activation lt)

    initial_source : (position : ℕ) (o : Option ℕ) → among (all_frames layout) (option_map_or (λ byte. initial (Value (pos byte))) o nobody) ≡ option_map_or (λ byte. initial (Value (pos byte))) o nobody
    initial_source position None = refl
    initial_source position (Some byte) = refl

    same_source : (p : Place) → epoch_source activations input (all_frames layout) [] p ≡ stream_source activations input p
    same_source p = by_stream (p.stream == 0)
      where
        by_stream : (b : Bool) → among (all_frames layout) (cond b (input_source input p.position) (produced_source activations p.stream p.position)) ≡ cond b (input_source input p.position) (produced_source activations p.stream p.position)
        by_stream true = initial_source p.position (slice_get input p.position)
        by_stream false = produced p.stream p.position (producer activations p.stream p.position) refl

    module _ (plan : Plan) (laid : IsWoven layout (whole_weave layout input) plan) where
      pub whole_sound : IsSound plan
      whole_sound = woven_sound layout (whole_weave layout input) can plan laid

      sink : plan_reads plan (length activations) ≡ map (stream_source activations input) (output_places activations)
      sink =
          let n = frame_count-is layout activations of in
          let count : get_or layout.cursors.writes 1 0 ≡ written_count activations 1 = ap (λ xs. get_or xs 1 0) of.of_windows.writes ∙ get_or-map-range_with_len (λ t. write_cursor t (claims_in (windows activations))) 0 (length layout.writers) 1 1 0 (let t = is.has_output in omega arith) (zero-add 1) ∙ ap (write_cursor 1) (claims_in-windows activations) in
          ap (plan_reads plan) (let e : length activations ≡ length (all_frames layout) = omega (arith, n, count_is) in e)
          ∙ reads_over layout is activations of input (all_frames layout) [] (output_reach layout ∷ []) exist fits are outside plan laid (length (all_frames layout)) (omega arith)
          ∙ ap (λ rs. map (epoch_source activations input (all_frames layout) []) (flat_map reach_places rs)) (reaches-sink layout is activations of input (all_frames layout) [] (output_reach layout ∷ []) exist fits are outside)
          ∙ ap (map (epoch_source activations input (all_frames layout) [])) (append-nil (reach_places (output_reach layout)) ∙ ap (places_from 1 0) count)
          ∙ map-same (epoch_source activations input (all_frames layout) []) (stream_source activations input) (output_places activations) same_source

      pub whole_stands : StandsFor plan activations input
      whole_stands = record {
        numbers_are_their_own = laid.numbers ∙ ap (range_with_len 0) (frame_count-is layout activations of);
        frames_are_activations = length-frames layout (whole_weave layout input) plan laid ∙ count_is ∙ frame_count-is layout activations of;
        outputs_are_written = λ a x h. outputs_written layout is activations of input (all_frames layout) [] (output_reach layout ∷ []) exist fits are outside plan laid a a x (stands_at a (slice_get_within activations a x h)) h;
        cells_are_window_elements = λ a lt. reads_frame layout is activations of input (all_frames layout) [] (output_reach layout ∷ []) exist fits are outside plan laid a a (stands_at a lt) ∙ map-same (epoch_source activations input (all_frames layout) []) (stream_source activations input) (input_places activations a) same_source;
        sink_is_the_output = sink;
      }
