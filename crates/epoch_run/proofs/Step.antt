-- An epoch, from what is held before it to what is held after it.
use Rattle.std.proofs.Common.{◌≡◌, ℕ, ℤ, ◌+◌, ◌<◌, ◌≤◌, ◌⊎◌, inl, inr, false, List, [], ◌∷◌, ◌++◌, Option, Some, None, All, get_or, length, map, refl, sym, ap, ◌∙◌, subst, arith}
use Rattle.std.specs.Prelude.{filter, is_some, nat_lt, slice_index, sum_by, true}
use Rattle.std.specs.Option.{option_map, option_map_or}
use Rattle.std.proofs.lemmas.Grind.{flat_map-append}
use Rattle.std.proofs.lemmas.Bool.{cases_lt, ltb-false}
use Rattle.std.proofs.lemmas.List.{append-nil, length-append, length-map}
use Rattle.std.proofs.lemmas.List.Elements.{filter-append}
use Rattle.std.proofs.lemmas.List.FromFn.{length-map-range_with_len}
use Rattle.std.proofs.lemmas.List.Sums.{sum_by-append}
use Rattle.std.proofs.lemmas.Option.{slice_get-get_or}
use Rattle.epoch_run_bodies.specs.Frames.{TakesFrame, frame_outcome}
use Rattle.epoch_run_bodies.specs.Laws.{LaterActivationsChangeNothing}
use Rattle.flow_core_epochs.specs.Epoch as epoch
use Rattle.flow_core_epochs.specs.Epoch.{IsCarried, IsEpoch, IsHeld, IsOutside, IsPartHeld, LeaveOutWaiting, ReadNoOutput, ServesAll, StandsForEpoch, carried_over, epoch_meaning, number_among, open_in, output_over, put_over}
use Rattle.flow_core_epochs.proofs.Choosing.{end_in}
use Rattle.flow_core_epochs.proofs.Prefixes.{prefix_extends}
use Rattle.flow_core_epochs.proofs.Serving.{serves_frames}
use Rattle.flow_core_epochs.proofs.Parts.{all_is_a_part}
use Rattle.flow_core_epochs.specs.Laws.{BeginsEpoch, EndsEpoch}
use Rattle.flow_core_laws.specs.declared.elem.Elem.{Elem}
use Rattle.flow_core_laws.proofs.Rounds.{length-meaning}
use Rattle.flow_core_laws.specs.Poisoning.{poisoning}
use Rattle.flow_core_laws.specs.FirstPosition.{is_write_to, write_cursor}
use Rattle.flow_core_laws.specs.Outcome.{State, ends_of, has_end_at, outcome_at}
use Rattle.flow_core_laws.specs.Place.{output_places, written_count}
use Rattle.flow_core_laws.specs.Plans.{plan_element, plan_reads, sink_elements}
use Rattle.flow_core_laws.specs.Serves.{Serves}
use Rattle.flow_core_laws.specs.Streams.{output_elements, stream_element, stream_meaning, stream_reads, stream_source}
use Rattle.flow_core_laws.specs.Window.{claims_of}
use Rattle.flow_core_laws.specs.declared.activation.Activation.{Activation}
use Rattle.flow_core_laws.specs.declared.claim.Claim.{Claim}
use Rattle.flow_core_laws.specs.declared.ends.Ends.{Ends}
use Rattle.flow_core_laws.specs.declared.outcome.Outcome.{Outcome}
use Rattle.flow_core_laws.specs.declared.place.Place.{Place}
use Rattle.flow_core_laws.specs.declared.plan.Plan.{Plan}
use Rattle.flow_core_laws.specs.declared.task_end.TaskEnd.{TaskEnd}
use Rattle.os_code.specs.declared.code.Code.{Code}
use Rattle.os_code.specs.declared.parts.Parts.{Parts}
use Rattle.stream_match.specs.EpochPlan.{AscendInLayout}
use Rattle.stream_match.specs.Kept.{IsKeptOutside, kept_of}
use Rattle.stream_match.specs.declared.kept.Kept.{Kept}
use Rattle.stream_match_layouts.proofs.Sums.{write_total}
use Rattle.stream_match_layouts.proofs.Tallies.{frame_count-is}
use Rattle.stream_match_layouts.specs.Lawful.{AreLawful}
use Rattle.stream_match_layouts.specs.Layout.{IsLayout, IsLayoutOf}
use Rattle.stream_match_layouts.specs.Spans.{frame_count}
use Rattle.stream_match_layouts.specs.declared.layout.Layout.{Layout}
use Rattle.epoch_run.proofs.Frames.{all_exist, are_frames, kept_exist, places_exist}
use Rattle.epoch_run.specs.Bodies.{HaveOpen, IsAmong}
use Rattle.epoch_run.specs.Held.{IsHeldBefore, IsHeldOf, IsOpenEpoch, listed}
use Rattle.epoch_run.specs.declared.held.Held.{Held}
use Rattle.epoch_run.specs.declared.open_bodies.OpenBodies.{OpenBodies}

-- what is held depends on what activations mean alone
pub same_held : (activations : List Activation) (input : List ℕ) (body other : ℕ → List ℤ → Outcome) (ends : List (Option TaskEnd)) (kept : List epoch.Kept) (output : List (Option Elem))
    → stream_meaning activations input body ≡ stream_meaning activations input other → IsHeld activations input body ends kept output
    → IsHeld activations input other ends kept output
same_held activations input body other ends kept output same held = record {
  ends_are_meant = held.ends_are_meant ∙ ap ends_of same;
  kept_is_carried = subst (λ (s : State). IsCarried activations input s kept) same held.kept_is_carried;
  output_is_meant = held.output_is_meant ∙ ap (output_elements activations input) same;
}

-- how many ends and how many elements of the output are held
pub length-ends : (activations : List Activation) (input : List ℕ) (body : ℕ → List ℤ → Outcome) → length (ends_of (stream_meaning activations input body)) ≡ length activations
length-ends activations input body =
    length-map (stream_meaning activations input body) (option_map (λ (o : Outcome). o.end))
    ∙ length-meaning stream_element (stream_reads activations input) (poisoning body) (length activations)

length-output : (activations : List Activation) (input : List ℕ) (state : State) → length (output_elements activations input state) ≡ written_count activations 1
length-output activations input state =
    length-map (map (stream_source activations input) (output_places activations)) (stream_element state)
    ∙ length-map (output_places activations) (stream_source activations input)
    ∙ length-map-range_with_len (λ position. record { stream = 1; position = position }) 0 (written_count activations 1)

-- more activations write more
written_more : (before new : List Activation) → written_count before 1 ≤ written_count (before ++ new) 1
written_more before new =
    let e : written_count (before ++ new) 1 ≡ written_count before 1 + written_count new 1 =
    ap (write_cursor 1) (flat_map-append (λ (x : Activation). x.claims) before new)
    ∙ ap (sum_by (λ (c : Claim). c.horizon)) (filter-append (is_write_to 1) (claims_of before) (claims_of new))
    ∙ sum_by-append (λ (c : Claim). c.horizon) (filter (is_write_to 1) (claims_of before)) (filter (is_write_to 1) (claims_of new)) in
    omega arith

-- where no activation is new, it is that of all
pub stays : (code : Parts) (activations : List Activation) (input : List ℕ) (budget : ℕ) (held : Held) (count : ℕ) → length activations ≤ count
    → IsHeldBefore code activations input budget held → nat_lt (length held.ends.ends) count ≡ false → IsHeldOf code activations input budget held
stays code activations input budget held count all is no_more = subst (λ (xs : List Activation). IsHeldOf code xs input budget held) (sym (is.are_all ∙ ap (λ ns. is.before ++ ns) (none is.new few) ∙ append-nil is.before)) is.meant
  where
    none : (xs : List Activation) → length xs ≤ 0 → xs ≡ []
    none [] h = refl
    none (x ∷ xs) h = absurd (omega arith)

    few : length is.new ≤ 0
    few =
        let e = ap length is.meant.is_meant.ends_are_meant ∙ length-ends is.before input (frame_outcome code is.before budget) in
        let l = ap length is.are_all ∙ length-append is.before is.new in
        let ge = ltb-false (length held.ends.ends) count no_more in
        omega (arith, e, l, ge, all)

-- an epoch is as open where the list of those without end was taken
pub open_listed : (code : Code) (activations : List Activation) (budget : ℕ) (layout : Layout) (input : List ℕ) (held after : Held) → after ≡ record held { without_end = [] }
    → IsOpenEpoch code activations budget layout input held → IsOpenEpoch code activations budget layout input (listed after)
open_listed code activations budget layout input held after same o = subst (λ (h : Held). IsOpenEpoch code activations budget layout input (listed h)) (sym same) (record {
  small = o.small;
  fit = o.fit;
  lawful = o.lawful;
  whole = o.whole;
  laid = o.laid;
  over = o.over;
  stands = record { before = o.stands.before; new = o.stands.new; are_all = o.stands.are_all; meant = record { is_meant = o.stands.meant.is_meant; are_open = refl } };
})

-- what has ended stays so
pub stays_ended : (code : Parts) (activations : List Activation) (input : List ℕ) (budget : ℕ) (held after : Held) → LaterActivationsChangeNothing
    → IsHeldBefore code activations input budget held → IsHeldOf code activations input budget after → (a : ℕ) → has_end_at held.ends.ends a ≡ true
    → has_end_at after.ends.ends a ≡ true
stays_ended code activations input budget held after later is meant a ended = some_after (outcome_at earlier a) refl
  where
    all : List Activation
    all = is.before ++ is.new

    earlier : State
    earlier = stream_meaning is.before input (frame_outcome code all budget)

    whole : State
    whole = stream_meaning all input (frame_outcome code all budget)

    held_ends : held.ends.ends ≡ ends_of earlier
    held_ends = is.meant.is_meant.ends_are_meant ∙ ap ends_of (later code is.before is.new input budget)

    after_ends : after.ends.ends ≡ ends_of whole
    after_ends = meant.is_meant.ends_are_meant ∙ ap (λ (xs : List Activation). ends_of (stream_meaning xs input (frame_outcome code xs budget))) is.are_all

    some_after : (o : Option Outcome) → outcome_at earlier a ≡ o → has_end_at after.ends.ends a ≡ true
    some_after (Some o) at =
        ap (λ (es : List (Option TaskEnd)). has_end_at es a) after_ends
        ∙ ap is_some (end_in whole a)
        ∙ ap (λ (p : Option Outcome). is_some (option_map (λ (q : Outcome). q.end) p)) ((prefix_extends is.before is.new input (frame_outcome code all budget)).kept a o at)
    some_after None at =
        let no : false ≡ true =
        sym (ap (λ (p : Option Outcome). is_some (option_map (λ (q : Outcome). q.end) p)) at)
        ∙ sym (ap is_some (end_in earlier a))
        ∙ sym (ap (λ (es : List (Option TaskEnd)). has_end_at es a) held_ends)
        ∙ ended in
        absurd (cc)

-- there are no more ends than activations
pub held_fewer : (layout : Layout) (code : Parts) (activations : List Activation) (input : List ℕ) (budget : ℕ) (held : Held) → IsHeldBefore code activations input budget held
    → IsLayoutOf layout activations → length held.ends.ends ≤ frame_count layout
held_fewer layout code activations input budget held is laid =
    let e = ap length is.meant.is_meant.ends_are_meant ∙ length-ends is.before input (frame_outcome code is.before budget) in
    let n = frame_count-is layout activations laid in
    let l = ap length is.are_all ∙ length-append is.before is.new in
    omega (arith, e, n, l)

module _ (layout : Layout) (whole : IsLayout layout) (code : Parts) (activations : List Activation) (input : List ℕ) (budget : ℕ) (held : Held)
    (is : IsHeldBefore code activations input budget held) (laid : IsLayoutOf layout activations) (lawful : AreLawful (length layout.writers) activations)
    (readers frames : List ℕ) (are_open : readers ≡ open_in held.ends.ends (frame_count layout)) (leave : LeaveOutWaiting activations input held.ends.ends frames) where
  abbrev all : List Activation
  all = is.before ++ is.new

  abbrev body : ℕ → List ℤ → Outcome
  body = frame_outcome code all budget

  abbrev kept : List epoch.Kept
  kept = map kept_of held.kept.items

  laid_out : IsLayoutOf layout all
  laid_out = subst (IsLayoutOf layout) is.are_all laid

  all_lawful : AreLawful (length layout.writers) all
  all_lawful = subst (AreLawful (length layout.writers)) is.are_all lawful

  count : frame_count layout ≡ length all
  count = frame_count-is layout all laid_out

  positions : slice_index layout.cursors.writes 1 ≡ written_count all 1
  positions = write_total layout (record { has_output = whole.has_output; activations = all; is_of = laid_out; lawful = all_lawful })

  no_output : ReadNoOutput all
  no_output = λ k d lt reads. (all_lawful.claims_are_lawful k d lt).output_is_written reads

  pub frames_are : AscendInLayout layout frames
  frames_are = record {
    exist = λ i lt. let h = (leave.are_open i (get_or frames i 0) (slice_get-get_or frames i 0 lt)).0 in omega (arith, frame_count-is layout activations laid);
    ascend = λ i j less lt. leave.ascend i j (get_or frames i 0) (get_or frames j 0) less (slice_get-get_or frames i 0 (omega arith)) (slice_get-get_or frames j 0 lt);
  }

  pub readers_exist : All (λ f. f < frame_count layout) readers
  readers_exist = subst (All (λ f. f < frame_count layout)) (sym are_open) (all_exist layout (open_in held.ends.ends (frame_count layout)) (are_frames layout held.ends.ends (frame_count layout) refl))

  pub fewer : length held.ends.ends ≤ frame_count layout
  fewer =
      let e = ap length is.meant.is_meant.ends_are_meant ∙ length-ends is.before input (frame_outcome code is.before budget) in
      omega (arith, count, length-append is.before is.new)

  pub shorter : length held.ends.output ≤ slice_index layout.cursors.writes 1
  shorter =
      let e = ap length is.meant.is_meant.output_is_meant ∙ length-output is.before input (stream_meaning is.before input (frame_outcome code is.before budget)) in
      omega (arith, positions, written_more is.before is.new)

  module _ (later : LaterActivationsChangeNothing) (begins : BeginsEpoch) where
    abbrev state : State
    state = stream_meaning is.before input body

    held_now : IsPartHeld is.before input body state held.ends.ends kept held.ends.output
    held_now = all_is_a_part is.before input body held.ends.ends kept held.ends.output (same_held is.before input (frame_outcome code is.before budget) body held.ends.ends kept held.ends.output (later code is.before is.new input budget) is.meant.is_meant)

    abbrev Opens : Type 0
    Opens = IsOutside all frames kept × ((plan : Plan) (places : List Place) → StandsForEpoch plan all input readers frames kept places → IsEpoch is.before is.new input body state readers frames kept plan places)

    opens : Opens
    opens = begins is.before is.new input body state held.ends.ends kept held.ends.output readers frames no_output held_now (are_open ∙ ap (open_in held.ends.ends) count) (subst (λ (xs : List Activation). LeaveOutWaiting xs input held.ends.ends frames) is.are_all leave)

    pub outside : IsOutside activations frames kept
    outside = subst (λ (xs : List Activation). IsOutside xs frames kept) (sym is.are_all) opens.0

    pub kept_outside : IsKeptOutside layout frames kept
    kept_outside = record { activations = all; is_of = laid_out; outside = opens.0 }

    pub kept_there : All (λ (k : Kept). k.stream < length layout.writers) held.kept.items
    kept_there = kept_exist layout whole all laid_out frames held.kept.items opens.0

    module _ (plan : Plan) (places : List Place) (stands : StandsForEpoch plan activations input readers frames kept places) where
      all_stands : StandsForEpoch plan all input readers frames kept places
      all_stands = subst (λ (xs : List Activation). StandsForEpoch plan xs input readers frames kept places) is.are_all stands

      exist : All (λ f. f < length all) frames
      exist = subst (λ n. All (λ f. f < n) frames) count (all_exist layout frames frames_are)

      pub places_there : All (λ (p : Place). p.stream < length layout.writers) places
      places_there = places_exist layout whole all laid_out readers frames places exist all_stands.places_leave

      -- so the bodies of activations serve it, which have those among them that have no end
      pub served : (bodies : OpenBodies) → HaveOpen bodies held.ends.ends → ServesAll activations (frame_outcome code activations budget) (TakesFrame code activations budget)
          → Serves plan (λ f. frame_outcome code activations budget (slice_index frames f)) (λ f inputs outputs. (f < length frames) × (TakesFrame code activations budget (slice_index frames f) inputs outputs × IsAmong bodies (slice_index frames f)))
      served bodies have all_served = record {
        takes_each = λ f lt. let t = of_all.takes_each f lt in (t.0, (t.1, (have.are_last, among f t.0)));
        fills_outputs = of_all.fills_outputs;
        traps_have_codes = of_all.traps_have_codes;
        are_never_poisoned = of_all.are_never_poisoned;
      }
        where
          of_all : Serves plan (λ f. frame_outcome code activations budget (slice_index frames f)) (λ f inputs outputs. (f < length frames) × TakesFrame code activations budget (slice_index frames f) inputs outputs)
          of_all =
              serves_frames plan activations input readers frames kept places (frame_outcome code activations budget) (TakesFrame code activations budget) stands (subst (λ (xs : List Activation). All (λ f. f < length xs) frames) (sym is.are_all) exist) all_served

          among : (f : ℕ) → f < length frames → bodies.first ≤ slice_index frames f
          among f lt = by (cases_lt (slice_index frames f) bodies.first)
            where
              by : (slice_index frames f < bodies.first) ⊎ (bodies.first ≤ slice_index frames f) → bodies.first ≤ slice_index frames f
              by (inl before) =
                  let none = (leave.are_open f (get_or frames f 0) (slice_get-get_or frames f 0 lt)).1 in
                  let some : is_some (outcome_at held.ends.ends (get_or frames f 0)) ≡ true = have.have_ended (get_or frames f 0) before in
                  let no : false ≡ true = sym (ap is_some none) ∙ some in
                  absurd (cc)
              by (inr behind) = behind

      module _ (ends_epoch : EndsEpoch) (ends : Ends) (ends_are : ends.ends ≡ ends_of (epoch_meaning plan frames (frame_outcome code activations budget)))
          (output_is : ends.output ≡ sink_elements plan (epoch_meaning plan frames (frame_outcome code activations budget))) where
        pub ends_fit : length ends.ends ≡ length frames
        ends_fit =
            ap length ends_are
            ∙ length-map (epoch_meaning plan frames (frame_outcome code activations budget)) (option_map (λ (o : Outcome). o.end))
            ∙ length-meaning (plan_element plan) (plan_reads plan) (poisoning (λ f. frame_outcome code activations budget (slice_index frames f))) (length plan.frames)
            ∙ stands.frames_are_these

        pub values_fit : length ends.output ≡ length places
        values_fit =
            ap length output_is
            ∙ length-map (plan_reads plan (length plan.frames)) (plan_element plan (epoch_meaning plan frames (frame_outcome code activations budget)))
            ∙ ap (λ n. length (plan_reads plan n)) stands.frames_are_these
            ∙ ap length stands.sink_is_places
            ∙ length-map places (epoch.epoch_source activations input frames kept)

        abbrev put : List (Option TaskEnd)
        put = put_over held.ends.ends frames ends.ends (length all)

        pub held_after : (after : Held) → after.ends.ends ≡ put_over held.ends.ends frames ends.ends (frame_count layout)
            → after.ends.output ≡ output_over held.ends.output places ends.output (slice_index layout.cursors.writes 1)
            → map kept_of after.kept.items ≡ carried_over activations (open_in after.ends.ends (frame_count layout)) kept places ends.output
            → after.without_end ≡ open_in after.ends.ends (frame_count layout)
            → IsHeldOf code activations input budget after
        held_after after ends_put output_put carried are_open =
            subst (λ (xs : List Activation). IsHeldOf code xs input budget after) (sym is.are_all) (record { is_meant = over; are_open = are_open ∙ ap (open_in after.ends.ends) (sym as_many) })
          where
            as_many : length after.ends.ends ≡ frame_count layout
            as_many = ap length ends_put ∙ length-map-range_with_len (λ a. option_map_or (outcome_at ends.ends) (number_among frames a) (outcome_at held.ends.ends a)) 0 (frame_count layout)

            same_body : frame_outcome code activations budget ≡ body
            same_body = ap (λ (xs : List Activation). frame_outcome code xs budget) is.are_all

            ended : IsHeld all input body put (carried_over all (open_in put (length all)) kept places ends.output) (output_over held.ends.output places ends.output (written_count all 1))
            ended =
                ends_epoch is.before is.new input body state readers frames kept plan places (opens.1 plan places all_stands) held.ends.ends held.ends.output ends held_now
                (ends_are ∙ ap (λ (b : ℕ → List ℤ → Outcome). ends_of (epoch_meaning plan frames b)) same_body)
                (output_is ∙ ap (λ (b : ℕ → List ℤ → Outcome). sink_elements plan (epoch_meaning plan frames b)) same_body)

            e : put ≡ after.ends.ends
            e = ap (put_over held.ends.ends frames ends.ends) (sym count) ∙ sym ends_put

            k : carried_over all (open_in put (length all)) kept places ends.output ≡ map kept_of after.kept.items
            k =
                ap (λ (es : List (Option TaskEnd)). carried_over all (open_in es (length all)) kept places ends.output) e
                ∙ ap (λ m. carried_over all (open_in after.ends.ends m) kept places ends.output) (sym count)
                ∙ ap (λ (xs : List Activation). carried_over xs (open_in after.ends.ends (frame_count layout)) kept places ends.output) (sym is.are_all)
                ∙ sym carried

            o : output_over held.ends.output places ends.output (written_count all 1) ≡ after.ends.output
            o = ap (output_over held.ends.output places ends.output) (sym positions) ∙ sym output_put

            over : IsHeld all input body after.ends.ends (map kept_of after.kept.items) after.ends.output
            over =
                subst (λ (os : List (Option Elem)). IsHeld all input body after.ends.ends (map kept_of after.kept.items) os) o
                (subst (λ (ks : List epoch.Kept). IsHeld all input body after.ends.ends ks (output_over held.ends.output places ends.output (written_count all 1))) k
                (subst (λ (es : List (Option TaskEnd)). IsHeld all input body es (carried_over all (open_in put (length all)) kept places ends.output) (output_over held.ends.output places ends.output (written_count all 1))) e ended))
