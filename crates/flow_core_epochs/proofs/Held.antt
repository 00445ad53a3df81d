-- That what is held between epochs is what all activations so far mean.
use Rattle.std.proofs.Common.{[], ◌≡◌, ℕ, ◌<◌, ◌≤◌, ℤ, List, ◌∷◌, ◌++◌, Option, Some, None, Bool, true, false, cond, map, length, get_or, refl, sym, ap, ◌∙◌, subst, ◌⊎◌, inl, inr, arith, ◌+◌, take, drop}
use Rattle.std.specs.Prelude.{Contains, ◌==◌}
use Rattle.std.specs.Option.{option_map, option_map_or}
use Rattle.std.specs.List.{range_with_len, position, position_or_len}
use Rattle.std.proofs.lemmas.Bool.{cases_lt, eq-eqb, eqb-true, and_parts, lt-ltb}
use Rattle.std.proofs.lemmas.List.{same_lists, get_or-map, get_or_past, get_or_default, length-map, take-append-drop, take_more}
use Rattle.std.proofs.lemmas.List.Sums.{fails_before_first}
use Rattle.std.proofs.lemmas.List.FromFn.{get_or-map-range_with_len, length-map-range_with_len}
use Rattle.std.proofs.lemmas.List.Quantifiers.{position-Some}
use Rattle.std.proofs.lemmas.Option.{slice_get_within, slice_get-get_or, get_or_from_slice_get}
use Rattle.flow_core_laws.specs.declared.elem.Elem.{Elem}
use Rattle.flow_core_laws.specs.declared.activation.Activation.{Activation}
use Rattle.flow_core_laws.specs.declared.task_end.TaskEnd.{TaskEnd}
use Rattle.flow_core_laws.specs.declared.outcome.Outcome.{Outcome}
use Rattle.flow_core_laws.specs.declared.ends.Ends.{Ends}
use Rattle.flow_core_laws.specs.declared.plan.Plan.{Plan}
use Rattle.flow_core_laws.specs.Outcome.{outcome_at, State, ends_of}
use Rattle.flow_core_laws.specs.Round.{meaning, rounds}
use Rattle.flow_core_laws.specs.Window.{Window, producer, windows, claims_of, is_written_by}
use Rattle.flow_core_laws.specs.Place.{written_count}
use Rattle.flow_core_laws.specs.Plans.{sink_elements}
use Rattle.flow_core_laws.specs.Poisoning.{poisoning}
use Rattle.flow_core_laws.specs.Streams.{stream_source, stream_reads, stream_meaning, output_elements, stream_element}
use Rattle.flow_core_laws.proofs.Rounds.{length-meaning}
use Rattle.flow_core_epochs.specs.Epoch.{open_in, number_among, put_over, is_output_at, ReadNoOutput, Kept, carried_over, output_over, IsKeptFor, IsCarried, IsOutside, StandsForEpoch, LeaveOutWaiting, IsEpoch, IsHeld, IsHeldAfter, IsPartHeld, epoch_meaning}
use Rattle.flow_core_epochs.proofs.Members.{Has}
use Rattle.flow_core_epochs.proofs.Epochs.{HasEpoch, over_frame, over_other, over_is_whole}
use Rattle.flow_core_epochs.proofs.Choosing.{end_in, chosen_by, open_by_ends}
use Rattle.flow_core_epochs.proofs.Leaving.{sink_leaves}
use Rattle.flow_core_epochs.proofs.Carried.{nothing_at_first, serves_next, is_outside, carries_over, output_stays, produced_by_nobody}
use Rattle.flow_core_laws.specs.declared.claim.Claim.{Claim}
use Rattle.flow_core_laws.specs.declared.place.Place.{Place}
use Rattle.flow_core_laws.specs.FirstPosition.{write_cursor}
use Rattle.flow_core_laws.proofs.Sources.{find_passes}
use Rattle.flow_core_laws.proofs.Windows.{window_at, written, first_of_write, write_cursor-one, write_cursor-append}

pub written_within : (activations : List Activation) (s p : ℕ) (w : Window) → producer activations s p ≡ Some w → p < written_count activations s
written_within activations s p w h =
    let (i, at, passes) = find_passes (is_written_by s p) (windows activations) w h in
    let x = written s p w passes in
    let on = x.on_stream in
    let high = x.to in
    let cs = claims_of activations in
    let q = window_at activations i w at in
    let within : i < length cs = slice_get_within cs i w.claim q.is_claim in
    let is : get_or cs i w.claim ≡ w.claim = get_or_from_slice_get cs i w.claim w.claim q.is_claim in
    let begin : w.first ≡ write_cursor s (take i cs) = q.begins ∙ first_of_write s (take i cs) w.claim on in
    let next : take (i + 1) cs ≡ take i cs ++ w.claim ∷ [] = take_more cs i w.claim within ∙ ap (λ (c : Claim). take i cs ++ c ∷ []) is in
    let whole : write_cursor s cs ≡ write_cursor s (take (i + 1) cs) + write_cursor s (drop (i + 1) cs) = ap (write_cursor s) (sym (take-append-drop (i + 1) cs)) ∙ write_cursor-append s (take (i + 1) cs) (drop (i + 1) cs) in
    let one : write_cursor s (take (i + 1) cs) ≡ write_cursor s (take i cs) + write_cursor s (w.claim ∷ []) = ap (write_cursor s) next ∙ write_cursor-append s (take i cs) (w.claim ∷ []) in
    let horizon : write_cursor s (w.claim ∷ []) ≡ w.claim.horizon = write_cursor-one s w.claim on in
    omega (arith, begin, whole, one, horizon)

-- the place of an output position
abbrev pub at_output : ℕ → Place
at_output at = record { stream = 1; position = at }

-- the elements of the output by position
pub output_elements-at : (activations : List Activation) (input : List ℕ) (state : State) → output_elements activations input state ≡ map (λ at. stream_element state (stream_source activations input (at_output at))) (range_with_len 0 (written_count activations 1))
output_elements-at activations input state = maps (range_with_len 0 (written_count activations 1))
  where
    maps : (xs : List ℕ) → map (stream_element state) (map (stream_source activations input) (map at_output xs)) ≡ map (λ at. stream_element state (stream_source activations input (at_output at))) xs
    maps [] = refl
    maps (x ∷ xs) = ap (λ ys. stream_element state (stream_source activations input (at_output x)) ∷ ys) (maps xs)

-- an element of the output at a position, also past the last one
pub output_element : (activations : List Activation) (input : List ℕ) (state : State) (at : ℕ) → get_or (output_elements activations input state) at None ≡ stream_element state (stream_source activations input (at_output at))
output_element activations input state at = ap (λ (os : List (Option Elem)). get_or os at None) (output_elements-at activations input state) ∙ by_order (cases_lt at (written_count activations 1))
  where
    f : ℕ → Option Elem
    f n = stream_element state (stream_source activations input (at_output n))

    past : written_count activations 1 ≤ at → (o : Option Window) → producer activations 1 at ≡ o → producer activations 1 at ≡ None
    past ge None e = e
    past ge (Some w) e = let lt = written_within activations 1 at w e in absurd (omega arith)

    by_order : (at < written_count activations 1) ⊎ (written_count activations 1 ≤ at) → get_or (map (λ n. stream_element state (stream_source activations input (at_output n))) (range_with_len 0 (written_count activations 1))) at None ≡ stream_element state (stream_source activations input (at_output at))
    by_order (inl lt) = get_or-map-range_with_len f 0 (written_count activations 1) at at None lt (omega arith)
    by_order (inr ge) =
        get_or_past (map f (range_with_len 0 (written_count activations 1))) at None (omega (arith, length-map-range_with_len f 0 (written_count activations 1)))
        ∙ sym (ap (stream_element state) (produced_by_nobody activations input (at_output at) (λ z. omega arith) (past ge (producer activations 1 at) refl)))

-- what passes stands at a number
none_passes : {A : Type 0} (test : A → Bool) (xs : List A) (x : A) → position test xs ≡ None → Has xs x → test x ≡ true → ⊥
none_passes test xs x e (i, at) passes =
    let lt = slice_get_within xs i x at in
    by_order (cases_lt (position_or_len test xs) (length xs)) lt
  where
    by_order : (position_or_len test xs < length xs) ⊎ (length xs ≤ position_or_len test xs) → i < length xs → ⊥
    by_order (inl lt) h = let z : position test xs ≡ Some (position_or_len test xs) = ap (λ b. cond b (Some (position_or_len test xs)) None) (lt-ltb (position_or_len test xs) (length xs) lt) in absurd (cc)
    by_order (inr ge) h =
        let f : test (get_or xs i x) ≡ false = fails_before_first test xs i x (omega arith) in
        let t : test (get_or xs i x) ≡ true = ap test (get_or_from_slice_get xs i x x at) ∙ passes in
        absurd (cc)

pub held_at_first : (input : List ℕ) (body : ℕ → List ℤ → Outcome) → IsHeld [] input body [] [] []
unfolding meaning rounds
held_at_first input body = record { ends_are_meant = refl; kept_is_carried = nothing_at_first input body; output_is_meant = refl }

pub begins_epoch : (before new : List Activation) (input : List ℕ) (body : ℕ → List ℤ → Outcome) (state : State) (ends : List (Option TaskEnd)) (kept : List Kept) (output : List (Option Elem)) (readers frames : List ℕ) → ReadNoOutput (before ++ new) → IsPartHeld before input body state ends kept output → readers ≡ open_in ends (length (before ++ new)) → LeaveOutWaiting (before ++ new) input ends frames
    → IsOutside (before ++ new) frames kept × ((plan : Plan) (places : List Place) → StandsForEpoch plan (before ++ new) input readers frames kept places → IsEpoch before new input body state readers frames kept plan places)
begins_epoch before new input body state ends kept output readers frames no_output held is leave =
    let n = length (before ++ new) in
    let e : readers ≡ open_in state n = is ∙ ap (λ (es : List (Option TaskEnd)). open_in es n) held.ends_are_of_state ∙ open_by_ends state n in
    let chosen = chosen_by before new input body state frames (subst (λ (es : List (Option TaskEnd)). LeaveOutWaiting (before ++ new) input es frames) held.ends_are_of_state leave) in
    (is_outside before new input state kept frames (λ f a h. (chosen.are_open f a h).1) held.kept_is_carried, λ plan places stands. record { state_is_part = held.state_is_part; readers_are_open = e; frames_are_chosen = chosen; has_kept = subst (λ (fs : List ℕ). IsKeptFor (before ++ new) input state fs kept) (sym e) (serves_next before new input body state kept no_output held.state_is_part held.kept_is_carried); plan_stands = stands })

module _ (before new : List Activation) (input : List ℕ) (body : ℕ → List ℤ → Outcome) (state : State) (readers frames : List ℕ) (kept : List Kept) (plan : Plan) (places : List Place) (epoch : HasEpoch before new input body state readers frames kept plan places) (ends : List (Option TaskEnd)) (output : List (Option Elem)) (run : Ends) (held : IsPartHeld before input body state ends kept output) (run_ends : run.ends ≡ ends_of (epoch_meaning plan frames body)) (run_output : run.output ≡ sink_elements plan (epoch_meaning plan frames body)) where
  abbrev acts : List Activation
  acts = before ++ new

  abbrev earlier : State
  earlier = state

  abbrev whole : State
  whole = stream_meaning (before ++ new) input body

  abbrev partial : State
  partial = epoch_meaning plan frames body

  abbrev end_after : ℕ → Option TaskEnd
  end_after a = option_map_or (outcome_at run.ends) (number_among frames a) (outcome_at ends a)

  -- each end is that of the run
  end_is_whole : (a : ℕ) → end_after a ≡ outcome_at (ends_of whole) a
  end_is_whole a = by_number (number_among frames a) refl ∙ sym (end_in whole a)
    where
      by_number : (n : Option ℕ) → number_among frames a ≡ n → end_after a ≡ option_map (λ (o : Outcome). o.end) (outcome_at whole a)
      by_number (Some f) e =
          ap (λ (o : Option ℕ). option_map_or (outcome_at run.ends) o (outcome_at ends a)) e
          ∙ ap (λ (es : List (Option TaskEnd)). outcome_at es f) run_ends
          ∙ end_in partial f
          ∙ ap (option_map (λ (o : Outcome). o.end)) (sym (over_frame before new input body state readers frames kept plan places a f e) ∙ over_is_whole before new input body state readers frames kept plan places epoch a)
      by_number None e =
          ap (λ (o : Option ℕ). option_map_or (outcome_at run.ends) o (outcome_at ends a)) e
          ∙ ap (λ (es : List (Option TaskEnd)). outcome_at es a) held.ends_are_of_state
          ∙ end_in earlier a
          ∙ ap (option_map (λ (o : Outcome). o.end)) (sym (over_other before new input body state readers frames kept plan places a e) ∙ over_is_whole before new input body state readers frames kept plan places epoch a)

  ends_are_whole : put_over ends frames run.ends (length acts) ≡ ends_of whole
  ends_are_whole = same_lists (map end_after (range_with_len 0 (length acts))) (ends_of whole) (length-map-range_with_len end_after 0 (length acts) ∙ sym l) (λ k d lt. at k d (omega (arith, length-map-range_with_len end_after 0 (length acts))))
    where
      l : length (ends_of whole) ≡ length acts
      l = length-map whole (option_map (λ (o : Outcome). o.end)) ∙ length-meaning stream_element (stream_reads acts input) (poisoning body) (length acts)

      at : (k : ℕ) (d : Option TaskEnd) → k < length acts → get_or (map end_after (range_with_len 0 (length acts))) k d ≡ get_or (ends_of whole) k d
      at k d lt = get_or-map-range_with_len end_after 0 (length acts) k k d lt (omega arith) ∙ end_is_whole k ∙ get_or_default (ends_of whole) k None d (omega (arith, l))

  abbrev element_after : ℕ → Option Elem
  element_after at = option_map_or (λ i. get_or run.output i None) (position (is_output_at at) places) (get_or output at None)

  abbrev element_now : Place → Option Elem
  element_now p = stream_element whole (stream_source acts input p)

  -- each element of the output is that of the run
  element_is_whole : (at : ℕ) → element_after at ≡ element_now (at_output at)
  element_is_whole at = by_number (position (is_output_at at) places) refl
    where
      same_place : (p : Place) → is_output_at at p ≡ true → p ≡ at_output at
      same_place p h =
          let parts = and_parts (p.stream == 1) (p.position == at) h in
          ap (λ n. record { stream = n; position = p.position }) (eqb-true p.stream 1 parts.0) ∙ ap (λ n. record { stream = 1; position = n }) (eqb-true p.position at parts.1)

      not_there : position (is_output_at at) places ≡ None → Contains places (at_output at) → ⊥
      not_there e (k, lt, is) = none_passes (is_output_at at) places (at_output at) e (k, slice_get-get_or places k (at_output at) lt ∙ ap Some is) (eq-eqb at at refl)

      by_number : (n : Option ℕ) → position (is_output_at at) places ≡ n → element_after at ≡ element_now (at_output at)
      by_number (Some i) e =
          let p = position-Some (is_output_at at) places i (at_output at) e in
          let lt = p.0 in
          let is : get_or places i (at_output at) ≡ at_output at = same_place (get_or places i (at_output at)) p.1 in
          ap (λ (o : Option ℕ). option_map_or (λ i. get_or run.output i None) o (get_or output at None)) e
          ∙ ap (λ (os : List (Option Elem)). get_or os i None) (run_output ∙ sink_leaves before new input body state readers frames kept plan places epoch)
          ∙ get_or-map element_now places i (at_output at) None lt
          ∙ ap element_now is
      by_number None e =
          ap (λ (o : Option ℕ). option_map_or (λ i. get_or run.output i None) o (get_or output at None)) e
          ∙ ap (λ (os : List (Option Elem)). get_or os at None) held.output_is_of_state
          ∙ output_element before input earlier at
          ∙ sym (output_stays before new input body state readers frames kept plan places epoch (at_output at) refl (not_there e))

  output_is_whole : output_over output places run.output (written_count acts 1) ≡ output_elements acts input whole
  output_is_whole = same_maps (range_with_len 0 (written_count acts 1)) ∙ sym (output_elements-at acts input whole)
    where
      same_maps : (xs : List ℕ) → map element_after xs ≡ map (λ at. element_now (at_output at)) xs
      same_maps [] = refl
      same_maps (x ∷ xs) = ap (λ v. v ∷ map element_after xs) (element_is_whole x) ∙ ap (λ vs. element_now (at_output x) ∷ vs) (same_maps xs)

  pub held_after : IsHeldAfter (before ++ new) input body (put_over ends frames run.ends (length (before ++ new))) kept output places run.output
  held_after = record {
    ends_are_meant = ends_are_whole;
    kept_is_carried = subst (λ (fs : List ℕ). IsCarried acts input whole (carried_over acts fs kept places run.output)) (sym (ap (λ (es : List (Option TaskEnd)). open_in es (length acts)) ends_are_whole ∙ open_by_ends whole (length acts)))
        (subst (λ (vs : List (Option Elem)). IsCarried acts input whole (carried_over acts (open_in whole (length acts)) kept places vs)) (sym run_output) (carries_over before new input body state readers frames kept plan places epoch held.kept_is_carried));
    output_is_meant = output_is_whole;
  }
