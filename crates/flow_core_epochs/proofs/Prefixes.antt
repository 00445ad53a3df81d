-- That more activations change no outcome.
use Rattle.std.proofs.Common.{[], ◌≡◌, ℕ, ◌+◌, ◌-◌, ◌<◌, ℤ, List, ◌++◌, Option, Some, None, Bool, true, false, cond, map, length, ap, ◌∙◌, refl, arith, ◌≤◌, get_or, take, sym, subst}
use Rattle.std.specs.Prelude.{◌==◌, slice_get, not, filter}
use Rattle.std.specs.Option.{option_map, option_map_or}
use Rattle.std.proofs.lemmas.List.{length-append, take-append-le}
use Rattle.flow_core_laws.specs.declared.activation.Activation.{Activation}
use Rattle.flow_core_laws.specs.Outcome.{outcome_at, State}
use Rattle.flow_core_laws.specs.Window.{Window, producer, windows, windows_behind, claims_of, claims_at, no_claim, offset_after, is_written_by}
use Rattle.flow_core_laws.specs.Place.{input_places, places_of}
use Rattle.flow_core_laws.specs.Round.{gathered, inputs_in}
use Rattle.flow_core_laws.proofs.Rounds.{Extends, outcome_at-meaning}
use Rattle.flow_core_epochs.proofs.Holding.{gathered_both, holds_in_meaning}
use Rattle.flow_core_laws.specs.declared.elem.Elem.{Elem}
use Rattle.flow_core_laws.specs.declared.outcome.Outcome.{Outcome}
use Rattle.flow_core_laws.specs.Element.{fed, nobody}
use Rattle.flow_core_laws.specs.Poisoning.{poisoning}
use Rattle.flow_core_laws.specs.Streams.{input_source, produced_source, stream_source, stream_reads, stream_meaning, stream_element, own_number}
use Rattle.flow_core_laws.proofs.Elements.{element_kept}
use Rattle.std.specs.List.{flat_map}
use Rattle.std.proofs.lemmas.Option.{slice_get-get_or}
use Rattle.flow_core_laws.specs.declared.claim.Claim.{Claim}
use Rattle.flow_core_laws.specs.declared.place.Place.{Place}
use Rattle.flow_core_laws.specs.FirstPosition.{first_position}
use Rattle.flow_core_laws.proofs.Sources.{find_passes}
use Rattle.flow_core_laws.proofs.Stretches.{slice_get-append_left}
use Rattle.flow_core_laws.proofs.Windows.{is_window, window_stands, claims_at-slice_get, producer_of}

pub no_activation : Activation
no_activation = record { site = 0; captured = []; claims = [] }

-- the first activations, and their claims
pub take_more : (activations more : List Activation) (a : ℕ) → a ≤ length activations → take a (activations ++ more) ≡ take a activations
take_more activations more a le = take-append-le a activations more le

pub claims_at_more : (activations more : List Activation) (a : ℕ) → a < length activations → claims_at (activations ++ more) a ≡ claims_at activations a
claims_at_more activations more a lt = ap (λ (o : Option Activation). option_map_or (λ (x : Activation). x.claims) o []) (slice_get-append_left activations more a lt)

-- a window stands where it stood
pub windows_more : (activations more : List Activation) (i : ℕ) (w : Window) → slice_get (windows activations) i ≡ Some w → slice_get (windows (activations ++ more)) i ≡ Some w
windows_more activations more i w h =
    let s = is_window activations i w h in
    let lt : s.a < length activations = s.exists in
    let x : Activation = get_or activations s.a no_activation in
    let x_is : slice_get activations s.a ≡ Some x = slice_get-get_or activations s.a no_activation lt in
    let cs : claims_at activations s.a ≡ x.claims = claims_at-slice_get activations s.a x x_is in
    let within : s.k < length (claims_at activations s.a) = s.within in
    let c : Claim = get_or x.claims s.k no_claim in
    let c_is : slice_get x.claims s.k ≡ Some c = slice_get-get_or x.claims s.k no_claim (subst (λ (ds : List Claim). s.k < length ds) cs within) in
    let old = window_stands activations s.a s.k x c x_is c_is in
    let new = window_stands (activations ++ more) s.a s.k x c (slice_get-append_left activations more s.a lt ∙ x_is) c_is in
    let new' = subst (λ (ys : List Activation). slice_get (windows (activations ++ more)) (length (claims_of ys) + s.k) ≡ Some (record { activation = s.a; claim = c; first = first_position (claims_of ys ++ take s.k x.claims) c; offset = offset_after (take s.k x.claims) c })) (take_more activations more s.a (omega arith)) new in
    ap (slice_get (windows (activations ++ more))) s.behind ∙ new' ∙ sym old ∙ sym (ap (slice_get (windows activations)) s.behind) ∙ h

-- a producer stays the producer
pub producer_more : (activations more : List Activation) (stream position : ℕ) (w : Window) → producer activations stream position ≡ Some w → producer (activations ++ more) stream position ≡ Some w
producer_more activations more stream position w h =
    let (i, at, passes) = find_passes (is_written_by stream position) (windows activations) w h in
    producer_of (activations ++ more) stream position i w (windows_more activations more i w at) passes

-- an activation reads the places that it read
pub input_places_more : (activations more : List Activation) (a : ℕ) → a < length activations → input_places (activations ++ more) a ≡ input_places activations a
unfolding input_places
input_places_more activations more a lt =
    ap (λ (ys : List Activation). input_places_by (claims_of ys) (claims_at (activations ++ more) a)) (take_more activations more a (omega arith)) ∙ ap (input_places_by (claims_of (take a activations))) (claims_at_more activations more a lt)
  where
    input_places_by : List Claim → List Claim → List Place
    input_places_by earlier cs = flat_map places_of (filter (λ (w : Window). not w.claim.write) (windows_behind a earlier cs))

-- an element that is there is there with more activations
pub element_more : (activations more : List Activation) (input : List ℕ) (state : State) (place : Place) (v : Elem) → stream_element state (stream_source activations input place) ≡ Some v → stream_element state (stream_source (activations ++ more) input place) ≡ Some v
element_more activations more input state place v = by_stream (place.stream == 0)
  where
    by_producer : (o : Option Window) → producer activations place.stream place.position ≡ o → stream_element state (option_map_or (λ (w : Window). fed w.activation (w.offset + (place.position - w.first))) o nobody) ≡ Some v → stream_element state (produced_source (activations ++ more) place.stream place.position) ≡ Some v
    by_producer None e h = absurd (cc)
    by_producer (Some w) e h = ap (λ (o : Option Window). stream_element state (option_map_or (λ (w : Window). fed w.activation (w.offset + (place.position - w.first))) o nobody)) (producer_more activations more place.stream place.position w e) ∙ h

    by_stream : (b : Bool) → stream_element state (cond b (input_source input place.position) (produced_source activations place.stream place.position)) ≡ Some v → stream_element state (cond b (input_source input place.position) (produced_source (activations ++ more) place.stream place.position)) ≡ Some v
    by_stream true h = h
    by_stream false h = by_producer (producer activations place.stream place.position) refl h

-- an outcome stays
pub prefix_extends : (activations more : List Activation) (input : List ℕ) (body : ℕ → List ℤ → Outcome) → Extends (stream_meaning activations input body) (stream_meaning (activations ++ more) input body)
prefix_extends activations more input body = record { kept = holds_in_meaning stream_element (stream_reads activations input) (poisoning body) (length activations) (λ a o. outcome_at all a ≡ Some o) (record { fires = fire }) }
  where
    all : State
    all = stream_meaning (activations ++ more) input body

    fire : (s : State) → Extends s (stream_meaning activations input body) → ((a : ℕ) (o : Outcome) → outcome_at s a ≡ Some o → outcome_at all a ≡ Some o) → (a : ℕ) (vs : List Elem) → a < length activations → inputs_in stream_element (stream_reads activations input) s a ≡ Some vs → outcome_at all a ≡ Some (poisoning body a vs)
    fire s extends earlier a vs lt inputs =
        let there : gathered (map (stream_element all) (map (stream_source (activations ++ more) input) (input_places activations a))) ≡ Some vs =
        gathered_both (stream_element s) (stream_element all) (stream_source activations input) (stream_source (activations ++ more) input) (input_places activations a) vs (λ i p v at h. element_more activations more input all p v (element_kept own_number s all earlier (stream_source activations input p) v h)) inputs in
        let here : inputs_in stream_element (stream_reads (activations ++ more) input) all a ≡ Some vs = ap (λ (ps : List Place). gathered (map (stream_element all) (map (stream_source (activations ++ more) input) ps))) (input_places_more activations more a lt) ∙ there in
        outcome_at-meaning stream_element (element_kept own_number) (stream_reads (activations ++ more) input) (poisoning body) (length (activations ++ more)) a (omega (arith, length-append activations more)) ∙ ap (option_map (poisoning body a)) here
