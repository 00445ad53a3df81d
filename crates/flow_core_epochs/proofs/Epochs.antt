-- That the outcomes of an epoch, put over those before it, are the meaning of all activations so far.
use Rattle.std.proofs.Common.{◌≡◌, ◌≢◌, ℕ, ◌<◌, ℤ, pos, List, ◌++◌, Option, Some, None, Bool, true, false, cond, map, length, get_or, refl, sym, ap, ◌∙◌, subst, arith}
use Rattle.std.specs.Prelude.{slice_get, slice_index, ◌==◌, find, is_some, IsSome, option_and_then}
use Rattle.std.specs.Option.{option_map, option_map_or}
use Rattle.std.specs.List.{range_with_len}
use Rattle.std.proofs.lemmas.Bool.{eqb-true, and_parts}
use Rattle.std.proofs.lemmas.List.{same_lists, get_or_default}
use Rattle.std.proofs.lemmas.List.FromFn.{get_or-map-range_with_len, length-map-range_with_len}
use Rattle.std.proofs.lemmas.Option.{same_Some, slice_get_within, slice_get-get_or, get_or_from_slice_get}
use Rattle.flow_core_laws.specs.declared.elem.Elem.{Elem}
use Rattle.flow_core_laws.specs.declared.activation.Activation.{Activation}
use Rattle.flow_core_laws.specs.declared.plan.Plan.{Plan}
use Rattle.flow_core_laws.specs.declared.outcome.Outcome.{Outcome}
use Rattle.flow_core_laws.specs.Outcome.{outcome_at, State}
use Rattle.flow_core_laws.specs.declared.elem.Elem.TheVariants.{Value}
use Rattle.flow_core_laws.specs.declared.place.Place.{Place}
use Rattle.flow_core_laws.specs.Element.{Source, initial, fed, nobody, element_written, output_at}
use Rattle.flow_core_laws.specs.Poisoning.{poisoning}
use Rattle.flow_core_laws.specs.Place.{input_places}
use Rattle.flow_core_laws.specs.Streams.{input_source, produced_source, stream_source, stream_reads, stream_meaning, stream_element, own_number}
use Rattle.flow_core_laws.specs.Plans.{number_at, plan_reads, plan_element, plan_meaning}
use Rattle.flow_core_laws.specs.Round.{gathered, inputs_in}
use Rattle.flow_core_laws.proofs.Sources.{find_passes}
use Rattle.flow_core_laws.proofs.Rounds.{Extends, gathered-extends, outcome_at-meaning, length-meaning}
use Rattle.flow_core_laws.proofs.Elements.{element_kept}
use Rattle.flow_core_epochs.specs.Epoch.{open_in, number_among, put_over, Kept, is_at, value_kept, among, epoch_source, IsKeptFor, IsPartOf, StandsForEpoch}
use Rattle.flow_core_epochs.proofs.Holding.{gathered_both, holds_in_meaning}
use Rattle.flow_core_epochs.proofs.Prefixes.{prefix_extends}
use Rattle.flow_core_epochs.proofs.Frames.{numbers_back}
use Rattle.flow_core_epochs.proofs.Taken.{AreTaken}

-- an output element goes with its outcome and its activation's number
pub output_carries : (from to : ℕ → ℕ) (s t : State) (a b place : ℕ) (v : Elem) → from a ≡ to b → ((o : Outcome) → outcome_at s a ≡ Some o → outcome_at t b ≡ Some o) → output_at from s a place ≡ Some v → output_at to t b place ≡ Some v
output_carries from to s t a b place v same carries h = by_outcome (outcome_at s a) refl
  where
    by_outcome : (o : Option Outcome) → outcome_at s a ≡ o → output_at to t b place ≡ Some v
    by_outcome None e = let z : output_at from s a place ≡ None = ap (option_and_then (λ (q : Outcome). element_written (from a) q place)) e in absurd (cc)
    by_outcome (Some o) e = ap (option_and_then (λ (q : Outcome). element_written (to b) q place)) (carries o e) ∙ ap (λ (n : ℕ). element_written n o place) (sym same) ∙ sym (ap (option_and_then (λ (q : Outcome). element_written (from a) q place)) e) ∙ h

-- an output element comes from an outcome
pub output_outcome : (numbers : ℕ → ℕ) (s : State) (a place : ℕ) (v : Elem) → output_at numbers s a place ≡ Some v → (o : Outcome) × (outcome_at s a ≡ Some o)
output_outcome numbers s a place v h = by_outcome (outcome_at s a) refl
  where
    by_outcome : (o : Option Outcome) → outcome_at s a ≡ o → (o : Outcome) × (outcome_at s a ≡ Some o)
    by_outcome None e = let z : output_at numbers s a place ≡ None = ap (option_and_then (λ (q : Outcome). element_written (numbers a) q place)) e in absurd (cc)
    by_outcome (Some o) e = (o, e)

-- what is fed is not of the input
pub fed_stream : (activations : List Activation) (input : List ℕ) (p : Place) (a place : ℕ) → stream_source activations input p ≡ fed a place → p.stream ≢ 0
fed_stream activations input p a place h zero_stream = by_byte (slice_get input p.position) (ap (λ (b : Bool). cond b (input_source input p.position) (produced_source activations p.stream p.position)) (sym (ap (λ (n : ℕ). n == 0) zero_stream)) ∙ h)
  where
    by_byte : (o : Option ℕ) → option_map_or (λ byte. initial (Value (pos byte))) o nobody ≡ fed a place → ⊥
    by_byte None e = absurd (cc)
    by_byte (Some x) e = absurd (cc)

-- what is kept for a place was written there
pub kept_value : (activations : List Activation) (input : List ℕ) (state : State) (frames : List ℕ) (kept : List Kept) (p : Place) (v : Elem) → IsKeptFor activations input state frames kept → value_kept kept p ≡ Some v → (p.stream ≢ 0) × (stream_element state (stream_source activations input p) ≡ Some v)
kept_value activations input state frames kept p v ok h = by_find (find (is_at p) kept) refl
  where
    by_find : (o : Option Kept) → find (is_at p) kept ≡ o → (p.stream ≢ 0) × (stream_element state (stream_source activations input p) ≡ Some v)
    by_find None e = let z : value_kept kept p ≡ None = ap (option_map (λ (k : Kept). k.value)) e in absurd (cc)
    by_find (Some k) e =
        let (i, at, passes) = find_passes (is_at p) kept k e in
        let parts = and_parts (k.place.stream == p.stream) (k.place.position == p.position) passes in
        let stream = eqb-true k.place.stream p.stream parts.0 in
        let position = eqb-true k.place.position p.position parts.1 in
        let place : k.place ≡ p = ap (λ (n : ℕ). record { stream = n; position = k.place.position }) stream ∙ ap (λ (n : ℕ). record { stream = p.stream; position = n }) position in
        let value : k.value ≡ v = same_Some k.value v (sym (ap (option_map (λ (k : Kept). k.value)) e) ∙ h) in
        let w = ok.are_there i k (slice_get_within kept i k at) in
        let is : get_or kept i k ≡ k = get_or_from_slice_get kept i k k at in
        let w' = subst (λ (q : Kept). (q.place.stream ≢ 0) × (stream_element state (stream_source activations input q.place) ≡ Some q.value)) is w in
        (subst (λ (q : Place). q.stream ≢ 0) place w'.0, ap (λ (q : Place). stream_element state (stream_source activations input q)) (sym place) ∙ w'.1 ∙ ap Some value)

-- The epoch after some activations, with what is asked of it.
pub record HasEpoch (before new : List Activation) (input : List ℕ) (body : ℕ → List ℤ → Outcome) (state : State) (readers frames : List ℕ) (kept : List Kept) (plan : Plan) (places : List Place) : Type 0 where
  pub part : IsPartOf state before input body
  pub readers_are : readers ≡ open_in state (length (before ++ new))
  pub are_open : AreTaken state (stream_meaning (before ++ new) input body) (length (before ++ new)) frames
  pub kept_well : IsKeptFor (before ++ new) input state frames kept
  pub stands : StandsForEpoch plan (before ++ new) input readers frames kept places

module _ (before new : List Activation) (input : List ℕ) (body : ℕ → List ℤ → Outcome) (state : State) (readers frames : List ℕ) (kept : List Kept) (plan : Plan) (places : List Place) where
  abbrev pub acts : List Activation
  acts = before ++ new

  abbrev pub earlier : State
  earlier = state

  abbrev pub whole : State
  whole = stream_meaning (before ++ new) input body

  abbrev pub of_frames : ℕ → List ℤ → Outcome
  of_frames f = body (slice_index frames f)

  abbrev pub partial : State
  partial = plan_meaning plan (λ f. body (slice_index frames f))

  -- the outcome of an activation after the epoch
  abbrev pub over : ℕ → Option Outcome
  over a = option_map_or (outcome_at partial) (number_among frames a) (outcome_at earlier a)

  pub over_frame : (a f : ℕ) → number_among frames a ≡ Some f → over a ≡ outcome_at partial f
  over_frame a f h = ap (λ (o : Option ℕ). option_map_or (outcome_at partial) o (outcome_at earlier a)) h

  pub over_other : (a : ℕ) → number_among frames a ≡ None → over a ≡ outcome_at earlier a
  over_other a h = ap (λ (o : Option ℕ). option_map_or (outcome_at partial) o (outcome_at earlier a)) h

  pub earlier_extends : HasEpoch before new input body state readers frames kept plan places → Extends earlier whole
  earlier_extends epoch = record { kept = λ a o h. (prefix_extends before new input body).kept a o (epoch.part.agrees a o h) }

  -- a frame has its activation's number
  pub number_is : HasEpoch before new input body state readers frames kept plan places → (f a : ℕ) → slice_get frames f ≡ Some a → number_at plan f ≡ a
  number_is epoch f a h = ap (λ (numbers : List ℕ). get_or numbers f f) epoch.stands.numbers_are_theirs ∙ get_or_from_slice_get frames f a f h

  -- an element of the epoch is one of the run
  element_of_epoch : HasEpoch before new input body state readers frames kept plan places → (s : State) → ((f : ℕ) (o : Outcome) → outcome_at s f ≡ Some o → outcome_at whole (get_or frames f 0) ≡ Some o) → (p : Place) (v : Elem) → plan_element plan s (epoch_source acts input frames kept p) ≡ Some v → stream_element whole (stream_source acts input p) ≡ Some v
  element_of_epoch epoch s carries p v = by_kept (value_kept kept p) refl (stream_source acts input p) refl
    where
      by_number : (a place : ℕ) (n : Option ℕ) → number_among frames a ≡ n → plan_element plan s (option_map_or (λ f. fed f place) n nobody) ≡ Some v → output_at own_number whole a place ≡ Some v
      by_number a place None e h = absurd (cc)
      by_number a place (Some f) e h = output_carries (number_at plan) own_number s whole f a place v (number_is epoch f a (numbers_back frames a f e)) (λ o is. ap (outcome_at whole) (sym (get_or_from_slice_get frames f a 0 (numbers_back frames a f e))) ∙ carries f o is) h

      by_kept : (k : Option Elem) → value_kept kept p ≡ k → (source : Source) → stream_source acts input p ≡ source → plan_element plan s (option_map_or initial k (among frames (stream_source acts input p))) ≡ Some v → stream_element whole (stream_source acts input p) ≡ Some v
      by_kept (Some w) k_is source is h = element_kept own_number earlier whole (earlier_extends epoch).kept (stream_source acts input p) v ((kept_value acts input earlier frames kept p w epoch.kept_well k_is).1 ∙ h)
      by_kept None k_is (initial w) is h = ap (stream_element whole) is ∙ sym (ap (λ (x : Source). plan_element plan s (among frames x)) is) ∙ h
      by_kept None k_is nobody is h = let z : plan_element plan s (among frames (stream_source acts input p)) ≡ None = ap (λ (x : Source). plan_element plan s (among frames x)) is in absurd (cc)
      by_kept None k_is (fed a place) is h = ap (stream_element whole) is ∙ by_number a place (number_among frames a) refl (sym (ap (λ (x : Source). plan_element plan s (among frames x)) is) ∙ h)

  -- each outcome of the epoch is the run's
  partial_is_whole : HasEpoch before new input body state readers frames kept plan places → (f : ℕ) (o : Outcome) → outcome_at partial f ≡ Some o → outcome_at whole (get_or frames f 0) ≡ Some o
  partial_is_whole epoch = holds_in_meaning (plan_element plan) (plan_reads plan) (poisoning of_frames) (length plan.frames) (λ f o. outcome_at whole (get_or frames f 0) ≡ Some o) (record { fires = fire })
    where
      fire : (s : State) → Extends s partial → ((f : ℕ) (o : Outcome) → outcome_at s f ≡ Some o → outcome_at whole (get_or frames f 0) ≡ Some o) → (f : ℕ) (vs : List Elem) → f < length plan.frames → inputs_in (plan_element plan) (plan_reads plan) s f ≡ Some vs → outcome_at whole (get_or frames f 0) ≡ Some (poisoning body (slice_index frames f) vs)
      fire s extends carries f vs lt inputs =
          let a : ℕ = get_or frames f 0 in
          let n = epoch.stands.frames_are_these in
          let is : slice_get frames f ≡ Some a = slice_get-get_or frames f 0 (omega arith) in
          let cells = epoch.stands.cells_are_window_elements f a is in
          let there : gathered (map (stream_element whole) (map (stream_source acts input) (input_places acts a))) ≡ Some vs =
          gathered_both (plan_element plan s) (stream_element whole) (epoch_source acts input frames kept) (stream_source acts input) (input_places acts a) vs (λ i p v at h. element_of_epoch epoch s carries p v h) (ap (λ (sources : List Source). gathered (map (plan_element plan s) sources)) (sym cells) ∙ inputs) in
          outcome_at-meaning stream_element (element_kept own_number) (stream_reads acts input) (poisoning body) (length acts) a (epoch.are_open.exists f a is) ∙ ap (option_map (poisoning body a)) there

  -- an element of the run that a frame reads is there in the epoch
  element_in_epoch : HasEpoch before new input body state readers frames kept plan places → (s : State) → Extends s whole → ((a : ℕ) (o : Outcome) → outcome_at s a ≡ Some o → over a ≡ Some o) → (p : Place) (v : Elem) → (p.stream ≢ 0 → IsSome (stream_element earlier (stream_source acts input p)) → IsSome (value_kept kept p)) → stream_element s (stream_source acts input p) ≡ Some v → plan_element plan partial (epoch_source acts input frames kept p) ≡ Some v
  element_in_epoch epoch s extends carries p v keeps h = by_kept (value_kept kept p) refl (stream_source acts input p) refl
    where
      by_number : (a place : ℕ) (n : Option ℕ) → number_among frames a ≡ n → value_kept kept p ≡ None → stream_source acts input p ≡ fed a place → plan_element plan partial (option_map_or (λ f. fed f place) n nobody) ≡ Some v
      by_number a place (Some f) e k_is is = output_carries own_number (number_at plan) s partial a f place v (sym (number_is epoch f a (numbers_back frames a f e))) (λ o at. sym (over_frame a f e) ∙ carries a o at) (sym (ap (stream_element s) is) ∙ h)
      by_number a place None e k_is is =
          let before_it : output_at own_number earlier a place ≡ Some v = output_carries own_number own_number s earlier a a place v refl (λ o at. sym (over_other a e) ∙ carries a o at) (sym (ap (stream_element s) is) ∙ h) in
          let there : is_some (value_kept kept p) ≡ true = keeps (fed_stream acts input p a place is) (ap is_some (ap (stream_element earlier) is ∙ before_it)) in
          let none : is_some (value_kept kept p) ≡ false = ap is_some k_is in
          absurd (cc)

      by_kept : (k : Option Elem) → value_kept kept p ≡ k → (source : Source) → stream_source acts input p ≡ source → plan_element plan partial (option_map_or initial k (among frames (stream_source acts input p))) ≡ Some v
      by_kept (Some w) k_is source is = sym (element_kept own_number earlier whole (earlier_extends epoch).kept (stream_source acts input p) w (kept_value acts input earlier frames kept p w epoch.kept_well k_is).1) ∙ element_kept own_number s whole extends.kept (stream_source acts input p) v h
      by_kept None k_is (initial w) is = ap (λ (x : Source). plan_element plan partial (among frames x)) is ∙ sym (ap (stream_element s) is) ∙ h
      by_kept None k_is nobody is = let z : stream_element s (stream_source acts input p) ≡ None = ap (stream_element s) is in absurd (cc)
      by_kept None k_is (fed a place) is = ap (λ (x : Source). plan_element plan partial (among frames x)) is ∙ by_number a place (number_among frames a) refl k_is is

  -- no activation with an outcome before the epoch is a frame
  no_frame : HasEpoch before new input body state readers frames kept plan places → (a : ℕ) (o : Outcome) → outcome_at earlier a ≡ Some o → number_among frames a ≡ None
  no_frame epoch a o h = by_number (number_among frames a) refl
    where
      by_number : (n : Option ℕ) → number_among frames a ≡ n → number_among frames a ≡ None
      by_number None e = e
      by_number (Some f) e = let z = epoch.are_open.waits f a (numbers_back frames a f e) in absurd (cc)

  -- each outcome of the run is the epoch's, or was there before it
  whole_is_over : HasEpoch before new input body state readers frames kept plan places → (a : ℕ) (o : Outcome) → outcome_at whole a ≡ Some o → over a ≡ Some o
  whole_is_over epoch = holds_in_meaning stream_element (stream_reads acts input) (poisoning body) (length acts) (λ a o. over a ≡ Some o) (record { fires = fire })
    where
      fire : (s : State) → Extends s whole → ((a : ℕ) (o : Outcome) → outcome_at s a ≡ Some o → over a ≡ Some o) → (a : ℕ) (vs : List Elem) → a < length acts → inputs_in stream_element (stream_reads acts input) s a ≡ Some vs → over a ≡ Some (poisoning body a vs)
      fire s extends carries a vs lt inputs = by_outcome (outcome_at earlier a) refl
        where
          meant : outcome_at whole a ≡ Some (poisoning body a vs)
          meant = outcome_at-meaning stream_element (element_kept own_number) (stream_reads acts input) (poisoning body) (length acts) a lt ∙ ap (option_map (poisoning body a)) (gathered-extends stream_element (element_kept own_number) s whole extends (stream_reads acts input a) vs inputs)

          of_frame : (f : ℕ) → slice_get frames f ≡ Some a → over a ≡ Some (poisoning body a vs)
          of_frame f is =
              let n = epoch.stands.frames_are_these in
              let within = slice_get_within frames f a is in
              let number = epoch.are_open.numbered f a is in
              let cells = epoch.stands.cells_are_window_elements f a is in
              let same : slice_index frames f ≡ a = get_or_from_slice_get frames f a 0 is in
              let keeps : (i : ℕ) (p : Place) → slice_get (input_places acts a) i ≡ Some p → p.stream ≢ 0 → IsSome (stream_element earlier (stream_source acts input p)) → IsSome (value_kept kept p) = λ i p at. keeps_of f is i p at in
              let there : inputs_in (plan_element plan) (plan_reads plan) partial f ≡ Some vs =
              ap (λ (sources : List Source). gathered (map (plan_element plan partial) sources)) cells ∙ gathered_both (stream_element s) (plan_element plan partial) (stream_source acts input) (epoch_source acts input frames kept) (input_places acts a) vs (λ i p v at h. element_in_epoch epoch s extends carries p v (keeps i p at) h) inputs in
              over_frame a f number ∙ outcome_at-meaning (plan_element plan) (element_kept (number_at plan)) (plan_reads plan) (poisoning of_frames) (length plan.frames) f (omega arith) ∙ ap (option_map (poisoning of_frames f)) there ∙ ap (λ (b : ℕ). Some (poisoning body b vs)) same
            where
              keeps_of : (f : ℕ) → slice_get frames f ≡ Some a → (i : ℕ) (p : Place) → slice_get (input_places acts a) i ≡ Some p → p.stream ≢ 0 → IsSome (stream_element earlier (stream_source acts input p)) → IsSome (value_kept kept p)
              keeps_of f is i p at =
                  let h = epoch.kept_well.none_is_missing f a (slice_get_within frames f a is) in
                  let same : get_or frames f a ≡ a = get_or_from_slice_get frames f a a is in
                  let h' = subst (λ (b : ℕ). (k : ℕ) (d : Place) → k < length (input_places acts b) → (get_or (input_places acts b) k d).stream ≢ 0 → IsSome (stream_element earlier (stream_source acts input (get_or (input_places acts b) k d))) → IsSome (value_kept kept (get_or (input_places acts b) k d))) same h in
                  subst (λ (q : Place). q.stream ≢ 0 → IsSome (stream_element earlier (stream_source acts input q)) → IsSome (value_kept kept q)) (get_or_from_slice_get (input_places acts a) i p p at) (h' i p (slice_get_within (input_places acts a) i p at))

          by_outcome : (o : Option Outcome) → outcome_at earlier a ≡ o → over a ≡ Some (poisoning body a vs)
          by_outcome (Some o) e =
              over_other a (no_frame epoch a o e) ∙ e ∙ sym ((earlier_extends epoch).kept a o e) ∙ meant
          by_outcome None e = by_number (number_among frames a) refl
            where
              by_number : (n : Option ℕ) → number_among frames a ≡ n → over a ≡ Some (poisoning body a vs)
              by_number None out = let z = epoch.are_open.others a lt e out in let m = meant in absurd (cc)
              by_number (Some f) is_f = of_frame f (numbers_back frames a f is_f)

  -- both give each activation the same
  pub over_is_whole : HasEpoch before new input body state readers frames kept plan places → (a : ℕ) → over a ≡ outcome_at whole a
  over_is_whole epoch a = by_outcome (outcome_at whole a) refl (over a) refl
    where
      from_over : (n : Option ℕ) (o : Outcome) → number_among frames a ≡ n → over a ≡ Some o → outcome_at whole a ≡ Some o
      from_over None o e h = (earlier_extends epoch).kept a o (sym (over_other a e) ∙ h)
      from_over (Some f) o e h = ap (outcome_at whole) (sym (get_or_from_slice_get frames f a 0 (numbers_back frames a f e))) ∙ partial_is_whole epoch f o (sym (over_frame a f e) ∙ h)

      by_outcome : (p : Option Outcome) → outcome_at whole a ≡ p → (q : Option Outcome) → over a ≡ q → over a ≡ outcome_at whole a
      by_outcome (Some o) e q f = whole_is_over epoch a o e ∙ sym e
      by_outcome None e None f = f ∙ sym e
      by_outcome None e (Some o) f = f ∙ sym (from_over (number_among frames a) o refl f)

  pub adds_up : HasEpoch before new input body state readers frames kept plan places → put_over earlier frames partial (length acts) ≡ whole
  adds_up epoch = same_lists (map over (range_with_len 0 (length acts))) whole (length-map-range_with_len over 0 (length acts) ∙ sym l) (λ k d lt. at k d (omega (arith, length-map-range_with_len over 0 (length acts))))
    where
      l : length whole ≡ length acts
      l = length-meaning stream_element (stream_reads acts input) (poisoning body) (length acts)

      at : (k : ℕ) (d : Option Outcome) → k < length acts → get_or (map over (range_with_len 0 (length acts))) k d ≡ get_or whole k d
      at k d lt = get_or-map-range_with_len over 0 (length acts) k k d lt (omega arith) ∙ over_is_whole epoch k ∙ get_or_default whole k None d (omega (arith, l))

  pub frames_end : HasEpoch before new input body state readers frames kept plan places → (f a : ℕ) → slice_get frames f ≡ Some a → outcome_at whole a ≡ outcome_at partial f
  frames_end epoch f a at = sym (over_is_whole epoch a) ∙ over_frame a f (epoch.are_open.numbered f a at)
