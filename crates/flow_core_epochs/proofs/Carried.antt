-- That what an epoch carries over serves every next one.
use Rattle.std.proofs.Common.{[], ◌≡◌, ◌≢◌, ℕ, zero, suc, ◌+◌, ◌-◌, ◌<◌, ◌≤◌, ℤ, List, ◌∷◌, ◌++◌, Option, Some, None, Bool, true, false, cond, map, length, refl, sym, ap, ◌∙◌, subst, ◌⊎◌, inl, inr, arith, get_or, take}
use Rattle.std.specs.Prelude.{slice_get, find, is_some, is_none, IsSome, All, Contains, not, ◌==◌, ◌&&◌, ◌||◌, nat_le, option_and_then, filter}
use Rattle.std.specs.Option.{option_map, option_map_or}
use Rattle.std.specs.List.{range_with_len, flat_map}
use Rattle.std.proofs.lemmas.Bool.{cases_lt, cases_eq, eq-eqb, eqb-true, and_parts}
use Rattle.std.proofs.lemmas.Bool.Decides.{nat_tests}
use Rattle.std.proofs.lemmas.Option.{same_Some, slice_get_within, get_or_from_slice_get, slice_get-get_or}
use Rattle.flow_core_laws.specs.declared.elem.Elem.{Elem}
use Rattle.flow_core_laws.specs.declared.claim.Claim.{Claim}
use Rattle.flow_core_laws.specs.declared.activation.Activation.{Activation}
use Rattle.flow_core_laws.specs.declared.plan.Plan.{Plan}
use Rattle.flow_core_laws.specs.declared.outcome.Outcome.{Outcome}
use Rattle.flow_core_laws.specs.declared.place.Place.{Place}
use Rattle.flow_core_laws.specs.Outcome.{outcome_at, State}
use Rattle.flow_core_laws.specs.Element.{fed, nobody, element_written, output_at}
use Rattle.flow_core_laws.specs.Poisoning.{poisoning}
use Rattle.flow_core_laws.specs.FirstPosition.{is_read_of}
use Rattle.flow_core_laws.specs.Window.{Window, windows_of, claims_of, producer, window_of, windows, claims_at, is_written_by}
use Rattle.flow_core_laws.specs.Place.{input_places, places_of}
use Rattle.flow_core_laws.specs.Plans.{sink_elements}
use Rattle.flow_core_laws.specs.Streams.{input_source, produced_source, stream_source, stream_reads, stream_meaning, stream_element, own_number}
use Rattle.flow_core_laws.proofs.Sources.{find_passes}
use Rattle.flow_core_laws.proofs.Rounds.{outcome_at_past, length-meaning}
use Rattle.flow_core_laws.proofs.Elements.{element_kept}
use Rattle.flow_core_laws.proofs.Windows.{producer_of, is_window, window_at, written as window_writes}
use Rattle.flow_core_epochs.specs.Epoch.{number_among, open_in, written_places, read_from, is_readable, ReadNoOutput, Kept, is_at, value_kept, elements_at, carried_over, IsKeptFor, IsCarried, IsOutside, IsPartOf, PlacesDiffer, epoch_meaning}
use Rattle.flow_core_epochs.proofs.Members.{Has, of_append, in_left, in_right, of_filter, in_filter, of_flat_map, in_flat_map, of_range, in_range, has_tail, in_map}
use Rattle.flow_core_epochs.proofs.Prefixes.{producer_more, element_more}
use Rattle.flow_core_epochs.proofs.Frames.{numbers_back}
use Rattle.flow_core_epochs.proofs.Epochs.{HasEpoch, earlier_extends, over_other, over_is_whole, output_outcome}
use Rattle.flow_core_epochs.proofs.Written.{has_window, window_activation, written_in, is_written_test}
use Rattle.flow_core_epochs.proofs.Apart.{Apart, apart_filter, apart_append, leaving_apart, SamePlace, apart_elements}
use Rattle.flow_core_epochs.proofs.Leaving.{sink_leaves}
use Rattle.flow_core_epochs.proofs.Reading.{read_from_cursor, read_from_frame, read_from_least, cursor_grows, later_reads, windows_of_more, read_in, reads_behind}

-- what holds of all holds of each
pub all_has : {A : Type 0} (P : A → Type 0) (xs : List A) (x : A) → All P xs → Has xs x → P x
all_has P xs x all (i, at) = subst P (get_or_from_slice_get xs i x x at) (all i x (slice_get_within xs i x at))

pub has_all : {A : Type 0} (P : A → Type 0) (xs : List A) → ((x : A) → Has xs x → P x) → All P xs
has_all P xs each = λ i d lt. each (get_or xs i d) (i, slice_get-get_or xs i d lt)

-- The producer of an element is a window of its activation.
pub record IsProducer (activations : List Activation) (stream position : ℕ) (w : Window) : Type 0 where
  pub exists : w.activation < length activations
  pub stands : Has (windows_of activations w.activation) w
  pub writes : is_written_by stream position w ≡ true

pub is_producer : (activations : List Activation) (stream position : ℕ) (w : Window) → producer activations stream position ≡ Some w → IsProducer activations stream position w
is_producer activations stream position w h =
    let (i, at, passes) = find_passes (is_written_by stream position) (windows activations) w h in
    let s = is_window activations i w at in
    let within = s.within in
    let cs = claims_at activations s.a in
    let f = window_of s.a (claims_of (take s.a activations)) cs in
    let a : w.activation ≡ s.a = ap (λ (v : Window). v.activation) s.is in
    let stands : Has (windows_of activations s.a) w = subst (Has (windows_of activations s.a)) (sym s.is) (in_map f (range_with_len 0 (length cs)) s.k (in_range 0 (length cs) s.k (omega arith) (omega arith))) in
    record { exists = subst (λ b. b < length activations) (sym a) s.exists; stands = subst (λ b. Has (windows_of activations b) w) (sym a) stands; writes = passes }

-- a producer among earlier activations was the producer
pub producer_less : (activations more : List Activation) (stream position : ℕ) (w : Window) → producer (activations ++ more) stream position ≡ Some w → w.activation < length activations → producer activations stream position ≡ Some w
producer_less activations more stream position w h lt =
    let p = is_producer (activations ++ more) stream position w h in
    let (i, at) = has_window activations w.activation w lt (subst (λ (ws : List Window). Has ws w) (windows_of_more activations more w.activation lt) p.stands) in
    producer_of activations stream position i w at p.writes

-- it wrote the place
pub wrote : (activations : List Activation) (p : Place) (w : Window) → producer activations p.stream p.position ≡ Some w → Has (written_places activations w.activation) p
wrote activations p w h =
    let q = is_producer activations p.stream p.position w h in
    let x = window_writes p.stream p.position w q.writes in
    let parts = and_parts w.claim.write (w.claim.stream == p.stream) x.on_stream in
    let low = x.from in
    let high = x.to in
    let place : Has (places_of w) (record { stream = w.claim.stream; position = p.position }) = in_map (λ position. record { stream = w.claim.stream; position = position }) (range_with_len w.first w.claim.horizon) p.position (in_range w.first w.claim.horizon p.position low high) in
    let same : record { stream = w.claim.stream; position = p.position } ≡ p = ap (λ n. record { stream = n; position = p.position }) (eqb-true w.claim.stream p.stream parts.1) in
    in_flat_map places_of (filter (λ (w : Window). w.claim.write) (windows_of activations w.activation)) w p (in_filter (λ (w : Window). w.claim.write) (windows_of activations w.activation) w q.stands parts.0) (subst (Has (places_of w)) same place)

-- a claim of an activation is one of all claims
pub has_claim : (activations : List Activation) (a : ℕ) (w : Window) → a < length activations → Has (windows_of activations a) w → Has (claims_of activations) w.claim
has_claim activations a w lt h = let (i, at) = has_window activations a w lt h in (i, (window_at activations i w at).is_claim)

-- what stands in a list and passes is found
find_there : {A : Type 0} (test : A → Bool) (xs : List A) (x : A) → Has xs x → test x ≡ true → is_some (find test xs) ≡ true
find_there test [] x (i, at) passes = absurd (cc)
find_there {A = A} test (y ∷ ys) x h passes = by_test (test y) refl h (λ t. find_there test ys x t passes)
  where
    by_test : (b : Bool) → test y ≡ b → Has (y ∷ ys) x → (Has ys x → is_some (find test ys) ≡ true) → is_some (cond b (Some y) (find test ys)) ≡ true
    by_test true e h rest = refl
    by_test false e (zero, at) rest = absurd (let t : test y ≡ true = ap test (same_Some y x at) ∙ passes in cc)
    by_test false e (suc i, at) rest = rest (i, at)

some_mapped : {A B : Type 0} (f : A → B) (o : Option A) → is_some o ≡ true → is_some (option_map f o) ≡ true
some_mapped f None h = absurd (cc)
some_mapped f (Some x) h = refl

unmapped_some : {A B : Type 0} (f : A → B) (o : Option A) → is_some (option_map f o) ≡ true → (x : A) × (o ≡ Some x)
unmapped_some f None h = absurd (cc)
unmapped_some f (Some x) h = (x, refl)

pub there_value : {A : Type 0} (o : Option A) → is_some o ≡ true → (x : A) × (o ≡ Some x)
there_value None h = absurd (cc)
there_value (Some x) h = (x, refl)

-- what is kept for a place
pub kept_there : (kept : List Kept) (k : Kept) (p : Place) → Has kept k → k.place ≡ p → IsSome (value_kept kept p)
kept_there kept k p h same =
    let s : (k.place.stream == p.stream) ≡ true = eq-eqb k.place.stream p.stream (ap (λ (q : Place). q.stream) same) in
    let n : (k.place.position == p.position) ≡ true = eq-eqb k.place.position p.position (ap (λ (q : Place). q.position) same) in
    some_mapped (λ (k : Kept). k.value) (find (is_at p) kept) (find_there (is_at p) kept k h (ap (λ (b : Bool). b && (k.place.position == p.position)) s ∙ ap (λ (b : Bool). true && b) n))

pub there_kept : (kept : List Kept) (p : Place) → IsSome (value_kept kept p) → (k : Kept) × (Has kept k) × (k.place ≡ p)
there_kept kept p h =
    let (k, e) = unmapped_some (λ (k : Kept). k.value) (find (is_at p) kept) h in
    let (i, at, passes) = find_passes (is_at p) kept k e in
    let parts = and_parts (k.place.stream == p.stream) (k.place.position == p.position) passes in
    (k, (i, at), ap (λ (n : ℕ). record { stream = n; position = k.place.position }) (eqb-true k.place.stream p.stream parts.0) ∙ ap (λ (n : ℕ). record { stream = p.stream; position = n }) (eqb-true k.place.position p.position parts.1))

pub produced : (activations : List Activation) (input : List ℕ) (p : Place) → p.stream ≢ 0 → stream_source activations input p ≡ produced_source activations p.stream p.position
produced activations input p other = by_test (p.stream == 0) refl
  where
    by_test : (b : Bool) → (p.stream == 0) ≡ b → cond b (input_source input p.position) (produced_source activations p.stream p.position) ≡ produced_source activations p.stream p.position
    by_test true e = absurd (other (eqb-true p.stream 0 e))
    by_test false e = refl

pub produced_by : (activations : List Activation) (input : List ℕ) (p : Place) (w : Window) → p.stream ≢ 0 → producer activations p.stream p.position ≡ Some w → stream_source activations input p ≡ fed w.activation (w.offset + (p.position - w.first))
produced_by activations input p w other h = produced activations input p other ∙ ap (λ (o : Option Window). option_map_or (λ (w : Window). fed w.activation (w.offset + (p.position - w.first))) o nobody) h

pub produced_by_nobody : (activations : List Activation) (input : List ℕ) (p : Place) → p.stream ≢ 0 → producer activations p.stream p.position ≡ None → stream_source activations input p ≡ nobody
produced_by_nobody activations input p other h = produced activations input p other ∙ ap (λ (o : Option Window). option_map_or (λ (w : Window). fed w.activation (w.offset + (p.position - w.first))) o nobody) h

-- an element that is there, of no input, has a producer
pub there_produced : (activations : List Activation) (input : List ℕ) (state : State) (p : Place) (v : Elem) → p.stream ≢ 0 → stream_element state (stream_source activations input p) ≡ Some v → (w : Window) × (producer activations p.stream p.position ≡ Some w) × (output_at own_number state w.activation (w.offset + (p.position - w.first)) ≡ Some v)
there_produced activations input state p v other h = by_producer (producer activations p.stream p.position) refl
  where
    by_producer : (o : Option Window) → producer activations p.stream p.position ≡ o → (w : Window) × (producer activations p.stream p.position ≡ Some w) × (output_at own_number state w.activation (w.offset + (p.position - w.first)) ≡ Some v)
    by_producer None e = let z : stream_element state (stream_source activations input p) ≡ None = ap (stream_element state) (produced_by_nobody activations input p other e) in absurd (cc)
    by_producer (Some w) e = (w, e, sym (ap (stream_element state) (produced_by activations input p w other e)) ∙ h)

-- an activation that has an outcome is there
pub outcome_exists : (activations : List Activation) (input : List ℕ) (body : ℕ → List ℤ → Outcome) (a : ℕ) (o : Outcome) → outcome_at (stream_meaning activations input body) a ≡ Some o → a < length activations
outcome_exists activations input body a o h = by_order (cases_lt a (length activations))
  where
    by_order : (a < length activations) ⊎ (length activations ≤ a) → a < length activations
    by_order (inl lt) = lt
    by_order (inr ge) = let l = length-meaning stream_element (stream_reads activations input) (poisoning body) (length activations) in let n = outcome_at_past (stream_meaning activations input body) a (omega (arith, l)) in absurd (cc)

-- an element that is there was there with fewer activations, if they gave it
pub element_less : (activations more : List Activation) (input : List ℕ) (body : ℕ → List ℤ → Outcome) (state : State) (p : Place) (v : Elem) → IsPartOf state activations input body → p.stream ≢ 0 → stream_element state (stream_source (activations ++ more) input p) ≡ Some v → stream_element state (stream_source activations input p) ≡ Some v
element_less activations more input body state p v part other h =
    let (w, is, out) = there_produced (activations ++ more) input state p v other h in
    let (o, ended) = output_outcome own_number state w.activation (w.offset + (p.position - w.first)) v out in
    ap (stream_element state) (produced_by activations input p w other (producer_less activations more p.stream p.position w is (outcome_exists activations input body w.activation o (part.agrees w.activation o ended)))) ∙ out

-- the elements at places
pub in_elements : (g : Place → Option Elem) (places : List Place) (p : Place) (v : Elem) → Has places p → g p ≡ Some v → Has (elements_at places (map g places)) (record { place = p; value = v })
in_elements g [] p v (i, at) e = absurd (cc)
in_elements g (q ∷ places) p v h e = by_value (g q) refl h (λ t. in_elements g places p v t e)
  where
    by_value : (o : Option Elem) → g q ≡ o → Has (q ∷ places) p → (Has places p → Has (elements_at places (map g places)) (record { place = p; value = v })) → Has (elements_at (q ∷ places) (o ∷ map g places)) (record { place = p; value = v })
    by_value None q_is (zero, at) rest = absurd (let z : g q ≡ Some v = ap g (same_Some q p at) ∙ e in cc)
    by_value None q_is (suc i, at) rest = rest (i, at)
    by_value (Some u) q_is (zero, at) rest =
        let same = same_Some q p at in
        let value : u ≡ v = same_Some u v (sym q_is ∙ ap g same ∙ e) in
        (0, ap Some (ap (λ (r : Place). record { place = r; value = u }) same ∙ ap (λ (n : Elem). record { place = p; value = n }) value))
    by_value (Some u) q_is (suc i, at) rest = has_tail _ _ _ (rest (i, at))

pub of_elements : (g : Place → Option Elem) (places : List Place) (k : Kept) → Has (elements_at places (map g places)) k → (Has places k.place) × (g k.place ≡ Some k.value)
of_elements g [] k (i, at) = absurd (cc)
of_elements g (q ∷ places) k h = by_value (g q) refl h (of_elements g places k)
  where
    tail : (Has places k.place) × (g k.place ≡ Some k.value) → (Has (q ∷ places) k.place) × (g k.place ≡ Some k.value)
    tail r = (has_tail q places k.place r.0, r.1)

    by_value : (o : Option Elem) → g q ≡ o → Has (elements_at (q ∷ places) (o ∷ map g places)) k → (Has (elements_at places (map g places)) k → (Has places k.place) × (g k.place ≡ Some k.value)) → (Has (q ∷ places) k.place) × (g k.place ≡ Some k.value)
    by_value None q_is h rest = tail (rest h)
    by_value (Some u) q_is (zero, at) rest =
        let same = same_Some (record { place = q; value = u }) k at in
        let place : q ≡ k.place = ap (λ (k : Kept). k.place) same in
        ((0, ap Some place), ap g (sym place) ∙ q_is ∙ ap Some (ap (λ (k : Kept). k.value) same))
    by_value (Some u) q_is (suc i, at) rest = tail (rest (i, at))

-- the frames that are open in a state
pub of_open : (state : State) (count a : ℕ) → Has (open_in state count) a → (a < count) × (outcome_at state a ≡ None)
of_open state count a h =
    let f = of_filter (λ b. is_none (outcome_at state b)) (range_with_len 0 count) a h in
    let r = of_range 0 count a f.0 in
    let high = r.1 in
    (omega arith, none (outcome_at state a) refl f.1)
  where
    none : (o : Option Outcome) → outcome_at state a ≡ o → is_none (outcome_at state a) ≡ true → outcome_at state a ≡ None
    none None e t = e
    none (Some o) e t = let z : is_none (outcome_at state a) ≡ false = ap is_none e in absurd (cc)

pub in_open : (state : State) (count a : ℕ) → a < count → outcome_at state a ≡ None → Has (open_in state count) a
in_open state count a lt e = in_filter (λ b. is_none (outcome_at state b)) (range_with_len 0 count) a (in_range 0 count a (omega arith) (omega arith)) (ap is_none e)

-- before the first epoch
pub nothing_at_first : (input : List ℕ) (body : ℕ → List ℤ → Outcome) → IsCarried [] input (stream_meaning [] input body) []
nothing_at_first input body = record { are_there = λ i d lt. absurd (omega arith); places_differ = λ i j k l at. absurd (cc); none_is_lost = λ p declared behind there. lost p declared (there_value (stream_element (stream_meaning [] input body) (stream_source [] input p)) there) }
  where
    lost : (p : Place) → 2 ≤ p.stream → (v : Elem) × (stream_element (stream_meaning [] input body) (stream_source [] input p) ≡ Some v) → IsSome (value_kept [] p)
    lost p declared (v, is) =
        let (w, made, out) = there_produced [] input (stream_meaning [] input body) p v (λ z. omega arith) is in
        let e = (is_producer [] p.stream p.position w made).exists in
        absurd (omega arith)

-- what is carried serves the next epoch
pub serves_next : (activations new : List Activation) (input : List ℕ) (body : ℕ → List ℤ → Outcome) (state : State) (kept : List Kept) → ReadNoOutput (activations ++ new) → IsPartOf state activations input body → IsCarried activations input state kept → IsKeptFor (activations ++ new) input state (open_in state (length (activations ++ new))) kept
serves_next activations new input body state kept no_output part carried = record {
  are_there = has_all (λ (k : Kept). (k.place.stream ≢ 0) × (stream_element state (stream_source (activations ++ new) input k.place) ≡ Some k.value)) kept (λ k h. let w = all_has (λ (k : Kept). (2 ≤ k.place.stream) × (stream_element state (stream_source activations input k.place) ≡ Some k.value)) kept k carried.are_there h in let low = w.0 in ((λ z. omega arith), element_more activations new input state k.place k.value w.1));
  none_is_missing = has_all (λ a. All (λ (p : Place). p.stream ≢ 0 → IsSome (stream_element state (stream_source (activations ++ new) input p)) → IsSome (value_kept kept p)) (input_places (activations ++ new) a)) frames (λ a frame. has_all (λ (p : Place). p.stream ≢ 0 → IsSome (stream_element state (stream_source (activations ++ new) input p)) → IsSome (value_kept kept p)) (input_places (activations ++ new) a) (λ p at other there. kept_of a frame p at other (there_value (stream_element state (stream_source (activations ++ new) input p)) there)));
}
  where
    frames : List ℕ
    frames = open_in state (length (activations ++ new))

    declared : (a : ℕ) (p : Place) → a < length (activations ++ new) → Has (input_places (activations ++ new) a) p → p.stream ≢ 0 → 2 ≤ p.stream
    declared a p lt at other =
        let (w, stands, reads, l) = read_in (activations ++ new) a p at in
        let parts = and_parts (not w.claim.write) (w.claim.stream == p.stream) reads in
        let s = eqb-true w.claim.stream p.stream parts.1 in
        let not_one : w.claim.stream ≢ 1 = all_has (λ (c : Claim). c.write ≡ false → c.stream ≢ 1) (claims_of (activations ++ new)) w.claim no_output (has_claim (activations ++ new) a w lt stands) (not_write w.claim.write parts.0) in
        above p.stream other (λ z. not_one (s ∙ z))
      where
        not_write : (b : Bool) → not b ≡ true → b ≡ false
        not_write true e = absurd (cc)
        not_write false e = refl

        above : (n : ℕ) → n ≢ 0 → n ≢ 1 → 2 ≤ n
        above n zero_not one_not = by_order (cases_lt n 2) (cases_eq n 0)
          where
            by_order : (n < 2) ⊎ (2 ≤ n) → (n ≡ 0) ⊎ (n ≢ 0) → 2 ≤ n
            by_order (inr ge) z = ge
            by_order (inl lt) (inl z) = absurd (zero_not z)
            by_order (inl lt) (inr z) = absurd (one_not (omega (arith, positive n z)))
              where
                positive : (m : ℕ) → m ≢ 0 → 1 ≤ m
                positive zero e = absurd (e refl)
                positive (suc m) e = omega arith

    kept_of : (a : ℕ) → Has frames a → (p : Place) → Has (input_places (activations ++ new) a) p → p.stream ≢ 0 → (v : Elem) × (stream_element state (stream_source (activations ++ new) input p) ≡ Some v) → IsSome (value_kept kept p)
    kept_of a frame p at other (v, is) =
        let o = of_open state (length (activations ++ new)) a frame in
        carried.none_is_lost p (declared a p o.0 at other) (reads_behind activations new (open_in state (length activations)) a p (who o.1 (cases_lt a (length activations))) at) (ap is_some (element_less activations new input body state p v part other is))
      where
        who : outcome_at state a ≡ None → (a < length activations) ⊎ (length activations ≤ a) → (Has (open_in state (length activations)) a) ⊎ (length activations ≤ a)
        who none (inl lt) = inl (in_open state (length activations) a lt none)
        who none (inr ge) = inr ge

-- it was written by activations that are no frames
pub is_outside : (activations new : List Activation) (input : List ℕ) (state : State) (kept : List Kept) (frames : List ℕ) → ((f a : ℕ) → slice_get frames f ≡ Some a → outcome_at state a ≡ None) → IsCarried activations input state kept → IsOutside (activations ++ new) frames kept
is_outside activations new input state kept frames waits carried = record {
  are_declared = has_all (λ (k : Kept). 2 ≤ k.place.stream) kept (λ k h. (written_at k h).0);
  places_differ = carried.places_differ;
  written_outside = has_all (λ (k : Kept). (w : Window) × (producer (activations ++ new) k.place.stream k.place.position ≡ Some w) × (number_among frames w.activation ≡ None)) kept outside;
}
  where
    written_at : (k : Kept) → Has kept k → (2 ≤ k.place.stream) × (stream_element state (stream_source activations input k.place) ≡ Some k.value)
    written_at k h = all_has (λ (k : Kept). (2 ≤ k.place.stream) × (stream_element state (stream_source activations input k.place) ≡ Some k.value)) kept k carried.are_there h

    no_frame : (a : ℕ) (o : Outcome) → outcome_at state a ≡ Some o → (n : Option ℕ) → number_among frames a ≡ n → number_among frames a ≡ None
    no_frame a o ended None e = e
    no_frame a o ended (Some f) e = let z = waits f a (numbers_back frames a f e) in absurd (cc)

    outside : (k : Kept) → Has kept k → (w : Window) × (producer (activations ++ new) k.place.stream k.place.position ≡ Some w) × (number_among frames w.activation ≡ None)
    outside k h =
        let w = written_at k h in
        let low = w.0 in
        let (v, is, out) = there_produced activations input state k.place k.value (λ z. omega arith) w.1 in
        let (o, ended) = output_outcome own_number state v.activation (v.offset + (k.place.position - v.first)) k.value out in
        (v, producer_more activations new k.place.stream k.place.position v is, no_frame v.activation o ended (number_among frames v.activation) refl)

module _ (before new : List Activation) (input : List ℕ) (body : ℕ → List ℤ → Outcome) (state : State) (readers frames : List ℕ) (kept : List Kept) (plan : Plan) (places : List Place) (epoch : HasEpoch before new input body state readers frames kept plan places) where
  abbrev acts : List Activation
  acts = before ++ new

  abbrev earlier : State
  earlier = state

  abbrev whole : State
  whole = stream_meaning (before ++ new) input body

  abbrev left : List ℕ
  left = open_in whole (length acts)

  -- an activation that is left without an outcome had none before
  left_before : (a : ℕ) → outcome_at whole a ≡ None → outcome_at earlier a ≡ None
  left_before a h = by_outcome (outcome_at earlier a) refl
    where
      by_outcome : (o : Option Outcome) → outcome_at earlier a ≡ o → outcome_at earlier a ≡ None
      by_outcome None e = e
      by_outcome (Some o) e = let z = (earlier_extends before new input body state readers frames kept plan places epoch).kept a o e in absurd (cc)

  -- it was a reader of the epoch
  left_reader : (a : ℕ) → Has left a → Has readers a
  left_reader a h =
      let o = of_open whole (length acts) a h in
      subst (λ (xs : List ℕ). Has xs a) (sym epoch.readers_are) (in_open earlier (length acts) a o.0 (left_before a o.1))

  -- so `read_from` rises
  read_from_left : (stream : ℕ) → read_from acts readers stream ≤ read_from acts left stream
  read_from_left stream = read_from_least (read_from acts readers stream) acts left stream (read_from_cursor acts readers stream) (λ a w frame at reads. read_from_frame acts readers stream a w (left_reader a frame) at reads)

  read_from_rises : (stream : ℕ) → read_from before (open_in earlier (length before)) stream ≤ read_from acts left stream
  read_from_rises stream = read_from_least (read_from before was_open stream) acts left stream (let a = read_from_cursor before was_open stream in let b = cursor_grows stream before new in omega arith) (λ a w frame at reads. each a w frame at reads (cases_lt a (length before)))
    where
      was_open : List ℕ
      was_open = open_in earlier (length before)

      each : (a : ℕ) (w : Window) → Has left a → Has (windows_of acts a) w → is_read_of stream w.claim ≡ true → (a < length before) ⊎ (length before ≤ a) → read_from before was_open stream ≤ w.first
      each a w frame at reads (inl lt) = read_from_frame before was_open stream a w (in_open earlier (length before) a lt (left_before a (of_open whole (length acts) a frame).1)) (subst (λ (ws : List Window). Has ws w) (windows_of_more before new a lt) at) reads
      each a w frame at reads (inr ge) = let c = read_from_cursor before was_open stream in let d = later_reads before new stream a w ge at reads in omega arith

  -- what is no frame has the outcome that it had
  outcome_before : (a : ℕ) → number_among frames a ≡ None → outcome_at whole a ≡ outcome_at earlier a
  outcome_before a n = sym (over_is_whole before new input body state readers frames kept plan places epoch a) ∙ over_other before new input body state readers frames kept plan places a n

  -- a place that a frame wrote leaves, where it is of the output or may be read
  frame_leaves : (p : Place) (w : Window) (f : ℕ) → producer acts p.stream p.position ≡ Some w → number_among frames w.activation ≡ Some f → (p.stream == 1 || nat_le (read_from acts readers p.stream) p.position) ≡ true → Has places p
  frame_leaves p w f is n test =
      subst (λ (ps : List Place). Has ps p) (sym epoch.stands.places_leave) (in_filter (λ (p : Place). p.stream == 1 || nat_le (read_from acts readers p.stream) p.position) (flat_map (written_places acts) frames) p (in_flat_map (written_places acts) frames w.activation p (f, numbers_back frames w.activation f n) (wrote acts p w is)) test)

  abbrev values : List (Option Elem)
  values = sink_elements plan (epoch_meaning plan frames body)

  abbrev element_now : Place → Option Elem
  element_now p = stream_element whole (stream_source acts input p)

  values_are : values ≡ map element_now places
  values_are = sink_leaves before new input body state readers frames kept plan places epoch

  -- what is carried over
  abbrev over_all : List Kept
  over_all = kept ++ elements_at places values

  carried_there : (k : Kept) (p : Place) → Has over_all k → k.place ≡ p → 2 ≤ p.stream → read_from acts left p.stream ≤ p.position → IsSome (value_kept (carried_over acts left kept places values) p)
  carried_there k p h same declared behind =
      let a : nat_le 2 p.stream ≡ true = grind (arith, nat_tests) in
      let b : nat_le (read_from acts left p.stream) p.position ≡ true = grind (arith, nat_tests) in
      let test : is_readable acts left p ≡ true = ap (λ (t : Bool). t && nat_le (read_from acts left p.stream) p.position) a ∙ ap (λ (t : Bool). true && t) b in
      kept_there (carried_over acts left kept places values) k p (in_filter (λ (k : Kept). is_readable acts left k.place) over_all k h (ap (is_readable acts left) same ∙ test)) same

  none_lost : IsCarried before input earlier kept → (p : Place) → 2 ≤ p.stream → read_from acts left p.stream ≤ p.position → (v : Elem) × (element_now p ≡ Some v) → IsSome (value_kept (carried_over acts left kept places values) p)
  none_lost carried p declared behind (v, now) =
      let (w, is, out) = there_produced acts input whole p v (λ z. omega arith) now in
      by_number w is out (number_among frames w.activation) refl
    where
      by_number : (w : Window) → producer acts p.stream p.position ≡ Some w → output_at own_number whole w.activation (w.offset + (p.position - w.first)) ≡ Some v → (n : Option ℕ) → number_among frames w.activation ≡ n → IsSome (value_kept (carried_over acts left kept places values) p)
      by_number w is out (Some f) n =
          let l = read_from_left p.stream in
          let b : nat_le (read_from acts readers p.stream) p.position ≡ true = grind (arith, nat_tests) in
          let leaves = frame_leaves p w f is n (or_true (p.stream == 1) (nat_le (read_from acts readers p.stream) p.position) b) in
          carried_there (record { place = p; value = v }) p (in_right kept (elements_at places values) _ (subst (λ (vs : List (Option Elem)). Has (elements_at places vs) (record { place = p; value = v })) (sym values_are) (in_elements element_now places p v leaves now))) refl declared behind
        where
          or_true : (x y : Bool) → y ≡ true → (x || y) ≡ true
          or_true true y e = refl
          or_true false y e = e
      by_number w is out None n =
          let out_before : output_at own_number earlier w.activation (w.offset + (p.position - w.first)) ≡ Some v = ap (option_and_then (λ (q : Outcome). element_written w.activation q (w.offset + (p.position - w.first)))) (sym (outcome_before w.activation n)) ∙ out in
          let (o, ended) = output_outcome own_number earlier w.activation (w.offset + (p.position - w.first)) v out_before in
          let lt = outcome_exists before input body w.activation o (epoch.part.agrees w.activation o ended) in
          let was : stream_element earlier (stream_source before input p) ≡ Some v = ap (stream_element earlier) (produced_by before input p w (λ z. omega arith) (producer_less before new p.stream p.position w is lt)) ∙ out_before in
          let rises = read_from_rises p.stream in
          let (k, h, same) = there_kept kept p (carried.none_is_lost p declared (omega arith) (ap is_some was)) in
          carried_there k p (in_left kept (elements_at places values) k h) same declared behind

  -- a place that leaves was written by a frame
  leaves_frame : (p : Place) → Has places p → (w : Window) × (producer acts p.stream p.position ≡ Some w) × (outcome_at earlier w.activation ≡ None)
  leaves_frame p h =
      let r = of_filter (λ (p : Place). p.stream == 1 || nat_le (read_from acts readers p.stream) p.position) (flat_map (written_places acts) frames) p (subst (λ (ps : List Place). Has ps p) epoch.stands.places_leave h) in
      let (a, (f, at), there) = of_flat_map (written_places acts) frames p r.0 in
      let (w, stands, writes, l) = written_in acts a p there in
      let (i, stands_in) = has_window acts a w (epoch.are_open.exists f a at) stands in
      (w, producer_of acts p.stream p.position i w stands_in (is_written_test w p writes l), ap (outcome_at earlier) (window_activation acts a w stands) ∙ epoch.are_open.waits f a at)

  carried_apart : IsCarried before input earlier kept → PlacesDiffer (carried_over acts left kept places values)
  carried_apart carried = apart_filter SamePlace (λ (k : Kept). is_readable acts left k.place) over_all (apart_append SamePlace kept (elements_at places values) carried.places_differ elements_apart (λ k l h g same. apart_from k l h g same) (λ k l h g same. apart_from k l h g (sym same)))
    where
      elements_apart : Apart SamePlace (elements_at places values)
      elements_apart = subst (λ (vs : List (Option Elem)). Apart SamePlace (elements_at places vs)) (sym values_are) (apart_elements element_now places (subst (Apart (λ p q. p ≡ q)) (sym epoch.stands.places_leave) (leaving_apart acts readers frames (λ f a at. epoch.are_open.exists f a at) (λ f g a at at'. same_Some f g (sym (epoch.are_open.numbered f a at) ∙ epoch.are_open.numbered g a at')))))

      apart_from : (k l : Kept) → Has kept k → Has (elements_at places values) l → k.place ≡ l.place → ⊥
      apart_from k l h g same =
          let e = of_elements element_now places l (subst (λ (vs : List (Option Elem)). Has (elements_at places vs) l) values_are g) in
          let (w, is, none) = leaves_frame l.place e.0 in
          let c = all_has (λ (k : Kept). (2 ≤ k.place.stream) × (stream_element earlier (stream_source before input k.place) ≡ Some k.value)) kept k carried.are_there h in
          let low = c.0 in
          let (v, v_is, out) = there_produced before input earlier k.place k.value (λ z. omega arith) c.1 in
          let (o, ended) = output_outcome own_number earlier v.activation (v.offset + (k.place.position - v.first)) k.value out in
          let v_is' : producer acts l.place.stream l.place.position ≡ Some v = ap (λ (p : Place). producer acts p.stream p.position) (sym same) ∙ producer_more before new k.place.stream k.place.position v v_is in
          let one : v ≡ w = same_Some v w (sym v_is' ∙ is) in
          let z : outcome_at earlier v.activation ≡ None = ap (λ (u : Window). outcome_at earlier u.activation) one ∙ none in
          absurd (cc)

  pub carries_over : IsCarried before input earlier kept → IsCarried acts input whole (carried_over acts left kept places values)
  carries_over carried = record {
    are_there = has_all (λ (k : Kept). (2 ≤ k.place.stream) × (stream_element whole (stream_source acts input k.place) ≡ Some k.value)) (carried_over acts left kept places values) (λ k h. let f = of_filter (λ (k : Kept). is_readable acts left k.place) over_all k h in was_written k f.1 (of_append kept (elements_at places values) k f.0));
    places_differ = carried_apart carried;
    none_is_lost = λ p declared behind there. none_lost carried p declared behind (there_value (element_now p) there);
  }
    where
      was_written : (k : Kept) → is_readable acts left k.place ≡ true → (Has kept k) ⊎ (Has (elements_at places values) k) → (2 ≤ k.place.stream) × (stream_element whole (stream_source acts input k.place) ≡ Some k.value)
      was_written k test (inl h) =
          let w = all_has (λ (k : Kept). (2 ≤ k.place.stream) × (stream_element earlier (stream_source before input k.place) ≡ Some k.value)) kept k carried.are_there h in
          (w.0, element_kept own_number earlier whole (earlier_extends before new input body state readers frames kept plan places epoch).kept (stream_source acts input k.place) k.value (element_more before new input earlier k.place k.value w.1))
      was_written k test (inr h) =
          let e = of_elements element_now places k (subst (λ (vs : List (Option Elem)). Has (elements_at places vs) k) values_are h) in
          let parts = and_parts (nat_le 2 k.place.stream) (nat_le (read_from acts left k.place.stream) k.place.position) test in
          let declared = parts.0 in
          let low : 2 ≤ k.place.stream = grind (arith, nat_tests) in
          (low, e.1)

  -- an element of the output that doesn't leave is what it was
  pub output_stays : (p : Place) → p.stream ≡ 1 → ¬ (Contains places p) → stream_element whole (stream_source acts input p) ≡ stream_element earlier (stream_source before input p)
  output_stays p one stays = by_producer (producer acts p.stream p.position) refl
    where
      other : p.stream ≢ 0
      other z = omega arith

      was_none : producer acts p.stream p.position ≡ None → (o : Option Window) → producer before p.stream p.position ≡ o → producer before p.stream p.position ≡ None
      was_none e None h = h
      was_none e (Some w) h = let z = producer_more before new p.stream p.position w h in absurd (cc)

      was_not : (w : Window) → producer acts p.stream p.position ≡ Some w → outcome_at earlier w.activation ≡ None → (o : Option Window) → producer before p.stream p.position ≡ o → stream_element earlier (stream_source before input p) ≡ None
      was_not w is e None h = ap (stream_element earlier) (produced_by_nobody before input p other h)
      was_not w is e (Some v) h =
          let one : v ≡ w = same_Some v w (sym (producer_more before new p.stream p.position v h) ∙ is) in
          ap (stream_element earlier) (produced_by before input p w other (h ∙ ap Some one)) ∙ ap (option_and_then (λ (q : Outcome). element_written w.activation q (w.offset + (p.position - w.first)))) e

      by_outcome : (w : Window) → producer acts p.stream p.position ≡ Some w → number_among frames w.activation ≡ None → (o : Option Outcome) → outcome_at earlier w.activation ≡ o → stream_element whole (stream_source acts input p) ≡ stream_element earlier (stream_source before input p)
      by_outcome w is n None e =
          ap (stream_element whole) (produced_by acts input p w other is)
          ∙ ap (option_and_then (λ (q : Outcome). element_written w.activation q (w.offset + (p.position - w.first)))) (outcome_before w.activation n ∙ e)
          ∙ sym (was_not w is e (producer before p.stream p.position) refl)
      by_outcome w is n (Some o) e =
          ap (stream_element whole) (produced_by acts input p w other is)
          ∙ ap (option_and_then (λ (q : Outcome). element_written w.activation q (w.offset + (p.position - w.first)))) (outcome_before w.activation n)
          ∙ sym (ap (stream_element earlier) (produced_by before input p w other (producer_less before new p.stream p.position w is (outcome_exists before input body w.activation o (epoch.part.agrees w.activation o e)))))

      by_number : (w : Window) → producer acts p.stream p.position ≡ Some w → (n : Option ℕ) → number_among frames w.activation ≡ n → stream_element whole (stream_source acts input p) ≡ stream_element earlier (stream_source before input p)
      by_number w is (Some f) n =
          let (i, at) = frame_leaves p w f is n (ap (λ (b : Bool). b || nat_le (read_from acts readers p.stream) p.position) (eq-eqb p.stream 1 one)) in
          absurd (stays (i, slice_get_within places i p at, get_or_from_slice_get places i p p at))
      by_number w is None n = by_outcome w is n (outcome_at earlier w.activation) refl

      by_producer : (o : Option Window) → producer acts p.stream p.position ≡ o → stream_element whole (stream_source acts input p) ≡ stream_element earlier (stream_source before input p)
      by_producer None e = ap (stream_element whole) (produced_by_nobody acts input p other e) ∙ sym (ap (stream_element earlier) (produced_by_nobody before input p other (was_none e (producer before p.stream p.position) refl)))
      by_producer (Some w) e = by_number w e (number_among frames w.activation) refl
