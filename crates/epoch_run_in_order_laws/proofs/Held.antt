-- That what a run in control order holds is held between two epochs.
use Rattle.std.proofs.Common.{[], ◌≡◌, ℕ, zero, suc, ◌+◌, ◌-◌, ◌<◌, ◌≤◌, ℤ, List, ◌∷◌, ◌++◌, Option, Some, None, map, drop, length, refl, sym, ap, ◌∙◌, subst, arith, map-id}
use Rattle.std.specs.Prelude.{All, IsSome, is_some, slice_index, slice_index_or, ◌==◌}
use Rattle.std.specs.List.{range_with_len, flat_map}
use Rattle.std.proofs.lemmas.Bool.{and_parts, eqb-true}
use Rattle.std.proofs.lemmas.List.{drop-map, length-map}
use Rattle.std.proofs.lemmas.List.FromFn.{length-map-range_with_len}
use Rattle.std.proofs.lemmas.Simd.{map-map}
use Rattle.flow_core_laws.specs.declared.activation.Activation.{Activation}
use Rattle.flow_core_laws.specs.declared.claim.Claim.{Claim}
use Rattle.flow_core_laws.specs.declared.elem.Elem.{Elem}
use Rattle.flow_core_laws.specs.declared.outcome.Outcome.{Outcome}
use Rattle.flow_core_laws.specs.declared.place.Place.{Place}
use Rattle.flow_core_laws.specs.FirstPosition.{read_cursor}
use Rattle.flow_core_laws.specs.Outcome.{State, outcome_at, ends_of}
use Rattle.flow_core_laws.specs.Place.{places_from, output_places, written_count}
use Rattle.flow_core_laws.specs.Poisoning.{poisoning}
use Rattle.flow_core_laws.specs.Streams.{output_elements, stream_element, stream_meaning, stream_reads, stream_source}
use Rattle.flow_core_laws.specs.Window.{claims_of}
use Rattle.flow_core_laws.proofs.Rounds.{length-meaning}
use Rattle.flow_core_laws.proofs.Stretches.{flat_map-range-same}
use Rattle.flow_core_laws.proofs.Windows.{written}
use Rattle.flow_core_epochs.specs.Epoch.{IsCarried, IsHeld, Kept, elements_at, open_in, read_from, value_kept}
use Rattle.flow_core_epochs.proofs.Apart.{Apart, apart_elements, apart_flat_map, apart_range}
use Rattle.flow_core_epochs.proofs.Carried.{all_has, has_all, has_claim, is_producer, kept_there, there_produced, in_elements, of_elements, there_value}
use Rattle.flow_core_epochs.proofs.Frames.{open_each}
use Rattle.flow_core_epochs.proofs.Held.{written_within}
use Rattle.flow_core_epochs.proofs.Members.{Has, in_flat_map, in_map, in_range, of_flat_map, of_map, of_range}
use Rattle.flow_core_epochs.proofs.Reading.{read_from_least}
use Rattle.epoch_run_in_order_laws.specs.InOrder.{HaveAllEnded, HoldElements, elements_on, kept_in, kept_on}

-- a stretch of numbers without its first ones
drop_stretch : (n a m : ℕ) → drop n (range_with_len a m) ≡ range_with_len (a + n) (m - n)
drop_stretch zero a m = ap (λ k. range_with_len k m) (let e : a ≡ a + 0 = omega arith in e) ∙ ap (range_with_len (a + 0)) (let e : m ≡ m - 0 = omega arith in e)
drop_stretch (suc n) a zero = ap (range_with_len (a + suc n)) (let e : 0 ≡ 0 - suc n = omega arith in e)
drop_stretch (suc n) a (suc m) =
    drop_stretch n (a + 1) m
    ∙ ap (λ k. range_with_len k (m - n)) (let e : a + 1 + n ≡ a + suc n = omega arith in e)
    ∙ ap (range_with_len (a + suc n)) (let e : m - n ≡ suc m - suc n = omega arith in e)

-- the elements of a stream from a position on
pub elements_behind : (activations : List Activation) (input : List ℕ) (state : State) (stream first : ℕ) → drop first (elements_on activations input state stream) ≡ map (λ (p : Place). stream_element state (stream_source activations input p)) (places_from stream first (written_count activations stream - first))
elements_behind activations input state stream first =
    drop-map here first (places_from stream 0 count)
    ∙ ap (map here) (drop-map at first (range_with_len 0 count) ∙ ap (map at) (drop_stretch first 0 count ∙ ap (λ k. range_with_len k (count - first)) (let e : 0 + first ≡ first = omega arith in e)))
  where
    count : ℕ
    count = written_count activations stream

    at : ℕ → Place
    at position = record { stream = stream; position = position }

    here : Place → Option Elem
    here p = stream_element state (stream_source activations input p)

-- those of the output
pub elements_of_output : (activations : List Activation) (input : List ℕ) (state : State) → elements_on activations input state 1 ≡ output_elements activations input state
elements_of_output activations input state = sym (map-map (stream_element state) (stream_source activations input) (output_places activations))

-- the elements at joined places
elements_joined : (g : Place → Option Elem) (ps qs : List Place) → elements_at (ps ++ qs) (map g (ps ++ qs)) ≡ elements_at ps (map g ps) ++ elements_at qs (map g qs)
elements_joined g [] qs = refl
elements_joined g (p ∷ ps) qs = by_value (g p) (elements_joined g ps qs)
  where
    by_value : (o : Option Elem) → elements_at (ps ++ qs) (map g (ps ++ qs)) ≡ elements_at ps (map g ps) ++ elements_at qs (map g qs) → elements_at (p ∷ (ps ++ qs)) (o ∷ map g (ps ++ qs)) ≡ elements_at (p ∷ ps) (o ∷ map g ps) ++ elements_at qs (map g qs)
    by_value None rest = rest
    by_value (Some v) rest = ap (λ (ks : List Kept). record { place = p; value = v } ∷ ks) rest

elements_parts : (g : Place → Option Elem) (f : ℕ → List Place) (xs : List ℕ) → flat_map (λ s. elements_at (f s) (map g (f s))) xs ≡ elements_at (flat_map f xs) (map g (flat_map f xs))
elements_parts g f [] = refl
elements_parts g f (x ∷ xs) = ap (λ (ks : List Kept). elements_at (f x) (map g (f x)) ++ ks) (elements_parts g f xs) ∙ sym (elements_joined g (f x) (flat_map f xs))

-- what a run in control order keeps is what stands at the places of the declared streams from their first positions on
module _ (activations : List Activation) (input : List ℕ) (state : State) (elements : List (List (Option Elem))) (firsts : List ℕ) (hold : HoldElements activations input state elements firsts) where
  abbrev here : Place → Option Elem
  here p = stream_element state (stream_source activations input p)

  abbrev places_on : ℕ → List Place
  places_on stream = places_from stream (slice_index firsts stream) (written_count activations stream - slice_index firsts stream)

  abbrev streams : List ℕ
  streams = range_with_len 2 (length elements - 2)

  abbrev declared_places : List Place
  declared_places = flat_map places_on streams

  kept_by_stream : (stream : ℕ) → 2 ≤ stream → stream < 2 + (length elements - 2) → kept_on stream (slice_index firsts stream) (slice_index_or elements stream []) ≡ elements_at (places_on stream) (map here (places_on stream))
  kept_by_stream stream low high =
      let has = hold.has_output in
      let first = slice_index firsts stream in
      let are : slice_index_or elements stream [] ≡ map here (places_on stream) = hold.are_theirs stream (omega arith) (omega arith) ∙ elements_behind activations input state stream first in
      let many : length (slice_index_or elements stream []) ≡ written_count activations stream - first =
      ap length are ∙ length-map (places_on stream) here ∙ length-map-range_with_len (λ position. record { stream = stream; position = position }) first (written_count activations stream - first) in
      ap (λ n. elements_at (places_from stream first n) (slice_index_or elements stream [])) many ∙ ap (elements_at (places_on stream)) are

  kept_by_place : kept_in elements firsts ≡ elements_at declared_places (map here declared_places)
  kept_by_place =
      flat_map-range-same (λ stream. kept_on stream (slice_index firsts stream) (slice_index_or elements stream [])) (λ stream. elements_at (places_on stream) (map here (places_on stream))) 2 (length elements - 2) kept_by_stream
      ∙ elements_parts here places_on streams

  -- each is of its stream
  on_stream : (stream : ℕ) (p : Place) → Has (places_on stream) p → p.stream ≡ stream
  on_stream stream p h =
      let (n, at, same) = of_map (λ position. record { stream = stream; position = position }) (range_with_len (slice_index firsts stream) (written_count activations stream - slice_index firsts stream)) p h in
      sym (ap (λ (q : Place). q.stream) same)

  each_is_there : (k : Kept) → Has (elements_at declared_places (map here declared_places)) k → (2 ≤ k.place.stream) × (here k.place ≡ Some k.value)
  each_is_there k h =
      let e = of_elements here declared_places k h in
      let (stream, stream_in, there) = of_flat_map places_on streams k.place e.0 in
      let low = (of_range 2 (length elements - 2) stream stream_in).0 in
      let same = on_stream stream k.place there in
      (omega (arith, low, same), e.1)

  places_apart : Apart (λ p q. p ≡ q) declared_places
  places_apart = apart_flat_map (λ a b. a ≡ b) places_on streams streams_apart
      (λ stream h. apart_range (λ position. record { stream = stream; position = position }) (λ m n e. ap (λ (p : Place). p.position) e) (slice_index firsts stream) (written_count activations stream - slice_index firsts stream))
      (λ a b p a_in b_in p_in p_in'. sym (on_stream a p p_in) ∙ on_stream b p p_in')
    where
      streams_apart : Apart (λ a b. a ≡ b) streams
      streams_apart = subst (Apart (λ a b. a ≡ b)) (map-id streams) (apart_range (λ n. n) (λ m n e. e) 2 (length elements - 2))

  -- an element that may still be read stands at one of these places
  stands_declared : All (λ (c : Claim). c.stream < length elements) (claims_of activations) → (p : Place) (v : Elem) → 2 ≤ p.stream → read_cursor p.stream (claims_of activations) ≤ p.position → here p ≡ Some v → Has declared_places p
  stands_declared claimed p v low behind is =
      let (w, made, out) = there_produced activations input state p v (λ z. omega arith) is in
      let q = is_producer activations p.stream p.position w made in
      let x = written p.stream p.position w q.writes in
      let same : w.claim.stream ≡ p.stream = eqb-true w.claim.stream p.stream (and_parts w.claim.write (w.claim.stream == p.stream) x.on_stream).1 in
      let exists : w.claim.stream < length elements = all_has (λ (c : Claim). c.stream < length elements) (claims_of activations) w.claim claimed (has_claim activations w.activation w q.exists q.stands) in
      let high = written_within activations p.stream p.position w made in
      let first = hold.are_read_no_more p.stream (omega arith) in
      let count = written_count activations p.stream - slice_index firsts p.stream in
      in_flat_map places_on streams p.stream p (in_range 2 (length elements - 2) p.stream low (omega arith)) (in_map (λ position. record { stream = p.stream; position = position }) (range_with_len (slice_index firsts p.stream) count) p.position (in_range (slice_index firsts p.stream) count p.position (omega arith) (omega arith)))

  kept_carried : ((a : ℕ) → a < length activations → IsSome (outcome_at state a)) → All (λ (c : Claim). c.stream < length elements) (claims_of activations) → IsCarried activations input state (elements_at declared_places (map here declared_places))
  kept_carried ended claimed = record {
    are_there = has_all (λ (k : Kept). (2 ≤ k.place.stream) × (here k.place ≡ Some k.value)) (elements_at declared_places (map here declared_places)) each_is_there;
    places_differ = apart_elements here declared_places places_apart;
    none_is_lost = λ p low behind there. kept p low behind (there_value (here p) there);
  }
    where
      none_open : (a : ℕ) → Has (open_in state (length activations)) a → ⊥
      none_open a (f, at) = let o = open_each state (length activations) f a at in let lt = o.0 in let none = o.1 in let e = ended a lt in let z : is_some (outcome_at state a) ≡ is_some {T = Outcome} None = ap is_some none in cc

      from_cursor : (stream : ℕ) → read_cursor stream (claims_of activations) ≤ read_from activations (open_in state (length activations)) stream
      from_cursor stream = read_from_least (read_cursor stream (claims_of activations)) activations (open_in state (length activations)) stream (omega arith) (λ a w frame at reads. absurd (none_open a frame))

      kept : (p : Place) → 2 ≤ p.stream → read_from activations (open_in state (length activations)) p.stream ≤ p.position → (v : Elem) × (here p ≡ Some v) → IsSome (value_kept (elements_at declared_places (map here declared_places)) p)
      kept p low behind (v, is) =
          let cursor = from_cursor p.stream in
          kept_there (elements_at declared_places (map here declared_places)) (record { place = p; value = v }) p (in_elements here declared_places p v (stands_declared claimed p v low (omega arith) is) is) refl

pub held_in_order : (activations : List Activation) (input : List ℕ) (body : ℕ → List ℤ → Outcome) (elements : List (List (Option Elem))) (firsts : List ℕ) → HaveAllEnded (stream_meaning activations input body) → HoldElements activations input (stream_meaning activations input body) elements firsts → All (λ (c : Claim). c.stream < length elements) (claims_of activations)
    → IsHeld activations input body (ends_of (stream_meaning activations input body)) (kept_in elements firsts) (slice_index_or elements 1 [])
held_in_order activations input body elements firsts ended hold claimed = record {
  ends_are_meant = refl;
  kept_is_carried = subst (IsCarried activations input state) (sym (kept_by_place activations input state elements firsts hold)) (kept_carried activations input state elements firsts hold each_ended claimed);
  output_is_meant =
      (let has = hold.has_output in hold.are_theirs 1 (omega arith) (omega arith))
      ∙ ap (λ n. drop n (elements_on activations input state 1)) hold.output_is_whole
      ∙ elements_of_output activations input state;
}
  where
    state : State
    state = stream_meaning activations input body

    each_ended : (a : ℕ) → a < length activations → IsSome (outcome_at (stream_meaning activations input body) a)
    each_ended a lt = let l = length-meaning stream_element (stream_reads activations input) (poisoning body) (length activations) in ended a None (omega (arith, l))
