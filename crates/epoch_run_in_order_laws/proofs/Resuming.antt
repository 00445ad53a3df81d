-- That a run in control order goes on from what is held between two epochs.
use Rattle.std.proofs.Common.{[], ◌≡◌, ℕ, ◌-◌, ◌<◌, ◌≤◌, ℤ, List, ◌∷◌, Option, Some, None, map, min, drop, length, refl, sym, ap, ◌∙◌, subst, ◌⊎◌, inl, inr, arith}
use Rattle.std.specs.Prelude.{find, is_some, slice_index, slice_index_or, ◌==◌}
use Rattle.std.specs.Option.{option_map}
use Rattle.std.specs.List.{range_with_len}
use Rattle.std.proofs.lemmas.Bool.{and_parts, cases_lt, eqb-true}
use Rattle.flow_core_laws.specs.declared.activation.Activation.{Activation}
use Rattle.flow_core_laws.specs.declared.elem.Elem.{Elem}
use Rattle.flow_core_laws.specs.declared.outcome.Outcome.{Outcome}
use Rattle.flow_core_laws.specs.declared.place.Place.{Place}
use Rattle.flow_core_laws.specs.declared.task_end.TaskEnd.{TaskEnd}
use Rattle.flow_core_laws.specs.FirstPosition.{read_cursor}
use Rattle.flow_core_laws.specs.Outcome.{State}
use Rattle.flow_core_laws.specs.Place.{places_from, written_count}
use Rattle.flow_core_laws.specs.Streams.{stream_element, stream_meaning, stream_source}
use Rattle.flow_core_laws.specs.Window.{claims_of}
use Rattle.flow_core_laws.proofs.Sources.{find_passes}
use Rattle.flow_core_epochs.specs.Epoch.{IsCarried, IsHeld, Kept, is_at, open_in, value_kept}
use Rattle.flow_core_epochs.proofs.Carried.{all_has}
use Rattle.flow_core_epochs.proofs.Members.{Has, has_head, has_tail, of_map, of_range}
use Rattle.flow_core_epochs.proofs.Reading.{read_from_cursor}
use Rattle.epoch_run_in_order_laws.specs.InOrder.{HoldElements, elements_on}
use Rattle.epoch_run_in_order_laws.proofs.Held.{elements_behind, elements_of_output}

-- functions that agree on a list
map_agree : {A B : Type 0} (f g : A → B) (xs : List A) → ((x : A) → Has xs x → f x ≡ g x) → map f xs ≡ map g xs
map_agree f g [] agree = refl
map_agree f g (x ∷ xs) agree = ap (λ y. y ∷ map f xs) (agree x (has_head x xs)) ∙ ap (λ ys. g x ∷ ys) (map_agree f g xs (λ y h. agree y (has_tail x xs y h)))

module _ (activations : List Activation) (input : List ℕ) (state : State) (kept : List Kept) (carried : IsCarried activations input state kept) where
  abbrev here : Place → Option Elem
  here p = stream_element state (stream_source activations input p)

  -- what is found for a place is there
  found_is_there : (p : Place) (v : Elem) → value_kept kept p ≡ Some v → here p ≡ Some v
  found_is_there p v h = by_found (find (is_at p) kept) refl h
    where
      by_found : (o : Option Kept) → find (is_at p) kept ≡ o → option_map (λ (k : Kept). k.value) o ≡ Some v → here p ≡ Some v
      by_found None found is = absurd (cc)
      by_found (Some k) found is =
          let (i, at, passes) = find_passes (is_at p) kept k found in
          let parts = and_parts (k.place.stream == p.stream) (k.place.position == p.position) passes in
          let same : k.place ≡ p =
          ap (λ (n : ℕ). record { stream = n; position = k.place.position }) (eqb-true k.place.stream p.stream parts.0)
          ∙ ap (λ (n : ℕ). record { stream = p.stream; position = n }) (eqb-true k.place.position p.position parts.1) in
          let there = all_has (λ (k : Kept). (2 ≤ k.place.stream) × (here k.place ≡ Some k.value)) kept k carried.are_there (i, at) in
          sym (ap here same) ∙ there.1 ∙ is

  -- from the read cursor on what is kept is all that is there
  kept_from_cursor : (p : Place) → 2 ≤ p.stream → read_cursor p.stream (claims_of activations) ≤ p.position → value_kept kept p ≡ here p
  kept_from_cursor p low behind = by_value (value_kept kept p) refl (here p) refl
    where
      by_value : (o : Option Elem) → value_kept kept p ≡ o → (e : Option Elem) → here p ≡ e → value_kept kept p ≡ here p
      by_value (Some v) found e there = found ∙ sym (found_is_there p v found)
      by_value None found None there = found ∙ sym there
      by_value None found (Some v) there =
          let cursor = read_from_cursor activations (open_in state (length activations)) p.stream in
          let z = carried.none_is_lost p low (omega arith) (ap is_some there) in
          let n : is_some (value_kept kept p) ≡ is_some {T = Elem} None = ap is_some found in
          absurd (cc)

  -- so a declared stream holds its elements from there on, as far as it is claimed for writing
  stream_from_held : (stream first : ℕ) → 2 ≤ stream → first ≡ min (read_cursor stream (claims_of activations)) (written_count activations stream)
      → map (value_kept kept) (places_from stream first (written_count activations stream - first)) ≡ drop first (elements_on activations input state stream)
  stream_from_held stream first low is =
      map_agree (value_kept kept) here (places_from stream first count) each ∙ sym (elements_behind activations input state stream first)
    where
      count : ℕ
      count = written_count activations stream - first

      each : (p : Place) → Has (places_from stream first (written_count activations stream - first)) p → value_kept kept p ≡ here p
      each p h =
          let (n, at, same) = of_map (λ position. record { stream = stream; position = position }) (range_with_len first (written_count activations stream - first)) p h in
          let r = of_range first (written_count activations stream - first) n at in
          let from = r.0 in
          let to = r.1 in
          subst (λ (q : Place). value_kept kept q ≡ here q) same (kept_from_cursor (record { stream = stream; position = n }) low (omega arith))

pub runs_on_from_held : (activations : List Activation) (input : List ℕ) (body : ℕ → List ℤ → Outcome) (ends : List (Option TaskEnd)) (kept : List Kept) (output : List (Option Elem)) (elements : List (List (Option Elem))) (firsts : List ℕ) → IsHeld activations input body ends kept output
    → length firsts ≡ length elements → 2 ≤ length elements → slice_index_or elements 1 [] ≡ output → slice_index firsts 1 ≡ 0 → slice_index firsts 0 ≡ 0
    → ((stream : ℕ) → 2 ≤ stream → stream < length elements → slice_index firsts stream ≡ min (read_cursor stream (claims_of activations)) (written_count activations stream))
    → ((stream : ℕ) → 2 ≤ stream → stream < length elements → slice_index_or elements stream [] ≡ map (value_kept kept) (places_from stream (slice_index firsts stream) (written_count activations stream - slice_index firsts stream)))
    → HoldElements activations input (stream_meaning activations input body) elements firsts
runs_on_from_held activations input body ends kept output elements firsts held as_many has_output is_output of_output of_input by_cursor are_kept = record {
  as_many = as_many;
  has_output = has_output;
  are_theirs = λ stream other high. theirs stream other high (cases_lt stream 2);
  are_claimed = λ stream high. claimed stream high (cases_lt stream 2);
  are_read_no_more = λ stream high. read_no_more stream high (cases_lt stream 2);
  output_is_whole = of_output;
}
  where
    state : State
    state = stream_meaning activations input body

    AreTheirs : ℕ → Type 0
    AreTheirs stream = slice_index_or elements stream [] ≡ drop (slice_index firsts stream) (elements_on activations input state stream)

    theirs_of_output : AreTheirs 1
    theirs_of_output = is_output ∙ held.output_is_meant ∙ sym (elements_of_output activations input state) ∙ sym (ap (λ n. drop n (elements_on activations input state 1)) of_output)

    theirs : (stream : ℕ) → 1 ≤ stream → stream < length elements → (stream < 2) ⊎ (2 ≤ stream) → slice_index_or elements stream [] ≡ drop (slice_index firsts stream) (elements_on activations input (stream_meaning activations input body) stream)
    theirs stream other high (inl lt) = subst AreTheirs (let e : 1 ≡ stream = omega arith in e) theirs_of_output
    theirs stream other high (inr low) = are_kept stream low high ∙ stream_from_held activations input state kept held.kept_is_carried stream (slice_index firsts stream) low (by_cursor stream low high)

    -- the input and the output are held from their first positions on
    first_of_these : (stream : ℕ) → stream < 2 → slice_index firsts stream ≡ 0
    first_of_these stream lt = by_stream (cases_lt stream 1)
      where
        by_stream : (stream < 1) ⊎ (1 ≤ stream) → slice_index firsts stream ≡ 0
        by_stream (inl none) = ap (slice_index firsts) (let e : stream ≡ 0 = omega arith in e) ∙ of_input
        by_stream (inr one) = ap (slice_index firsts) (let e : stream ≡ 1 = omega arith in e) ∙ of_output

    claimed : (stream : ℕ) → stream < length elements → (stream < 2) ⊎ (2 ≤ stream) → slice_index firsts stream ≤ written_count activations stream
    claimed stream high (inl lt) = omega (arith, first_of_these stream lt)
    claimed stream high (inr low) = omega (arith, by_cursor stream low high)

    read_no_more : (stream : ℕ) → stream < length elements → (stream < 2) ⊎ (2 ≤ stream) → slice_index firsts stream ≤ read_cursor stream (claims_of activations)
    read_no_more stream high (inl lt) = omega (arith, first_of_these stream lt)
    read_no_more stream high (inr low) = omega (arith, by_cursor stream low high)
