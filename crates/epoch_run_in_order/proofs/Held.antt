-- What streams hold, where the first elements of one of them are given up.
use Rattle.std.proofs.Common.{◌≡◌, ℕ, ◌<◌, ◌≤◌, List, [], ◌++◌, Option, length, get_or, set, take, drop, sym, ap, ◌∙◌, subst, ⊎_elim, arith}
use Rattle.std.specs.Prelude.{slice_set}
use Rattle.std.proofs.lemmas.Bool.{cases_eq}
use Rattle.std.proofs.lemmas.List.{get_or-set_other, get_or-set_same, length-map, length-set, take_at}
use Rattle.std.proofs.lemmas.List.FromFn.{length-map-range_with_len}
use Rattle.flow_core_laws.specs.declared.activation.Activation.{Activation}
use Rattle.flow_core_laws.specs.declared.elem.Elem.{Elem}
use Rattle.flow_core_laws.specs.declared.place.Place.{Place}
use Rattle.flow_core_laws.specs.FirstPosition.{read_cursor}
use Rattle.flow_core_laws.specs.Outcome.{State}
use Rattle.flow_core_laws.specs.Place.{places_from, written_count}
use Rattle.flow_core_laws.specs.Streams.{stream_element, stream_source}
use Rattle.flow_core_laws.specs.Window.{claims_of}
use Rattle.epoch_run_in_order_laws.specs.InOrder.{HoldElements, elements_on}

-- what holds of an element that was set and of the others holds of each
each_set : {A : Type 0} (P : ℕ → A → Type 0) (xs : List A) (i : ℕ) (a d : A) → i < length xs → P i a → (k : ℕ) → P k (get_or xs k d) → P k (get_or (set xs i a) k d)
each_set P xs i a d lt at k other = ⊎_elim same apart (cases_eq k i)
  where
    same : k ≡ i → P k (get_or (set xs i a) k d)
    same e = subst (λ (n : ℕ). P n (get_or (set xs i a) n d)) (sym e) (subst (P i) (sym (get_or-set_same xs i a d lt)) at)

    apart : (k ≡ i → ⊥) → P k (get_or (set xs i a) k d)
    apart n = subst (P k) (sym (get_or-set_other xs i k a d n)) other

module _ (activations : List Activation) (input : List ℕ) (state : State) (elements : List (List (Option Elem))) (firsts : List ℕ) (stream : ℕ) (list : List (Option Elem)) (first : ℕ) where
  -- where the elements of a stream are given up before a position that nobody reads, the streams hold what they have to
  pub hold_given_up : 2 ≤ stream → stream < length elements → list ≡ drop first (elements_on activations input state stream) → first ≤ written_count activations stream → first ≤ read_cursor stream (claims_of activations)
      → HoldElements activations input state elements firsts → HoldElements activations input state (slice_set elements stream list) (slice_set firsts stream first)
  hold_given_up declared exists is claimed read h = record {
    as_many = length-set firsts stream first ∙ h.as_many ∙ sym same_length;
    has_output = omega (arith, same_length, h.has_output);
    are_theirs = λ s low high. theirs s low (omega (arith, same_length));
    are_claimed = λ s high. each_set (λ n f. f ≤ written_count activations n) firsts stream first 0 has_first claimed s (h.are_claimed s (omega (arith, same_length)));
    are_read_no_more = λ s high. each_set (λ n f. f ≤ read_cursor n (claims_of activations)) firsts stream first 0 has_first read s (h.are_read_no_more s (omega (arith, same_length)));
    output_is_whole = get_or-set_other firsts stream 1 first 0 (λ e. omega arith) ∙ h.output_is_whole;
  }
    where
      same_length : length (set elements stream list) ≡ length elements
      same_length = length-set elements stream list

      has_first : stream < length firsts
      has_first = let m = h.as_many in omega arith

      theirs : (s : ℕ) → 1 ≤ s → s < length elements → get_or (set elements stream list) s [] ≡ drop (get_or (set firsts stream first) s 0) (elements_on activations input state s)
      theirs s low high = ⊎_elim same apart (cases_eq s stream)
        where
          same : s ≡ stream → get_or (set elements stream list) s [] ≡ drop (get_or (set firsts stream first) s 0) (elements_on activations input state s)
          same e = subst (λ (n : ℕ). get_or (set elements stream list) n [] ≡ drop (get_or (set firsts stream first) n 0) (elements_on activations input state n)) (sym e)
              (get_or-set_same elements stream list [] exists ∙ is ∙ ap (λ (n : ℕ). drop n (elements_on activations input state stream)) (sym (get_or-set_same firsts stream first 0 has_first)))

          apart : (s ≡ stream → ⊥) → get_or (set elements stream list) s [] ≡ drop (get_or (set firsts stream first) s 0) (elements_on activations input state s)
          apart n =
              get_or-set_other elements stream s list [] n
              ∙ h.are_theirs s low high
              ∙ ap (λ (k : ℕ). drop k (elements_on activations input state s)) (sym (get_or-set_other firsts stream s first 0 n))

-- the elements of a stream are as many as are claimed
pub length-elements_on : (activations : List Activation) (input : List ℕ) (state : State) (stream : ℕ) → length (elements_on activations input state stream) ≡ written_count activations stream
length-elements_on activations input state stream =
    length-map (places_from stream 0 (written_count activations stream)) (λ (p : Place). stream_element state (stream_source activations input p))
    ∙ length-map-range_with_len (λ position. record { stream = stream; position = position }) 0 (written_count activations stream)

-- a list whose loan ended with an element set
pub written_back : {A : Type 0} (xs ys : List A) (i : ℕ) (a : A) → ys ≡ xs → take (length xs) (slice_set ys i a ++ drop (length (slice_set ys i a)) xs) ≡ slice_set xs i a
written_back xs ys i a same =
    ap (λ zs. take (length xs) (slice_set zs i a ++ drop (length (slice_set zs i a)) xs)) same
    ∙ take_at (slice_set xs i a) (drop (length (slice_set xs i a)) xs) (length xs) (length-set xs i a)

pub hold_written_back : (activations : List Activation) (input : List ℕ) (state : State) (elements : List (List (Option Elem))) (firsts : List ℕ) (stream : ℕ) (list : List (Option Elem)) (first : ℕ) (lent : List (List (Option Elem))) (lent_firsts : List ℕ) → lent ≡ elements → lent_firsts ≡ firsts
    → HoldElements activations input state (slice_set elements stream list) (slice_set firsts stream first)
    → HoldElements activations input state (take (length elements) (slice_set lent stream list ++ drop (length (slice_set lent stream list)) elements)) (take (length firsts) (slice_set lent_firsts stream first ++ drop (length (slice_set lent_firsts stream first)) firsts))
hold_written_back activations input state elements firsts stream list first lent lent_firsts same same_firsts h =
    subst (λ (es : List (List (Option Elem))). HoldElements activations input state es (take (length firsts) (slice_set lent_firsts stream first ++ drop (length (slice_set lent_firsts stream first)) firsts))) (sym (written_back elements lent stream list same))
    (subst (λ (fs : List ℕ). HoldElements activations input state (slice_set elements stream list) fs) (sym (written_back firsts lent_firsts stream first same_firsts)) h)
