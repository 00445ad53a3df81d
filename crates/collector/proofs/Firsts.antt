-- That what is missing comes first, and that what is written is there.
use Rattle.std.proofs.Common.{◌≡◌, ℕ, ◌<◌, ◌⊎◌, inl, inr, Bool, true, false, All, List, Option, Some, None, length, map, refl, sym, ap, ◌∙◌, arith, zero-add, zero, suc, cond, not, [], ◌∷◌, find}
use Rattle.std.specs.Prelude.{slice_get, is_some}
use Rattle.std.specs.Option.{option_map}
use Rattle.std.proofs.lemmas.List.{length-map}
use Rattle.std.proofs.lemmas.List.FromFn.{get_or-map-range_with_len, length-map-range_with_len}
use Rattle.std.proofs.lemmas.Option.{same_Some, slice_get-map, slice_get-get_or, slice_get_within}
use Rattle.flow_core_laws.specs.declared.activation.Activation.{Activation}
use Rattle.flow_core_laws.specs.Place.{input_places, output_places, written_count}
use Rattle.flow_core_laws.specs.declared.elem.Elem.{Elem}
use Rattle.flow_core_laws.specs.declared.elem.Elem.TheVariants.{Value, Poison}
use Rattle.flow_core_laws.specs.declared.ends.Ends.{Ends}
use Rattle.flow_core_laws.specs.declared.place.Place.{Place}
use Rattle.flow_core_laws.specs.declared.task_end.TaskEnd.{TaskEnd}
use Rattle.flow_core_laws.specs.There.{is_there, missing_place}
use Rattle.collector.specs.declared.missing.Missing.{Missing}
use Rattle.collector.specs.Missing.{missing_at}
use Rattle.collector.specs.Laws.{IsLongestPrefix, IsWrittenOf, IsFirstMissing}
use Rattle.collector.specs.Reported.{AreOfState, is_poison, is_poisoned}
use Rattle.collector.specs.Written.{written}
use Rattle.collector.proofs.Prefixes.{longest_prefix}
use Rattle.std.proofs.lemmas.List.Elements.{All-cons, All-nil}

module _ {X : Type 0} (test : X → Bool) where
  none_in_rest : (x : X) (xs : List X) (b : Bool) → test x ≡ b → cond (not b) (Some x) (find (λ y. not (test y)) xs) ≡ None → (find (λ y. not (test y)) xs ≡ None → All (λ y. test y ≡ true) xs) → All (λ y. test y ≡ true) (x ∷ xs)
  none_in_rest x xs true e g rest = All-cons (λ y. test y ≡ true) x xs e (rest g)
  none_in_rest x xs false e g rest = absurd cc

  pub none_found : (xs : List X) → find (λ x. not (test x)) xs ≡ None → All (λ x. test x ≡ true) xs
  none_found [] h = All-nil (λ x. test x ≡ true)
  none_found (x ∷ xs) h = none_in_rest x xs (test x) refl h (none_found xs)

  -- one is found, with its number, behind others that pass
  pub record Found (xs : List X) (x : X) : Type 0 where
    pub number : ℕ
    pub stands : slice_get xs number ≡ Some x
    pub fails : test x ≡ false
    pub before : (j : ℕ) (y : X) → j < number → slice_get xs j ≡ Some y → test y ≡ true

  passed_before : (y : X) (ys : List X) (n : ℕ) → test y ≡ true → ((j : ℕ) (z : X) → j < n → slice_get ys j ≡ Some z → test z ≡ true) → (j : ℕ) (z : X) → j < suc n → slice_get (y ∷ ys) j ≡ Some z → test z ≡ true
  passed_before y ys n e earlier zero z lt at = ap test (sym (same_Some y z at)) ∙ e
  passed_before y ys n e earlier (suc j) z lt at = earlier j z (omega arith) at

  found_in_rest : (y : X) (ys : List X) (x : X) (b : Bool) → test y ≡ b → cond (not b) (Some y) (find (λ z. not (test z)) ys) ≡ Some x → (find (λ z. not (test z)) ys ≡ Some x → Found ys x) → Found (y ∷ ys) x
  found_in_rest y ys x true e g rest = let f = rest g in record { number = suc f.number; stands = f.stands; fails = f.fails; before = passed_before y ys f.number e f.before }
  found_in_rest y ys x false e g rest = let s = same_Some y x g in record { number = 0; stands = ap Some s; fails = ap test (sym s) ∙ e; before = λ j z lt at. absurd (omega arith) }

  pub one_found : (xs : List X) (x : X) → find (λ y. not (test y)) xs ≡ Some x → Found xs x
  one_found [] x h = absurd cc
  one_found (y ∷ ys) x h = found_in_rest y ys x (test y) refl h (one_found ys x)

pub missing_first : (activations : List Activation) (input_len : ℕ) (ends : List (Option TaskEnd)) (a : ℕ) → IsFirstMissing activations input_len ends a
missing_first activations input_len ends a = record { none = no_missing (missing_place activations input_len ends a) refl; first = a_missing (missing_place activations input_len ends a) refl }
  where
    no_missing : (o : Option Place) → missing_place activations input_len ends a ≡ o → option_map (missing_at activations) o ≡ None → All (λ (place : Place). is_there activations input_len ends place ≡ true) (input_places activations a)
    no_missing None is h = none_found (is_there activations input_len ends) (input_places activations a) is
    no_missing (Some place) is h = absurd cc

    a_missing : (o : Option Place) → missing_place activations input_len ends a ≡ o → (m : Missing) → option_map (missing_at activations) o ≡ Some m
        → (k : ℕ) × (place : Place) × (slice_get (input_places activations a) k ≡ Some place) × (m ≡ missing_at activations place) × (is_there activations input_len ends place ≡ false)
        × ((j : ℕ) (other : Place) → j < k → slice_get (input_places activations a) j ≡ Some other → is_there activations input_len ends other ≡ true)
    a_missing None is m h = absurd cc
    a_missing (Some place) is m h =
        let f = one_found (is_there activations input_len ends) (input_places activations a) place is in
        (f.number, place, f.stands, sym (same_Some (missing_at activations place) m h), f.fails, f.before)

-- ---- what is written

-- there is an element, or none, for each position of the output that is claimed
pub count_is : (activations : List Activation) (input_len : ℕ) (ends : Ends) → AreOfState activations input_len ends → length ends.output ≡ written_count activations 1
count_is activations input_len ends state = sym (length-map ends.output is_some) ∙ ap length state.output ∙ length-map (output_places activations) (is_there activations input_len ends.ends) ∙ length-map-range_with_len (λ position. record { stream = 1; position = position }) 0 (written_count activations 1)

-- what a test of elements says of the output, where it is a test of places
tested_at : (activations : List Activation) (output : List (Option Elem)) (test : Option Elem → Bool) (of_place : Place → Bool) → length output ≡ written_count activations 1 → map test output ≡ map of_place (output_places activations) → (k : ℕ) (o : Option Elem) → slice_get output k ≡ Some o
    → of_place (record { stream = 1; position = k }) ≡ test o
tested_at activations output test of_place count same k o at =
    let place : ℕ → Place = λ position. record { stream = 1; position = position } in
    let lt : k < written_count activations 1 = omega (arith, count, slice_get_within output k o at) in
    let stands : slice_get (output_places activations) k ≡ Some (place k) = slice_get-get_or (output_places activations) k (place k) (omega (arith, length-map-range_with_len place 0 (written_count activations 1))) ∙ ap Some (get_or-map-range_with_len place 0 (written_count activations 1) k k (place k) lt (zero-add k)) in
    let both : Some (test o) ≡ Some (of_place (place k)) = ap (option_map test) (sym at) ∙ sym (slice_get-map test output k) ∙ ap (λ bs. slice_get bs k) same ∙ slice_get-map of_place (output_places activations) k ∙ ap (option_map of_place) stands in
    sym (same_Some (test o) (of_place (place k)) both)

-- whether the element at a position of the output is there, and whether it is poison
pub output_there : (activations : List Activation) (input_len : ℕ) (ends : Ends) → AreOfState activations input_len ends → (k : ℕ) (o : Option Elem) → slice_get ends.output k ≡ Some o
    → is_there activations input_len ends.ends (record { stream = 1; position = k }) ≡ is_some o
output_there activations input_len ends state = tested_at activations ends.output is_some (is_there activations input_len ends.ends) (count_is activations input_len ends state) state.output

pub output_poisoned : (activations : List Activation) (input_len : ℕ) (ends : Ends) → AreOfState activations input_len ends → (k : ℕ) (o : Option Elem) → slice_get ends.output k ≡ Some o
    → is_poisoned activations ends.ends (record { stream = 1; position = k }) ≡ is_poison o
output_poisoned activations input_len ends state = tested_at activations ends.output is_poison (is_poisoned activations ends.ends) (count_is activations input_len ends state) state.poison

pub written_there : (activations : List Activation) (input_len : ℕ) (ends : Ends) → AreOfState activations input_len ends → IsWrittenOf activations input_len ends
written_there activations input_len ends state = record {
  there = λ k lt. let (value, at, byte) = prefix.has_values k lt in (output_there activations input_len ends state k (Some (Value value)) at, output_poisoned activations input_len ends state k (Some (Value value)) at);
  ends_at_a_gap = gap prefix.is_longest;
}
  where
    prefix : IsLongestPrefix ends.output (written ends.output)
    prefix = longest_prefix ends.output

    gap : (slice_get ends.output (length (written ends.output)) ≡ Some None) ⊎ ((root : ℕ) × (slice_get ends.output (length (written ends.output)) ≡ Some (Some (Poison root)))) ⊎ (length (written ends.output) ≡ length ends.output)
        → (is_there activations input_len ends.ends (record { stream = 1; position = length (written ends.output) }) ≡ false)
        ⊎ (is_poisoned activations ends.ends (record { stream = 1; position = length (written ends.output) }) ≡ true)
        ⊎ (length (written ends.output) ≡ written_count activations 1)
    gap (inl none) = inl (output_there activations input_len ends state (length (written ends.output)) None none)
    gap (inr (inl (root, is))) = inr (inl (output_poisoned activations input_len ends state (length (written ends.output)) (Some (Poison root)) is))
    gap (inr (inr whole)) = inr (inr (whole ∙ count_is activations input_len ends state))
