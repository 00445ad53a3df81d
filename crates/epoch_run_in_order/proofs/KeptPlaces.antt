-- Elements that are put where what is kept says.
use Rattle.std.proofs.Common.{◌≡◌, ◌≢◌, ℕ, zero, suc, ◌+◌, ◌-◌, ◌<◌, ◌≤◌, ◌∷◌, [], List, Option, None, Some, Bool, true, false, cond, ◌⊎◌, inl, inr}
use Rattle.std.proofs.Common.{length, get_or, set, map, replicate, refl, sym, ap, ◌∙◌, subst, arith}
use Rattle.std.specs.Option.{option_map}
use Rattle.std.specs.Prelude.{find, ◌==◌, ◌&&◌}
use Rattle.std.proofs.lemmas.Bool.{cases_eq, cases_lt, eq-eqb, le-leb, le-ltb, lt-leb, lt-ltb, ne_eqb}
use Rattle.std.proofs.lemmas.List.{get_or-set_other, get_or-set_same, length-set}
use Rattle.flow_core_epochs.specs.Epoch.{Kept, is_at, value_kept}
use Rattle.flow_core_laws.specs.Place.{places_from}
use Rattle.flow_core_laws.specs.declared.elem.Elem.{Elem}
use Rattle.flow_core_laws.specs.declared.place.Place.{Place}
use Rattle.epoch_run_in_order.specs.Behind.{with_all_kept, with_element, with_kept}

abbrev place : ℕ → ℕ → Place
place stream position = record { stream = stream; position = position }

-- what is kept for a place with one more in front
abbrev first_or : Bool → Kept → List Kept → Place → Option Elem
first_or b k kept p = option_map (λ (k : Kept). k.value) (cond b (Some k) (find (is_at p) kept))

is_kept : (k : Kept) (kept : List Kept) (p : Place) → is_at p k ≡ true → value_kept (k ∷ kept) p ≡ Some k.value
is_kept k kept p is = ap (λ b. first_or b k kept p) is

is_other : (k : Kept) (kept : List Kept) (p : Place) → is_at p k ≡ false → value_kept (k ∷ kept) p ≡ value_kept kept p
is_other k kept p is = ap (λ b. first_or b k kept p) is

-- places of another one
others : (k : Kept) (kept : List Kept) (s f n : ℕ) → ((i : ℕ) → f ≤ i → is_at (place s i) k ≡ false)
    → map (value_kept (k ∷ kept)) (places_from s f n) ≡ map (value_kept kept) (places_from s f n)
others k kept s f zero other = refl
others k kept s f (suc n) other =
    ap (λ v. v ∷ map (value_kept (k ∷ kept)) (places_from s (f + 1) n)) (is_other k kept (place s f) (other f (omega arith)))
    ∙ ap (λ vs. value_kept kept (place s f) ∷ vs) (others k kept s (f + 1) n (λ i low. other i (omega arith)))

-- another position, or another stream
at_other_position : (k : Kept) (s i : ℕ) → k.place.position ≢ i → is_at (place s i) k ≡ false
at_other_position k s i differs = by (k.place.stream == s)
  where
    by : (b : Bool) → (b && (k.place.position == i)) ≡ false
    by true = ne_eqb k.place.position i differs
    by false = refl

at_other_stream : (k : Kept) (s i : ℕ) → k.place.stream ≢ s → is_at (place s i) k ≡ false
at_other_stream k s i differs = ap (λ b. b && (k.place.position == i)) (ne_eqb k.place.stream s differs)

-- its own place
at_place : (k : Kept) (i : ℕ) → k.place.position ≡ i → is_at (place k.place.stream i) k ≡ true
at_place k i same = ap (λ b. b && (k.place.position == i)) (eq-eqb k.place.stream k.place.stream refl) ∙ eq-eqb k.place.position i same

-- one more that is kept, among places of its stream
one_put : (k : Kept) (kept : List Kept) (f n : ℕ) → f ≤ k.place.position
    → set (map (value_kept kept) (places_from k.place.stream f n)) (k.place.position - f) (Some k.value) ≡ map (value_kept (k ∷ kept))
    (places_from k.place.stream f n)
one_put k kept f zero low = refl
one_put k kept f (suc n) low = by (cases_lt f k.place.position) (λ later. one_put k kept (f + 1) n (omega arith))
  where
    s : ℕ
    s = k.place.stream

    rest : List (Option Elem)
    rest = map (value_kept kept) (places_from s (f + 1) n)

    all : List (Option Elem)
    all = map (value_kept (k ∷ kept)) (places_from s (f + 1) n)

    by : (f < k.place.position) ⊎ (k.place.position ≤ f) → (f < k.place.position → set rest (k.place.position - (f + 1)) (Some k.value) ≡ all)
        → set (value_kept kept (place s f) ∷ rest) (k.place.position - f) (Some k.value) ≡ value_kept (k ∷ kept) (place s f) ∷ all
    by (inl later) put =
        ap (λ i. set (value_kept kept (place s f) ∷ rest) i (Some k.value)) (let e : k.place.position - f ≡ suc (k.place.position - (f + 1)) = omega arith in e)
        ∙ ap (λ vs. value_kept kept (place s f) ∷ vs) (put later)
        ∙ ap (λ v. v ∷ all) (sym (is_other k kept (place s f) (at_other_position k s f (λ e. absurd (omega arith)))))
    by (inr here) put =
        ap (λ i. set (value_kept kept (place s f) ∷ rest) i (Some k.value)) (let e : k.place.position - f ≡ 0 = omega arith in e)
        ∙ ap (λ v. v ∷ rest) (sym (is_kept k kept (place s f) (at_place k f (omega arith))))
        ∙ ap (λ vs. value_kept (k ∷ kept) (place s f) ∷ vs) (sym (others k kept s (f + 1) n (λ i low. at_other_position k s i (λ e. absurd (omega arith)))))

-- none that is kept
pub none_kept : (s f n : ℕ) → replicate n None ≡ map (value_kept []) (places_from s f n)
none_kept s f zero = refl
none_kept s f (suc n) = ap (λ vs. None ∷ vs) (none_kept s (f + 1) n)

-- one more that is kept, put into its stream
element_put : (k : Kept) (kept : List Kept) (f n : ℕ) (elements : List (Option Elem)) → elements ≡ map (value_kept kept) (places_from k.place.stream f n)
    → with_element f elements k.place.position k.value ≡ map (value_kept (k ∷ kept)) (places_from k.place.stream f n)
element_put k kept f n elements is = by (cases_lt k.place.position f)
  where
    by : (k.place.position < f) ⊎ (f ≤ k.place.position) → with_element f elements k.place.position k.value ≡ map (value_kept (k ∷ kept))
        (places_from k.place.stream f n)
    by (inl before) =
        ap (λ b. cond b (set elements (k.place.position - f) (Some k.value)) elements) (lt-leb f k.place.position before)
        ∙ is
        ∙ sym (others k kept k.place.stream f n (λ i low. at_other_position k k.place.stream i (λ e. absurd (omega arith))))
    by (inr behind) =
        ap (λ b. cond b (set elements (k.place.position - f) (Some k.value)) elements) (le-leb f k.place.position behind)
        ∙ ap (λ vs. set vs (k.place.position - f) (Some k.value)) is
        ∙ one_put k kept f n behind

-- Of `n` streams each declared one holds what is kept of it from its first position on, as many positions as `counts` says, and the output its elements.
pub record HoldKept (n : ℕ) (firsts : List ℕ) (counts : ℕ → ℕ) (output : List (Option Elem)) (elements : List (List (Option Elem)))
    (kept : List Kept) : Type 0 where
  pub as_many : length elements ≡ n
  pub output_is : get_or elements 1 [] ≡ output
  pub are_kept : (stream : ℕ) → 2 ≤ stream → stream < n → get_or elements stream [] ≡ map (value_kept kept) (places_from stream
      (get_or firsts stream 0) (counts stream))

-- with one more
hold_more : (n : ℕ) (firsts : List ℕ) (counts : ℕ → ℕ) (output : List (Option Elem)) (elements : List (List (Option Elem))) (k : Kept) (kept : List Kept)
    → HoldKept n firsts counts output elements kept → HoldKept n firsts counts output (with_kept firsts elements k) (k ∷ kept)
hold_more n firsts counts output elements k kept hold = by (cases_lt k.place.stream 2)
  where
    at : ℕ
    at = k.place.stream

    first : ℕ
    first = get_or firsts at 0

    new : List (Option Elem)
    new = with_element first (get_or elements at []) k.place.position k.value

    elsewhere : (stream : ℕ) → at ≢ stream → 2 ≤ stream → stream < n
        → get_or elements stream [] ≡ map (value_kept (k ∷ kept)) (places_from stream (get_or firsts stream 0) (counts stream))
    elsewhere stream differs low lt =
        hold.are_kept stream low lt
        ∙ sym (others k kept stream (get_or firsts stream 0) (counts stream) (λ i _. at_other_stream k stream i differs))

    put : 2 ≤ at → HoldKept n firsts counts output (set elements at new) (k ∷ kept)
    put declared = record {
      as_many = length-set elements at new ∙ hold.as_many;
      output_is = get_or-set_other elements at 1 new [] (λ e. absurd (omega arith)) ∙ hold.output_is;
      are_kept = λ stream low lt. on stream low lt (cases_eq stream at);
    }
      where
        on : (stream : ℕ) → 2 ≤ stream → stream < n → (stream ≡ at) ⊎ (stream ≡ at → ⊥)
            → get_or (set elements at new) stream [] ≡ map (value_kept (k ∷ kept)) (places_from stream (get_or firsts stream 0) (counts stream))
        on stream low lt (inr other) = get_or-set_other elements at stream new [] other ∙ elsewhere stream (λ e. other (sym e)) low lt
        on stream low lt (inl same) =
            subst (λ s. get_or (set elements at new) s [] ≡ map (value_kept (k ∷ kept)) (places_from s (get_or firsts s 0) (counts s))) (sym same)
            (get_or-set_same elements at new [] (omega (arith, hold.as_many))
            ∙ element_put k kept first (counts at) (get_or elements at []) (hold.are_kept at declared (omega arith)))

    by : (at < 2) ⊎ (2 ≤ at) → HoldKept n firsts counts output (with_kept firsts elements k) (k ∷ kept)
    by (inl other) =
        subst (λ es. HoldKept n firsts counts output es (k ∷ kept)) (sym (ap (λ b. cond b elements (set elements at new)) (lt-ltb at 2 other)))
        (record {
          as_many = hold.as_many;
          output_is = hold.output_is;
          are_kept = λ stream low lt. elsewhere stream (λ e. absurd (omega arith)) low lt;
        })
    by (inr declared) =
        subst (λ es. HoldKept n firsts counts output es (k ∷ kept)) (sym (ap (λ b. cond b elements (set elements at new)) (le-ltb at 2 declared)))
        (put declared)

-- and with all
pub hold_all : (n : ℕ) (firsts : List ℕ) (counts : ℕ → ℕ) (output : List (Option Elem)) (elements : List (List (Option Elem))) (kept : List Kept)
    → HoldKept n firsts counts output elements [] → HoldKept n firsts counts output (with_all_kept firsts elements kept) kept
hold_all n firsts counts output elements [] hold = hold
hold_all n firsts counts output elements (k ∷ kept) hold = hold_more n firsts counts output (with_all_kept firsts elements kept) k kept
    (hold_all n firsts counts output elements kept hold)
