-- Activations that run apart from those before them: one more of them.
use Rattle.std.proofs.Common.{◌≡◌, ℕ, ◌+◌, ◌-◌, ◌<◌, ◌≤◌, zero, suc, List, [], ◌∷◌, ◌++◌, Option, Some, None, map, length, get_or, take, drop, IsSome, refl, sym, ap, ◌∙◌, subst, ◌⊎◌, inl, inr, arith}
use Rattle.std.specs.Prelude.{All, filter, sum_by}
use Rattle.std.proofs.lemmas.Bool.{cases_lt}
use Rattle.std.proofs.lemmas.Grind.{flat_map-append}
use Rattle.std.proofs.lemmas.List.{same_lists, get_or_default, get_or_append_left, get_or-append_right, get_or-drop, get_or-take, get_or_past, length-append, length-drop, length-map, length-take-le, drop-append-le, take-append-le, take-append-drop}
use Rattle.std.proofs.lemmas.List.Elements.{filter-append}
use Rattle.std.proofs.lemmas.List.FromFn.{length-map-range_with_len}
use Rattle.std.proofs.lemmas.List.Sums.{sum_by-append}
use Rattle.flow_core_laws.specs.declared.activation.Activation.{Activation}
use Rattle.flow_core_laws.specs.declared.claim.Claim.{Claim}
use Rattle.flow_core_laws.specs.declared.outcome.Outcome.{Outcome}
use Rattle.flow_core_laws.specs.declared.place.Place.{Place}
use Rattle.flow_core_laws.specs.FirstPosition.{is_write_to}
use Rattle.flow_core_laws.specs.Outcome.{State, outcome_at}
use Rattle.flow_core_laws.specs.Place.{places_from, written_count}
use Rattle.flow_core_laws.specs.Poisoning.{poisoning}
use Rattle.flow_core_laws.specs.Streams.{stream_element, stream_meaning, stream_source, own_number}
use Rattle.flow_core_laws.specs.Window.{claims_of, windows_of}
use Rattle.flow_core_laws.proofs.Elements.{element_kept}
use Rattle.flow_core_laws.proofs.Rounds.{Extends}
use Rattle.epoch_run_in_order_laws.specs.Apart.{HaveEndedFrom}
use Rattle.epoch_run_in_order_laws.specs.InOrder.{elements_on, written_to}
use Rattle.epoch_run_in_order_laws.specs.Laws.{GoesOnApart, WrittenGrow}
use Rattle.epoch_run_in_order_laws.proofs.Growing.{elements_grow}
use Rattle.epoch_run_in_order_laws.proofs.OneMore.{earlier_extends, length_earlier, length_whole, next_ends}

-- an outcome that is there from a number on
pub ended_at : (from : ℕ) (state : State) → HaveEndedFrom from state → (a : ℕ) → from ≤ a → a < length state → (o : Outcome) × (outcome_at state a ≡ Some o)
ended_at from state ended a le lt = by_outcome (outcome_at state a) refl (subst IsSome at (ended (a - from) None (omega (arith, length-drop from state))))
  where
    at : get_or (drop from state) (a - from) None ≡ outcome_at state a
    at = get_or-drop from state (a - from) None ∙ ap (outcome_at state) (let e : from + (a - from) ≡ a = omega arith in e)

    by_outcome : (o : Option Outcome) → outcome_at state a ≡ o → IsSome (outcome_at state a) → (o : Outcome) × (outcome_at state a ≡ Some o)
    by_outcome None e some = absurd (cc)
    by_outcome (Some o) e some = (o, e)

pub goes_on_apart : GoesOnApart
goes_on_apart from before next input body elements le ended there = same_lists (drop from whole) (drop from earlier ++ last ∷ []) len at
  where
    n : ℕ
    n = length before

    earlier : State
    earlier = stream_meaning before input body

    whole : State
    whole = stream_meaning (before ++ next ∷ []) input body

    last : Option Outcome
    last = Some (poisoning body n elements)

    size : length earlier ≡ n
    size = length_earlier before next input body

    size_whole : length whole ≡ n + 1
    size_whole = length_whole before next input body

    len : length (drop from whole) ≡ length (drop from earlier ++ last ∷ [])
    len = let a = length-drop from whole in let b = length-drop from earlier in let c = length-append (drop from earlier) (last ∷ []) in omega (arith, a, b, c, size, size_whole)

    at : (k : ℕ) (d : Option Outcome) → k < length (drop from whole) → get_or (drop from whole) k d ≡ get_or (drop from earlier ++ last ∷ []) k d
    at k d lt = by_order (cases_lt (from + k) n)
      where
        lt_whole : from + k < length whole
        lt_whole = let a = length-drop from whole in omega (arith, a, lt)

        by_order : (from + k < n) ⊎ (n ≤ from + k) → get_or (drop from whole) k d ≡ get_or (drop from earlier ++ last ∷ []) k d
        by_order (inl less) =
            let inside : from + k < length earlier = omega (arith, size, less) in
            let old = ended_at from earlier ended (from + k) (omega arith) inside in
            get_or-drop from whole k d
            ∙ get_or_default whole (from + k) d None lt_whole
            ∙ (earlier_extends before next input body).kept (from + k) old.0 old.1
            ∙ sym old.1
            ∙ get_or_default earlier (from + k) None d inside
            ∙ sym (get_or-drop from earlier k d)
            ∙ sym (get_or_append_left (drop from earlier) (last ∷ []) d k (let a = length-drop from earlier in omega (arith, a, inside)))
        by_order (inr more) =
            let e : from + k ≡ n = omega (arith, size_whole, lt_whole, more) in
            get_or-drop from whole k d
            ∙ get_or_default whole (from + k) d None lt_whole
            ∙ ap (outcome_at whole) e
            ∙ next_ends before next input body elements there
            ∙ sym (get_or-append_right (drop from earlier) (last ∷ []) (n - from) k d (length-drop from earlier ∙ ap (λ m. m - from) size) (omega (arith, e)) ∙ ap (λ m. get_or (last ∷ []) m d) (let z : k - (n - from) ≡ 0 = omega (arith, e) in z))

-- how many positions are claimed for writing never falls
pub written_more : (s : ℕ) (xs ys : List Activation) → written_count xs s ≤ written_count (xs ++ ys) s
written_more s xs ys =
    let joined = ap (λ cs. sum_by (λ (c : Claim). c.horizon) (filter (is_write_to s) cs)) (flat_map-append (λ (x : Activation). x.claims) xs ys) in
    let parts = ap (sum_by (λ (c : Claim). c.horizon)) (filter-append (is_write_to s) (claims_of xs) (claims_of ys)) in
    let sums = sum_by-append (λ (c : Claim). c.horizon) (filter (is_write_to s) (claims_of xs)) (filter (is_write_to s) (claims_of ys)) in
    omega (arith, joined, parts, sums)

pub written_within : (s n : ℕ) (xs : List Activation) → written_count (take n xs) s ≤ written_count xs s
written_within s n xs = subst (λ (ys : List Activation). written_count (take n xs) s ≤ written_count ys s) (take-append-drop n xs) (written_more s (take n xs) (drop n xs))

pub length-elements_on : (activations : List Activation) (input : List ℕ) (state : State) (s : ℕ) → length (elements_on activations input state s) ≡ written_count activations s
length-elements_on activations input state s = length-map (places_from s 0 (written_count activations s)) (λ (p : Place). stream_element state (stream_source activations input p)) ∙ length-map-range_with_len (λ position. record { stream = s; position = position }) 0 (written_count activations s)

-- what is there stays as it is where only more comes
module _ {A B : Type 0} (f g : A → Option B) (grows : (x : A) (v : B) → f x ≡ Some v → g x ≡ Some v) where
  same_all : (xs : List A) → All IsSome (map f xs) → map g xs ≡ map f xs
  same_all [] there = refl
  same_all (x ∷ xs) there = by_first (f x) refl (there 0 None (omega arith)) (same_all xs (λ k d lt. there (suc k) d (omega arith)))
    where
      by_first : (o : Option B) → f x ≡ o → IsSome (f x) → map g xs ≡ map f xs → g x ∷ map g xs ≡ f x ∷ map f xs
      by_first None e some rest = absurd (cc)
      by_first (Some v) e some rest = ap (λ o. o ∷ map g xs) (grows x v e ∙ sym e) ∙ ap (λ os. f x ∷ os) rest

  pub same_from : (n : ℕ) (xs : List A) → All IsSome (drop n (map f xs)) → drop n (map g xs) ≡ drop n (map f xs)
  same_from zero xs there = same_all xs there
  same_from (suc n) [] there = refl
  same_from (suc n) (x ∷ xs) there = same_from n xs there

pub written_grow : WrittenGrow
written_grow from before next input body outcome elements more firsts le ended hold size grows there = record {
  as_many = hold.as_many ∙ sym size;
  firsts_are = λ s lt. hold.firsts_are s (omega (arith, size)) ∙ ap (λ (ys : List Activation). written_count ys s) (sym (take-append-le from before (next ∷ []) le));
  are_theirs = theirs;
  are_there = λ s some lt. there s some (omega (arith, size));
}
  where
    n : ℕ
    n = length before

    acts : List Activation
    acts = before ++ next ∷ []

    earlier : State
    earlier = stream_meaning before input body

    whole : State
    whole = stream_meaning acts input body

    first_ones : State
    first_ones = take n whole

    size_whole : length whole ≡ n + 1
    size_whole = length_whole before next input body

    size_first : length first_ones ≡ n
    size_first = length-take-le n whole (omega (arith, size_whole))

    whole_is : whole ≡ first_ones ++ Some outcome ∷ []
    whole_is = same_lists whole (first_ones ++ Some outcome ∷ []) (size_whole ∙ sym (length-append first_ones (Some outcome ∷ []) ∙ ap (λ m. m + 1) size_first)) at
      where
        at : (k : ℕ) (d : Option Outcome) → k < length whole → get_or whole k d ≡ get_or (first_ones ++ Some outcome ∷ []) k d
        at k d lt = by_order (cases_lt k n)
          where
            by_order : (k < n) ⊎ (n ≤ k) → get_or whole k d ≡ get_or (first_ones ++ Some outcome ∷ []) k d
            by_order (inl less) = sym (get_or_append_left first_ones (Some outcome ∷ []) d k (omega (arith, size_first)) ∙ get_or-take n whole k d less)
            by_order (inr more) =
                let e : k ≡ n = omega (arith, size_whole) in
                get_or_default whole k d None lt
                ∙ ap (outcome_at whole) e
                ∙ ended
                ∙ sym (get_or-append_right first_ones (Some outcome ∷ []) n k d size_first more ∙ ap (λ m. get_or (Some outcome ∷ []) m d) (let z : k - n ≡ 0 = omega (arith, e) in z))

    extends : Extends earlier first_ones
    extends = record { kept = λ a o h. get_or-take n whole a None (inside a o h) ∙ (earlier_extends before next input body).kept a o h }
      where
        inside : (a : ℕ) (o : Outcome) → outcome_at earlier a ≡ Some o → a < n
        inside a o h = by_order (cases_lt a n)
          where
            by_order : (a < n) ⊎ (n ≤ a) → a < n
            by_order (inl less) = less
            by_order (inr more) = let none : outcome_at earlier a ≡ None = get_or_past earlier a None (omega (arith, length_earlier before next input body)) in absurd (cc)

    theirs : (s : ℕ) → 1 ≤ s → s < length more → get_or more s [] ≡ drop (get_or firsts s 0) (elements_on acts input whole s)
    theirs s some lt =
        let inside : s < length elements = omega (arith, size) in
        let first = get_or firsts s 0 in
        let old = elements_on before input first_ones s in
        let wrote = written_to n outcome (windows_of acts n) s in
        let same : drop first old ≡ drop first (elements_on before input earlier s) =
        same_from (λ (p : Place). stream_element earlier (stream_source before input p)) (λ (p : Place). stream_element first_ones (stream_source before input p))
        (λ p v h. element_kept own_number earlier first_ones extends.kept (stream_source before input p) v h) first (places_from s 0 (written_count before s))
        (subst (All IsSome) (hold.are_theirs s some inside) (hold.are_there s some inside)) in
        let within : first ≤ written_count before s = omega (arith, hold.firsts_are s inside, written_within s from before) in
        grows s some inside
        ∙ ap (λ xs. xs ++ wrote) (hold.are_theirs s some inside ∙ sym same)
        ∙ sym (drop-append-le first old wrote (omega (arith, within, length-elements_on before input first_ones s)))
        ∙ ap (drop first) (sym (elements_grow before next input first_ones outcome s some size_first) ∙ ap (λ st. elements_on acts input st s) (sym whole_is))
