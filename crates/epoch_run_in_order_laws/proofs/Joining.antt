-- Putting activations that ran apart behind those before them, once these have all ended.
use Rattle.std.proofs.Common.{◌≡◌, ℕ, ◌+◌, ◌-◌, ◌<◌, ◌≤◌, suc, List, [], ◌∷◌, ◌++◌, Option, Some, None, length, get_or, take, drop, IsSome, refl, rules, sym, ap, ◌∙◌, subst, ◌⊎◌, inl, inr, arith}
use Rattle.std.specs.Prelude.{All}
use Rattle.std.specs.Option.{option_map}
use Rattle.std.proofs.lemmas.Bool.{cases_lt}
use Rattle.std.proofs.lemmas.List.{same_lists, append-nil, append_assoc, get_or_default, get_or_append_left, get_or-append_right, get_or-drop, length-append, length-drop, drop-append-le, drop-drop, take-append-le, take-append-drop, take-take, take_all, drop-map, map-append}
use Rattle.flow_core_laws.specs.declared.activation.Activation.{Activation}
use Rattle.flow_core_laws.specs.declared.outcome.Outcome.{Outcome}
use Rattle.flow_core_laws.specs.Outcome.{State, ends_of, outcome_at}
use Rattle.flow_core_laws.specs.FirstPosition.{read_cursor}
use Rattle.flow_core_laws.specs.Place.{written_count}
use Rattle.flow_core_laws.specs.Poisoning.{poisoning}
use Rattle.flow_core_laws.specs.Streams.{stream_element, stream_meaning, stream_reads}
use Rattle.flow_core_laws.specs.Window.{claims_of}
use Rattle.flow_core_laws.proofs.Rounds.{Extends, length-meaning}
use Rattle.flow_core_epochs.proofs.Prefixes.{prefix_extends}
use Rattle.flow_core_epochs.proofs.Reading.{cursor_grows}
use Rattle.epoch_run_in_order_laws.specs.InOrder.{HaveAllEnded, elements_on}
use Rattle.epoch_run_in_order_laws.specs.Laws.{Join}
use Rattle.epoch_run_in_order_laws.proofs.Apart.{ended_at, length-elements_on, written_more, written_within}
use Rattle.epoch_run_in_order_laws.proofs.Growing.{elements_grow}

abbrev read_of : List Activation → ℕ → ℕ
read_of activations s = read_cursor s (claims_of activations)

-- The first elements of a stream are those of the first activations.
pub elements_prefix : (later : List Activation) (first_ones : List Activation) (input : List ℕ) (state rest : State) (s : ℕ) → 1 ≤ s → length state ≡ length first_ones → length rest ≡ length later → All IsSome rest
    → take (written_count first_ones s) (elements_on (first_ones ++ later) input (state ++ rest) s) ≡ elements_on first_ones input state s
elements_prefix [] first_ones input state [] s some size same ended =
    ap (λ (xs : List Activation). take (written_count first_ones s) (elements_on xs input (state ++ []) s)) (append-nil first_ones)
    ∙ ap (λ (st : State). take (written_count first_ones s) (elements_on first_ones input st s)) (append-nil state)
    ∙ take_all (written_count first_ones s) (elements_on first_ones input state s) (omega (arith, length-elements_on first_ones input state s))
elements_prefix [] first_ones input state (o ∷ rest) s some size same ended = absurd (omega arith)
elements_prefix (x ∷ later) first_ones input state [] s some size same ended = absurd (omega arith)
elements_prefix (x ∷ later) first_ones input state (o ∷ rest) s some size same ended = by_outcome o refl (ended 0 None (omega arith))
    (elements_prefix later (first_ones ++ x ∷ []) input (state ++ o ∷ []) rest s some (let a = length-append state (o ∷ []) in let b = length-append first_ones (x ∷ []) in omega (arith, a, b, size)) (omega arith) (λ k d lt. ended (suc k) d (omega arith)))
  where
    Goal : Type 0
    Goal = take (written_count first_ones s) (elements_on (first_ones ++ x ∷ later) input (state ++ o ∷ rest) s) ≡ elements_on first_ones input state s

    Rest : Type 0
    Rest = take (written_count (first_ones ++ x ∷ []) s) (elements_on ((first_ones ++ x ∷ []) ++ later) input ((state ++ o ∷ []) ++ rest) s) ≡ elements_on (first_ones ++ x ∷ []) input (state ++ o ∷ []) s

    by_outcome : (p : Option Outcome) → o ≡ p → IsSome o → Rest → Goal
    by_outcome None e there rest_of = absurd (cc)
    by_outcome (Some q) e there rest_of =
        let c = written_count first_ones s in
        let more = written_count (first_ones ++ x ∷ []) s in
        let all = elements_on (first_ones ++ x ∷ later) input (state ++ o ∷ rest) s in
        let grown = elements_on (first_ones ++ x ∷ []) input (state ++ o ∷ []) s in
        let old = elements_on first_ones input state s in
        let one : take more all ≡ grown =
        ap (λ (xs : List Activation). take more (elements_on xs input (state ++ o ∷ rest) s)) (sym (append_assoc first_ones (x ∷ []) later))
        ∙ ap (λ (st : State). take more (elements_on ((first_ones ++ x ∷ []) ++ later) input st s)) (sym (append_assoc state (o ∷ []) rest))
        ∙ rest_of in
        let grows : grown ≡ old ++ _ = ap (λ (p : Option Outcome). elements_on (first_ones ++ x ∷ []) input (state ++ p ∷ []) s) e ∙ elements_grow first_ones x input state q s some size in
        let len = length-elements_on first_ones input state s in
        sym (take-take c more all (written_more s first_ones (x ∷ [])))
        ∙ ap (take c) (one ∙ grows)
        ∙ take-append-le c old _ (omega (arith, len))
        ∙ take_all c old (omega (arith, len))

pub join : Join
join from first_ones activations input body elements written joined firsts firsts_written are_first le ended hold ended_apart hold_apart size_written size_joined joins = record {
  have_ended = all_ended;
  ends_are = ap ends_of whole_is ∙ map-append (option_map (λ (q : Outcome). q.end)) earlier (drop m whole) ∙ ap (λ es. ends_of earlier ++ es) (sym (drop-map (option_map (λ (q : Outcome). q.end)) m whole));
  hold = record {
    as_many = hold.as_many ∙ sym size_joined;
    has_output = omega (arith, hold.has_output, size_joined);
    are_theirs = theirs;
    are_claimed = λ s lt. omega (arith, hold.are_claimed s (omega (arith, size_joined)), within s);
    are_read_no_more = λ s lt. omega (arith, hold.are_read_no_more s (omega (arith, size_joined)), reads s);
    output_is_whole = hold.output_is_whole;
  };
}
  where
    m : ℕ
    m = length first_ones

    later : List Activation
    later = drop m activations

    all_is : activations ≡ first_ones ++ later
    all_is = sym (take-append-drop m activations) ∙ ap (λ (xs : List Activation). xs ++ later) (sym are_first)

    earlier : State
    earlier = stream_meaning first_ones input body

    whole : State
    whole = stream_meaning activations input body

    size_earlier : length earlier ≡ m
    size_earlier = length-meaning stream_element (stream_reads first_ones input) (poisoning body) m

    size_whole : length whole ≡ length activations
    size_whole = length-meaning stream_element (stream_reads activations input) (poisoning body) (length activations)

    size_all : length activations ≡ m + length later
    size_all = ap length all_is ∙ length-append first_ones later

    extends : Extends earlier whole
    extends = subst (λ (xs : List Activation). Extends earlier (stream_meaning xs input body)) (sym all_is) (prefix_extends first_ones later input body)

    all_ended : HaveAllEnded whole
    all_ended k d lt = subst IsSome (get_or_default whole k None d lt) (by_order (cases_lt k m))
      where
        is_there : (o : Outcome) → outcome_at whole k ≡ Some o → IsSome (outcome_at whole k)
        is_there o e = subst IsSome (sym e) (some_is o)
          where
            some_is : (q : Outcome) → IsSome (Some q)
            some_is q = search rules

        by_outcome : (o : Option Outcome) → outcome_at earlier k ≡ o → IsSome (outcome_at earlier k) → IsSome (outcome_at whole k)
        by_outcome None e some = absurd (cc)
        by_outcome (Some o) e some = is_there o (extends.kept k o e)

        by_order : (k < m) ⊎ (m ≤ k) → IsSome (outcome_at whole k)
        by_order (inl less) = by_outcome (outcome_at earlier k) refl (ended k None (omega (arith, size_earlier)))
        by_order (inr more) = let old = ended_at from whole ended_apart k (omega (arith, le)) lt in is_there old.0 old.1

    whole_is : whole ≡ earlier ++ drop m whole
    whole_is = same_lists whole (earlier ++ drop m whole) (let a = length-append earlier (drop m whole) in let b = length-drop m whole in omega (arith, a, b, size_earlier, size_whole, size_all)) at
      where
        at : (k : ℕ) (d : Option Outcome) → k < length whole → get_or whole k d ≡ get_or (earlier ++ drop m whole) k d
        at k d lt = by_order (cases_lt k m)
          where
            by_outcome : (o : Option Outcome) → outcome_at earlier k ≡ o → IsSome (outcome_at earlier k) → k < m → get_or whole k d ≡ get_or (earlier ++ drop m whole) k d
            by_outcome None e some less = absurd (cc)
            by_outcome (Some o) e some less =
                let inside : k < length earlier = omega (arith, size_earlier) in
                get_or_default whole k d None lt ∙ extends.kept k o e ∙ sym e ∙ get_or_default earlier k None d inside ∙ sym (get_or_append_left earlier (drop m whole) d k inside)

            by_order : (k < m) ⊎ (m ≤ k) → get_or whole k d ≡ get_or (earlier ++ drop m whole) k d
            by_order (inl less) = by_outcome (outcome_at earlier k) refl (ended k None (omega (arith, size_earlier))) less
            by_order (inr more) =
                sym (get_or-append_right earlier (drop m whole) m k d size_earlier more ∙ get_or-drop m whole (k - m) d ∙ ap (λ j. get_or whole j d) (let e : m + (k - m) ≡ k = omega (arith, more) in e))

    within : (s : ℕ) → written_count first_ones s ≤ written_count activations s
    within s = subst (λ (xs : List Activation). written_count first_ones s ≤ written_count xs s) (sym all_is) (written_more s first_ones later)

    reads : (s : ℕ) → read_of first_ones s ≤ read_of activations s
    reads s = subst (λ (xs : List Activation). read_of first_ones s ≤ read_of xs s) (sym all_is) (cursor_grows s first_ones later)

    -- those of the others begin no later than those of the first ones end
    begins : (s : ℕ) → written_count (take from activations) s ≤ written_count first_ones s
    begins s =
        let same : take from first_ones ≡ take from activations = ap (take from) are_first ∙ take-take from m activations le in
        subst (λ (xs : List Activation). written_count xs s ≤ written_count first_ones s) same (written_within s from first_ones)

    theirs : (s : ℕ) → 1 ≤ s → s < length joined → get_or joined s [] ≡ drop (get_or firsts s 0) (elements_on activations input whole s)
    theirs s some lt =
        let inside : s < length elements = omega (arith, size_joined) in
        let inside_written : s < length written = omega (arith, size_written, inside) in
        let f = get_or firsts s 0 in
        let fw = get_or firsts_written s 0 in
        let c = written_count first_ones s in
        let old = elements_on first_ones input earlier s in
        let all = elements_on activations input whole s in
        let len = length-elements_on first_ones input earlier s in
        let low = hold.are_claimed s inside in
        let from_is : fw ≡ written_count (take from activations) s = hold_apart.firsts_are s inside_written in
        let past_is : f + length (get_or elements s []) - fw ≡ c - fw =
        (let h = ap length (hold.are_theirs s some inside) ∙ length-drop f old in omega (arith, h, len, low)) in
        let beyond : drop (f + length (get_or elements s []) - fw) (get_or written s []) ≡ drop c all =
        ap (λ k. drop k (get_or written s [])) past_is
        ∙ ap (drop (c - fw)) (hold_apart.are_theirs s some inside_written)
        ∙ drop-drop (c - fw) fw all
        ∙ ap (λ k. drop k all) (let e : fw + (c - fw) ≡ c = omega (arith, from_is, begins s) in e) in
        let first_part : take c all ≡ old =
        ap (λ (xs : List Activation). take c (elements_on xs input whole s)) all_is
        ∙ ap (λ (st : State). take c (elements_on (first_ones ++ later) input st s)) whole_is
        ∙ elements_prefix later first_ones input earlier (drop m whole) s some size_earlier (omega (arith, length-drop m whole, size_whole, size_all)) later_ended in
        joins s some inside
        ∙ ap (λ xs. xs ++ drop (f + length (get_or elements s []) - fw) (get_or written s [])) (hold.are_theirs s some inside)
        ∙ ap (λ xs. drop f old ++ xs) beyond
        ∙ sym (drop-append-le f old (drop c all) (omega (arith, len, low)))
        ∙ ap (λ xs. drop f (xs ++ drop c all)) (sym first_part)
        ∙ ap (drop f) (take-append-drop c all)
      where
        later_ended : All IsSome (drop m whole)
        later_ended k d lt = subst IsSome (sym (get_or-drop m whole k d)) (all_ended (m + k) d (let a = length-drop m whole in omega (arith, a, lt)))
