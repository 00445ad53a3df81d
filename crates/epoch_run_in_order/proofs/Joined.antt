-- Where a run in control order stands once a run apart was put behind it.
use Rattle.std.proofs.Common.{◌≡◌, ℕ, ◌+◌, ◌-◌, ◌<◌, ◌≤◌, List, [], ◌++◌, Option, Bool, true, false, cond, length, get_or, take, drop, refl, sym, ap, ◌∙◌, subst, ⊎_elim, ◌⊎◌, inl, inr, min, arith}
use Rattle.std.specs.Prelude.{nat_lt, slice_set}
use Rattle.std.specs.Option.{option_map}
use Rattle.std.proofs.lemmas.Bool.{cases_eq, cases_lt}
use Rattle.std.proofs.lemmas.Bool.Decides.{nat_tests}
use Rattle.std.proofs.lemmas.List.{drop-drop, drop_all, get_or-set_other, get_or-set_same, length-drop, length-map, length-set, length-take-le}
use Rattle.flow_core_laws.specs.declared.activation.Activation.{Activation}
use Rattle.flow_core_laws.specs.declared.elem.Elem.{Elem}
use Rattle.flow_core_laws.specs.declared.outcome.Outcome.{Outcome}
use Rattle.flow_core_laws.specs.declared.task_end.TaskEnd.{TaskEnd}
use Rattle.flow_core_laws.specs.Outcome.{State, ends_of}
use Rattle.flow_core_laws.specs.Poisoning.{poisoning}
use Rattle.flow_core_laws.specs.Streams.{stream_reads, stream_element}
use Rattle.flow_core_laws.proofs.Rounds.{length-meaning}
use Rattle.os_code.specs.declared.parts.Parts.{Parts}
use Rattle.epoch_run_bodies.specs.Frames.{frame_outcome}
use Rattle.epoch_run_in_order_laws.specs.InOrder.{HoldElements}
use Rattle.epoch_run_in_order_laws.specs.Laws.{AreJoined, Join}
use Rattle.epoch_run_in_order.proofs.Held.{written_back}
use Rattle.epoch_run_in_order.specs.declared.in_order.InOrder.{InOrder}
use Rattle.epoch_run_in_order.specs.declared.streams.Streams.{Streams}
use Rattle.epoch_run_in_order.specs.Joining.{AreJoinedTo, joined_on, with_joined}
use Rattle.epoch_run_in_order.specs.Streams.{elements_of, first_of}
use Rattle.epoch_run_in_order.specs.Standing.{StandsApart, StandsBehind, meaning_in}

-- behind all that ran so far, and all that ran apart
pub joined_stands : (law : Join) (code : Parts) (all before : List Activation) (input : List ℕ) (budget first n : ℕ) (old apart new : InOrder)
    → n ≡ length old.ends → first ≤ n → n ≤ first + length apart.ends → length apart.streams.elements ≡ length old.streams.elements
    → new.ends ≡ old.ends ++ drop (n - first) apart.ends → AreJoinedTo old.streams apart.streams new.streams
    → StandsBehind code all (take n before) input budget old → StandsApart code all first before input budget apart
    → StandsBehind code all before input budget new
joined_stands law code all before input budget first n old apart new n_is reaches goes_on many ends_are joined_to stands stands_apart = record {
  ends_are = ends_are
      ∙ ap (λ es. es ++ drop (n - first) apart.ends) stands.ends_are
      ∙ ap (λ (es : List (Option TaskEnd)). ends_of M1 ++ drop (n - first) es) stands_apart.ends_are
      ∙ ap (λ (es : List (Option TaskEnd)). ends_of M1 ++ es) (drop-drop (n - first) first (ends_of M) ∙ ap (λ k. drop k (ends_of M)) (let e : first + (n - first) ≡ length first_ones = omega (arith, size, reaches) in e))
      ∙ sym are.ends_are;
  have_ended = are.have_ended;
  hold = subst (λ fs. HoldElements before input M new.streams.elements fs) (sym joined_to.firsts) are.hold;
}
  where
    M : State
    M = meaning_in code all before input budget

    first_ones : List Activation
    first_ones = take n before

    M1 : State
    M1 = meaning_in code all first_ones input budget

    length_M : length M ≡ length before
    length_M = length-meaning stream_element (stream_reads before input) (poisoning (frame_outcome code all budget)) (length before)

    length_apart : length apart.ends ≡ length before - first
    length_apart = ap length stands_apart.ends_are ∙ length-drop first (ends_of M) ∙ ap (λ k. k - first) (length-map M (option_map (λ (q : Outcome). q.end)) ∙ length_M)

    size : length first_ones ≡ n
    size = length-take-le n before (omega (arith, length_apart, goes_on, stands_apart.within))

    are : AreJoined first_ones before input (frame_outcome code all budget) new.streams.elements old.streams.firsts
    are = law first first_ones before input (frame_outcome code all budget) old.streams.elements apart.streams.elements new.streams.elements old.streams.firsts apart.streams.firsts
        (ap (λ k. take k before) (sym size)) (omega (arith, size, reaches)) stands.have_ended stands.hold stands_apart.have_ended stands_apart.hold many joined_to.as_many
        (λ s some lt. joined_to.are_joined s some lt (omega (arith, many, lt)))

-- the streams before a number are joined, but for the input, and the others are as they were
pub record AreJoinedUpTo (n : ℕ) (streams others mid : Streams) : Type 0 where
  pub as_many : length mid.elements ≡ length streams.elements
  pub firsts : mid.firsts ≡ streams.firsts
  pub others_are : (s : ℕ) → n ≤ s → elements_of mid s ≡ elements_of streams s
  pub are_joined : (s : ℕ) → 1 ≤ s → s < n → s < length streams.elements → s < length others.elements → elements_of mid s ≡ joined_on streams others s

-- none of them so far
pub none_joined : (streams others : Streams) → AreJoinedUpTo 1 streams others streams
none_joined streams others = record {
  as_many = refl;
  firsts = refl;
  others_are = λ s low. refl;
  are_joined = λ s some lt exists there. absurd (omega (arith, some, lt));
}

-- one more
pub one_joined : (n : ℕ) (streams others mid new : Streams) → n < length streams.elements → AreJoinedUpTo n streams others mid → new ≡ with_joined mid others n
    → AreJoinedUpTo (n + 1) streams others new
one_joined n streams others mid new exists up new_is = by (nat_lt n (length others.elements)) refl new_is
  where
    put : Streams
    put = record { elements = slice_set mid.elements n (joined_on mid others n); firsts = mid.firsts }

    joined_same : joined_on mid others n ≡ joined_on streams others n
    joined_same =
        ap (λ xs. xs ++ drop (first_of mid n + length xs - first_of others n) (elements_of others n)) (up.others_are n (omega arith))
        ∙ ap (λ (fs : List ℕ). elements_of streams n ++ drop (get_or fs n 0 + length (elements_of streams n) - first_of others n) (elements_of others n)) up.firsts

    by : (b : Bool) → nat_lt n (length others.elements) ≡ b → new ≡ cond b put mid → AreJoinedUpTo (n + 1) streams others new
    by false past is = record {
      as_many = ap (λ (s : Streams). length s.elements) is ∙ up.as_many;
      firsts = ap (λ (s : Streams). s.firsts) is ∙ up.firsts;
      others_are = λ s low. ap (λ (m : Streams). elements_of m s) is ∙ up.others_are s (omega (arith, low));
      are_joined = λ s some lt at there.
          let no : length others.elements ≤ n = grind (arith, nat_tests) in
          ap (λ (m : Streams). elements_of m s) is ∙ up.are_joined s some (omega (arith, lt, there, no)) at there;
    }
    by true within is = record {
      as_many = ap (λ (s : Streams). length s.elements) is ∙ length-set mid.elements n (joined_on mid others n) ∙ up.as_many;
      firsts = ap (λ (s : Streams). s.firsts) is ∙ up.firsts;
      others_are = λ s low. ap (λ (m : Streams). elements_of m s) is ∙ get_or-set_other mid.elements n s (joined_on mid others n) [] (λ e. omega (arith, e, low)) ∙ up.others_are s (omega (arith, low));
      are_joined = λ s some lt at there. ap (λ (m : Streams). elements_of m s) is ∙ ⊎_elim (same s) (apart s some lt at there) (cases_eq s n);
    }
      where
        same : (s : ℕ) → s ≡ n → elements_of put s ≡ joined_on streams others s
        same s e = subst (λ (k : ℕ). elements_of put k ≡ joined_on streams others k) (sym e)
            (get_or-set_same mid.elements n (joined_on mid others n) [] (omega (arith, exists, up.as_many)) ∙ joined_same)

        apart : (s : ℕ) → 1 ≤ s → s < n + 1 → s < length streams.elements → s < length others.elements → (s ≡ n → ⊥) → elements_of put s ≡ joined_on streams others s
        apart s some lt at there differs =
            get_or-set_other mid.elements n s (joined_on mid others n) [] differs ∙ up.are_joined s some (omega (arith, lt, differs)) at there

-- all of them
pub all_joined : (n : ℕ) (streams others new : Streams) → length streams.elements ≤ n → AreJoinedUpTo n streams others new → AreJoinedTo streams others new
all_joined n streams others new all up = record {
  as_many = up.as_many;
  firsts = up.firsts;
  are_joined = λ s some lt there. up.are_joined s some (omega (arith, lt, all)) lt there;
}

-- all but more first ones than there are is none
pub drop_past : {A : Type 0} (n m : ℕ) (xs : List A) → m ≡ min n (length xs) → drop m xs ≡ drop n xs
drop_past n m xs is = by (cases_lt n (length xs))
  where
    by : (n < length xs) ⊎ (length xs ≤ n) → drop m xs ≡ drop n xs
    by (inl lt) = ap (λ k. drop k xs) (let e : m ≡ n = omega (arith, is, lt) in e)
    by (inr ge) = drop_all m xs (omega (arith, is, ge)) ∙ sym (drop_all n xs ge)

-- a list of streams whose loan ended with one of them joined
pub joined_back : (streams others : Streams) (n : ℕ) (lent : List (List (Option Elem))) (held joined beyond : List (Option Elem)) (past : ℕ)
    → n < length others.elements → lent ≡ streams.elements → held ≡ elements_of streams n → joined ≡ held ++ beyond → beyond ≡ drop past (elements_of others n)
    → past ≡ min (first_of streams n + length held - first_of others n) (length (elements_of others n))
    → (record { elements = take (length streams.elements) (slice_set lent n joined ++ drop (length (slice_set lent n joined)) streams.elements); firsts = streams.firsts }) ≡ with_joined streams others n
joined_back streams others n lent held joined beyond past there same held_is joined_is beyond_is past_is =
    ap put (written_back streams.elements lent n joined same ∙ ap (slice_set streams.elements n) are_joined)
    ∙ sym (ap (λ b. cond b (put (slice_set streams.elements n (joined_on streams others n))) streams) within)
  where
    put : List (List (Option Elem)) → Streams
    put es = record { elements = es; firsts = streams.firsts }

    within : nat_lt n (length others.elements) ≡ true
    within = grind (arith, nat_tests)

    are_joined : joined ≡ joined_on streams others n
    are_joined =
        joined_is
        ∙ ap (λ xs. held ++ xs) (beyond_is ∙ drop_past (first_of streams n + length held - first_of others n) past (elements_of others n) past_is)
        ∙ ap (λ xs. xs ++ drop (first_of streams n + length xs - first_of others n) (elements_of others n)) held_is
