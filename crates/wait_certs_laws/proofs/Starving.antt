-- That the members of a chain have no end, round after round.
use Rattle.std.proofs.Common.{◌≡◌, ℕ, zero, suc, ◌+◌, ◌-◌, ◌<◌, ◌≤◌, ℤ, pos, Bool, true, false, cond, ◌&&◌, List, [], ◌∷◌, Option, Some, None, length, map, get_or, refl, sym, ap, ◌∙◌, subst, ◌⊎◌, inl, inr, arith}
use Rattle.std.specs.Prelude.{◌==◌, nat_lt, slice_index, option_and_then, Contains, is_some}
use Rattle.std.specs.Option.{option_map, option_map_or, option_or}
use Rattle.std.proofs.lemmas.Bool.{cases_lt}
use Rattle.std.proofs.lemmas.Bool.Decides.{nat_tests}
use Rattle.std.proofs.lemmas.Option.{slice_get_past}
use Rattle.flow_core_laws.specs.declared.activation.Activation.{Activation}
use Rattle.flow_core_laws.specs.Outcome.{outcome_at, State, ends_of, has_end_at}
use Rattle.flow_core_laws.specs.Place.{input_places}
use Rattle.flow_core_laws.specs.Round.{gathered, inputs_in, meaning, round}
use Rattle.flow_core_laws.specs.Window.{Window, producer}
use Rattle.flow_core_laws.proofs.Rounds.{after, after-suc, outcome_at-start, outcome_at-round, outcome_at_past, length-round}
use Rattle.flow_core_laws.specs.declared.elem.Elem.TheVariants.{Value}
use Rattle.flow_core_laws.specs.declared.outcome.Outcome.{Outcome}
use Rattle.flow_core_laws.specs.declared.place.Place.{Place}
use Rattle.flow_core_laws.specs.Element as elements
use Rattle.flow_core_laws.specs.Element.{Source, initial, fed}
use Rattle.flow_core_laws.specs.Poisoning.{poisoning}
use Rattle.flow_core_laws.specs.Streams.{input_source, stream_source, stream_reads, stream_element, stream_meaning}
use Rattle.flow_core_laws.proofs.There.{end_of}
use Rattle.wait_certs_laws.specs.Chain.{Giver, the_input, activation, nobody, giver, Awaits, last_of, IsChain}
use Rattle.wait_certs_laws.specs.Laws.{MembersStarve}

-- where one element isn't there, not all are
one_missing : {A B V : Type 0} (f : B → Option V) (g : A → B) (xs : List A) (k : ℕ) (d : A) → k < length xs → f (g (get_or xs k d)) ≡ None
    → gathered (map f (map g xs)) ≡ None
one_missing f g [] k d lt none = absurd (omega arith)
one_missing {V = V} f g (x ∷ xs) zero d lt none = by (f (g x)) none
  where
    by : (o : Option V) → o ≡ None → gathered (o ∷ map f (map g xs)) ≡ None
    by None e = refl
    by (Some v) e = absurd (cc)
one_missing {V = V} f g (x ∷ xs) (suc k) d lt none = by (f (g x)) (one_missing f g xs k d (omega arith) none)
  where
    by : (o : Option V) → gathered (map f (map g xs)) ≡ None → gathered (o ∷ map f (map g xs)) ≡ None
    by None e = refl
    by (Some v) e = ap (option_map (λ vs. v ∷ vs)) e

module _ (activations : List Activation) (input : List ℕ) where
  -- a giver that gives nothing in a state
  abbrev pub GivesNothing : State → Giver → Type 0
  GivesNothing s g = (g ≡ nobody) ⊎ ((b : ℕ) × (g ≡ activation b) × (outcome_at s b ≡ None))

  -- its elements aren't there
  not_there : (s : State) (place : Place) → GivesNothing s (giver activations (length input) place) → stream_element s (stream_source activations input place) ≡ None
  not_there s place = by (place.stream == 0) (nat_lt place.position (length input)) (producer activations place.stream place.position) refl
    where
      by : (b c : Bool) (o : Option Window) → nat_lt place.position (length input) ≡ c
          → GivesNothing s (cond (b && c) the_input (option_map_or activation (option_map (λ (w : Window). w.activation) o) nobody))
          → stream_element s (cond b (input_source input place.position) (option_map_or (λ (w : Window). fed w.activation (w.offset + (place.position - w.first))) o elements.nobody)) ≡ None
      by true true o e (inl h) = absurd (cc)
      by true true o e (inr (b, h, n)) = absurd (cc)
      by true false o e h =
          let past : length input ≤ place.position = grind (arith, nat_tests) in
          ap (λ (q : Option ℕ). stream_element s (option_map_or (λ byte. initial (Value (pos byte))) q elements.nobody)) (slice_get_past input place.position past)
      by false c None e h = refl
      by false c (Some w) e (inl h) = absurd (cc)
      by false c (Some w) e (inr (b, h, n)) =
          let same : w.activation ≡ b = cc in
          ap (λ (q : Option Outcome). option_and_then (λ (o : Outcome). elements.element_written w.activation o (w.offset + (place.position - w.first))) q) (ap (outcome_at s) same ∙ n)

  -- an activation that awaits one has no inputs
  no_inputs : (s : State) (a : ℕ) (g : Giver) → Awaits activations (length input) a g → GivesNothing s g → inputs_in stream_element (stream_reads activations input) s a ≡ None
  no_inputs s a g (place, (k, lt, at), is) nothing =
      one_missing (stream_element s) (stream_source activations input) (input_places activations a) k place lt
      (ap (λ (p : Place). stream_element s (stream_source activations input p)) at
      ∙ not_there s place (subst (GivesNothing s) (sym is) nothing))

  module _ (body : ℕ → List ℤ → Outcome) (chain : List ℕ) (is : IsChain activations (length input) chain) where
    abbrev state : ℕ → State
    state n = after stream_element (stream_reads activations input) (poisoning body) (length activations) n

    -- each member awaits what isn't there, where none of them has an end
    awaits_nothing : (s : State) → ((k : ℕ) → k < length chain → outcome_at s (slice_index chain k) ≡ None) → (k : ℕ) → k < length chain
        → inputs_in stream_element (stream_reads activations input) s (slice_index chain k) ≡ None
    awaits_nothing s none k lt = elim (cases_lt (k + 1) (length chain)) [
      | inl more ↦ no_inputs s (slice_index chain k) (activation (slice_index chain (k + 1))) (is.awaits_next k more) (inr (slice_index chain (k + 1), refl, none (k + 1) more))
      | inr last ↦
          let at : length chain - 1 ≡ k = omega arith in
          subst (λ j. inputs_in stream_element (stream_reads activations input) s (slice_index chain j) ≡ None) at (at_end s none is.ends_in_vain)
    ]
      where
        at_end : (s : State) → ((k : ℕ) → k < length chain → outcome_at s (slice_index chain k) ≡ None)
            → (Awaits activations (length input) (last_of chain) nobody) ⊎ ((a : ℕ) × Contains chain a × Awaits activations (length input) (last_of chain) (activation a))
            → inputs_in stream_element (stream_reads activations input) s (last_of chain) ≡ None
        at_end s none (inl in_vain) = no_inputs s (last_of chain) nobody in_vain (inl refl)
        at_end s none (inr (a, (j, lt, at), back)) =
            let same : slice_index chain j ≡ a = sym (other_default chain j 0 a lt) ∙ at in
            no_inputs s (last_of chain) (activation a) back (inr (a, refl, ap (outcome_at s) (sym same) ∙ none j lt))
          where
            other_default : (xs : List ℕ) (i d e : ℕ) → i < length xs → get_or xs i e ≡ get_or xs i d
            other_default [] i d e l = absurd (omega arith)
            other_default (x ∷ xs) zero d e l = refl
            other_default (x ∷ xs) (suc i) d e l = other_default xs i d e (omega arith)

    -- no member has an outcome after any number of rounds
    no_outcome : (n k : ℕ) → k < length chain → outcome_at (state n) (slice_index chain k) ≡ None
    no_outcome zero k lt = outcome_at-start stream_element (stream_reads activations input) (poisoning body) (length activations) (slice_index chain k)
    no_outcome (suc n) k lt =
        let a = slice_index chain k in
        let s = state n in
        ap (λ (t : State). outcome_at t a) (after-suc stream_element (stream_reads activations input) (poisoning body) (length activations) n)
        ∙ step s a (no_outcome n k lt) (awaits_nothing s (no_outcome n) k lt) (cases_lt a (length s))
      where
        step : (s : State) (a : ℕ) → outcome_at s a ≡ None → inputs_in stream_element (stream_reads activations input) s a ≡ None → (a < length s) ⊎ (length s ≤ a)
            → outcome_at (round stream_element (stream_reads activations input) (poisoning body) s) a ≡ None
        step s a none nothing (inl lt) =
            outcome_at-round stream_element (stream_reads activations input) (poisoning body) s a lt
            ∙ ap (λ (o : Option Outcome). option_or o (option_map (poisoning body a) (inputs_in stream_element (stream_reads activations input) s a))) none
            ∙ ap (option_map (poisoning body a)) nothing
        step s a none nothing (inr ge) =
            outcome_at_past (round stream_element (stream_reads activations input) (poisoning body) s) a (subst (λ n. n ≤ a) (sym (length-round stream_element (stream_reads activations input) (poisoning body) s)) ge)

    -- nor has one in the meaning
    pub in_meaning : (k : ℕ) → k < length chain → has_end_at (ends_of (stream_meaning activations input body)) (slice_index chain k) ≡ false
    unfolding meaning
    in_meaning k lt =
        ap is_some (end_of (state (length activations)) (slice_index chain k) ∙ ap (option_map (λ (o : Outcome). o.end)) (no_outcome (length activations) k lt))

pub members_starve : MembersStarve
members_starve activations input body chain is k d lt =
    subst (λ a. has_end_at (ends_of (stream_meaning activations input body)) a ≡ false) (other_default chain k lt) (in_meaning activations input body chain is k lt)
  where
    other_default : (xs : List ℕ) (i : ℕ) → i < length xs → slice_index xs i ≡ get_or xs i d
    other_default [] i l = absurd (omega arith)
    other_default (x ∷ xs) zero l = refl
    other_default (x ∷ xs) (suc i) l = other_default xs i (omega arith)
