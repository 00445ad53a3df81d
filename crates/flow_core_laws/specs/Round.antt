-- Rounds and the meaning, as in control-driven data flow (Pop and Cohen, 2013): an activation may run
-- once all its inputs are there. For activations 0 to count - 1 `reads` gives the sources of the input
-- elements of each, in order, and `body` what each makes of its inputs. A state gives each an outcome, or
-- none, and `element` gives the element of a source in a state, if it is there. What sources, values and
-- outcomes (S, V, O) are is left open.
use Rattle.std.specs.Prelude.{◌≡◌, ℕ, zero, suc, List, [], ◌∷◌, Option, Some, None, map, length, replicate, All, IsSome}
use Rattle.std.specs.Option.{option_map, option_or}
use Rattle.std.specs.List.{range_with_len}
use Rattle.flow_core_laws.specs.Outcome.{outcome_at}

-- The values of a list of elements, where each of them is there.
abbrev pub gathered : {V : Type 0} → List (Option V) → Option (List V)
gathered [] = Some []
gathered (None ∷ rest) = None
gathered (Some value ∷ rest) = option_map (λ values. value ∷ values) (gathered rest)

module _ {S V O : Type 0} (element : List (Option O) → S → Option V) where
  -- The inputs of an activation in a state, where each of them is there.
  abbrev pub inputs_in : (ℕ → List S) → List (Option O) → ℕ → Option (List V)
  inputs_in reads state activation = gathered (map (element state) (reads activation))

  -- An activation is enabled where it has no end and each element of its input windows is there.
  pub record IsEnabled (reads : ℕ → List S) (state : List (Option O)) (activation : ℕ) : Type 0 where
    pub has_no_end : outcome_at state activation ≡ None
    pub inputs_are_there : All (λ source. IsSome (element state source)) (reads activation)

  -- What a round leaves of an activation: its end, if it has one; else what its body gives for its
  -- inputs, if they are all there.
  abbrev pub after_round : (ℕ → List S) → (ℕ → List V → O) → List (Option O) → ℕ → Option O
  after_round reads body state activation = option_or (outcome_at state activation) (option_map (body activation) (inputs_in reads state activation))

  -- A round gives each enabled activation its outcome, all at once, and leaves the others.
  unfoldable pub round : (ℕ → List S) → (ℕ → List V → O) → List (Option O) → List (Option O)
  round reads body state = map (after_round reads body state) (range_with_len 0 (length state))

  -- The state after a number of rounds from a state.
  unfoldable pub rounds : (ℕ → List S) → (ℕ → List V → O) → ℕ → List (Option O) → List (Option O)
  rounds reads body zero state = state
  rounds reads body (suc n) state = round reads body (rounds reads body n state)

  -- The meaning: the state after as many rounds as there are activations, from the state without ends.
  -- An activation without an outcome there is starved.
  unfoldable pub meaning : (ℕ → List S) → (ℕ → List V → O) → ℕ → List (Option O)
  meaning reads body count = rounds reads body count (replicate count None)
