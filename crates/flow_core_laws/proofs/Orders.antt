-- What is enabled, and that the order of the runs doesn't matter.
use Rattle.std.proofs.Common.{◌≡◌, ◌≢◌, ℕ, zero, suc, ◌<◌, ◌≤◌, List, [], ◌∷◌, Option, Some, None, true, false, map, length, get_or, set, refl, sym, ap, ◌∙◌, subst, ◌⊎◌, inl, inr, arith}
use Rattle.std.specs.Prelude.{All, IsSome, is_some}
use Rattle.std.specs.Option.{option_map, option_or}
use Rattle.std.proofs.lemmas.Bool.{cases_lt, cases_eq}
use Rattle.std.proofs.lemmas.List.{get_or-set_same, get_or-set_other, length-set, length-replicate, same_lists, get_or_default}
use Rattle.flow_core_laws.specs.Outcome.{outcome_at}
use Rattle.flow_core_laws.specs.Round.{gathered, inputs_in, IsEnabled, after_round, round, rounds, meaning}
use Rattle.flow_core_laws.specs.Laws.{IsKept, Reached, start, fire}
use Rattle.flow_core_laws.proofs.Gathering.{gathered-cons, gathered_there}
use Rattle.flow_core_laws.proofs.Rounds.{Extends, gathered-extends, outcome_at-round, outcome_at_past, length-round, outcome_at-start, outcome_at-meaning, length-meaning, IsClosed, passes_from_closed}

module _ {S V O : Type 0} (element : List (Option O) → S → Option V) where
  -- a list is gathered exactly where each element is there
  all_there : (s : List (Option O)) (sources : List S) → All (λ source. IsSome (element s source)) sources → (vs : List V) × (gathered (map (element s) sources) ≡ Some vs)
  all_there s [] h = ([], refl)
  all_there s (x ∷ xs) h = head (element s x) refl (h 0 x (let z : 0 < length (x ∷ xs) = omega arith in z)) (all_there s xs (λ k d lt. h (suc k) d (let z : suc k < length (x ∷ xs) = omega arith in z)))
    where
      head : (o : Option V) → element s x ≡ o → IsSome (element s x) → (ws : List V) × (gathered (map (element s) xs) ≡ Some ws) → (vs : List V) × (gathered (map (element s) (x ∷ xs)) ≡ Some vs)
      head None is there rest = let n : is_some (element s x) ≡ false = ap is_some is in absurd (cc)
      head (Some v) is there (ws, h) = (v ∷ ws, gathered_there (element s x) (map (element s) xs) v ws is h)

  there_all : (s : List (Option O)) (sources : List S) (vs : List V) → gathered (map (element s) sources) ≡ Some vs → All (λ source. IsSome (element s source)) sources
  there_all s [] vs h = λ k d lt. absurd (omega arith)
  there_all s (x ∷ xs) vs h =
      let (v, ws, at_x, at_xs, is) = gathered-cons (element s x) (map (element s) xs) vs h in
      each v at_x (there_all s xs ws at_xs)
    where
      each : (v : V) → element s x ≡ Some v → ((k : ℕ) (d : S) → k < length xs → IsSome (element s (get_or xs k d))) → (k : ℕ) (d : S) → k < suc (length xs) → IsSome (element s (get_or (x ∷ xs) k d))
      each v at_x rest zero d lt = ap is_some at_x
      each v at_x rest (suc k) d lt = rest k d (omega arith)

  -- the inputs of an enabled activation
  pub enabled_inputs : (reads : ℕ → List S) (s : List (Option O)) (a : ℕ) → IsEnabled element reads s a → (vs : List V) × (inputs_in element reads s a ≡ Some vs)
  enabled_inputs reads s a e = all_there s (reads a) e.inputs_are_there

  pub enabled_from : (reads : ℕ → List S) (s : List (Option O)) (a : ℕ) (vs : List V) → outcome_at s a ≡ None → inputs_in element reads s a ≡ Some vs → IsEnabled element reads s a
  enabled_from reads s a vs none there = record { has_no_end = none; inputs_are_there = there_all s (reads a) vs there }

  -- what a round does with an enabled activation, and with the others
  pub round_fires : (reads : ℕ → List S) (body : ℕ → List V → O) (s : List (Option O)) (a : ℕ) → a < length s → IsEnabled element reads s a → (vs : List V) × (inputs_in element reads s a ≡ Some vs) × (outcome_at (round element reads body s) a ≡ Some (body a vs))
  round_fires reads body s a lt e =
      let (vs, there) = enabled_inputs reads s a e in
      (vs, there, outcome_at-round element reads body s a lt ∙ ap (λ (o : Option O). option_or o (option_map (body a) (inputs_in element reads s a))) e.has_no_end ∙ ap (option_map (body a)) there)

  pub round_leaves : (reads : ℕ → List S) (body : ℕ → List V → O) (s : List (Option O)) (a : ℕ) → ¬ (IsEnabled element reads s a) → outcome_at (round element reads body s) a ≡ outcome_at s a
  round_leaves reads body s a not_enabled = inside (cases_lt a (length s))
    where
      by_parts : (o : Option O) (inputs : Option (List V)) → outcome_at s a ≡ o → inputs_in element reads s a ≡ inputs → after_round element reads body s a ≡ outcome_at s a
      by_parts (Some o) inputs o_is i_is = ap (λ (p : Option O). option_or p (option_map (body a) (inputs_in element reads s a))) o_is ∙ sym o_is
      by_parts None None o_is i_is = ap (λ (p : Option O). option_or p (option_map (body a) (inputs_in element reads s a))) o_is ∙ ap (option_map (body a)) i_is ∙ sym o_is
      by_parts None (Some vs) o_is i_is = absurd (not_enabled (enabled_from reads s a vs o_is i_is))

      inside : (a < length s) ⊎ (length s ≤ a) → outcome_at (round element reads body s) a ≡ outcome_at s a
      inside (inl lt) = outcome_at-round element reads body s a lt ∙ by_parts (outcome_at s a) (inputs_in element reads s a) refl refl
      inside (inr ge) = outcome_at_past (round element reads body s) a (subst (λ (k : ℕ). k ≤ a) (sym (length-round element reads body s)) ge) ∙ sym (outcome_at_past s a ge)

  -- a state that is reached has a place for each activation, and agrees with the meaning
  length-reached : (reads : ℕ → List S) (body : ℕ → List V → O) (count : ℕ) (s : List (Option O)) → Reached element reads body count s → length s ≡ count
  length-reached reads body count s start = length-replicate count None
  length-reached reads body count s (fire t a vs r lt none there) = length-set t a (Some (body a vs)) ∙ length-reached reads body count t r

  module _ (kept : IsKept element) where
    pub reached_extends : (reads : ℕ → List S) (body : ℕ → List V → O) (count : ℕ) (s : List (Option O)) → Reached element reads body count s → Extends s (meaning element reads body count)
    unfolding meaning rounds
    reached_extends reads body count s start = record { kept = λ a o h. let n = outcome_at-start element reads body count a in absurd (cc) }
    reached_extends reads body count s (fire t a vs r lt none there) = more (reached_extends reads body count t r)
      where
        m : List (Option O)
        m = meaning element reads body count

        more : Extends t (meaning element reads body count) → Extends (set t a (Some (body a vs))) (meaning element reads body count)
        more e = record { kept = λ b o h. at b o h (cases_eq b a) }
          where
            fired : outcome_at m a ≡ Some (body a vs)
            fired = outcome_at-meaning element kept reads body count a lt ∙ ap (option_map (body a)) (gathered-extends element kept t m e (reads a) vs there)

            at : (b : ℕ) (o : O) → outcome_at (set t a (Some (body a vs))) b ≡ Some o → (b ≡ a) ⊎ (b ≢ a) → outcome_at (meaning element reads body count) b ≡ Some o
            at b o h (inl same) = ap (outcome_at m) same ∙ fired ∙ sym (get_or-set_same t a (Some (body a vs)) None (let l = length-reached reads body count t r in omega arith)) ∙ ap (outcome_at (set t a (Some (body a vs)))) (sym same) ∙ h
            at b o h (inr other) = e.kept b o (sym (get_or-set_other t a b (Some (body a vs)) None other) ∙ h)

    -- where nothing is enabled, each activation with an outcome in the meaning has one
    reached_closed : (reads : ℕ → List S) (body : ℕ → List V → O) (count : ℕ) (s : List (Option O)) → Reached element reads body count s → ((a : ℕ) → a < count → ¬ (IsEnabled element reads s a)) → IsClosed element reads body count (λ a. is_some (outcome_at s a))
    reached_closed reads body count s r still = record { passes = λ t extends earlier a vs lt inputs. has_outcome a vs lt (gathered-extends element kept t s (below t extends earlier) (reads a) vs inputs) (outcome_at s a) refl }
      where
        below : (t : List (Option O)) → Extends t (meaning element reads body count) → ((a : ℕ) (o : O) → outcome_at t a ≡ Some o → is_some (outcome_at s a) ≡ true) → Extends t s
        below t extends earlier = record { kept = λ a o h. same_outcome a o (outcome_at s a) refl (earlier a o h) (extends.kept a o h) }
          where
            same_outcome : (a : ℕ) (o : O) (p : Option O) → outcome_at s a ≡ p → is_some (outcome_at s a) ≡ true → outcome_at (meaning element reads body count) a ≡ Some o → outcome_at s a ≡ Some o
            same_outcome a o None is there meant = let n : is_some (outcome_at s a) ≡ false = ap is_some is in absurd (cc)
            same_outcome a o (Some q) is there meant = is ∙ sym ((reached_extends reads body count s r).kept a q is) ∙ meant

        has_outcome : (a : ℕ) (vs : List V) → a < count → inputs_in element reads s a ≡ Some vs → (p : Option O) → outcome_at s a ≡ p → is_some (outcome_at s a) ≡ true
        has_outcome a vs lt inputs None is = absurd (still a lt (enabled_from reads s a vs is inputs))
        has_outcome a vs lt inputs (Some o) is = ap is_some is

    pub reached_meaning : (reads : ℕ → List S) (body : ℕ → List V → O) (count : ℕ) (s : List (Option O)) → Reached element reads body count s → ((a : ℕ) → a < count → ¬ (IsEnabled element reads s a)) → s ≡ meaning element reads body count
    reached_meaning reads body count s r still = same_lists s m (length-reached reads body count s r ∙ sym (length-meaning element reads body count)) (λ k d lt. get_or_default s k d None lt ∙ same k (outcome_at s k) (outcome_at m k) refl refl ∙ get_or_default m k None d (let a = length-reached reads body count s r in let b = length-meaning element reads body count in omega arith))
      where
        m : List (Option O)
        m = meaning element reads body count

        same : (k : ℕ) (p q : Option O) → outcome_at s k ≡ p → outcome_at m k ≡ q → outcome_at s k ≡ outcome_at m k
        same k (Some o) q is meant = is ∙ sym ((reached_extends reads body count s r).kept k o is)
        same k None None is meant = is ∙ sym meant
        same k None (Some o) is meant =
            let t : is_some (outcome_at s k) ≡ true = passes_from_closed element reads body count (λ a. is_some (outcome_at s a)) (reached_closed reads body count s r still) k o meant in
            let n : is_some (outcome_at s k) ≡ false = ap is_some is in
            absurd (cc)
