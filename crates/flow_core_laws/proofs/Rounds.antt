-- What rounds keep, and that the meaning is settled.
use Rattle.std.proofs.Common.{◌≡◌, ℕ, zero, suc, ◌+◌, ◌-◌, ◌<◌, ◌≤◌, List, [], ◌∷◌, Option, Some, None, Bool, true, map, length, replicate, get_or, refl, sym, ap, ◌∙◌, subst, ◌⊎◌, inl, inr, arith}
use Rattle.std.specs.Option.{option_map, option_or}
use Rattle.std.proofs.lemmas.List.{length-replicate, get_or-replicate, get_or_past, get_or_default, same_lists}
use Rattle.std.proofs.lemmas.List.FromFn.{get_or-map-range_with_len, length-map-range_with_len}
use Rattle.std.proofs.lemmas.Bool.{cases_lt}
use Rattle.flow_core_laws.specs.Outcome.{outcome_at}
use Rattle.flow_core_laws.specs.Laws.{IsKept}
use Rattle.flow_core_laws.proofs.Gathering.{gathered-weaker}
use Rattle.flow_core_laws.specs.Round.{gathered, inputs_in, after_round, round, rounds, meaning}

module _ {O : Type 0} where
  -- every outcome of one state is there in the other
  pub record Extends (s t : List (Option O)) : Type 0 where
    pub kept : (a : ℕ) (o : O) → outcome_at s a ≡ Some o → outcome_at t a ≡ Some o

  pub Extends-trans : (s t u : List (Option O)) → Extends s t → Extends t u → Extends s u
  Extends-trans s t u p q = record { kept = λ a o h. q.kept a o (p.kept a o h) }

  pub outcome_at_past : (s : List (Option O)) (a : ℕ) → length s ≤ a → outcome_at s a ≡ None
  outcome_at_past s a h = get_or_past s a None h

  -- two states of which one extends the other are equal, or the other has more outcomes
  abbrev ended : List (Option O) → ℕ
  ended [] = 0
  ended (None ∷ s) = ended s
  ended (Some o ∷ s) = 1 + ended s

  ended-le-length : (s : List (Option O)) → ended s ≤ length s
  ended-le-length [] = omega arith
  ended-le-length (None ∷ s) = omega (arith, ended-le-length s)
  ended-le-length (Some o ∷ s) = omega (arith, ended-le-length s)

  same_or_more : (s t : List (Option O)) → length s ≡ length t → ((a : ℕ) (o : O) → get_or s a None ≡ Some o → get_or t a None ≡ Some o) → (s ≡ t) ⊎ (ended s + 1 ≤ ended t)
  same_or_more [] [] l e = inl refl
  same_or_more [] (y ∷ t) l e = absurd (cc)
  same_or_more (x ∷ s) [] l e = absurd (cc)
  same_or_more (None ∷ s) (None ∷ t) l e = more (same_or_more s t (cc) (λ a o h. e (suc a) o h))
    where
      more : (s ≡ t) ⊎ (ended s + 1 ≤ ended t) → (None ∷ s ≡ None ∷ t) ⊎ (ended s + 1 ≤ ended t)
      more (inl same) = inl (ap (λ (l : List (Option O)). None ∷ l) same)
      more (inr h) = inr h
  same_or_more (None ∷ s) (Some q ∷ t) l e = more (same_or_more s t (cc) (λ a o h. e (suc a) o h))
    where
      more : (s ≡ t) ⊎ (ended s + 1 ≤ ended t) → (None ∷ s ≡ Some q ∷ t) ⊎ (ended s + 1 ≤ 1 + ended t)
      more (inl same) = let n : ended s ≡ ended t = ap ended same in inr (omega arith)
      more (inr h) = inr (omega arith)
  same_or_more (Some p ∷ s) (None ∷ t) l e = gone (e 0 p refl)
    where
      gone : ◌≡◌ {A = Option O} None (Some p) → (Some p ∷ s ≡ None ∷ t) ⊎ (1 + ended s + 1 ≤ ended t)
      gone z = absurd (cc)
  same_or_more (Some p ∷ s) (Some q ∷ t) l e = more (e 0 p refl) (same_or_more s t (cc) (λ a o h. e (suc a) o h))
    where
      more : Some q ≡ Some p → (s ≡ t) ⊎ (ended s + 1 ≤ ended t) → (Some p ∷ s ≡ Some q ∷ t) ⊎ (1 + ended s + 1 ≤ 1 + ended t)
      more z (inl same) = inl (cc)
      more z (inr h) = inr (omega arith)

module _ {S V O : Type 0} (element : List (Option O) → S → Option V) where
  pub length-round : (reads : ℕ → List S) (body : ℕ → List V → O) (s : List (Option O)) → length (round element reads body s) ≡ length s
  unfolding round
  length-round reads body s = length-map-range_with_len (after_round element reads body s) 0 (length s)

  pub outcome_at-round : (reads : ℕ → List S) (body : ℕ → List V → O) (s : List (Option O)) (a : ℕ) → a < length s → outcome_at (round element reads body s) a ≡ after_round element reads body s a
  unfolding round
  outcome_at-round reads body s a h = get_or-map-range_with_len (after_round element reads body s) 0 (length s) a a None h (omega arith)

  -- an end stays through a round
  pub round_extends : (reads : ℕ → List S) (body : ℕ → List V → O) (s : List (Option O)) → Extends s (round element reads body s)
  round_extends reads body s = record { kept = λ a o h. stays a o h (cases_lt a (length s)) }
    where
      stays : (a : ℕ) (o : O) → outcome_at s a ≡ Some o → (a < length s) ⊎ (length s ≤ a) → outcome_at (round element reads body s) a ≡ Some o
      stays a o h (inl lt) = outcome_at-round reads body s a lt ∙ ap (λ (p : Option O). option_or p (option_map (body a) (inputs_in element reads s a))) h
      stays a o h (inr ge) = let n = outcome_at_past s a ge in absurd (cc)

  -- the state after some rounds from nothing
  abbrev pub after : (ℕ → List S) → (ℕ → List V → O) → ℕ → ℕ → List (Option O)
  after reads body count n = rounds element reads body n (replicate count None)

  pub length-after : (reads : ℕ → List S) (body : ℕ → List V → O) (count n : ℕ) → length (after reads body count n) ≡ count
  unfolding rounds
  length-after reads body count zero = length-replicate count None
  length-after reads body count (suc n) = length-round reads body (after reads body count n) ∙ length-after reads body count n

  pub after-suc : (reads : ℕ → List S) (body : ℕ → List V → O) (count n : ℕ) → after reads body count (suc n) ≡ round element reads body (after reads body count n)
  unfolding rounds
  after-suc reads body count n = refl

  -- nothing has an outcome before the first round
  pub outcome_at-start : (reads : ℕ → List S) (body : ℕ → List V → O) (count a : ℕ) → outcome_at (after reads body count 0) a ≡ None
  unfolding rounds
  outcome_at-start reads body count a = empty (cases_lt a count)
    where
      empty : (a < count) ⊎ (count ≤ a) → outcome_at {O = O} (replicate count None) a ≡ None
      empty (inl lt) = get_or-replicate count a None None lt
      empty (inr ge) = outcome_at_past (replicate count None) a (subst (λ (n : ℕ). n ≤ a) (sym (length-replicate count None)) ge)

  -- later rounds keep what earlier ones gave
  pub after_extends : (reads : ℕ → List S) (body : ℕ → List V → O) (count n m : ℕ) → Extends (after reads body count n) (after reads body count (m + n))
  after_extends reads body count n zero = subst (λ (k : ℕ). Extends (after reads body count n) (after reads body count k)) (let z : n ≡ 0 + n = omega arith in z) (record { kept = λ a o h. h })
  after_extends reads body count n (suc m) =
      let step = round_extends reads body (after reads body count (m + n)) in
      let e : after reads body count (suc m + n) ≡ round element reads body (after reads body count (m + n)) = ap (after reads body count) (let k : suc m + n ≡ suc (m + n) = omega arith in k) ∙ after-suc reads body count (m + n) in
      Extends-trans _ _ _ (after_extends reads body count n m) (subst (λ (t : List (Option O)). Extends (after reads body count (m + n)) t) (sym e) step)

  -- one more round changes nothing after these rounds, or each of them gave an outcome
  settled_or_more : (reads : ℕ → List S) (body : ℕ → List V → O) (count n : ℕ) → (round element reads body (after reads body count n) ≡ after reads body count n) ⊎ (n ≤ ended (after reads body count n))
  settled_or_more reads body count zero = inr (omega arith)
  settled_or_more reads body count (suc n) = step (settled_or_more reads body count n) (same_or_more before (round element reads body before) (sym (length-round reads body before)) (round_extends reads body before).kept)
    where
      before : List (Option O)
      before = after reads body count n

      step : (round element reads body before ≡ before) ⊎ (n ≤ ended before) → (before ≡ round element reads body before) ⊎ (ended before + 1 ≤ ended (round element reads body before)) → (round element reads body (after reads body count (suc n)) ≡ after reads body count (suc n)) ⊎ (suc n ≤ ended (after reads body count (suc n)))
      step (inl same) r = let e = after-suc reads body count n in inl (rw e (ap (round element reads body) same))
      step (inr h) (inl same) = let e = after-suc reads body count n in inl (rw e (ap (round element reads body) (sym same)))
      step (inr h) (inr more) = let e = after-suc reads body count n in inr (rw e (omega arith))

  -- one more round changes nothing in the meaning
  pub round-meaning : (reads : ℕ → List S) (body : ℕ → List V → O) (count : ℕ) → round element reads body (meaning element reads body count) ≡ meaning element reads body count
  unfolding meaning
  round-meaning reads body count = decide (settled_or_more reads body count count) (same_or_more all (round element reads body all) (sym (length-round reads body all)) (round_extends reads body all).kept)
    where
      all : List (Option O)
      all = after reads body count count

      decide : (round element reads body all ≡ all) ⊎ (count ≤ ended all) → (all ≡ round element reads body all) ⊎ (ended all + 1 ≤ ended (round element reads body all)) → round element reads body all ≡ all
      decide (inl same) r = same
      decide (inr h) (inl same) = sym same
      decide (inr h) (inr more) =
          let bound : ended (round element reads body all) ≤ length (round element reads body all) = ended-le-length (round element reads body all) in
          let l : length (round element reads body all) ≡ count = length-round reads body all ∙ length-after reads body count count in
          absurd (omega arith)

  pub length-meaning : (reads : ℕ → List S) (body : ℕ → List V → O) (count : ℕ) → length (meaning element reads body count) ≡ count
  unfolding meaning
  length-meaning reads body count = length-after reads body count count

  -- each outcome is what the body gives for the inputs that are there
  pub record Justified (reads : ℕ → List S) (body : ℕ → List V → O) (s : List (Option O)) : Type 0 where
    pub by_body : (a : ℕ) (o : O) → outcome_at s a ≡ Some o → (vs : List V) × (inputs_in element reads s a ≡ Some vs) × (body a vs ≡ o)

  -- what a round gives, it gives by the body
  after_round_gives : (body : ℕ → List V → O) (a : ℕ) (p : Option O) (inputs : Option (List V)) (o : O) → option_or p (option_map (body a) inputs) ≡ Some o → (p ≡ Some o) ⊎ ((vs : List V) × (inputs ≡ Some vs) × (body a vs ≡ o))
  after_round_gives body a (Some q) inputs o h = inl h
  after_round_gives body a None None o h = absurd (cc)
  after_round_gives body a None (Some vs) o h = inr (vs, refl, cc)

  module _ (kept : IsKept element) where
    pub gathered-extends : (s t : List (Option O)) → Extends s t → (sources : List S) (vs : List V) → gathered (map (element s) sources) ≡ Some vs → gathered (map (element t) sources) ≡ Some vs
    gathered-extends s t e sources vs h = gathered-weaker (element s) (element t) (kept s t e.kept) sources vs h

    pub Justified-round : (reads : ℕ → List S) (body : ℕ → List V → O) (s : List (Option O)) → Justified reads body s → Justified reads body (round element reads body s)
    Justified-round reads body s j = record { by_body = λ a o h. given_by a o h (cases_lt a (length s)) }
      where
        now_or_before : (a : ℕ) (o : O) → (outcome_at s a ≡ Some o) ⊎ ((vs : List V) × (inputs_in element reads s a ≡ Some vs) × (body a vs ≡ o)) → (vs : List V) × (inputs_in element reads s a ≡ Some vs) × (body a vs ≡ o)
        now_or_before a o (inl h) = j.by_body a o h
        now_or_before a o (inr w) = w

        later : (a : ℕ) (o : O) → (vs : List V) × (inputs_in element reads s a ≡ Some vs) × (body a vs ≡ o) → (vs : List V) × (inputs_in element reads (round element reads body s) a ≡ Some vs) × (body a vs ≡ o)
        later a o (vs, there, is) = (vs, gathered-extends s (round element reads body s) (round_extends reads body s) (reads a) vs there, is)

        given_by : (a : ℕ) (o : O) → outcome_at (round element reads body s) a ≡ Some o → (a < length s) ⊎ (length s ≤ a) → (vs : List V) × (inputs_in element reads (round element reads body s) a ≡ Some vs) × (body a vs ≡ o)
        given_by a o h (inl lt) = later a o (now_or_before a o (after_round_gives body a (outcome_at s a) (inputs_in element reads s a) o (sym (outcome_at-round reads body s a lt) ∙ h)))
        given_by a o h (inr ge) = let n = outcome_at_past (round element reads body s) a (subst (λ (k : ℕ). k ≤ a) (sym (length-round reads body s)) ge) in absurd (cc)

    pub Justified-after : (reads : ℕ → List S) (body : ℕ → List V → O) (count n : ℕ) → Justified reads body (after reads body count n)
    Justified-after reads body count zero = record { by_body = λ a o h. let n = outcome_at-start reads body count a in absurd (cc) }
    Justified-after reads body count (suc n) = subst (Justified reads body) (sym (after-suc reads body count n)) (Justified-round reads body (after reads body count n) (Justified-after reads body count n))

    pub Justified-meaning : (reads : ℕ → List S) (body : ℕ → List V → O) (count : ℕ) → Justified reads body (meaning element reads body count)
    unfolding meaning
    Justified-meaning reads body count = Justified-after reads body count count

    -- the meaning of an activation is what its body gives for its inputs, where they are there, and none elsewhere
    pub outcome_at-meaning : (reads : ℕ → List S) (body : ℕ → List V → O) (count a : ℕ) → a < count → outcome_at (meaning element reads body count) a ≡ option_map (body a) (inputs_in element reads (meaning element reads body count) a)
    outcome_at-meaning reads body count a lt = fixed (outcome_at all a) (inputs_in element reads all a) refl refl at_round
      where
        all : List (Option O)
        all = meaning element reads body count

        at_round : outcome_at all a ≡ after_round element reads body all a
        at_round = ap (λ (s : List (Option O)). outcome_at s a) (sym (round-meaning reads body count)) ∙ outcome_at-round reads body all a (subst (λ (k : ℕ). a < k) (sym (length-meaning reads body count)) lt)

        fixed : (p : Option O) (inputs : Option (List V)) → outcome_at all a ≡ p → inputs_in element reads all a ≡ inputs → outcome_at all a ≡ option_or (outcome_at all a) (option_map (body a) (inputs_in element reads all a)) → outcome_at all a ≡ option_map (body a) (inputs_in element reads all a)
        fixed None inputs p_is i_is r = r ∙ ap (λ (q : Option O). option_or q (option_map (body a) (inputs_in element reads all a))) p_is
        fixed (Some o) inputs p_is i_is r =
            let (vs, there, is) = (Justified-meaning reads body count).by_body a o p_is in
            p_is ∙ sym (ap (option_map (body a)) there ∙ ap (λ (q : O). Some q) is)

  -- What is closed under rounds holds of each activation that has an outcome: a test that holds of an
  -- activation whenever its inputs are there in a state all of whose outcomes are of activations that pass.
  pub record IsClosed (reads : ℕ → List S) (body : ℕ → List V → O) (count : ℕ) (test : ℕ → Bool) : Type 0 where
    pub passes : (s : List (Option O)) → Extends s (meaning element reads body count) → ((a : ℕ) (o : O) → outcome_at s a ≡ Some o → test a ≡ true) → (a : ℕ) (vs : List V) → a < count → inputs_in element reads s a ≡ Some vs → test a ≡ true

  -- what one more round adds to what passed before it
  passes_more : (reads : ℕ → List S) (body : ℕ → List V → O) (count : ℕ) (test : ℕ → Bool) → IsClosed reads body count test → (s : List (Option O)) → length s ≡ count → Extends s (meaning element reads body count) → ((a : ℕ) (o : O) → outcome_at s a ≡ Some o → test a ≡ true) → (a : ℕ) (o : O) → outcome_at (round element reads body s) a ≡ Some o → test a ≡ true
  passes_more reads body count test closed s len extends earlier a o h = inside (cases_lt a (length s))
    where
      given_by : a < count → (outcome_at s a ≡ Some o) ⊎ ((vs : List V) × (inputs_in element reads s a ≡ Some vs) × (body a vs ≡ o)) → test a ≡ true
      given_by lt (inl old) = earlier a o old
      given_by lt (inr (vs, there, is)) = closed.passes s extends earlier a vs lt there

      inside : (a < length s) ⊎ (length s ≤ a) → test a ≡ true
      inside (inl lt) = given_by (omega arith) (after_round_gives body a (outcome_at s a) (inputs_in element reads s a) o (sym (outcome_at-round reads body s a lt) ∙ h))
      inside (inr ge) = let n = outcome_at_past (round element reads body s) a (subst (λ (k : ℕ). k ≤ a) (sym (length-round reads body s)) ge) in absurd (cc)

  after_passes : (reads : ℕ → List S) (body : ℕ → List V → O) (count : ℕ) (test : ℕ → Bool) → IsClosed reads body count test → (n m : ℕ) → m + n ≡ count → (a : ℕ) (o : O) → outcome_at (after reads body count n) a ≡ Some o → test a ≡ true
  unfolding meaning
  after_passes reads body count test closed zero m e a o h = let n = outcome_at-start reads body count a in absurd (cc)
  after_passes reads body count test closed (suc n) m e a o h =
      let before = after reads body count n in
      let e' : suc m + n ≡ count = omega arith in
      let extends : Extends before (after reads body count count) = subst (λ (k : ℕ). Extends (after reads body count n) (after reads body count k)) e' (after_extends reads body count n (suc m)) in
      passes_more reads body count test closed before (length-after reads body count n) extends (after_passes reads body count test closed n (suc m) e') a o (ap (λ (s : List (Option O)). outcome_at s a) (sym (after-suc reads body count n)) ∙ h)

  pub passes_from_closed : (reads : ℕ → List S) (body : ℕ → List V → O) (count : ℕ) (test : ℕ → Bool) → IsClosed reads body count test → (a : ℕ) (o : O) → outcome_at (meaning element reads body count) a ≡ Some o → test a ≡ true
  unfolding meaning
  passes_from_closed reads body count test closed a o h = after_passes reads body count test closed count 0 (omega arith) a o h

  -- an outcome stays through later rounds
  pub outcome_stays : (reads : ℕ → List S) (body : ℕ → List V → O) (count n m a : ℕ) (o : O) → n ≤ m → outcome_at (after reads body count n) a ≡ Some o → outcome_at (after reads body count m) a ≡ Some o
  outcome_stays reads body count n m a o le h =
      let e : m - n + n ≡ m = omega arith in
      subst (λ (k : ℕ). outcome_at (after reads body count k) a ≡ Some o) e ((after_extends reads body count n (m - n)).kept a o h)

  -- the meaning rests on what the activations read, and on nothing else
  round_of_same_reads : (reads reads' : ℕ → List S) (body : ℕ → List V → O) (s : List (Option O)) → ((a : ℕ) → a < length s → reads a ≡ reads' a) → round element reads body s ≡ round element reads' body s
  round_of_same_reads reads reads' body s same = same_lists (round element reads body s) (round element reads' body s) (length-round reads body s ∙ sym (length-round reads' body s)) (λ k d lt. at k d (omega (arith, length-round reads body s)))
    where
      at : (k : ℕ) (d : Option O) → k < length s → get_or (round element reads body s) k d ≡ get_or (round element reads' body s) k d
      at k d lt =
          let p : k < length (round element reads body s) = omega (arith, length-round reads body s) in
          let q : k < length (round element reads' body s) = omega (arith, length-round reads' body s) in
          get_or_default (round element reads body s) k d None p ∙ outcome_at-round reads body s k lt ∙ ap (λ (sources : List S). option_or (outcome_at s k) (option_map (body k) (gathered (map (element s) sources)))) (same k lt) ∙ sym (outcome_at-round reads' body s k lt) ∙ get_or_default (round element reads' body s) k None d q

  after_of_same_reads : (reads reads' : ℕ → List S) (body : ℕ → List V → O) (count n : ℕ) → ((a : ℕ) → a < count → reads a ≡ reads' a) → after reads body count n ≡ after reads' body count n
  unfolding rounds
  after_of_same_reads reads reads' body count zero same = refl
  after_of_same_reads reads reads' body count (suc n) same =
      round_of_same_reads reads reads' body (after reads body count n) (λ a lt. same a (subst (λ (k : ℕ). a < k) (length-after reads body count n) lt)) ∙ ap (round element reads' body) (after_of_same_reads reads reads' body count n same)

  pub meaning_of_same_reads : (reads reads' : ℕ → List S) (body : ℕ → List V → O) (count : ℕ) → ((a : ℕ) → a < count → reads a ≡ reads' a) → meaning element reads body count ≡ meaning element reads' body count
  unfolding meaning
  meaning_of_same_reads reads reads' body count same = after_of_same_reads reads reads' body count count same
