-- Lawful orders, and the outcomes that are there behind them.
use Rattle.std.proofs.Common.{◌≡◌, ◌≢◌, ℕ, zero, suc, ◌<◌, ◌≤◌, List, [], ◌∷◌, ◌++◌, Option, Some, None, length, set, replicate, refl, sym, ap, ◌∙◌, subst, ◌⊎◌, inl, inr, arith}
use Rattle.std.specs.Prelude.{slice_get}
use Rattle.std.specs.Option.{option_map, option_or}
use Rattle.std.proofs.lemmas.Bool.{cases_lt, cases_eq}
use Rattle.std.proofs.lemmas.Option.{same_Some}
use Rattle.std.proofs.lemmas.List.{get_or-set_same, get_or-set_other, length-set, length-replicate, same_lists, get_or_default, get_or_past}
use Rattle.os_io.proofs.Repeated.{get_or-repeated}
use Rattle.flow_core_laws.specs.Outcome.{outcome_at}
use Rattle.flow_core_laws.specs.Round.{inputs_in, IsEnabled, after_round, meaning}
use Rattle.flow_core_laws.specs.Laws.{IsKept, Reached, start, fire}
use Rattle.flow_core_laws.proofs.Rounds.{Extends, gathered-extends}
use Rattle.flow_core_laws.proofs.Orders.{enabled_inputs, enabled_from, reached_extends}
use Rattle.trace_replay_laws.specs.Orders.{after, after_all, IsLawfulFrom, state_after, IsLawful}

-- a number stands in a list
abbrev pub IsIn : List ℕ → ℕ → Type 0
IsIn xs x = (i : ℕ) × (slice_get xs i ≡ Some x)

pub in_tail : (y x : ℕ) (xs : List ℕ) → IsIn xs x → IsIn (y ∷ xs) x
in_tail y x xs (i, h) = (suc i, h)

module _ {S V O : Type 0} (element : List (Option O) → S → Option V) (reads : ℕ → List S) (body : ℕ → List V → O) where
  -- what an enabled activation gets
  gets : (s : List (Option O)) (a : ℕ) → IsEnabled element reads s a → (vs : List V) × (inputs_in element reads s a ≡ Some vs) × (after_round element reads body s a ≡ Some (body a vs))
  gets s a e =
      let (vs, there) = enabled_inputs element reads s a e in
      (vs, there, ap (λ (o : Option O). option_or o (option_map (body a) (inputs_in element reads s a))) e.has_no_end ∙ ap (option_map (body a)) there)

  -- the state behind a lawful order is reached by giving outcomes one at a time
  pub lawful_reached : (count : ℕ) (s : List (Option O)) (order : List ℕ) → Reached element reads body count s → IsLawfulFrom element reads body count s order → Reached element reads body count (after_all element reads body s order)
  lawful_reached count s [] r l = r
  lawful_reached count s (a ∷ order) r (lt, e, rest) =
      let (vs, there, is) = gets s a e in
      lawful_reached count (after element reads body s a) order (subst (λ (o : Option O). Reached element reads body count (set s a o)) (sym is) (fire s a vs r lt e.has_no_end there)) rest

  pub reached_after : (count : ℕ) (order : List ℕ) → IsLawful element reads body count order → Reached element reads body count (state_after element reads body count order)
  reached_after count order l = lawful_reached count (replicate count None) order start l

  pub length-after_all : (s : List (Option O)) (order : List ℕ) → length (after_all element reads body s order) ≡ length s
  length-after_all s [] = refl
  length-after_all s (a ∷ order) = length-after_all (after element reads body s a) order ∙ length-set s a (after_round element reads body s a)

  pub length-state_after : (count : ℕ) (order : List ℕ) → length (state_after element reads body count order) ≡ count
  length-state_after count order = length-after_all (replicate count None) order ∙ length-replicate count None

  -- an outcome stays along a lawful order
  stays : (count : ℕ) (s : List (Option O)) (order : List ℕ) (a : ℕ) (o : O) → IsLawfulFrom element reads body count s order → outcome_at s a ≡ Some o → outcome_at (after_all element reads body s order) a ≡ Some o
  stays count s [] a o l h = h
  stays count s (b ∷ order) a o (lt, e, rest) h = stays count (after element reads body s b) order a o rest (by (cases_eq a b))
    where
      by : (a ≡ b) ⊎ (a ≢ b) → outcome_at (after element reads body s b) a ≡ Some o
      by (inl same) = let n : ◌≡◌ {A = Option O} None (Some o) = sym e.has_no_end ∙ ap (outcome_at s) (sym same) ∙ h in absurd (cc)
      by (inr other) = get_or-set_other s b a (after_round element reads body s b) None other ∙ h

  -- each activation of a lawful order has an outcome behind it
  has_outcome : (count : ℕ) (s : List (Option O)) (order : List ℕ) (a : ℕ) → length s ≡ count → IsLawfulFrom element reads body count s order → IsIn order a → (o : O) × (outcome_at (after_all element reads body s order) a ≡ Some o)
  has_outcome count s [] a len l (i, h) = absurd (cc)
  has_outcome count s (b ∷ order) a len (lt, e, rest) (zero, h) =
      let (vs, there, is) = gets s b e in
      let same : b ≡ a = same_Some b a h in
      let here : outcome_at (after element reads body s b) a ≡ Some (body b vs) = ap (outcome_at (after element reads body s b)) (sym same) ∙ get_or-set_same s b (after_round element reads body s b) None (omega (arith, len, lt)) ∙ is in
      (body b vs, stays count (after element reads body s b) order a (body b vs) rest here)
  has_outcome count s (b ∷ order) a len (lt, e, rest) (suc i, h) = has_outcome count (after element reads body s b) order a (length-set s b (after_round element reads body s b) ∙ len) rest (i, h)

  -- and no other one has
  from_order : (count : ℕ) (s : List (Option O)) (order : List ℕ) (a : ℕ) (o : O) → IsLawfulFrom element reads body count s order → outcome_at (after_all element reads body s order) a ≡ Some o → (outcome_at s a ≡ Some o) ⊎ IsIn order a
  from_order count s [] a o l h = inl h
  from_order count s (b ∷ order) a o (lt, e, rest) h = by (from_order count (after element reads body s b) order a o rest h) (cases_eq b a)
    where
      by : (outcome_at (after element reads body s b) a ≡ Some o) ⊎ IsIn order a → (b ≡ a) ⊎ (b ≢ a) → (outcome_at s a ≡ Some o) ⊎ IsIn (b ∷ order) a
      by (inr there) same = inr (in_tail b a order there)
      by (inl now) (inl same) = inr (zero, ap Some same)
      by (inl now) (inr other) = inl (sym (get_or-set_other s b a (after_round element reads body s b) None (λ e. other (sym e))) ∙ now)

  pub outcome_after : (count : ℕ) (order : List ℕ) (a : ℕ) → IsLawful element reads body count order → IsIn order a → (o : O) × (outcome_at (state_after element reads body count order) a ≡ Some o)
  outcome_after count order a l there = has_outcome count (replicate count None) order a (length-replicate count None) l there

  pub ran_before : (count : ℕ) (order : List ℕ) (a : ℕ) (o : O) → IsLawful element reads body count order → outcome_at (state_after element reads body count order) a ≡ Some o → IsIn order a
  ran_before count order a o l h = by (from_order count (replicate count None) order a o l h)
    where
      by : (outcome_at {O = O} (replicate count None) a ≡ Some o) ⊎ IsIn order a → IsIn order a
      by (inl now) = let n : ◌≡◌ {A = Option O} None (Some o) = sym (get_or-repeated {A = Option O} count a None) ∙ now in absurd (cc)
      by (inr there) = there

  -- a lawful order in two parts
  pub lawful_parts : (count : ℕ) (s : List (Option O)) (xs : List ℕ) (a : ℕ) (ys : List ℕ) → IsLawfulFrom element reads body count s (xs ++ a ∷ ys) → IsLawfulFrom element reads body count s xs × (a < count) × IsEnabled element reads (after_all element reads body s xs) a
  lawful_parts count s [] a ys (lt, e, rest) = (tt, lt, e)
  lawful_parts count s (b ∷ xs) a ys (lt, e, rest) =
      let (front, below, enabled) = lawful_parts count (after element reads body s b) xs a ys rest in
      ((lt, e, front), below, enabled)

  -- one more activation at the end
  pub lawful_more : (count : ℕ) (s : List (Option O)) (xs : List ℕ) (a : ℕ) → IsLawfulFrom element reads body count s xs → a < count → IsEnabled element reads (after_all element reads body s xs) a → IsLawfulFrom element reads body count s (xs ++ a ∷ [])
  lawful_more count s [] a l lt e = (lt, e, tt)
  lawful_more count s (b ∷ xs) a (below, enabled, rest) lt e = (below, enabled, lawful_more count (after element reads body s b) xs a rest lt e)

  pub after_all-more : (s : List (Option O)) (xs : List ℕ) (a : ℕ) → after_all element reads body s (xs ++ a ∷ []) ≡ after element reads body (after_all element reads body s xs) a
  after_all-more s [] a = refl
  after_all-more s (b ∷ xs) a = after_all-more (after element reads body s b) xs a

  -- states that have each other's outcomes
  pub same_states : (s t : List (Option O)) → length s ≡ length t → Extends s t → Extends t s → s ≡ t
  same_states s t len st ts = same_lists s t len (λ k d lt. get_or_default s k d None lt ∙ at k (outcome_at s k) (outcome_at t k) refl refl ∙ get_or_default t k None d (omega (arith, len, lt)))
    where
      at : (k : ℕ) (p q : Option O) → outcome_at s k ≡ p → outcome_at t k ≡ q → outcome_at s k ≡ outcome_at t k
      at k (Some o) q is meant = is ∙ sym (st.kept k o is)
      at k None None is meant = is ∙ sym meant
      at k None (Some o) is meant = ts.kept k o meant ∙ sym meant

  module _ (kept : IsKept element) where
    pub after_extends : (count : ℕ) (order : List ℕ) → IsLawful element reads body count order → Extends (state_after element reads body count order) (meaning element reads body count)
    after_extends count order l = reached_extends element kept reads body count (state_after element reads body count order) (reached_after count order l)

    -- where one lawful order has the activations of another, its state has the other's outcomes
    pub extends_other : (count : ℕ) (order other : List ℕ) → IsLawful element reads body count order → IsLawful element reads body count other → ((a : ℕ) → IsIn order a → IsIn other a) → Extends (state_after element reads body count order) (state_after element reads body count other)
    extends_other count order other l m subset = record {
      kept = λ a o h.
          let (p, there) = outcome_after count other a m (subset a (ran_before count order a o l h)) in
          let mine = (after_extends count order l).kept a o h in
          let others = (after_extends count other m).kept a p there in
          let same : p ≡ o = same_Some p o (sym others ∙ mine) in
          there ∙ ap Some same;
    }

    -- what is enabled in a state is so in one that has its outcomes, unless it has one there
    pub enabled_later : (s t : List (Option O)) (a : ℕ) → Extends s t → IsEnabled element reads s a → outcome_at t a ≡ None → IsEnabled element reads t a
    enabled_later s t a e enabled none =
        let (vs, there) = enabled_inputs element reads s a enabled in
        enabled_from element reads t a vs none (gathered-extends element kept s t e (reads a) vs there)
