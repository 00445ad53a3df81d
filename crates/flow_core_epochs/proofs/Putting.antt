-- Putting the outcomes of frames over others, one by one.
use Rattle.std.proofs.Common.{◌≡◌, ◌≢◌, ℕ, zero, suc, ◌+◌, ◌<◌, ◌≤◌, List, [], ◌∷◌, ◌++◌, Option, Some, None, true, false, cond, length, get_or, set, refl, sym, ap, ◌∙◌, ◌⊎◌, inl, inr, arith}
use Rattle.std.specs.Prelude.{slice_get, ◌==◌, filter, is_none}
use Rattle.std.proofs.lemmas.List.Elements.{filter-append}
use Rattle.std.specs.Option.{option_map_or}
use Rattle.std.specs.List.{range_with_len}
use Rattle.std.proofs.lemmas.Bool.{cases_lt, cases_eq, eq-eqb, eqb-true}
use Rattle.std.proofs.lemmas.List.{same_lists, get_or-set_same, get_or-set_other, get_or_default, append-nil}
use Rattle.std.proofs.lemmas.List.FromFn.{get_or-map-range_with_len, length-map-range_with_len}
use Rattle.std.proofs.lemmas.Option.{same_Some, slice_get_within, slice_get-get_or}
use Rattle.flow_core_laws.specs.Outcome.{outcome_at}
use Rattle.flow_core_laws.proofs.Sources.{position_only}
use Rattle.flow_core_epochs.specs.Epoch.{open_in, number_among, put_over}
use Rattle.flow_core_epochs.proofs.Frames.{numbers_back}

module _ {O : Type 0} where
  -- the first frames have their outcomes, and all others are as they were
  pub record IsPut (old new : List (Option O)) (frames : List ℕ) (run : List (Option O)) (n : ℕ) : Type 0 where
    pub frames_have : (f a : ℕ) → f < n → slice_get frames f ≡ Some a → outcome_at new a ≡ outcome_at run f
    pub others : (a : ℕ) → ((f : ℕ) → f < n → slice_get frames f ≡ Some a → ⊥) → outcome_at new a ≡ outcome_at old a

  pub IsPut-none : (old : List (Option O)) (frames : List ℕ) (run : List (Option O)) → IsPut old old frames run 0
  IsPut-none old frames run = record { frames_have = λ f a lt. absurd (omega arith); others = λ a none. refl }

  pub IsPut-more : (old new : List (Option O)) (frames : List ℕ) (run : List (Option O)) (n : ℕ) → ((f g a : ℕ) → slice_get frames f ≡ Some a → slice_get frames g ≡ Some a → f ≡ g) → n < length frames → get_or frames n 0 < length new → IsPut old new frames run n → IsPut old (set new (get_or frames n 0) (get_or run n None)) frames run (n + 1)
  IsPut-more old new frames run n differ lt exists put = record { frames_have = λ f a l at. have f a l at (cases_eq a next) (cases_lt f n); others = λ a none. stay a none (cases_eq a next) }
    where
      next : ℕ
      next = get_or frames n 0

      next_is : slice_get frames n ≡ Some next
      next_is = slice_get-get_or frames n 0 lt

      have : (f a : ℕ) → f < n + 1 → slice_get frames f ≡ Some a → (a ≡ next) ⊎ (a ≢ next) → (f < n) ⊎ (n ≤ f) → outcome_at (set new next (get_or run n None)) a ≡ outcome_at run f
      have f a l at (inl same) order =
          let e : f ≡ n = differ f n next (at ∙ ap Some same) next_is in
          ap (outcome_at (set new next (get_or run n None))) same ∙ get_or-set_same new next (get_or run n None) None exists ∙ ap (outcome_at run) (sym e)
      have f a l at (inr other) (inl less) = get_or-set_other new next a (get_or run n None) None other ∙ put.frames_have f a less at
      have f a l at (inr other) (inr more) = absurd (let e : f ≡ n = omega arith in other (same_Some a next (sym at ∙ ap (slice_get frames) e ∙ next_is)))

      stay : (a : ℕ) → ((f : ℕ) → f < n + 1 → slice_get frames f ≡ Some a → ⊥) → (a ≡ next) ⊎ (a ≢ next) → outcome_at (set new next (get_or run n None)) a ≡ outcome_at old a
      stay a none (inl same) = absurd (none n (omega arith) (next_is ∙ ap Some (sym same)))
      stay a none (inr other) = get_or-set_other new next a (get_or run n None) None other ∙ put.others a (λ f l at. none f (omega arith) at)

  pub IsPut-all : (old new : List (Option O)) (frames : List ℕ) (run : List (Option O)) (n : ℕ) → ((f g a : ℕ) → slice_get frames f ≡ Some a → slice_get frames g ≡ Some a → f ≡ g) → length new ≡ length old → length frames ≤ n → IsPut old new frames run n → new ≡ put_over old frames run (length old)
  IsPut-all old new frames run n differ len all put = same_lists new (put_over old frames run (length old)) (len ∙ sym (length-map-range_with_len after 0 (length old))) (λ k d lt. get_or_default new k d None lt ∙ each k (number_among frames k) refl ∙ sym (get_or-map-range_with_len after 0 (length old) k k d (omega (arith, len)) (omega arith)))
    where
      after : ℕ → Option O
      after a = option_map_or (outcome_at run) (number_among frames a) (outcome_at old a)

      each : (k : ℕ) (m : Option ℕ) → number_among frames k ≡ m → outcome_at new k ≡ after k
      each k (Some f) e =
          let at = numbers_back frames k f e in
          put.frames_have f k (let l = slice_get_within frames f k at in omega arith) at ∙ sym (ap (λ (m : Option ℕ). option_map_or (outcome_at run) m (outcome_at old k)) e)
      each k None e = put.others k (λ f l at. no_number k f e at) ∙ sym (ap (λ (m : Option ℕ). option_map_or (outcome_at run) m (outcome_at old k)) e)
        where
          no_number : (k f : ℕ) → number_among frames k ≡ None → slice_get frames f ≡ Some k → ⊥
          no_number k f e at = let z : number_among frames k ≡ Some f = position_only (λ g. g == k) frames f k at (eq-eqb k k refl) (λ j b b_is same. differ j f k (b_is ∙ ap Some (eqb-true b k same)) at) in absurd (cc)

-- one more number
range_more : (a n : ℕ) → range_with_len a (n + 1) ≡ range_with_len a n ++ (a + n) ∷ []
range_more a zero = ap (λ k. range_with_len a k) (let e : 0 + 1 ≡ 1 = omega arith in e) ∙ ap (λ k. k ∷ []) (let e : a ≡ a + 0 = omega arith in e)
range_more a (suc n) =
    ap (λ k. range_with_len a k) (let e : suc n + 1 ≡ suc (n + 1) = omega arith in e)
    ∙ ap (λ xs. a ∷ xs) (range_more (a + 1) n)
    ∙ ap (λ k. a ∷ (range_with_len (a + 1) n ++ k ∷ [])) (let e : a + 1 + n ≡ a + suc n = omega arith in e)

-- one more activation
pub open_more : {O : Type 0} (state : List (Option O)) (n : ℕ) → open_in state (n + 1) ≡ open_in state n ++ cond (is_none (outcome_at state n)) (n ∷ []) []
open_more state n =
    ap (filter (λ a. is_none (outcome_at state a))) (range_more 0 n)
    ∙ filter-append (λ a. is_none (outcome_at state a)) (range_with_len 0 n) ((0 + n) ∷ [])
    ∙ ap (λ k. open_in state n ++ cond (is_none (outcome_at state k)) (k ∷ []) []) (let e : 0 + n ≡ n = omega arith in e)

pub open_with : {O : Type 0} (state : List (Option O)) (n : ℕ) → is_none (outcome_at state n) ≡ true → open_in state (n + 1) ≡ open_in state n ++ n ∷ []
open_with state n h = open_more state n ∙ ap (λ b. open_in state n ++ cond b (n ∷ []) []) h

pub open_without : {O : Type 0} (state : List (Option O)) (n : ℕ) → is_none (outcome_at state n) ≡ false → open_in state (n + 1) ≡ open_in state n
open_without state n h = open_more state n ∙ ap (λ b. open_in state n ++ cond b (n ∷ []) []) h ∙ append-nil (open_in state n)
