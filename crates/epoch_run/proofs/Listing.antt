-- The activations that have no end, from one epoch to the next.
use Rattle.std.proofs.Common.{◌≡◌, ℕ, zero, suc, ◌+◌, ◌<◌, ◌≤◌, List, [], ◌∷◌, ◌++◌, Option, Some, None, Bool, true, false, cond, inl, inr, length, refl, sym, ap, ◌∙◌, arith}
use Rattle.std.specs.Prelude.{filter, is_none, is_some, slice_get}
use Rattle.std.specs.Option.{option_map_or}
use Rattle.std.specs.List.{range_with_len}
use Rattle.std.proofs.lemmas.Bool.{cases_lt}
use Rattle.std.proofs.lemmas.List.{get_or_past}
use Rattle.std.proofs.lemmas.List.Elements.{filter-append, filter_agree}
use Rattle.std.proofs.lemmas.List.FromFn.{get_or-map-range_with_len, length-map-range_with_len}
use Rattle.flow_core_epochs.proofs.Frames.{numbers_back, open_all}
use Rattle.flow_core_epochs.proofs.Putting.{open_more, open_with}
use Rattle.flow_core_epochs.specs.Epoch.{number_among, open_in, put_over}
use Rattle.flow_core_laws.specs.Outcome.{has_end_at, outcome_at}
use Rattle.flow_core_laws.specs.declared.task_end.TaskEnd.{TaskEnd}

-- a new activation has no end
pub one_new : {O : Type 0} (ends : List (Option O)) (n : ℕ) → length ends ≤ n → open_in ends (n + 1) ≡ open_in ends n ++ n ∷ []
one_new ends n past = open_with ends n (ap is_none (get_or_past ends n None past))

-- where what has an end keeps one, those without are some of those without before
module _ {O : Type 0} (old new : List (Option O)) (count : ℕ) (keeps : (a : ℕ) → a < count → is_none (outcome_at old a) ≡ false → is_none (outcome_at new a) ≡ false) where
  left_of : (n : ℕ) (b : Bool) → is_none (outcome_at old n) ≡ b → n < count → filter (λ a. is_none (outcome_at new a)) (cond b (n ∷ []) []) ≡ cond (is_none (outcome_at new n)) (n ∷ []) []
  left_of n true is lt = refl
  left_of n false is lt = sym (ap (λ b. cond b (n ∷ []) []) (keeps n lt is))

  below : (n : ℕ) → n ≤ count → filter (λ a. is_none (outcome_at new a)) (open_in old n) ≡ open_in new n
  below zero le = refl
  below (suc n) le =
      let e : suc n ≡ n + 1 = omega arith in
      ap (λ k. filter (λ a. is_none (outcome_at new a)) (open_in old k)) e
      ∙ ap (filter (λ a. is_none (outcome_at new a))) (open_more old n)
      ∙ filter-append (λ a. is_none (outcome_at new a)) (open_in old n) (cond (is_none (outcome_at old n)) (n ∷ []) [])
      ∙ ap (λ xs. xs ++ filter (λ a. is_none (outcome_at new a)) (cond (is_none (outcome_at old n)) (n ∷ []) [])) (below n (omega arith))
      ∙ ap (λ xs. open_in new n ++ xs) (left_of n (is_none (outcome_at old n)) refl (omega arith))
      ∙ sym (open_more new n)
      ∙ ap (open_in new) (sym e)

-- so it is after an epoch whose frames had no end
still : {O : Type 0} (ends : List (Option O)) (frames : List ℕ) (run : List (Option O)) (count : ℕ) → ((f a : ℕ) → slice_get frames f ≡ Some a → outcome_at ends a ≡ None)
    → filter (λ a. is_none (outcome_at (put_over ends frames run count) a)) (open_in ends count) ≡ open_in (put_over ends frames run count) count
still {O = O} ends frames run count waits = below ends (put_over ends frames run count) count keeps count (omega arith)
  where
    after : ℕ → Option O
    after a = option_map_or (outcome_at run) (number_among frames a) (outcome_at ends a)

    no_frame : (a : ℕ) (m : Option ℕ) → number_among frames a ≡ m → is_none (outcome_at ends a) ≡ false → after a ≡ outcome_at ends a
    no_frame a None is ended = ap (λ (m : Option ℕ). option_map_or (outcome_at run) m (outcome_at ends a)) is
    no_frame a (Some f) is ended =
        let no : true ≡ false = sym (ap is_none (waits f a (numbers_back frames a f is))) ∙ ended in
        absurd (cc)

    keeps : (a : ℕ) → a < count → is_none (outcome_at ends a) ≡ false → is_none (outcome_at (put_over ends frames run count) a) ≡ false
    keeps a lt ended =
        ap is_none (get_or-map-range_with_len after 0 count a a None lt (omega arith))
        ∙ ap is_none (no_frame a (number_among frames a) refl ended)
        ∙ ended

pub still_listed : {O : Type 0} (ends : List (Option O)) (frames : List ℕ) (run after : List (Option O)) (readers : List ℕ) (count : ℕ)
    → ((f a : ℕ) → slice_get frames f ≡ Some a → outcome_at ends a ≡ None) → readers ≡ open_in ends count → after ≡ put_over ends frames run count
    → filter (λ a. is_none (outcome_at after a)) readers ≡ open_in after count
still_listed {O = O} ends frames run after readers count waits are put =
    ap (λ (es : List (Option O)). filter (λ a. is_none (outcome_at es a)) readers) put
    ∙ ap (filter (λ a. is_none (outcome_at (put_over ends frames run count) a))) are
    ∙ still ends frames run count waits
    ∙ sym (ap (λ (es : List (Option O)). open_in es count) put)

-- where none is left, each has an end
pub all_ended : (ends : List (Option TaskEnd)) (listed : List ℕ) → listed ≡ open_in ends (length ends) → length listed ≡ 0 → (a : ℕ) → a < length ends → has_end_at ends a ≡ true
all_ended ends listed are none a lt = by (outcome_at ends a) refl
  where
    empty : (xs : List ℕ) → length xs ≡ 0 → xs ≡ []
    empty [] h = refl
    empty (x ∷ xs) h = absurd (cc)

    by : (o : Option TaskEnd) → outcome_at ends a ≡ o → has_end_at ends a ≡ true
    by (Some end) is = ap is_some is
    by None is =
        let (f, at) = open_all ends (length ends) a lt is in
        let no : Some a ≡ None = sym at ∙ ap (λ xs. slice_get xs f) (sym are ∙ empty listed none) in
        absurd (cc)

-- where none ran, all are left
pub none_ended : {O : Type 0} (ends : List (Option O)) (frames : List ℕ) (run after : List (Option O)) (readers : List ℕ) (count : ℕ)
    → length ends ≤ count → readers ≡ open_in ends count → after ≡ put_over ends frames run count → frames ≡ []
    → readers ≡ filter (λ a. is_none (outcome_at after a)) readers
none_ended {O = O} ends frames run after readers count few are put none =
    are ∙ sym (filter_agree (λ a. is_none (outcome_at after a)) (λ a. is_none (outcome_at ends a)) (λ a. ap is_none (same a)) (range_with_len 0 count))
    ∙ sym (still_listed ends frames run after readers count (λ f a h. absurd (let no : Some a ≡ None = sym h ∙ ap (λ xs. slice_get xs f) none in cc)) are put)
  where
    none_put : after ≡ put_over ends [] run count
    none_put = put ∙ ap (λ fs. put_over ends fs run count) none

    same : (a : ℕ) → outcome_at after a ≡ outcome_at ends a
    same a = elim (cases_lt a count) [
      | inl lt ↦ (
          ap (λ (es : List (Option O)). outcome_at es a) none_put
          ∙ get_or-map-range_with_len (λ b. option_map_or (outcome_at run) (number_among [] b) (outcome_at ends b)) 0 count a a None lt (omega arith)
          )
      | inr ge ↦ (
          ap (λ (es : List (Option O)). outcome_at es a) none_put
          ∙ get_or_past (put_over ends [] run count) a None (omega (arith, ge, length-map-range_with_len (λ b. option_map_or (outcome_at run) (number_among [] b) (outcome_at ends b)) 0 count))
          ∙ sym (get_or_past ends a None (omega (arith, ge, few)))
          )
    ]
