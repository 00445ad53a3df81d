-- The first point in a list at which a test passes.
use Rattle.std.proofs.Common.{◌≡◌, ℕ, ◌+◌, ◌<◌, ◌≤◌, Bool, true, false, cond, List, [], ◌∷◌, ◌++◌, length, get_or, Some, None, position, unwrap_or, refl, sym, ap, ◌∙◌, ⊎_elim, arith, length-append, add-zero, eqb, lt-ltb, le-ltb, eq-eqb, eqb-true}
use Rattle.std.proofs.lemmas.Bool.{cond-true, cond-false, cases_lt, cond_both, false_from_ne_true}
use Rattle.std.proofs.lemmas.List.Folds.{position_or_len_push}
use Rattle.std.proofs.lemmas.List.Sums.{position_or_len_is}
use Rattle.std.specs.List.{position_or_len}
use Rattle.std.specs.Prelude.{nat_lt, not}

module _ {X : Type 0} (p : X → Bool) (xs : List X) (d : X) where
  pub position_here : (i : ℕ) → i < length xs → ((k : ℕ) → k < i → p (get_or xs k d) ≡ false) → p (get_or xs i d) ≡ true → position p xs ≡ Some i
  position_here i below before here =
      let is : position_or_len p xs ≡ i = position_or_len_is p xs i d (omega arith) before (λ _. here) in
      cond-true (nat_lt (position_or_len p xs) (length xs)) _ _ (lt-ltb _ _ (omega arith)) ∙ ap Some is

  pub position_nowhere : ((k : ℕ) → k < length xs → p (get_or xs k d) ≡ false) → position p xs ≡ None
  position_nowhere before =
      let is : position_or_len p xs ≡ length xs = position_or_len_is p xs (length xs) d (omega arith) before (λ over. absurd (omega (arith, over))) in
      cond-false (nat_lt (position_or_len p xs) (length xs)) _ _ (le-ltb _ _ (omega arith))

position_or_len-le : {X : Type 0} (p : X → Bool) (xs : List X) → position_or_len p xs ≤ length xs
position_or_len-le p [] = omega arith
position_or_len-le p (x ∷ xs) =
    let later = position_or_len-le p xs in
    let P : ℕ → Type 0 = λ k. k ≤ length (x ∷ xs) in
    cond_both (not (p x)) (1 + position_or_len p xs) 0 P (λ _. omega (arith, later)) (λ _. omega arith)

module _ {X : Type 0} (p : X → Bool) where
  position_some : (xs : List X) → position_or_len p xs < length xs → position p xs ≡ Some (position_or_len p xs)
  position_some xs below = cond-true (nat_lt (position_or_len p xs) (length xs)) _ _ (lt-ltb (position_or_len p xs) (length xs) below)

  position_none : (xs : List X) → length xs ≤ position_or_len p xs → position p xs ≡ None
  position_none xs over = cond-false (nat_lt (position_or_len p xs) (length xs)) _ _ (le-ltb (position_or_len p xs) (length xs) over)

  -- the first position, or the length
  pub unwrap_or-position : (xs : List X) → unwrap_or (position p xs) (length xs) ≡ position_or_len p xs
  unwrap_or-position xs =
      ⊎_elim
      (λ below. ap (λ o. unwrap_or o (length xs)) (position_some xs below))
      (λ over. ap (λ o. unwrap_or o (length xs)) (position_none xs over) ∙ omega (arith, over, position_or_len-le p xs))
      (cases_lt (position_or_len p xs) (length xs))

  some_either : (b : Bool) (k n : ℕ) → cond b (Some (unwrap_or (Some k) n)) (Some k) ≡ Some k
  some_either true k n = refl
  some_either false k n = refl

  push_new : (xs : List X) (y : X) (b : Bool) → p y ≡ b → length xs ≤ position_or_len p xs → position p (xs ++ y ∷ []) ≡ cond b (Some (length xs)) None
  push_new xs y true e over =
      let all : position_or_len p xs ≡ length xs = omega (arith, over, position_or_len-le p xs) in
      let is : position_or_len p (xs ++ y ∷ []) ≡ length xs = position_or_len_push p xs y ∙ cond-true (eqb (position_or_len p xs) (length xs)) _ _ (eq-eqb _ _ all) ∙ ap (λ b. length xs + cond b 0 1) e ∙ add-zero (length xs) in
      position_some (xs ++ y ∷ []) (omega (arith, length-append xs (y ∷ []))) ∙ ap Some is
  push_new xs y false e over =
      let all : position_or_len p xs ≡ length xs = omega (arith, over, position_or_len-le p xs) in
      let is : position_or_len p (xs ++ y ∷ []) ≡ length xs + 1 = position_or_len_push p xs y ∙ cond-true (eqb (position_or_len p xs) (length xs)) _ _ (eq-eqb _ _ all) ∙ ap (λ b. length xs + cond b 0 1) e in
      position_none (xs ++ y ∷ []) (omega (arith, length-append xs (y ∷ [])))

  -- one more element
  pub position-push : (xs : List X) (y : X) → position p (xs ++ y ∷ []) ≡ cond (p y) (Some (unwrap_or (position p xs) (length xs))) (position p xs)
  position-push xs y =
      ⊎_elim
      (λ below.
      let k = position_or_len p xs in
      let apart : eqb k (length xs) ≡ false = false_from_ne_true _ (λ e. let same = eqb-true _ _ e in omega (arith, same, below)) in
      let is : position_or_len p (xs ++ y ∷ []) ≡ k = position_or_len_push p xs y ∙ cond-false (eqb k (length xs)) _ _ apart in
      position_some (xs ++ y ∷ []) (omega (arith, length-append xs (y ∷ []))) ∙ ap Some is ∙ sym (some_either (p y) k (length xs)) ∙ ap (λ o. cond (p y) (Some (unwrap_or o (length xs))) o) (sym (position_some xs below)))
      (λ over. push_new xs y (p y) refl over ∙ ap (λ o. cond (p y) (Some (unwrap_or o (length xs))) o) (sym (position_none xs over)))
      (cases_lt (position_or_len p xs) (length xs))
