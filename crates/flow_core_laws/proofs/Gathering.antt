-- Lists of elements that are all there.
use Rattle.std.proofs.Common.{◌≡◌, ℕ, zero, suc, ◌+◌, ◌<◌, List, [], ◌∷◌, ◌++◌, Option, Some, None, map, length, get_or, take, refl, sym, ap, ◌∙◌, subst, arith, count_by, cond}
use Rattle.std.specs.Prelude.{is_none, IsSome}
use Rattle.std.specs.Option.{option_map}
use Rattle.std.proofs.lemmas.List.{take_more}
use Rattle.std.proofs.lemmas.List.Sums.{sum_by-cons}
use Rattle.flow_core_laws.specs.Round.{gathered}

module _ {V : Type 0} where
  -- the first element and the rest of a list whose elements are all there
  pub gathered-cons : (o : Option V) (os : List (Option V)) (vs : List V) → gathered (o ∷ os) ≡ Some vs → (v : V) × (ws : List V) × (o ≡ Some v) × (gathered os ≡ Some ws) × (vs ≡ v ∷ ws)
  gathered-cons None os vs h = absurd (cc)
  gathered-cons (Some v) os vs h = inner (gathered os) refl h
    where
      inner : (g : Option (List V)) → gathered os ≡ g → option_map (λ values. v ∷ values) g ≡ Some vs → (w : V) × (ws : List V) × (Some v ≡ Some w) × (gathered os ≡ Some ws) × (vs ≡ w ∷ ws)
      inner None q r = absurd (cc)
      inner (Some ws) q r = (v, ws, refl, q, cc)

  pub gathered_there : (o : Option V) (os : List (Option V)) (v : V) (ws : List V) → o ≡ Some v → gathered os ≡ Some ws → gathered (o ∷ os) ≡ Some (v ∷ ws)
  gathered_there None os v ws p q = absurd (cc)
  gathered_there (Some w) os v ws p q = rw q cc

  -- where each element that one function has is the other's too, so is a whole list of them
  pub gathered-weaker : {A : Type 0} (f g : A → Option V) → ((x : A) (v : V) → f x ≡ Some v → g x ≡ Some v) → (xs : List A) (vs : List V) → gathered (map f xs) ≡ Some vs → gathered (map g xs) ≡ Some vs
  gathered-weaker f g weaker [] vs h = h
  gathered-weaker f g weaker (x ∷ xs) vs h =
      let (v, ws, at_x, at_xs, is) = gathered-cons (f x) (map f xs) vs h in
      gathered_there (g x) (map g xs) v ws (weaker x v at_x) (gathered-weaker f g weaker xs ws at_xs) ∙ ap (λ (l : List V). Some l) (sym is)

  -- one more element at the end
  pub gathered-push : (os : List (Option V)) (vs : List V) (v : V) → gathered os ≡ Some vs → gathered (os ++ Some v ∷ []) ≡ Some (vs ++ v ∷ [])
  gathered-push [] vs v h = cc
  gathered-push (o ∷ os) vs v h =
      let (w, ws, at_o, at_os, is) = gathered-cons o os vs h in
      gathered_there o (os ++ Some v ∷ []) w (ws ++ v ∷ []) at_o (gathered-push os ws v at_os) ∙ ap (λ (l : List V). Some (l ++ v ∷ [])) (sym is)

  -- the first elements of a list are there, and the next one
  pub gathered-take_more : (os : List (Option V)) (i : ℕ) (vs : List V) (v : V) → i < length os → get_or os i None ≡ Some v → gathered (take i os) ≡ Some vs → gathered (take (i + 1) os) ≡ Some (vs ++ v ∷ [])
  gathered-take_more os i vs v lt at_i h = ap gathered (take_more os i None lt ∙ ap (λ (o : Option V). take i os ++ o ∷ []) at_i) ∙ gathered-push (take i os) vs v h

  -- the length of the values
  pub length-gathered : (os : List (Option V)) (vs : List V) → gathered os ≡ Some vs → length vs ≡ length os
  length-gathered [] vs h = ap length (let e : vs ≡ [] = cc in e)
  length-gathered (o ∷ os) vs h =
      let (w, ws, at_o, at_os, is) = gathered-cons o os vs h in
      ap length is ∙ ap suc (length-gathered os ws at_os)

  -- how many elements of a list are missing
  abbrev missing_in : {A : Type 0} → (A → Option V) → List A → ℕ
  missing_in f xs = count_by (λ x. is_none (f x)) xs

  abbrev one_missing : Option V → ℕ
  one_missing o = cond {A = ℕ} (is_none o) 1 0

  missing_in-cons : {A : Type 0} (f : A → Option V) (x : A) (xs : List A) → missing_in f (x ∷ xs) ≡ one_missing (f x) + missing_in f xs
  missing_in-cons f x xs = sum_by-cons (λ y. one_missing (f y)) x xs

  gathered_head : {A : Type 0} (f : A → Option V) (x : A) (xs : List A) (o : Option V) → f x ≡ o → one_missing (f x) + missing_in f xs ≡ 0 → (missing_in f xs ≡ 0 → (ws : List V) × (gathered (map f xs) ≡ Some ws)) → (vs : List V) × (gathered (f x ∷ map f xs) ≡ Some vs)
  gathered_head f x xs None is e rest = let n : one_missing (f x) ≡ 1 = ap one_missing is in absurd (omega arith)
  gathered_head f x xs (Some v) is e rest =
      let n : missing_in f xs ≡ 0 = omega arith in
      let (ws, h) = rest n in
      (v ∷ ws, gathered_there (f x) (map f xs) v ws is h)

  -- no element of a list is missing exactly where they are all there
  pub none_missing : {A : Type 0} (f : A → Option V) (xs : List A) (vs : List V) → gathered (map f xs) ≡ Some vs → count_by (λ x. is_none (f x)) xs ≡ 0
  none_missing f [] vs h = refl
  none_missing f (x ∷ xs) vs h =
      let (v, ws, at_x, at_xs, is) = gathered-cons (f x) (map f xs) vs h in
      let e : one_missing (f x) ≡ 0 = ap one_missing at_x in
      let r : missing_in f xs ≡ 0 = none_missing f xs ws at_xs in
      missing_in-cons f x xs ∙ (omega (arith, e, r))

  pub all_gathered : {A : Type 0} (f : A → Option V) (xs : List A) → count_by (λ x. is_none (f x)) xs ≡ 0 → (vs : List V) × (gathered (map f xs) ≡ Some vs)
  all_gathered f [] h = ([], refl)
  all_gathered f (x ∷ xs) h = gathered_head f x xs (f x) refl (sym (missing_in-cons f x xs) ∙ h) (all_gathered f xs)

  -- each element is there
  pub gathered-at : (os : List (Option V)) (vs : List V) (i : ℕ) → gathered os ≡ Some vs → i < length os → IsSome (get_or os i None)
  gathered-at [] vs i h lt = absurd (omega arith)
  gathered-at (o ∷ os) vs zero h lt = let (w, ws, at_o, at_os, is) = gathered-cons o os vs h in subst (λ (p : Option V). IsSome p) (sym at_o) refl
  gathered-at (o ∷ os) vs (suc i) h lt = let (w, ws, at_o, at_os, is) = gathered-cons o os vs h in gathered-at os ws i at_os (omega arith)

  pub is_there : (os : List (Option V)) (i : ℕ) → IsSome (gathered os) → i < length os → IsSome (get_or os i None)
  is_there os i h lt = by_values (gathered os) refl h
    where
      by_values : (g : Option (List V)) → gathered os ≡ g → IsSome g → IsSome (get_or os i None)
      by_values None e h = absurd (cc)
      by_values (Some vs) e h = gathered-at os vs i e lt
