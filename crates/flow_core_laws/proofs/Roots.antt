-- The least root of a list of elements.
use Rattle.std.proofs.Common.{◌≡◌, ℕ, zero, suc, ◌<◌, ◌≤◌, List, [], ◌∷◌, Some, None, map, length, get_or, refl, sym, ap, ◌∙◌, subst, ◌⊎◌, inl, inr, arith}
use Rattle.std.specs.Prelude.{min, Contains}
use Rattle.std.specs.List.{filter_map, fold, reduce}
use Rattle.std.proofs.lemmas.Bool.{cases_lt}
use Rattle.std.proofs.lemmas.Option.{same_Some}
use Rattle.flow_core_laws.specs.declared.elem.Elem.{Elem}
use Rattle.flow_core_laws.specs.declared.elem.Elem.TheVariants.{Value, Poison}
use Rattle.flow_core_laws.specs.Poisoning.{poison_root, values_of, least_root}
use Rattle.flow_core_laws.specs.Laws.{IsLeastRoot}

-- the least of a list of numbers, and of one before them
least_le_first : (a : ℕ) (xs : List ℕ) → fold min a xs ≤ a
least_le_first a [] = omega arith
least_le_first a (x ∷ xs) = omega (arith, least_le_first (min a x) xs)

least_le_others : (a : ℕ) (xs : List ℕ) (k : ℕ) → k < length xs → fold min a xs ≤ get_or xs k 0
least_le_others a [] k lt = absurd (omega arith)
least_le_others a (x ∷ xs) zero lt = omega (arith, least_le_first (min a x) xs)
least_le_others a (x ∷ xs) (suc k) lt = least_le_others (min a x) xs k (omega arith)

least_le : (a : ℕ) (xs : List ℕ) (k : ℕ) → k < length (a ∷ xs) → fold min a xs ≤ get_or (a ∷ xs) k 0
least_le a xs zero lt = least_le_first a xs
least_le a xs (suc k) lt = least_le_others a xs k (omega arith)

least_is_one : (a : ℕ) (xs : List ℕ) → (k : ℕ) × (k < length (a ∷ xs)) × (get_or (a ∷ xs) k 0 ≡ fold min a xs)
least_is_one a [] = (0, omega arith, refl)
least_is_one a (x ∷ xs) = step (least_is_one (min a x) xs) (cases_lt x a)
  where
    step : (k : ℕ) × (k < length (min a x ∷ xs)) × (get_or (min a x ∷ xs) k 0 ≡ fold min (min a x) xs) → (x < a) ⊎ (a ≤ x) → (k : ℕ) × (k < length (a ∷ x ∷ xs)) × (get_or (a ∷ x ∷ xs) k 0 ≡ fold min (min a x) xs)
    step (zero, lt, is) (inl less) = (1, omega arith, omega (arith, is))
    step (zero, lt, is) (inr more) = (0, omega arith, omega (arith, is))
    step (suc k, lt, is) c = (suc (suc k), omega arith, is)

-- the roots of a list of elements, and the elements that are poison
behind : (e : Elem) (es : List Elem) (x : Elem) → Contains es x → Contains (e ∷ es) x
behind e es x (k, lt, is) = (suc k, omega arith, is)

root_is_of_one : (es : List Elem) (k : ℕ) → k < length (filter_map poison_root es) → Contains es (Poison (get_or (filter_map poison_root es) k 0))
root_is_of_one [] k lt = absurd (omega arith)
root_is_of_one (Value v ∷ es) k lt = behind (Value v) es _ (root_is_of_one es k lt)
root_is_of_one (Poison r ∷ es) zero lt = (0, omega arith, refl)
root_is_of_one (Poison r ∷ es) (suc k) lt = behind (Poison r) es _ (root_is_of_one es k (omega arith))

one_has_root : (es : List Elem) (r : ℕ) → Contains es (Poison r) → (k : ℕ) × (k < length (filter_map poison_root es)) × (get_or (filter_map poison_root es) k 0 ≡ r)
one_has_root [] r (k, lt, is) = absurd (omega arith)
one_has_root (Value v ∷ es) r (zero, lt, is) = absurd (cc)
one_has_root (Value v ∷ es) r (suc k, lt, is) = one_has_root es r (k, omega arith, is)
one_has_root (Poison q ∷ es) r (zero, lt, is) = (0, omega arith, cc)
one_has_root (Poison q ∷ es) r (suc k, lt, is) = let (j, within, at_j) = one_has_root es r (k, omega arith, is) in (suc j, omega arith, at_j)

pub least_root_is_least : (es : List Elem) (root : ℕ) → least_root es ≡ Some root → IsLeastRoot es root
least_root_is_least es root h = by_roots (filter_map poison_root es) refl h
  where
    by_roots : (rs : List ℕ) → filter_map poison_root es ≡ rs → reduce min rs ≡ Some root → IsLeastRoot es root
    by_roots [] e is = absurd (cc)
    by_roots (a ∷ rs) e is = record { is_of_one = of_one; is_least = least }
      where
        same : fold min a rs ≡ root
        same = same_Some (fold min a rs) root is

        of_one : Contains es (Poison root)
        of_one =
            let (k, lt, at_k) = least_is_one a rs in
            subst (λ (r : ℕ). Contains es (Poison r)) (ap (λ (l : List ℕ). get_or l k 0) e ∙ at_k ∙ same) (root_is_of_one es k (subst (λ (l : List ℕ). k < length l) (sym e) lt))

        least : (other : ℕ) → Contains es (Poison other) → root ≤ other
        least other c =
            let (k, lt, at_k) = one_has_root es other c in
            let le : fold min a rs ≤ get_or (a ∷ rs) k 0 = least_le a rs k (subst (λ (l : List ℕ). k < length l) e lt) in
            let at : get_or (a ∷ rs) k 0 ≡ other = sym (ap (λ (l : List ℕ). get_or l k 0) e) ∙ at_k in
            omega (arith, le, at, same)

-- without a root there are values alone
no_roots : (rs : List ℕ) → reduce min rs ≡ None → rs ≡ []
no_roots [] h = refl
no_roots (a ∷ rs) h = absurd (cc)

all_values : (es : List Elem) → filter_map poison_root es ≡ [] → es ≡ map Value (values_of es)
all_values [] h = refl
all_values (Value v ∷ es) h = ap (λ (l : List Elem). Value v ∷ l) (all_values es h)
all_values (Poison r ∷ es) h = absurd (cc)

pub others_are_values : (es : List Elem) → least_root es ≡ None → es ≡ map Value (values_of es)
others_are_values es h = all_values es (no_roots (filter_map poison_root es) h)
