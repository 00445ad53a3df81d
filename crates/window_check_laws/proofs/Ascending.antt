-- Ascending slots: lists of them with the same members are equal, and what is collected one by one ascends.
use Rattle.std.proofs.Common.{◌≡◌, ℕ, ◌<◌, ◌≤◌, ◌+◌, ◌==◌, ◌||◌, Bool, true, false, List, [], ◌∷◌, ◌++◌, refl, ap, sym, ◌∙◌, inl, inr, arith, eq-eqb, Ordering}
use Rattle.std.specs.BTreeSet.{insert_key}
use Rattle.std.specs.Ordering.{nat_cmp, match_ordering}
use Rattle.std.specs.declared.cmp.Ordering.TheVariants.{Less, Equal, Greater}
use Rattle.std.proofs.lemmas.Bool.{cases_order, lt-ltb, le-ltb, ne_eqb}
use Rattle.std.proofs.lemmas.Map.Lookups.{exact_unsigned}
use Rattle.os_ast.specs.ClauseMembers.{is_in}
use Rattle.window_check_laws.specs.CapturedByUse.{Ascends}
use Rattle.window_check_laws.specs.Slots.{with_slot, with_slots}

or_other : (a b c : Bool) → (a || (b || c)) ≡ (b || (a || c))
or_other true true c = refl
or_other true false c = refl
or_other false true c = refl
or_other false false c = refl

or_twice : (a c : Bool) → (a || c) ≡ (a || (a || c))
or_twice true c = refl
or_twice false c = refl

is_in-inserted : (id k x : ℕ) (xs : List ℕ) (r : Ordering) → nat_cmp k x ≡ r →
    is_in id (insert_key nat_cmp xs k) ≡ ((k == id) || is_in id xs) →
    is_in id (match_ordering r (k ∷ x ∷ xs) (x ∷ xs) (x ∷ insert_key nat_cmp xs k)) ≡ ((k == id) || is_in id (x ∷ xs))
is_in-inserted id k x xs Less e same = refl
is_in-inserted id k x xs Equal e same = rw (exact_unsigned k x e) (or_twice (x == id) (is_in id xs))
is_in-inserted id k x xs Greater e same = rw same (or_other (x == id) (k == id) (is_in id xs))

-- the names in order, with one more
pub is_in-insert_key : (id k : ℕ) (names : List ℕ) → is_in id (insert_key nat_cmp names k) ≡ ((k == id) || is_in id names)
is_in-insert_key id k [] = refl
is_in-insert_key id k (x ∷ xs) = is_in-inserted id k x xs (nat_cmp k x) refl (is_in-insert_key id k xs)

ascends_lower : (lo from : ℕ) (xs : List ℕ) → lo ≤ from → Ascends from xs → Ascends lo xs
ascends_lower lo from [] h a = tt
ascends_lower lo from (x ∷ xs) h a = (omega (arith, h, a.0), a.1)

missing : (lo x : ℕ) (xs : List ℕ) → x < lo → Ascends lo xs → is_in x xs ≡ false
missing lo x [] h a = refl
missing lo x (y ∷ ys) h a = rw (ne_eqb y x (λ same. absurd (omega (arith, h, a.0, same)))) (missing (y + 1) x ys (omega (arith, h, a.0)) a.1)

abbrev pub SameMembers : List ℕ → List ℕ → Type 0
SameMembers xs ys = (x : ℕ) → is_in x xs ≡ is_in x ys

there : (x : ℕ) (xs : List ℕ) → is_in x (x ∷ xs) ≡ true
there x xs = rw (eq-eqb x x refl) refl

rest_members : (x : ℕ) (xs ys : List ℕ) → Ascends (x + 1) xs → Ascends (x + 1) ys → SameMembers (x ∷ xs) (x ∷ ys) → SameMembers xs ys
rest_members x xs ys a b same z = elim (cases_order z x) [
  | inl equal ↦ missing (x + 1) z xs (omega (arith, equal)) a ∙ sym (missing (x + 1) z ys (omega (arith, equal)) b)
  | inr apart ↦ elim apart [
    | inl less ↦ missing (x + 1) z xs (omega (arith, less)) a ∙ sym (missing (x + 1) z ys (omega (arith, less)) b)
    | inr more ↦ (let none : (x == z) ≡ false = ne_eqb x z (λ equal. absurd (omega (arith, equal, more))) in rw none at (same z))
  ]
]

pub same_members : (lo : ℕ) (xs ys : List ℕ) → Ascends lo xs → Ascends lo ys → SameMembers xs ys → xs ≡ ys
same_members lo [] [] a b same = refl
same_members lo [] (y ∷ ys) a b same = absurd (let e : false ≡ true = same y ∙ there y ys in cc)
same_members lo (x ∷ xs) [] a b same = absurd (let e : false ≡ true = sym (same x) ∙ there x xs in cc)
same_members lo (x ∷ xs) (y ∷ ys) a b same = elim (cases_order x y) [
  | inl equal ↦ heads equal (λ b m. same_members (x + 1) xs ys a.1 b m)
  | inr apart ↦ elim apart [
    | inl less ↦ absurd (let e : false ≡ true = sym (missing y x (y ∷ ys) less (omega arith, b.1)) ∙ (sym (same x) ∙ there x xs) in cc)
    | inr more ↦ absurd (let e : false ≡ true = sym (missing x y (x ∷ xs) more (omega arith, a.1)) ∙ (same y ∙ there y ys) in cc)
  ]
]
  where
    heads : x ≡ y → (Ascends (x + 1) ys → SameMembers xs ys → xs ≡ ys) → x ∷ xs ≡ y ∷ ys
    heads equal rest =
        let below : Ascends (x + 1) ys = rw (sym equal) at b.1 in
        let members : SameMembers (x ∷ xs) (x ∷ ys) = λ z. same z ∙ ap (λ v. is_in z (v ∷ ys)) (sym equal) in
        ap (λ zs. x ∷ zs) (rest below (rest_members x xs ys a.1 below members)) ∙ ap (λ v. v ∷ ys) equal

-- one more slot
pub ascends_insert : (lo k : ℕ) (xs : List ℕ) → lo ≤ k → Ascends lo xs → Ascends lo (insert_key nat_cmp xs k)
ascends_insert lo k [] h a = (h, tt)
ascends_insert lo k (x ∷ xs) h a = elim (cases_order k x) [
  | inl same ↦ rw (same, le-ltb x x (omega arith), eq-eqb x x refl) a
  | inr apart ↦ elim apart [
    | inl less ↦ rw (lt-ltb k x less) (h, (omega (arith, less), a.1))
    | inr more ↦ rw (le-ltb k x (omega (arith, more)), ne_eqb k x (λ same. absurd (omega (arith, more, same)))) (a.0, ascends_insert (x + 1) k xs (omega (arith, more)) a.1)
  ]
]

pub ascends_with_slots : (xs slots : List ℕ) → Ascends 0 slots → Ascends 0 (with_slots xs slots)
ascends_with_slots [] slots a = a
ascends_with_slots (x ∷ xs) slots a = ascends_with_slots xs (with_slot x slots) (ascends_insert 0 x slots (omega arith) a)

or_swap : (a b c : Bool) → (b || (a || c)) ≡ ((a || b) || c)
or_swap true true c = refl
or_swap true false c = refl
or_swap false true c = refl
or_swap false false c = refl

-- the members of what was collected
pub is_in-with_slots : (z : ℕ) (xs slots : List ℕ) → is_in z (with_slots xs slots) ≡ (is_in z xs || is_in z slots)
is_in-with_slots z [] slots = refl
is_in-with_slots z (x ∷ xs) slots =
    is_in-with_slots z xs (with_slot x slots)
    ∙ ap (λ b. is_in z xs || b) (is_in-insert_key z x slots)
    ∙ or_swap (x == z) (is_in z xs) (is_in z slots)

or_assoc : (a b c : Bool) → (a || (b || c)) ≡ ((a || b) || c)
or_assoc true b c = refl
or_assoc false b c = refl

pub is_in-append : (z : ℕ) (xs ys : List ℕ) → is_in z (xs ++ ys) ≡ (is_in z xs || is_in z ys)
is_in-append z [] ys = refl
is_in-append z (x ∷ xs) ys = ap (λ b. (x == z) || b) (is_in-append z xs ys) ∙ or_assoc (x == z) (is_in z xs) (is_in z ys)
