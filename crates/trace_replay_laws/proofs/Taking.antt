-- What orders take from lists.
use Rattle.std.proofs.Common.{◌≡◌, ◌≢◌, ℕ, zero, suc, ◌+◌, ◌<◌, ◌≤◌, Bool, true, false, cond, eqb, List, [], ◌∷◌, ◌++◌, All, Option, Some, None, length, get_or, drop, map, refl, sym, ap, ◌∙◌, subst, ◌⊎◌, inl, inr, arith, length-append, append_assoc, append-nil, eq-eqb}
use Rattle.std.specs.Prelude.{◌==◌, slice_get, option_and_then}
use Rattle.std.specs.List.{filter}
use Rattle.std.proofs.lemmas.Bool.{cases_lt, cases_eq, cases_order, ne_eqb}
use Rattle.std.proofs.lemmas.Option.{same_Some, slice_get_within, slice_get-get_or, slice_get_past, get_or_from_slice_get}
use Rattle.trace_replay_laws.specs.Lists.{number_in, IsBefore, HaveNoRepeat, Taken, frames_of, taken_from, IsOrderOf, IsOrderOfHeads, head_after}
use Rattle.trace_replay_laws.proofs.Lawful.{IsIn, in_tail}

-- a list in front of another
pub at_front : {X : Type 0} (xs ys : List X) (i : ℕ) (x : X) → slice_get xs i ≡ Some x → slice_get (xs ++ ys) i ≡ Some x
at_front [] ys i x h = absurd (cc)
at_front (y ∷ xs) ys zero x h = h
at_front (y ∷ xs) ys (suc i) x h = at_front xs ys i x h

pub front_at : {X : Type 0} (xs ys : List X) (i : ℕ) (x : X) → i < length xs → slice_get (xs ++ ys) i ≡ Some x → slice_get xs i ≡ Some x
front_at [] ys i x lt h = absurd (omega arith)
front_at (y ∷ xs) ys zero x lt h = h
front_at (y ∷ xs) ys (suc i) x lt h = front_at xs ys i x (omega arith) h

pub behind : {X : Type 0} (xs : List X) (y : X) (ys : List X) → slice_get (xs ++ y ∷ ys) (length xs) ≡ Some y
behind [] y ys = refl
behind (x ∷ xs) y ys = behind xs y ys

same_length : {X : Type 0} (xs ys : List X) → xs ++ ys ≡ xs → ys ≡ []
same_length xs [] e = refl
same_length xs (y ∷ ys) e = let l = ap length e in let s = length-append xs (y ∷ ys) in absurd (omega (arith, l, s))

-- what an order takes from a list, where one more is taken first
taken-here : (k : ℕ) (t : Taken) (order : List Taken) → t.list ≡ k → taken_from k (t ∷ order) ≡ t.frame ∷ taken_from k order
taken-here k t order is = ap (λ (b : Bool). frames_of (cond b (t ∷ filter (λ (u : Taken). u.list == k) order) (filter (λ (u : Taken). u.list == k) order))) (eq-eqb t.list k is)

taken-other : (k : ℕ) (t : Taken) (order : List Taken) → t.list ≢ k → taken_from k (t ∷ order) ≡ taken_from k order
taken-other k t order n = ap (λ (b : Bool). frames_of (cond b (t ∷ filter (λ (u : Taken). u.list == k) order) (filter (λ (u : Taken). u.list == k) order))) (ne_eqb t.list k n)

pub taken-append : (k : ℕ) (xs ys : List Taken) → taken_from k (xs ++ ys) ≡ taken_from k xs ++ taken_from k ys
taken-append k [] ys = refl
taken-append k (t ∷ xs) ys = by (cases_eq t.list k) (taken-append k xs ys)
  where
    by : (t.list ≡ k) ⊎ (t.list ≢ k) → taken_from k (xs ++ ys) ≡ taken_from k xs ++ taken_from k ys → taken_from k (t ∷ (xs ++ ys)) ≡ taken_from k (t ∷ xs) ++ taken_from k ys
    by (inl is) rest = taken-here k t (xs ++ ys) is ∙ ap (λ (l : List ℕ). t.frame ∷ l) rest ∙ sym (ap (λ (l : List ℕ). l ++ taken_from k ys) (taken-here k t xs is))
    by (inr n) rest = taken-other k t (xs ++ ys) n ∙ rest ∙ sym (ap (λ (l : List ℕ). l ++ taken_from k ys) (taken-other k t xs n))

-- one more number from a list
pub taken-more : (k : ℕ) (order : List Taken) (f : ℕ) → taken_from k (order ++ record { list = k; frame = f } ∷ []) ≡ taken_from k order ++ f ∷ []
taken-more k order f = taken-append k order (record { list = k; frame = f } ∷ []) ∙ ap (λ (l : List ℕ). taken_from k order ++ l) (taken-here k (record { list = k; frame = f }) [] refl)

pub taken-more_elsewhere : (k j : ℕ) (order : List Taken) (f : ℕ) → j ≢ k → taken_from k (order ++ record { list = j; frame = f } ∷ []) ≡ taken_from k order
taken-more_elsewhere k j order f n = taken-append k order (record { list = j; frame = f } ∷ []) ∙ ap (λ (l : List ℕ). taken_from k order ++ l) (taken-other k (record { list = j; frame = f }) [] n) ∙ append-nil (taken_from k order)

pub frames-append : (xs ys : List Taken) → frames_of (xs ++ ys) ≡ frames_of xs ++ frames_of ys
frames-append [] ys = refl
frames-append (t ∷ xs) ys = ap (λ (l : List ℕ). t.frame ∷ l) (frames-append xs ys)

-- each number of an order is one that it takes from a list, at a place there
pub frame_taken : (order : List Taken) (a : ℕ) → IsIn (frames_of order) a → (k : ℕ) × (j : ℕ) × (slice_get (taken_from k order) j ≡ Some a) × ((n : ℕ) → All (λ (t : Taken). t.list < n) order → k < n)
frame_taken [] a (i, h) = absurd (cc)
frame_taken (t ∷ order) a (zero, h) =
    (t.list, zero, ap (λ (l : List ℕ). slice_get l 0) (taken-here t.list t order refl) ∙ h, λ n all. all 0 t (omega arith))
frame_taken (t ∷ order) a (suc i, h) = by (frame_taken order a (i, h))
  where
    by : (k : ℕ) × (j : ℕ) × (slice_get (taken_from k order) j ≡ Some a) × ((n : ℕ) → All (λ (u : Taken). u.list < n) order → k < n) → (k : ℕ) × (j : ℕ) × (slice_get (taken_from k (t ∷ order)) j ≡ Some a) × ((n : ℕ) → All (λ (u : Taken). u.list < n) (t ∷ order) → k < n)
    by (k, j, there, exists) = at (cases_eq t.list k)
      where
        exists_too : (n : ℕ) → All (λ (u : Taken). u.list < n) (t ∷ order) → k < n
        exists_too n all = exists n (λ i d lt. all (suc i) d (omega (arith, lt)))

        at : (t.list ≡ k) ⊎ (t.list ≢ k) → (k : ℕ) × (j : ℕ) × (slice_get (taken_from k (t ∷ order)) j ≡ Some a) × ((n : ℕ) → All (λ (u : Taken). u.list < n) (t ∷ order) → k < n)
        at (inl is) = (k, suc j, ap (λ (l : List ℕ). slice_get l (suc j)) (taken-here k t order is) ∙ there, exists_too)
        at (inr n) = (k, j, ap (λ (l : List ℕ). slice_get l j) (taken-other k t order n) ∙ there, exists_too)

-- and what is taken from a list is a number of the order
pub taken_frame : (order : List Taken) (k j a : ℕ) → slice_get (taken_from k order) j ≡ Some a → IsIn (frames_of order) a
taken_frame [] k j a h = absurd (cc)
taken_frame (t ∷ order) k j a h = by (cases_eq t.list k) j h (taken_frame order k)
  where
    by : (t.list ≡ k) ⊎ (t.list ≢ k) → (j : ℕ) → slice_get (taken_from k (t ∷ order)) j ≡ Some a → ((j a : ℕ) → slice_get (taken_from k order) j ≡ Some a → IsIn (frames_of order) a) → IsIn (frames_of (t ∷ order)) a
    by (inr n) j h rest = in_tail t.frame a (frames_of order) (rest j a (sym (ap (λ (l : List ℕ). slice_get l j) (taken-other k t order n)) ∙ h))
    by (inl is) zero h rest = (zero, sym (ap (λ (l : List ℕ). slice_get l 0) (taken-here k t order is)) ∙ h)
    by (inl is) (suc j) h rest = in_tail t.frame a (frames_of order) (rest j a (sym (ap (λ (l : List ℕ). slice_get l (suc j)) (taken-here k t order is)) ∙ h))

-- the list of a number
pub list_of : (lists : List (List ℕ)) (k j f : ℕ) → number_in lists k j ≡ Some f → (list : List ℕ) × (slice_get lists k ≡ Some list) × (slice_get list j ≡ Some f)
list_of lists k j f h = by (slice_get lists k) refl h
  where
    by : (o : Option (List ℕ)) → slice_get lists k ≡ o → option_and_then (λ (numbers : List ℕ). slice_get numbers j) o ≡ Some f → (list : List ℕ) × (slice_get lists k ≡ Some list) × (slice_get list j ≡ Some f)
    by None e h = absurd (cc)
    by (Some list) e h = (list, e, h)

pub number_at : (lists : List (List ℕ)) (k j f : ℕ) (list : List ℕ) → slice_get lists k ≡ Some list → slice_get list j ≡ Some f → number_in lists k j ≡ Some f
number_at lists k j f list is there = ap (option_and_then (λ (numbers : List ℕ). slice_get numbers j)) is ∙ there

-- what an order of heads takes from a list stands there
pub taken_stands : (lists : List (List ℕ)) (order : List Taken) → IsOrderOfHeads lists order → (k j f : ℕ) → k < length lists → slice_get (taken_from k order) j ≡ Some f → number_in lists k j ≡ Some f
taken_stands lists order heads k j f lt h =
    let is : slice_get lists k ≡ Some (get_or lists k []) = slice_get-get_or lists k [] lt in
    let (rest, parts) = heads.takes_fronts k (get_or lists k []) is in
    number_at lists k j f (get_or lists k []) is (subst (λ (l : List ℕ). slice_get l j ≡ Some f) parts (at_front (taken_from k order) rest j f h))

pub stands_taken : (lists : List (List ℕ)) (order : List Taken) → IsOrderOfHeads lists order → (k j f : ℕ) → number_in lists k j ≡ Some f → j < length (taken_from k order) → slice_get (taken_from k order) j ≡ Some f
stands_taken lists order heads k j f h lt =
    let (list, is, there) = list_of lists k j f h in
    let (rest, parts) = heads.takes_fronts k list is in
    front_at (taken_from k order) rest j f lt (subst (λ (l : List ℕ). slice_get l j ≡ Some f) (sym parts) there)

-- an order of whole lists is one of heads
pub heads_of_order : (lists : List (List ℕ)) (order : List Taken) → IsOrderOf lists order → IsOrderOfHeads lists order
heads_of_order lists order all = record { of_lists = all.of_lists; takes_fronts = λ k list is. ([], append-nil (taken_from k order) ∙ all.takes_each k list is) }

-- no head is left of a whole list
pub none_left : (lists : List (List ℕ)) (order : List Taken) → IsOrderOf lists order → (k : ℕ) → head_after lists order k ≡ None
none_left lists order all k = by (slice_get lists k) refl
  where
    by : (o : Option (List ℕ)) → slice_get lists k ≡ o → option_and_then (λ (numbers : List ℕ). slice_get numbers (length (taken_from k order))) o ≡ None
    by None e = refl
    by (Some list) e = slice_get_past list (length (taken_from k order)) (let l = ap length (all.takes_each k list e) in omega (arith, l))

-- where no head is left of any list, the order is of whole lists
pub order_of_heads : (lists : List (List ℕ)) (order : List Taken) → IsOrderOfHeads lists order → ((k : ℕ) → k < length lists → head_after lists order k ≡ None) → IsOrderOf lists order
order_of_heads lists order heads none = record { of_lists = heads.of_lists; takes_each = λ k list is. whole k list is (heads.takes_fronts k list is) }
  where
    whole : (k : ℕ) (list : List ℕ) → slice_get lists k ≡ Some list → (rest : List ℕ) × (taken_from k order ++ rest ≡ list) → taken_from k order ≡ list
    whole k list is ([], parts) = sym (append-nil (taken_from k order)) ∙ parts
    whole k list is (f ∷ rest, parts) =
        let head : head_after lists order k ≡ Some f = number_at lists k (length (taken_from k order)) f list is (subst (λ (l : List ℕ). slice_get l (length (taken_from k order)) ≡ Some f) parts (behind (taken_from k order) f rest)) in
        let n : ◌≡◌ {A = Option ℕ} None (Some f) = sym (none k (slice_get_within lists k list is)) ∙ head in
        absurd (cc)
