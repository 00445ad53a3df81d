-- Declarations in a list that has the innermost one last.
use Rattle.std.proofs.Common.{◌≡◌, ◌≢◌, ℕ, zero, suc, ◌-◌, ◌<◌, ◌==◌, Bool, true, false, List, [], ◌∷◌, ◌++◌, length, get_or, set, take, drop, reverse, Some, None, refl, ap, sym, ◌∙◌, arith, if◌then◌else◌, ℤ}
use Rattle.std.proofs.lemmas.List.{reverse-append, length-reverse, length-drop, take-append-drop}
use Rattle.std.proofs.Math.Seq.{drop-append_seam, drop-cons}
use Rattle.cddf_meaning_plain_state.specs.Places.{IsInnermostPlace}
use Rattle.cddf_meaning.specs.BodyState.{BodyState, stored, stored_at, stored_in, stored_in_at}
use Rattle.cddf_meaning.specs.declared.variable.Variable.TheVariants.{Scalar, Array}
use Rattle.cddf_meaning.specs.Variables.{find, flag_or, assign}
use Rattle.cddf_meaning.specs.declared.variable.Binding.{Binding}
use Rattle.cddf_meaning.specs.declared.variable.Variable.{Variable}

pub reverse-one : {A : Type 0} → (x : A) (xs : List A) → reverse (x ∷ xs) ≡ reverse xs ++ x ∷ []
reverse-one x xs = reverse-append (x ∷ []) xs

find_by-front : (t : Bool) (x : Binding) (xs ys : List Binding) (id : ℕ) (v : Variable) →
    (find xs id ≡ Some v → find (xs ++ ys) id ≡ Some v) →
    (if t then Some x.variable else find xs id) ≡ Some v → (if t then Some x.variable else find (xs ++ ys) id) ≡ Some v
find_by-front true x xs ys id v rest h = h
find_by-front false x xs ys id v rest h = rest h

-- what is found in front is found
pub find-front : (xs ys : List Binding) (id : ℕ) (v : Variable) → find xs id ≡ Some v → find (xs ++ ys) id ≡ Some v
find-front [] ys id v h = cc
find-front (x ∷ xs) ys id v h = find_by-front (x.id == id) x xs ys id v (find-front xs ys id v) h

find_by-behind : (t : Bool) (x : Binding) (xs ys : List Binding) (id : ℕ) →
    (find xs id ≡ None → find (xs ++ ys) id ≡ find ys id) →
    (if t then Some x.variable else find xs id) ≡ None → (if t then Some x.variable else find (xs ++ ys) id) ≡ find ys id
find_by-behind true x xs ys id rest h = cc
find_by-behind false x xs ys id rest h = rest h

-- where nothing is found in front, what is found behind counts
pub find-behind : (xs ys : List Binding) (id : ℕ) → find xs id ≡ None → find (xs ++ ys) id ≡ find ys id
find-behind [] ys id h = refl
find-behind (x ∷ xs) ys id h = find_by-behind (x.id == id) x xs ys id (find-behind xs ys id) h

assign_by-front : (t : Bool) (x b : Binding) (xs ys : List Binding) (id : ℕ) (v w : Variable) →
    (find xs id ≡ Some w → assign (xs ++ ys) id v ≡ assign xs id v ++ ys) →
    (if t then Some x.variable else find xs id) ≡ Some w →
    (if t then b ∷ xs ++ ys else x ∷ assign (xs ++ ys) id v) ≡ (if t then b ∷ xs else x ∷ assign xs id v) ++ ys
assign_by-front true x b xs ys id v w rest h = refl
assign_by-front false x b xs ys id v w rest h = ap (◌∷◌ x) (rest h)

pub assign-front : (xs ys : List Binding) (id : ℕ) (v w : Variable) → find xs id ≡ Some w →
    assign (xs ++ ys) id v ≡ assign xs id v ++ ys
assign-front [] ys id v w h = cc
assign-front (x ∷ xs) ys id v w h =
    assign_by-front (x.id == id) x (record { id = x.id; variable = v; unsigned = x.unsigned }) xs ys id v w (assign-front xs ys id v w) h

assign_by-behind : (t : Bool) (x b : Binding) (xs ys : List Binding) (id : ℕ) (v : Variable) →
    (find xs id ≡ None → assign (xs ++ ys) id v ≡ xs ++ assign ys id v) →
    (if t then Some x.variable else find xs id) ≡ None →
    (if t then b ∷ xs ++ ys else x ∷ assign (xs ++ ys) id v) ≡ x ∷ xs ++ assign ys id v
assign_by-behind true x b xs ys id v rest h = cc
assign_by-behind false x b xs ys id v rest h = ap (◌∷◌ x) (rest h)

pub assign-behind : (xs ys : List Binding) (id : ℕ) (v : Variable) → find xs id ≡ None →
    assign (xs ++ ys) id v ≡ xs ++ assign ys id v
assign-behind [] ys id v h = refl
assign-behind (x ∷ xs) ys id v h =
    assign_by-behind (x.id == id) x (record { id = x.id; variable = v; unsigned = x.unsigned }) xs ys id v (assign-behind xs ys id v) h

find-last : (b : Binding) (id : ℕ) → b.id ≡ id → find (b ∷ []) id ≡ Some b.variable
find-last b id h = grind (arith, h)

find-other : (b : Binding) (id : ℕ) → b.id ≢ id → find (b ∷ []) id ≡ None
find-other b id h = grind (arith, h)

assign-last : (b : Binding) (id : ℕ) (v : Variable) → b.id ≡ id → assign (b ∷ []) id v ≡ record { id = id; variable = v; unsigned = b.unsigned } ∷ []
assign-last b id v h = grind (arith, h)

flag_by-front : (t e : Bool) (x : Binding) (xs ys : List Binding) (id : ℕ) (v : Variable) →
    (find xs id ≡ Some v → flag_or e (xs ++ ys) id ≡ flag_or e xs id) →
    (if t then Some x.variable else find xs id) ≡ Some v →
    (if t then x.unsigned else flag_or e (xs ++ ys) id) ≡ (if t then x.unsigned else flag_or e xs id)
flag_by-front true e x xs ys id v rest h = refl
flag_by-front false e x xs ys id v rest h = rest h

-- the type of what is found in front
flag-front : (e : Bool) (xs ys : List Binding) (id : ℕ) (v : Variable) → find xs id ≡ Some v → flag_or e (xs ++ ys) id ≡ flag_or e xs id
flag-front e [] ys id v h = cc
flag-front e (x ∷ xs) ys id v h = flag_by-front (x.id == id) e x xs ys id v (flag-front e xs ys id v) h

flag_by-behind : (t e : Bool) (x : Binding) (xs ys : List Binding) (id : ℕ) →
    (find xs id ≡ None → flag_or e (xs ++ ys) id ≡ flag_or e ys id) →
    (if t then Some x.variable else find xs id) ≡ None → (if t then x.unsigned else flag_or e (xs ++ ys) id) ≡ flag_or e ys id
flag_by-behind true e x xs ys id rest h = cc
flag_by-behind false e x xs ys id rest h = rest h

flag-behind : (e : Bool) (xs ys : List Binding) (id : ℕ) → find xs id ≡ None → flag_or e (xs ++ ys) id ≡ flag_or e ys id
flag-behind e [] ys id h = refl
flag-behind e (x ∷ xs) ys id h = flag_by-behind (x.id == id) e x xs ys id (flag-behind e xs ys id) h

flag-last : (e : Bool) (b : Binding) (id : ℕ) → b.id ≡ id → flag_or e (b ∷ []) id ≡ b.unsigned
flag-last e b id h = grind (arith, h)

flag_by-none : (t e : Bool) (x : Binding) (xs : List Binding) (id : ℕ) → (find xs id ≡ None → flag_or e xs id ≡ e) →
    (if t then Some x.variable else find xs id) ≡ None → (if t then x.unsigned else flag_or e xs id) ≡ e
flag_by-none true e x xs id rest h = cc
flag_by-none false e x xs id rest h = rest h

-- where nothing is found
pub flag_none : (e : Bool) (xs : List Binding) (id : ℕ) → find xs id ≡ None → flag_or e xs id ≡ e
flag_none e [] id h = refl
flag_none e (x ∷ xs) id h = flag_by-none (x.id == id) e x xs id (flag_none e xs id) h

-- the declaration at a place is the innermost of its name, where none of that name is behind it
pub is_place : (bound : List Binding) (place : ℕ) (id : ℕ) → place < length bound →
    ((d : Binding) → (get_or bound place d).id ≡ id) → find (reverse (drop (suc place) bound)) id ≡ None → IsInnermostPlace bound id place
is_place [] place id inside named none = search (inside, arith)
is_place (b ∷ bs) zero id inside named none = record {
  inside = inside;
  named = named;
  found = λ d.
      ap (λ xs. find xs id) (reverse-one b bs) ∙ find-behind (reverse bs) (b ∷ []) id none ∙ find-last b id (named b);
  flagged = λ d e.
      ap (λ xs. flag_or e xs id) (reverse-one b bs) ∙ flag-behind e (reverse bs) (b ∷ []) id none ∙ flag-last e b id (named b);
  changed = λ d v.
      let new : Binding = record { id = id; variable = v; unsigned = b.unsigned } in
      ap (λ xs. assign xs id v) (reverse-one b bs) ∙ assign-behind (reverse bs) (b ∷ []) id v none
      ∙ ap (λ ys. reverse bs ++ ys) (assign-last b id v (named b)) ∙ sym (reverse-one new bs);
}
is_place (b ∷ bs) (suc place) id inside named none =
    let rest = is_place bs place id (omega (arith, inside)) named none in
    record {
      inside = inside;
      named = named;
      found = λ d. ap (λ xs. find xs id) (reverse-one b bs) ∙ find-front (reverse bs) (b ∷ []) id _ (rest.found d);
      flagged = λ d e.
          ap (λ xs. flag_or e xs id) (reverse-one b bs) ∙ flag-front e (reverse bs) (b ∷ []) id _ (rest.found d) ∙ rest.flagged d e;
      changed = λ d v.
          let new : Binding = record { id = id; variable = v; unsigned = (get_or bs place d).unsigned } in
          ap (λ xs. assign xs id v) (reverse-one b bs) ∙ assign-front (reverse bs) (b ∷ []) id v _ (rest.found b)
          ∙ ap (λ ys. ys ++ b ∷ []) (rest.changed d v) ∙ sym (reverse-one b (set bs place new));
    }

-- one step toward the front
pub none-step : (bound : List Binding) (place : ℕ) (id : ℕ) (b : Binding) → place < length bound → b ≡ get_or bound place b →
    b.id ≢ id → find (reverse (drop (suc place) bound)) id ≡ None → find (reverse (drop place bound)) id ≡ None
none-step bound place id b inside is other none =
    let rest = drop (suc place) bound in
    ap (λ xs. find (reverse xs) id) (drop-cons bound place b inside ∙ ap (λ x. x ∷ rest) (sym is))
    ∙ ap (λ xs. find xs id) (reverse-one b rest)
    ∙ find-behind (reverse rest) (b ∷ []) id none ∙ find-other b id other

-- what is left behind a scope
pub drop-reverse : {A : Type 0} → (xs : List A) (n : ℕ) → drop (length (reverse xs) - n) (reverse xs) ≡ reverse (take n xs)
drop-reverse xs n =
    let cut : reverse xs ≡ reverse (drop n xs) ++ reverse (take n xs) =
    ap reverse (sym (take-append-drop n xs)) ∙ reverse-append (take n xs) (drop n xs) in
    let count : length (reverse xs) - n ≡ length (reverse (drop n xs)) =
    ap (λ k. k - n) (length-reverse xs) ∙ sym (length-drop n xs) ∙ sym (length-reverse (drop n xs)) in
    ap (λ k. drop k (reverse xs)) count ∙ ap (drop (length (reverse (drop n xs)))) cut
    ∙ drop-append_seam (reverse (drop n xs)) (reverse (take n xs))

-- a scalar is set where it stands
pub scalar_set : (bound : List Binding) (place id : ℕ) (b : Binding) (s : BodyState) (old v : ℤ) → IsInnermostPlace bound id place →
    s.bound ≡ reverse bound → b ≡ get_or bound place b → b.variable ≡ Scalar old →
    record s { bound = reverse (set bound place (record { id = b.id; variable = Scalar v; unsigned = b.unsigned })) } ≡ stored s id v
scalar_set bound place id b s old v at is b_is var =
    let name : b.id ≡ id = ap (λ x. x.id) b_is ∙ at.named b in
    let found : find s.bound id ≡ Some (Scalar old) =
    ap (λ xs. find xs id) is ∙ at.found b ∙ ap Some (ap (λ x. x.variable) (sym b_is) ∙ var) in
    let changed : assign s.bound id (Scalar v) ≡ reverse (set bound place (record { id = b.id; variable = Scalar v; unsigned = b.unsigned })) =
    ap (λ xs. assign xs id (Scalar v)) is ∙ at.changed b (Scalar v)
    ∙ ap (λ i. reverse (set bound place (record { id = i; variable = Scalar v; unsigned = (get_or bound place b).unsigned }))) (sym name)
    ∙ ap (λ (x : Binding). reverse (set bound place (record { id = b.id; variable = Scalar v; unsigned = x.unsigned }))) (sym b_is) in
    sym (ap (λ f. stored_in f s id v) found ∙ ap (λ xs. record s { bound = xs }) changed)

pub array_set : (bound : List Binding) (place id k : ℕ) (b : Binding) (s : BodyState) (old : List ℤ) (v : ℤ) → IsInnermostPlace bound id place →
    s.bound ≡ reverse bound → b ≡ get_or bound place b → b.variable ≡ Array old →
    record s { bound = reverse (set bound place (record { id = b.id; variable = Array (set old k v); unsigned = b.unsigned })) } ≡ stored_at s id k v
array_set bound place id k b s old v at is b_is var =
    let new : Variable = Array (set old k v) in
    let name : b.id ≡ id = ap (λ x. x.id) b_is ∙ at.named b in
    let found : find s.bound id ≡ Some (Array old) =
    ap (λ xs. find xs id) is ∙ at.found b ∙ ap Some (ap (λ x. x.variable) (sym b_is) ∙ var) in
    let changed : assign s.bound id new ≡ reverse (set bound place (record { id = b.id; variable = new; unsigned = b.unsigned })) =
    ap (λ xs. assign xs id new) is ∙ at.changed b new
    ∙ ap (λ i. reverse (set bound place (record { id = i; variable = new; unsigned = (get_or bound place b).unsigned }))) (sym name)
    ∙ ap (λ (x : Binding). reverse (set bound place (record { id = b.id; variable = new; unsigned = x.unsigned }))) (sym b_is) in
    sym (ap (λ f. stored_in_at f s id k v) found ∙ ap (λ xs. record s { bound = xs }) changed)
