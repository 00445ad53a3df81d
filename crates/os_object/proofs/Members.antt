-- What stands at the front of numbers: behind two members that stand there, one spelling each, stands the same; and so it is with lists
-- of such members.
use Rattle.std.proofs.Common.{◌≡◌, ℕ, ◌<◌, ◌≤◌, ◌*◌, ◌/◌, List, [], ◌∷◌, ◌++◌, length, refl, sym, ap, ◌∙◌, append_assoc, append-nil, arith, length-append}
use Rattle.std.proofs.Math.Nat.{le-div_iff_mul-le, suc-mul}
use Rattle.std.specs.List.{flat_map, AllByRecursion}
use Rattle.os_object.specs.Object.{list_of}

pub record Ends {A : Type 0} (member : A → List ℕ) : Type 0 where
  pub rests : (x y : A) (a b : List ℕ) → member x ++ a ≡ member y ++ b → a ≡ b
  pub some : (x : A) → 1 ≤ length (member x)

ends-flat : {A : Type 0} (member : A → List ℕ) → Ends member → (xs ys : List A) (a b : List ℕ) → length xs ≡ length ys
    → flat_map member xs ++ a ≡ flat_map member ys ++ b → a ≡ b
ends-flat member ends [] [] a b n e = e
ends-flat member ends [] (y ∷ ys) a b n e = absurd (omega arith)
ends-flat member ends (x ∷ xs) [] a b n e = absurd (omega arith)
ends-flat member ends (x ∷ xs) (y ∷ ys) a b n e =
    let apart : member x ++ (flat_map member xs ++ a) ≡ member y ++ (flat_map member ys ++ b) =
    sym (append_assoc (member x) (flat_map member xs) a) ∙ e ∙ append_assoc (member y) (flat_map member ys) b in
    let counts : length xs ≡ length ys = omega arith in
    ends-flat member ends xs ys a b counts (ends.rests x y (flat_map member xs ++ a) (flat_map member ys ++ b) apart)

-- `least` numbers or more in each member are, all together, at least `least` times as many as there are members
many : {A : Type 0} (member : A → List ℕ) (least : ℕ) → ((x : A) → least ≤ length (member x)) → (xs : List A)
    → length xs * least ≤ length (flat_map member xs)
many member least some [] = omega arith
many member least some (x ∷ xs) =
    let rest = many member least some xs in
    let here = some x in
    let both = length-append (member x) (flat_map member xs) in
    let more = suc-mul (length xs) least in
    omega (arith, rest, here, both, more)

-- the parts of an equation of two lists with a first number each
record Cells (m n : ℕ) (a b : List ℕ) : Type 0 where
  pub first : m ≡ n
  pub rest : a ≡ b

cells : (m n : ℕ) (a b : List ℕ) → m ∷ a ≡ n ∷ b → Cells m n a b
cells m n a b e = record { first = cc; rest = cc }

pub ends-list : {A : Type 0} (member : A → List ℕ) → Ends member → Ends (list_of member)
ends-list member ends = record {
  rests = λ xs ys a b e.
      let c = cells (length xs) (length ys) (flat_map member xs ++ a) (flat_map member ys ++ b) e in
      ends-flat member ends xs ys a b c.first c.rest;
  some = λ xs. omega arith;
}

-- where no member stands behind some, no longer list stands there
no_flat : {A : Type 0} (member : A → List ℕ) → Ends member → (front : List A) (rest : List ℕ) (xs : List A) (after : List ℕ)
    → flat_map member front ++ rest ≡ flat_map member xs ++ after → length front < length xs
    → ((x : A) (a : List ℕ) → rest ≡ member x ++ a → ⊥) → ⊥
no_flat member ends [] rest [] after e n none = absurd (omega arith)
no_flat member ends [] rest (x ∷ xs) after e n none = none x (flat_map member xs ++ after) (e ∙ append_assoc (member x) (flat_map member xs) after)
no_flat member ends (y ∷ ys) rest [] after e n none = absurd (omega arith)
no_flat member ends (y ∷ ys) rest (x ∷ xs) after e n none =
    let apart : member y ++ (flat_map member ys ++ rest) ≡ member x ++ (flat_map member xs ++ after) =
    sym (append_assoc (member y) (flat_map member ys) rest) ∙ e ∙ append_assoc (member x) (flat_map member xs) after in
    no_flat member ends ys rest xs after (ends.rests y x (flat_map member ys ++ rest) (flat_map member xs ++ after) apart) (omega arith) none

pub no_member : {A : Type 0} (member : A → List ℕ) → Ends member → (front : List A) (rest numbers members : List ℕ) (count : ℕ)
    → numbers ≡ count ∷ members → members ≡ flat_map member front ++ rest → length front < count
    → ((x : A) (a : List ℕ) → rest ≡ member x ++ a → ⊥)
    → (xs : List A) (after : List ℕ) → numbers ≡ list_of member xs ++ after → ⊥
no_member member ends front rest numbers members count is parts short none xs after e =
    let c = cells count (length xs) members (flat_map member xs ++ after) (sym is ∙ e) in
    let n = c.first in
    no_flat member ends front rest xs after (sym parts ∙ c.rest) (omega (arith, n, short)) none

-- where no length stands that the numbers behind it are enough for, no list stands
pub no_length : {A : Type 0} (member : A → List ℕ) (least : ℕ) → 0 < least → ((x : A) → least ≤ length (member x)) → (numbers : List ℕ)
    → ((count : ℕ) (rest : List ℕ) → count ≤ length rest / least → numbers ≡ count ∷ rest → ⊥)
    → (xs : List A) (after : List ℕ) → numbers ≡ list_of member xs ++ after → ⊥
no_length member least positive some numbers none xs after e =
    let all = many member least some xs in
    let both = length-append (flat_map member xs) after in
    let enough : length xs * least ≤ length (flat_map member xs ++ after) = omega (arith, all, both) in
    none (length xs) (flat_map member xs ++ after) ((le-div_iff_mul-le positive).1 enough) e

-- one more member in front of the rest
pub with_member : {A : Type 0} (member : A → List ℕ) (members : List ℕ) (front new : List A) (x : A) (rest after : List ℕ)
    → members ≡ flat_map member front ++ rest → rest ≡ member x ++ after → new ≡ front ++ x ∷ [] → members ≡ flat_map member new ++ after
with_member {A = A} member members front new x rest after parts here is =
    let split = append_assoc (flat_map member front) (member x) after in
    let more = flat_map_one member front x in
    parts ∙ ap (λ (r : List ℕ). flat_map member front ++ r) here ∙ sym split ∙ ap (λ (f : List ℕ). f ++ after) (sym more)
    ∙ ap (λ (l : List A). flat_map member l ++ after) (sym is)
  where
    flat_map_one : {B : Type 0} (f : B → List ℕ) (xs : List B) (y : B) → flat_map f (xs ++ y ∷ []) ≡ flat_map f xs ++ f y
    flat_map_one f [] y = append-nil (f y)
    flat_map_one f (x ∷ xs) y = ap (λ (r : List ℕ). f x ++ r) (flat_map_one f xs y) ∙ sym (append_assoc (f x) (flat_map f xs) (f y))

-- lists of members that are equal
pub same-flat : {A : Type 0} (member : A → List ℕ) (P : A → Type 0) → Ends member
    → ((x y : A) (a b : List ℕ) → P x → P y → member x ++ a ≡ member y ++ b → x ≡ y)
    → (xs ys : List A) (a b : List ℕ) → AllByRecursion P xs → AllByRecursion P ys → length xs ≡ length ys
    → flat_map member xs ++ a ≡ flat_map member ys ++ b → xs ≡ ys
same-flat member P ends one [] [] a b p q n e = refl
same-flat member P ends one [] (y ∷ ys) a b p q n e = absurd (omega arith)
same-flat member P ends one (x ∷ xs) [] a b p q n e = absurd (omega arith)
same-flat {A = A} member P ends one (x ∷ xs) (y ∷ ys) a b p q n e =
    let apart : member x ++ (flat_map member xs ++ a) ≡ member y ++ (flat_map member ys ++ b) =
    sym (append_assoc (member x) (flat_map member xs) a) ∙ e ∙ append_assoc (member y) (flat_map member ys) b in
    let here = one x y (flat_map member xs ++ a) (flat_map member ys ++ b) p.0 q.0 apart in
    let rests = ends.rests x y (flat_map member xs ++ a) (flat_map member ys ++ b) apart in
    let counts : length xs ≡ length ys = omega arith in
    let rest = same-flat member P ends one xs ys a b p.1 q.1 counts rests in
    ap (λ (z : A). z ∷ xs) here ∙ ap (λ (zs : List A). y ∷ zs) rest

pub same-list : {A : Type 0} (member : A → List ℕ) (P : A → Type 0) → Ends member
    → ((x y : A) (a b : List ℕ) → P x → P y → member x ++ a ≡ member y ++ b → x ≡ y)
    → (xs ys : List A) (a b : List ℕ) → AllByRecursion P xs → AllByRecursion P ys
    → list_of member xs ++ a ≡ list_of member ys ++ b → xs ≡ ys
same-list member P ends one xs ys a b p q e =
    let c = cells (length xs) (length ys) (flat_map member xs ++ a) (flat_map member ys ++ b) e in
    same-flat member P ends one xs ys a b p q c.first c.rest

abbrev pub Always : {A : Type 0} → A → Type 0
Always x = Unit {0}

pub always : {A : Type 0} (xs : List A) → AllByRecursion Always xs
always [] = tt
always (x ∷ xs) = (tt, always xs)

pub all-push : {A : Type 0} (P : A → Type 0) (xs : List A) (x : A) → AllByRecursion P xs → P x → AllByRecursion P (xs ++ x ∷ [])
all-push P [] x all here = (here, tt)
all-push P (y ∷ xs) x all here = (all.0, all-push P xs x all.1 here)
