-- Lists of parts, read one part at a time.
use Rattle.std.proofs.Common.{◌≡◌, ℕ, suc, ◌+◌, ◌-◌, ◌<◌, List, [], ◌∷◌, ◌++◌, length, Bool, true, false, map, refl, ap, arith}
use Rattle.std.proofs.lemmas.List.{length_push}
use Rattle.os_ast.specs.Means.{Placed}
use Rattle.os_parser_grammar.specs.Reading.{Read, Reader, got, fails, ◌>>=◌, Same}
use Rattle.os_parser_grammar.specs.Statements.{many, list_of, commas}

pub fuel-left : (F n : ℕ) → n < F → (m : ℕ) × (F - n ≡ suc m) × (F - (n + 1) ≡ m)
fuel-left F n h = (F - n - 1, omega arith, omega arith)

-- parts that were read, before those that a reader gives
unfoldable pub with_list : {A B : Type 0} → (A → B) → List A → Read (List B) → Read (List B)
with_list view xs r = r >>= λ rest us. got (map view xs ++ rest) us

push-front : {A B : Type 0} (view : A → B) (xs : List A) (x : A) (rest : List B) →
    map view xs ++ (view x ∷ rest) ≡ map view (xs ++ x ∷ []) ++ rest
push-front view [] x rest = refl
push-front view (y ∷ xs) x rest = ap (λ zs. view y ∷ zs) (push-front view xs x rest)

no-more : {B : Type 0} (xs : List B) → xs ++ [] ≡ xs
no-more [] = refl
no-more (x ∷ xs) = ap (λ ys. x ∷ ys) (no-more xs)

with_list-push : {A B : Type 0} (view : A → B) (xs : List A) (x : A) (r : Read (List B)) →
    with_list view xs (r >>= λ rest us. got (view x ∷ rest) us) ≡ with_list view (xs ++ x ∷ []) r
unfolding with_list
with_list-push view xs x (got rest us) = ap (λ zs. got zs us) (push-front view xs x rest)
with_list-push view xs x (fails us) = refl

pub with_list-start : {A B : Type 0} (view : A → B) (r : Read (List B)) → with_list view [] r ≡ r
unfolding with_list
with_list-start view (got rest us) = refl
with_list-start view (fails us) = refl

pub with_list-more : {A B : Type 0} (F : ℕ) (view : A → B) (xs : List A) (goes : List Placed → Bool) (part : Reader B) (ts us : List Placed) (x : A) →
    length xs < F → goes ts ≡ true → part ts ≡ got (view x) us →
    with_list view xs (many (F - length xs) goes part ts) ≡ with_list view (xs ++ x ∷ []) (many (F - length (xs ++ x ∷ [])) goes part us)
unfolding many
with_list-more F view xs goes part ts us x h on read =
    let f = fuel-left F (length xs) h in
    let n : length (xs ++ x ∷ []) ≡ length xs + 1 = length_push xs x in
    rw (n, f.1, f.2, on, read) (with_list-push view xs x (many f.0 goes part us))

pub with_list-fails : {A B : Type 0} (F : ℕ) (view : A → B) (xs : List A) (goes : List Placed → Bool) (part : Reader B) (ts us : List Placed) →
    length xs < F → goes ts ≡ true → part ts ≡ fails us → with_list view xs (many (F - length xs) goes part ts) ≡ fails us
unfolding many with_list
with_list-fails F view xs goes part ts us h on read =
    let f = fuel-left F (length xs) h in
    rw (f.1, on, read) refl

pub with_list-end : {A B : Type 0} (F : ℕ) (view : A → B) (xs : List A) (goes : List Placed → Bool) (part : Reader B) (ts : List Placed) →
    length xs < F → goes ts ≡ false → with_list view xs (many (F - length xs) goes part ts) ≡ got (map view xs) ts
unfolding many with_list
with_list-end F view xs goes part ts h off =
    let f = fuel-left F (length xs) h in
    rw (f.1, off) (ap (λ zs. got zs ts) (no-more (map view xs)))

one-front : {A B : Type 0} (view : A → B) (x : A) (r : Read (List B)) → r >>= (λ rest us. got (view x ∷ rest) us) ≡ with_list view (x ∷ []) r
unfolding with_list
one-front view x (got rest us) = refl
one-front view x (fails us) = refl

pub list_of-start : {A B : Type 0} (view : A → B) (part : Reader B) (ts us : List Placed) (x : A) → part ts ≡ got (view x) us →
    list_of part ts ≡ with_list view ([] ++ x ∷ []) (commas (length us + 2 - length ([] ++ x ∷ [])) part us)
unfolding list_of
list_of-start view part ts us x read =
    let n : length us + 2 - 1 ≡ suc (length us) = omega arith in
    rw (read, n) (one-front view x (commas (suc (length us)) part us))

pub many-start : {A B : Type 0} (view : A → B) (goes : List Placed → Bool) (first part : Reader B) (ts us : List Placed) (x : A) →
    first ts ≡ got (view x) us →
    (first ts >>= λ c us. many (suc (length us)) goes part us >>= λ cs vs. got (c ∷ cs) vs)
    ≡ with_list view ([] ++ x ∷ []) (many (length us + 2 - length ([] ++ x ∷ [])) goes part us)
many-start view goes first part ts us x read =
    let n : length us + 2 - 1 ≡ suc (length us) = omega arith in
    rw (read, n) (one-front view x (many (suc (length us)) goes part us))

-- names are their own trees
pub map-same : {A : Type 0} (xs : List A) → map Same xs ≡ xs
map-same [] = refl
map-same (x ∷ xs) = ap (λ ys. x ∷ ys) (map-same xs)

pub ruleset same = (map-same)
