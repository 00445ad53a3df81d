-- What a buffer of parts holds after a push, a part and the end.
use Rattle.std.proofs.Common.{◌≡◌, ℕ, zero, suc, ◌+◌, ◌-◌, ◌*◌, ◌≤◌, List, [], ◌∷◌, ◌++◌, length, map, drop, refl, sym, ap, ap₂, ◌∙◌, arith, suc-mul, length-drop, take_all, drop-drop}
use Rattle.std.proofs.lemmas.List.{map-append, take-append-le}
use Rattle.osparts_parts.specs.declared.terms.Terms.{Terms}
use Rattle.osparts_parts.specs.Parts.{first_numbers, part_at, parts_of, count_of}

-- more bytes change no part that was whole
pub parts_kept : (pushed more : List ℕ) (terms : Terms) (n : ℕ) → n * terms.part ≤ length pushed
    → map (part_at (pushed ++ more) terms) (first_numbers n) ≡ map (part_at pushed terms) (first_numbers n)
parts_kept pushed more terms zero low = refl
parts_kept pushed more terms (suc n) low =
    let within : n * terms.part + terms.part ≤ length pushed = omega (arith, suc-mul n terms.part, low) in
    let one : part_at (pushed ++ more) terms n ≡ part_at pushed terms n =
    ap (drop (n * terms.part - terms.overlap)) (take-append-le (n * terms.part + terms.part) pushed more within) in
    map-append (part_at (pushed ++ more) terms) (first_numbers n) (n ∷ [])
    ∙ ap₂ (λ (xs : List (List ℕ)) (x : List ℕ). xs ++ x ∷ []) (parts_kept pushed more terms n (omega (arith, within))) one
    ∙ sym (map-append (part_at pushed terms) (first_numbers n) (n ∷ []))

-- the part in which the bytes end, which are no more than its own
pub last_one : (pushed : List ℕ) (terms : Terms) (n : ℕ) → length pushed ≤ n * terms.part + terms.part
    → part_at pushed terms n ≡ drop (n * terms.part - terms.overlap) pushed
last_one pushed terms n high = ap (drop (n * terms.part - terms.overlap)) (take_all (n * terms.part + terms.part) pushed high)

-- one part more
pub one_more : (pushed : List ℕ) (terms : Terms) (parts : List (List ℕ)) (bytes : List ℕ)
    → parts ≡ map (part_at pushed terms) (first_numbers (length parts)) → length pushed ≤ length parts * terms.part + terms.part
    → bytes ≡ drop (length parts * terms.part - terms.overlap) pushed
    → parts ++ bytes ∷ [] ≡ map (part_at pushed terms) (first_numbers (suc (length parts)))
one_more pushed terms parts bytes given high held =
    ap₂ (λ (xs : List (List ℕ)) (x : List ℕ). xs ++ x ∷ []) given (held ∙ sym (last_one pushed terms (length parts) high))
    ∙ sym (map-append (part_at pushed terms) (first_numbers (length parts)) (length parts ∷ []))

-- what the next part begins with
pub next_held : (pushed : List ℕ) (terms : Terms) (n : ℕ) (bytes : List ℕ) → terms.overlap ≤ terms.part
    → bytes ≡ drop (n * terms.part - terms.overlap) pushed → length pushed ≡ n * terms.part + terms.part
    → drop (length bytes - terms.overlap) bytes ≡ drop (suc n * terms.part - terms.overlap) pushed
next_held pushed terms n bytes less held long =
    let count : length bytes ≡ length pushed - (n * terms.part - terms.overlap) =
    ap length held ∙ length-drop (n * terms.part - terms.overlap) pushed in
    let from : (n * terms.part - terms.overlap) + (length bytes - terms.overlap) ≡ suc n * terms.part - terms.overlap =
    omega (arith, suc-mul n terms.part, count, less, long) in
    ap (drop (length bytes - terms.overlap)) held
    ∙ drop-drop (length bytes - terms.overlap) (n * terms.part - terms.overlap) pushed
    ∙ ap (λ (k : ℕ). drop k pushed) from

-- the parts are all, by their number
pub all_given : (pushed : List ℕ) (terms : Terms) (parts : List (List ℕ)) (n : ℕ)
    → parts ≡ map (part_at pushed terms) (first_numbers n) → count_of terms.part (length pushed) ≡ n → parts ≡ parts_of pushed terms
all_given pushed terms parts n given count =
    given ∙ ap (λ (k : ℕ). map (part_at pushed terms) (first_numbers k)) (sym count)
