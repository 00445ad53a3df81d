-- Parts that were given stay the first ones.
use Rattle.std.proofs.Common.{◌≡◌, ℕ, zero, suc, ◌+◌, ◌*◌, ◌<◌, ◌≤◌, List, [], ◌∷◌, ◌++◌, length, take, refl, sym, ap, ◌∙◌, ⊎_elim, arith, suc-mul, le_of_mul-le-mul_right, eq-or-lt_of_le, take_all, length-append}
use Rattle.std.proofs.lemmas.List.{map-append, take-append-le}
use Rattle.osparts_parts.specs.declared.terms.Terms.{Terms}
use Rattle.osparts_parts.specs.declared.place.PartPlace.{PartPlace}
use Rattle.osparts_parts.specs.Parts.{count_of, first_numbers, part_at, parts_of}
use Rattle.osparts_parts.specs.Progress.{HoldsAfter}
use Rattle.osparts_parts.proofs.Counts.{Covers, covers}
use Rattle.osparts_parts.proofs.Covering.{front}
use Rattle.osparts_parts.proofs.Given.{parts_kept}
use Rattle.osparts_parts.proofs.Places.{length_one_more}

front_long : (bytes : List ℕ) (terms : Terms) (n : ℕ) → length (front bytes terms n) ≡ n
front_long bytes terms zero = refl
front_long bytes terms (suc n) =
    ap length (map-append (part_at bytes terms) (first_numbers n) (n ∷ []))
    ∙ length_one_more (front bytes terms n) (part_at bytes terms n)
    ∙ ap suc (front_long bytes terms n)

-- the first ones of several
take_front : (bytes : List ℕ) (terms : Terms) (n k : ℕ) → k ≤ n → take k (front bytes terms n) ≡ front bytes terms k
take_front bytes terms zero zero less = refl
take_front bytes terms zero (suc k) less = absurd (omega (arith, less))
take_front bytes terms (suc n) k less = ⊎_elim equal (below (λ h. take_front bytes terms n k h)) (eq-or-lt_of_le less)
  where
    equal : k ≡ suc n → take k (front bytes terms (suc n)) ≡ front bytes terms k
    equal is =
        let long : length (front bytes terms (suc n)) ≤ k = omega (arith, front_long bytes terms (suc n), is) in
        take_all k (front bytes terms (suc n)) long ∙ ap (front bytes terms) (sym is)

    below : (k ≤ n → take k (front bytes terms n) ≡ front bytes terms k) → k < suc n → take k (front bytes terms (suc n)) ≡ front bytes terms k
    below before lower =
        let within : k ≤ length (front bytes terms n) = omega (arith, front_long bytes terms n, lower) in
        ap (take k) (map-append (part_at bytes terms) (first_numbers n) (n ∷ []))
        ∙ take-append-le k (front bytes terms n) (part_at bytes terms n ∷ []) within
        ∙ before (omega (arith, lower))

pub given_stay : (terms : Terms) (place : PartPlace) (bytes pushed more : List ℕ) (parts : List (List ℕ))
    → HoldsAfter terms place bytes pushed parts → parts ≡ take (length parts) (parts_of (pushed ++ more) terms)
given_stay terms place bytes pushed more parts h =
    let c : Covers terms.part (length (pushed ++ more)) = covers terms.part (length (pushed ++ more)) h.lawful.some in
    let long : length (pushed ++ more) ≡ length pushed + length more = length-append pushed more in
    let all : length parts * terms.part ≤ suc c.others * terms.part = omega (arith, suc-mul c.others terms.part, c.all, long, h.low) in
    let some : zero < terms.part = omega (arith, h.lawful.some) in
    let less : length parts ≤ suc c.others = le_of_mul-le-mul_right all some in
    let within : length parts ≤ count_of terms.part (length (pushed ++ more)) = omega (arith, less, c.count) in
    h.given
    ∙ sym (parts_kept pushed more terms (length parts) h.low)
    ∙ sym (take_front (pushed ++ more) terms (count_of terms.part (length (pushed ++ more))) (length parts) within)
