-- Parts past their overlaps are the input.
use Rattle.std.proofs.Common.{◌≡◌, ℕ, zero, suc, ◌+◌, ◌-◌, ◌*◌, ◌<◌, ◌≤◌, List, [], ◌∷◌, ◌++◌, length, map, take, drop, flat_map, sym, ap, ap₂, ◌∙◌, arith, suc-mul, append-nil, length-drop, length-take, length-take-le, take_all, take-take, take-append-drop, drop-drop, le_refl}
use Rattle.std.proofs.lemmas.Nat.{mul-le}
use Rattle.std.specs.List.{AllByRecursion}
use Rattle.std.proofs.lemmas.List.{map-append, drop-take}
use Rattle.std.proofs.lemmas.Grind.{flat_map-append}
use Rattle.osparts_parts.specs.declared.terms.Terms.{Terms}
use Rattle.osparts_parts.specs.declared.place.PartPlace.TheVariants.{Later}
use Rattle.osparts_parts.specs.Terms.{AreLawful}
use Rattle.osparts_parts.specs.Parts.{but_first, count_of, first_numbers, part_at, parts_of, past_overlaps, place_after}
use Rattle.osparts_parts.specs.Joined.{last_bytes}
use Rattle.osparts_parts.proofs.Places.{but_first_one_more, place_after_one_more}
use Rattle.osparts_parts.proofs.Counts.{Covers, covers, count_one}
use Rattle.osparts_parts.proofs.Joining.{none_skipped}

-- so many parts
abbrev pub front : List ℕ → Terms → ℕ → List (List ℕ)
front bytes terms n = map (part_at bytes terms) (first_numbers n)

front_more : (bytes : List ℕ) (terms : Terms) (n : ℕ) → front bytes terms (suc n) ≡ front bytes terms n ++ part_at bytes terms n ∷ []
front_more bytes terms n = map-append (part_at bytes terms) (first_numbers n) (n ∷ [])

front_some : (bytes : List ℕ) (terms : Terms) (n : ℕ) → place_after (front bytes terms (suc n)) ≡ Later
front_some bytes terms n =
    ap place_after (front_more bytes terms n) ∙ place_after_one_more (front bytes terms n) (part_at bytes terms n)

-- a part past its overlap
past_one : (bytes : List ℕ) (terms : Terms) (n : ℕ) → terms.overlap ≤ n * terms.part
    → drop terms.overlap (part_at bytes terms n) ≡ drop (n * terms.part) (take (n * terms.part + terms.part) bytes)
past_one bytes terms n less =
    let from : (n * terms.part - terms.overlap) + terms.overlap ≡ n * terms.part = omega (arith, less) in
    drop-drop terms.overlap (n * terms.part - terms.overlap) (take (n * terms.part + terms.part) bytes)
    ∙ ap (λ (k : ℕ). drop k (take (n * terms.part + terms.part) bytes)) from

-- a front of the input and the bytes of the next part
joins_on : (bytes : List ℕ) (a b : ℕ) → take a bytes ++ drop a (take (a + b) bytes) ≡ take (a + b) bytes
joins_on bytes a b =
    ap (λ (x : List ℕ). x ++ drop a (take (a + b) bytes)) (sym (take-take a (a + b) bytes (omega arith)))
    ∙ take-append-drop a (take (a + b) bytes)

pub front_covers : (bytes : List ℕ) (terms : Terms) (n : ℕ) → AreLawful terms
    → flat_map (λ (part : List ℕ). part) (past_overlaps terms (front bytes terms (suc n))) ≡ take (n * terms.part + terms.part) bytes
front_covers bytes terms zero lawful =
    let from : 0 * terms.part - terms.overlap ≡ 0 = omega arith in
    append-nil (part_at bytes terms 0) ∙ ap (λ (k : ℕ). drop k (take (0 * terms.part + terms.part) bytes)) from
front_covers bytes terms (suc n) lawful =
    let step : suc n * terms.part ≡ n * terms.part + terms.part = suc-mul n terms.part in
    let less : terms.overlap ≤ suc n * terms.part = omega (arith, step, lawful.overlap_less) in
    ap (λ (xs : List (List ℕ)). flat_map (λ (part : List ℕ). part) (past_overlaps terms xs)) (front_more bytes terms (suc n))
    ∙ ap (flat_map (λ (part : List ℕ). part))
    (but_first_one_more (drop terms.overlap) (front bytes terms (suc n)) (part_at bytes terms (suc n)) (front_some bytes terms n))
    ∙ flat_map-append (λ (part : List ℕ). part) (past_overlaps terms (front bytes terms (suc n))) (drop terms.overlap (part_at bytes terms (suc n)) ∷ [])
    ∙ ap₂ (λ (x y : List ℕ). x ++ y) (front_covers bytes terms n lawful ∙ ap (λ (k : ℕ). take k bytes) (sym step))
    (append-nil (drop terms.overlap (part_at bytes terms (suc n))) ∙ past_one bytes terms (suc n) less)
    ∙ joins_on bytes (suc n * terms.part) terms.part

pub parts_cover : (bytes : List ℕ) (terms : Terms) → AreLawful terms
    → flat_map (λ (part : List ℕ). part) (past_overlaps terms (parts_of bytes terms)) ≡ bytes
parts_cover bytes terms lawful =
    let c : Covers terms.part (length bytes) = covers terms.part (length bytes) lawful.some in
    ap (λ (k : ℕ). flat_map (λ (part : List ℕ). part) (past_overlaps terms (front bytes terms k))) c.count
    ∙ front_covers bytes terms c.others lawful
    ∙ take_all (c.others * terms.part + terms.part) bytes c.all

pub plain_parts_cover : (bytes : List ℕ) (terms : Terms) → AreLawful terms → terms.overlap ≡ 0
    → flat_map (λ (part : List ℕ). part) (parts_of bytes terms) ≡ bytes
plain_parts_cover bytes terms lawful none =
    ap (flat_map (λ (part : List ℕ). part))
    (sym (ap (λ (k : ℕ). but_first (drop k) (parts_of bytes terms)) none ∙ none_skipped (parts_of bytes terms)))
    ∙ parts_cover bytes terms lawful

pub one_part : (bytes : List ℕ) (terms : Terms) → AreLawful terms → length bytes ≤ terms.part → parts_of bytes terms ≡ bytes ∷ []
one_part bytes terms lawful short =
    let count : count_of terms.part (length bytes) ≡ 1 = count_one terms.part (length bytes) lawful.some short in
    let from : 0 * terms.part - terms.overlap ≡ 0 = omega arith in
    ap (front bytes terms) count
    ∙ ap (λ (x : List ℕ). x ∷ [])
    (ap (λ (k : ℕ). drop k (take (0 * terms.part + terms.part) bytes)) from ∙ take_all (0 * terms.part + terms.part) bytes (omega (arith, short)))

-- no part is longer than its bytes and its overlap
short_one : (bytes : List ℕ) (terms : Terms) (n : ℕ) → length (part_at bytes terms n) ≤ terms.part + terms.overlap
short_one bytes terms n =
    omega (arith, length-drop (n * terms.part - terms.overlap) (take (n * terms.part + terms.part) bytes), length-take (n * terms.part + terms.part) bytes)

-- the end of a part is the overlap of the next one
pub ends_one : (bytes : List ℕ) (terms : Terms) → AreLawful terms → (n : ℕ) → suc n < count_of terms.part (length bytes)
    → take terms.overlap (part_at bytes terms (suc n)) ≡ last_bytes terms.overlap (part_at bytes terms n)
ends_one bytes terms lawful n more =
    let c : Covers terms.part (length bytes) = covers terms.part (length bytes) lawful.some in
    let step : suc n * terms.part ≡ n * terms.part + terms.part = suc-mul n terms.part in
    let before : suc n * terms.part ≤ c.others * terms.part = mul-le (suc n) terms.part c.others terms.part (omega (arith, c.count, more)) (le_refl terms.part) in
    let whole : n * terms.part + terms.part ≤ length bytes = omega (arith, c.begun, step, before) in
    takes_end bytes (suc n * terms.part) (n * terms.part + terms.part) terms.part terms.overlap step (omega (arith, lawful.overlap_less))
    ∙ sym (drops_end bytes (n * terms.part - terms.overlap) (n * terms.part + terms.part) terms.overlap (omega (arith, lawful.overlap_less)) whole)
  where
    takes_end : (bytes : List ℕ) (from past size overlap : ℕ) → from ≡ past → overlap ≤ past
        → take overlap (drop (from - overlap) (take (from + size) bytes)) ≡ drop (past - overlap) (take past bytes)
    takes_end bytes from past size overlap is less =
        let start : from - overlap ≡ past - overlap = omega (arith, is) in
        let end : (from - overlap) + overlap ≡ past = omega (arith, is, less) in
        sym (drop-take (from - overlap) overlap (take (from + size) bytes))
        ∙ ap₂ (λ (a b : ℕ). drop a (take b (take (from + size) bytes))) start end
        ∙ ap (drop (past - overlap)) (take-take past (from + size) bytes (omega (arith, is)))

    drops_end : (bytes : List ℕ) (from past overlap : ℕ) → from + overlap ≤ past → past ≤ length bytes
        → last_bytes overlap (drop from (take past bytes)) ≡ drop (past - overlap) (take past bytes)
    drops_end bytes from past overlap less within =
        let count : length (drop from (take past bytes)) ≡ past - from =
        length-drop from (take past bytes) ∙ ap (λ (k : ℕ). k - from) (length-take-le past bytes within) in
        let begin : from + (length (drop from (take past bytes)) - overlap) ≡ past - overlap = omega (arith, count, less) in
        drop-drop (length (drop from (take past bytes)) - overlap) from (take past bytes)
        ∙ ap (λ (k : ℕ). drop k (take past bytes)) begin

pub all_short : (bytes : List ℕ) (terms : Terms) (numbers : List ℕ)
    → AllByRecursion (λ (part : List ℕ). length part ≤ terms.part + terms.overlap) (map (part_at bytes terms) numbers)
all_short bytes terms [] = tt
all_short bytes terms (n ∷ numbers) = (short_one bytes terms n, all_short bytes terms numbers)
