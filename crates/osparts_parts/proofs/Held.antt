-- What a buffer of parts holds after a push, a part and the end.
use Rattle.std.proofs.Common.{◌≡◌, ℕ, suc, ◌+◌, ◌-◌, ◌*◌, ◌<◌, ◌≤◌, List, [], ◌∷◌, ◌++◌, length, map, drop, sym, ap, ◌∙◌, arith, suc-mul, append-nil, length-append, length-drop}
use Rattle.std.proofs.lemmas.List.{drop-append-le}
use Rattle.osparts_parts.specs.declared.terms.Terms.{Terms}
use Rattle.osparts_parts.specs.declared.place.PartPlace.{PartPlace}
use Rattle.osparts_parts.specs.declared.place.PartPlace.TheVariants.{First, Later}
use Rattle.osparts_parts.specs.Terms.{overlap_in}
use Rattle.osparts_parts.specs.Parts.{first_numbers, part_at, parts_of, count_of}
use Rattle.osparts_parts.specs.Progress.{HoldsAfter}
use Rattle.osparts_parts.proofs.Counts.{count_ends, count_one}
use Rattle.osparts_parts.proofs.Places.{length_one_more, place_after_one_more}
use Rattle.osparts_parts.proofs.Given.{all_given, next_held, one_more, parts_kept}

-- how many bytes are held, by the place of the part
held_long : (terms : Terms) (place : PartPlace) (bytes pushed : List ℕ) (parts : List (List ℕ)) → HoldsAfter terms place bytes pushed parts
    → length bytes + length parts * terms.part ≡ length pushed + overlap_in place terms
held_long terms place bytes pushed [] h =
    let first : overlap_in place terms ≡ 0 = ap (λ (p : PartPlace). overlap_in p terms) h.next in
    let long : length bytes ≡ length pushed - (0 * terms.part - terms.overlap) = ap length h.held ∙ length-drop (0 * terms.part - terms.overlap) pushed in
    omega (arith, first, long)
held_long terms place bytes pushed (part ∷ parts) h =
    let later : overlap_in place terms ≡ terms.overlap = ap (λ (p : PartPlace). overlap_in p terms) h.next in
    let some : suc (length parts) * terms.part ≡ length parts * terms.part + terms.part = suc-mul (length parts) terms.part in
    let low : suc (length parts) * terms.part ≤ length pushed = h.low in
    let long : length bytes ≡ length pushed - (suc (length parts) * terms.part - terms.overlap) =
    ap length h.held ∙ length-drop (suc (length parts) * terms.part - terms.overlap) pushed in
    let all : length bytes + suc (length parts) * terms.part ≡ length pushed + overlap_in place terms =
    omega (arith, later, some, low, long, h.lawful.overlap_less) in
    all

-- more bytes that there is room for
pub pushed_more : (terms : Terms) (place : PartPlace) (bytes new pushed more : List ℕ) (parts : List (List ℕ))
    → HoldsAfter terms place bytes pushed parts → length more ≤ terms.part + overlap_in place terms - length bytes → new ≡ bytes ++ more
    → HoldsAfter terms place new (pushed ++ more) parts
pushed_more terms place bytes new pushed more parts h room is =
    let long : length (pushed ++ more) ≡ length pushed + length more = length-append pushed more in
    let held : length bytes + length parts * terms.part ≡ length pushed + overlap_in place terms = held_long terms place bytes pushed parts h in
    record {
      lawful = h.lawful;
      given = h.given ∙ sym (parts_kept pushed more terms (length parts) h.low);
      low = omega (arith, long, h.low);
      high = omega (arith, long, held, room, h.high);
      held = is ∙ ap (λ (x : List ℕ). x ++ more) h.held
          ∙ sym (drop-append-le (length parts * terms.part - terms.overlap) pushed more (omega (arith, h.low)));
      next = h.next;
    }

-- the part is whole, and the next one begins
pub part_given : (terms : Terms) (place : PartPlace) (bytes next pushed : List ℕ) (parts : List (List ℕ))
    → HoldsAfter terms place bytes pushed parts → terms.part + overlap_in place terms ≤ length bytes
    → next ≡ drop (length bytes - terms.overlap) bytes → HoldsAfter terms Later next pushed (parts ++ bytes ∷ [])
part_given terms place bytes next pushed parts h whole is =
    let held : length bytes + length parts * terms.part ≡ length pushed + overlap_in place terms = held_long terms place bytes pushed parts h in
    let ends : length pushed ≡ length parts * terms.part + terms.part = omega (arith, held, whole, h.high) in
    let step : suc (length parts) * terms.part ≡ length parts * terms.part + terms.part = suc-mul (length parts) terms.part in
    let count : length (parts ++ bytes ∷ []) ≡ suc (length parts) = length_one_more parts bytes in
    let product : length (parts ++ bytes ∷ []) * terms.part ≡ suc (length parts) * terms.part = ap (λ (k : ℕ). k * terms.part) count in
    let less : terms.overlap ≤ terms.part = omega (arith, h.lawful.overlap_less) in
    record {
      lawful = h.lawful;
      given = one_more pushed terms parts bytes h.given h.high h.held
          ∙ ap (λ (k : ℕ). map (part_at pushed terms) (first_numbers k)) (sym count);
      low = omega (arith, product, step, ends);
      high = omega (arith, product, step, ends);
      held = is ∙ next_held pushed terms (length parts) bytes less h.held ends
          ∙ ap (λ (k : ℕ). drop (k * terms.part - terms.overlap) pushed) (sym count);
      next = sym (place_after_one_more parts bytes);
    }

-- the part in which the input ends
ends_in : (terms : Terms) (place : PartPlace) (bytes pushed : List ℕ) (parts : List (List ℕ)) → HoldsAfter terms place bytes pushed parts
    → count_of terms.part (length pushed) ≡ suc (length parts) → parts ++ bytes ∷ [] ≡ parts_of pushed terms
ends_in terms place bytes pushed parts h count =
    all_given pushed terms (parts ++ bytes ∷ []) (suc (length parts)) (one_more pushed terms parts bytes h.given h.high h.held) count

-- the input ends in its first part
pub first_is_last : (terms : Terms) (place : PartPlace) (bytes pushed : List ℕ) (parts : List (List ℕ)) → HoldsAfter terms place bytes pushed parts
    → place ≡ First → parts ++ bytes ∷ [] ≡ parts_of pushed terms
first_is_last terms place bytes pushed [] h is =
    ends_in terms place bytes pushed [] h (count_one terms.part (length pushed) h.lawful.some (omega (arith, h.high)))
first_is_last terms place bytes pushed (part ∷ parts) h is =
    let other : Later ≡ First = sym h.next ∙ is in
    absurd cc

-- the input ends in a later part
pub later_is_last : (terms : Terms) (place : PartPlace) (bytes pushed : List ℕ) (parts : List (List ℕ)) → HoldsAfter terms place bytes pushed parts
    → place ≡ Later → terms.overlap < length bytes → parts ++ bytes ∷ [] ≡ parts_of pushed terms
later_is_last terms place bytes pushed parts h is some =
    let held : length bytes + length parts * terms.part ≡ length pushed + overlap_in place terms = held_long terms place bytes pushed parts h in
    let later : overlap_in place terms ≡ terms.overlap = ap (λ (p : PartPlace). overlap_in p terms) is in
    ends_in terms place bytes pushed parts h
    (count_ends terms.part (length parts) (length pushed) h.lawful.some (omega (arith, held, later, some)) h.high)

-- the input ended with the part before
pub none_is_left : (terms : Terms) (place : PartPlace) (bytes pushed : List ℕ) (parts : List (List ℕ)) → HoldsAfter terms place bytes pushed parts
    → place ≡ Later → length bytes ≤ terms.overlap → parts ++ [] ≡ parts_of pushed terms
none_is_left terms place bytes pushed [] h is none =
    let other : First ≡ Later = sym h.next ∙ is in
    absurd cc
none_is_left terms place bytes pushed (part ∷ parts) h is none =
    let held : length bytes + suc (length parts) * terms.part ≡ length pushed + overlap_in place terms =
    held_long terms place bytes pushed (part ∷ parts) h in
    let later : overlap_in place terms ≡ terms.overlap = ap (λ (p : PartPlace). overlap_in p terms) is in
    let step : suc (length parts) * terms.part ≡ length parts * terms.part + terms.part = suc-mul (length parts) terms.part in
    let low : suc (length parts) * terms.part ≤ length pushed = h.low in
    append-nil (part ∷ parts)
    ∙ all_given pushed terms (part ∷ parts) (suc (length parts)) h.given
    (count_ends terms.part (length parts) (length pushed) h.lawful.some
    (omega (arith, step, low, h.lawful.some)) (omega (arith, held, later, step, low, none)))
