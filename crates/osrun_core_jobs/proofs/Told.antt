-- Lines that are put together, text by text.
use Rattle.std.proofs.Common.{◌≡◌, ◌∙◌, ℕ, zero, suc, ◌+◌, ◌-◌, ◌≤◌, List, [], ◌∷◌, ◌++◌, ap, arith, length, min, refl, sym, take}
use Rattle.std.proofs.lemmas.List.{length-append, take_all, take_min}
use Rattle.std.proofs.Math.Seq.{take-append-add}
use Rattle.osrun_core_jobs.specs.LineRoom.{line_room}

-- what there is room for, behind what is there
pub filled : (told text : List ℕ) → length told ≤ line_room → told ++ take (min (line_room - length told) (length text)) text ≡ take line_room (told ++ text)
filled told text fits =
    ap (λ more. told ++ more) (take_min (line_room - length told) text) ∙ sym (take-append-add told text (line_room - length told))
    ∙ ap (λ n. take n (told ++ text)) (let all : length told + (line_room - length told) ≡ line_room = omega (arith, fits) in all)

-- what was left out before leaves no room for more
pub cut_again : (n : ℕ) (told text : List ℕ) → take n (take n told ++ text) ≡ take n (told ++ text)
cut_again zero told text = refl
cut_again (suc n) [] text = refl
cut_again (suc n) (byte ∷ told) text = ap (λ bytes. byte ∷ bytes) (cut_again n told text)

-- one more text, where there is room
pub then_told : (told text : List ℕ) {old new : List ℕ} → old ≡ told → new ≡ take line_room (old ++ text) → length told + length text ≤ line_room → new ≡ told ++ text
then_told told text is adds fits = adds ∙ ap (λ bytes. take line_room (bytes ++ text)) is ∙ take_all line_room (told ++ text) (omega (arith, fits, length-append told text))

-- four more
pub four_told : (told a b c d : List ℕ) {t0 t1 t2 t3 t4 : List ℕ} → t0 ≡ told
    → t1 ≡ take line_room (t0 ++ a) → t2 ≡ take line_room (t1 ++ b) → t3 ≡ take line_room (t2 ++ c) → t4 ≡ take line_room (t3 ++ d)
    → length told + length a + length b + length c + length d ≤ line_room → t4 ≡ told ++ a ++ b ++ c ++ d
four_told told a b c d is one two three four fits =
    let first = length-append told a in
    let second = length-append (told ++ a) b in
    let third = length-append (told ++ a ++ b) c in
    then_told (told ++ a ++ b ++ c) d
    (then_told (told ++ a ++ b) c
    (then_told (told ++ a) b (then_told told a is one (omega (arith, fits))) two (omega (arith, fits, first))) three (omega (arith, fits, first, second)))
    four (omega (arith, fits, first, second, third))
