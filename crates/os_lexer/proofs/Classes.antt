-- The class of a byte, and what it says of the byte.
use Rattle.std.proofs.Common.{◌≡◌, ℕ, Bool, true, false, cond, refl, arith, eqb-true}
use Rattle.std.proofs.lemmas.Bool.{or_left, or_right}
use Rattle.std.proofs.lemmas.Bool.Decides.{nat_tests}
use Rattle.os_lexer.specs.Bytes.{is_white, is_letter, is_digit, is_word_byte}
use Rattle.os_lexer.specs.Reading.{class_of}
use Rattle.os_lexer.specs.declared.bytes.Class.{Class}
use Rattle.os_lexer.specs.declared.bytes.Class.TheVariants.{White, Letter, Digit, Backslash, Slash, Hash, Other}

pub class_of-white : (b : ℕ) → is_white b ≡ true → class_of b ≡ White
class_of-white b e = grind (arith, nat_tests)

pub class_of-letter : (b : ℕ) → is_letter b ≡ true → class_of b ≡ Letter
class_of-letter b e = grind (arith, nat_tests)

pub class_of-digit : (b : ℕ) → is_digit b ≡ true → class_of b ≡ Digit
class_of-digit b e = grind (arith, nat_tests)

-- the tests in their order
abbrev chosen_class : Bool → Bool → Bool → Bool → Bool → Bool → Class
chosen_class w l d b s h =
    cond w White (cond l Letter (cond d Digit (cond b Backslash (cond s Slash (cond h Hash Other)))))

white_from : (w l d b s h : Bool) → chosen_class w l d b s h ≡ White → w ≡ true
white_from true l d b s h e = refl
white_from false true d b s h e = cc
white_from false false true b s h e = cc
white_from false false false true s h e = cc
white_from false false false false true h e = cc
white_from false false false false false true e = cc
white_from false false false false false false e = cc

letter_from : (w l d b s h : Bool) → chosen_class w l d b s h ≡ Letter → l ≡ true
letter_from true l d b s h e = cc
letter_from false true d b s h e = refl
letter_from false false true b s h e = cc
letter_from false false false true s h e = cc
letter_from false false false false true h e = cc
letter_from false false false false false true e = cc
letter_from false false false false false false e = cc

digit_from : (w l d b s h : Bool) → chosen_class w l d b s h ≡ Digit → d ≡ true
digit_from true l d b s h e = cc
digit_from false true d b s h e = cc
digit_from false false true b s h e = refl
digit_from false false false true s h e = cc
digit_from false false false false true h e = cc
digit_from false false false false false true e = cc
digit_from false false false false false false e = cc

backslash_from : (w l d b s h : Bool) → chosen_class w l d b s h ≡ Backslash → b ≡ true
backslash_from true l d b s h e = cc
backslash_from false true d b s h e = cc
backslash_from false false true b s h e = cc
backslash_from false false false true s h e = refl
backslash_from false false false false true h e = cc
backslash_from false false false false false true e = cc
backslash_from false false false false false false e = cc

slash_from : (w l d b s h : Bool) → chosen_class w l d b s h ≡ Slash → s ≡ true
slash_from true l d b s h e = cc
slash_from false true d b s h e = cc
slash_from false false true b s h e = cc
slash_from false false false true s h e = cc
slash_from false false false false true h e = refl
slash_from false false false false false true e = cc
slash_from false false false false false false e = cc

hash_from : (w l d b s h : Bool) → chosen_class w l d b s h ≡ Hash → h ≡ true
hash_from true l d b s h e = cc
hash_from false true d b s h e = cc
hash_from false false true b s h e = cc
hash_from false false false true s h e = cc
hash_from false false false false true h e = cc
hash_from false false false false false true e = refl
hash_from false false false false false false e = cc

pub is_white-of_class : (b : ℕ) → class_of b ≡ White → is_white b ≡ true
is_white-of_class b e = white_from _ _ _ _ _ _ e

pub is_letter-of_class : (b : ℕ) → class_of b ≡ Letter → is_letter b ≡ true
is_letter-of_class b e = letter_from _ _ _ _ _ _ e

pub is_digit-of_class : (b : ℕ) → class_of b ≡ Digit → is_digit b ≡ true
is_digit-of_class b e = digit_from _ _ _ _ _ _ e

pub backslash-of_class : (b : ℕ) → class_of b ≡ Backslash → b ≡ 92
backslash-of_class b e = eqb-true _ _ (backslash_from _ _ _ _ _ _ e)

pub slash-of_class : (b : ℕ) → class_of b ≡ Slash → b ≡ 47
slash-of_class b e = eqb-true _ _ (slash_from _ _ _ _ _ _ e)

pub hash-of_class : (b : ℕ) → class_of b ≡ Hash → b ≡ 35
hash-of_class b e = eqb-true _ _ (hash_from _ _ _ _ _ _ e)

pub letter_is_word_byte : (b : ℕ) → is_letter b ≡ true → is_word_byte b ≡ true
letter_is_word_byte b e = or_left _ _ e

pub digit_is_word_byte : (b : ℕ) → is_digit b ≡ true → is_word_byte b ≡ true
digit_is_word_byte b e = or_right _ _ e
