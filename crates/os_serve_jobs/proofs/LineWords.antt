-- The words of a line, one after the other.
use Rattle.std.proofs.Common.{◌≡◌, ℕ, zero, suc, ◌+◌, ◌<◌, ◌≤◌, true, false, List, [], ◌∷◌, ◌++◌, All, length, take, drop, refl, sym, ap, subst, ◌∙◌, append_assoc, append-nil, arith}
use Rattle.std.specs.Prelude.{filter, slice_index}
use Rattle.std.specs.List.{slice_split}
use Rattle.std.specs.Str.{IsUtf8}
use Rattle.std.proofs.lemmas.List.{drop-drop, drop_all, length-take-le, take-append-drop}
use Rattle.std.proofs.lemmas.List.Elements.{All-drop, All-head}
use Rattle.std.proofs.lemmas.List.Splits.{slice_split-cons_yes, slice_split_none, slice_split_at}
use Rattle.std.proofs.Math.Seq.{drop-append_seam}
use Rattle.os_serve_jobs.specs.Words.{IsText, is_blank, is_some, line_words}

-- a word is kept
kept : (word : List ℕ) (words : List (List ℕ)) → 0 < length word → filter is_some (word ∷ words) ≡ word ∷ filter is_some words
kept [] words some = absurd (omega (arith, some))
kept (byte ∷ bytes) words some = refl

-- a blank in front is no word
pub words_behind : (byte : ℕ) (bytes : List ℕ) → is_blank byte ≡ true → line_words (byte ∷ bytes) ≡ line_words bytes
words_behind byte bytes blank = ap (filter is_some) (slice_split-cons_yes is_blank byte bytes blank)

-- bytes that are no blanks are a word, where a blank or nothing follows
pub words_front : (word rest : List ℕ) → 0 < length word → All (λ byte. is_blank byte ≡ false) word
    → ((byte : ℕ) (bytes : List ℕ) → rest ≡ byte ∷ bytes → is_blank byte ≡ true) → line_words (word ++ rest) ≡ word ∷ line_words rest
words_front word [] some none blank =
    ap line_words (append-nil word) ∙ ap (filter is_some) (slice_split_none is_blank word none) ∙ kept word [] some
words_front word (byte ∷ bytes) some none blank =
    let at : is_blank byte ≡ true = blank byte bytes refl in
    ap (filter is_some) (slice_split_at is_blank word byte bytes none at)
    ∙ kept word (slice_split is_blank bytes) some
    ∙ ap (λ words. word ∷ words) (sym (words_behind byte bytes at))

-- where a word isn't text, the line isn't
pub no_text : (line : List ℕ) (before more : List (List ℕ)) (word : List ℕ) → before ++ word ∷ more ≡ line_words line → (IsUtf8 word → ⊥) → IsText line → ⊥
no_text line before more word is bad text =
    let behind : All IsUtf8 (word ∷ more) =
    subst (All IsUtf8) (drop-append_seam before (word ∷ more)) (All-drop IsUtf8 (length before) (before ++ word ∷ more) (subst (All IsUtf8) (sym is) text)) in
    bad (All-head IsUtf8 word more behind)

-- what stands from a place on
first_of : (bytes : List ℕ) (count : ℕ) (byte : ℕ) (rest : List ℕ) → drop count bytes ≡ byte ∷ rest → (count < length bytes) × (slice_index bytes count ≡ byte)
first_of [] zero byte rest is = absurd (cc)
first_of [] (suc count) byte rest is = absurd (cc)
first_of (first ∷ bytes) zero byte rest is = (omega arith, cc)
first_of (first ∷ bytes) (suc count) byte rest is = let more = first_of bytes count byte rest is in (omega (arith, more.0), more.1)

-- the next word of a line
pub words_at : (rest : List ℕ) (count : ℕ) → 0 < count → count ≤ length rest → All (λ byte. is_blank byte ≡ false) (take count rest)
    → (count < length rest → is_blank (slice_index rest count) ≡ true) → line_words rest ≡ take count rest ∷ line_words (drop count rest)
words_at rest count some within none blank =
    ap line_words (sym (take-append-drop count rest))
    ∙ words_front (take count rest) (drop count rest) (let l = length-take-le count rest within in omega (arith, l, some)) none
    (λ byte bytes is. let at = first_of rest count byte bytes is in subst (λ b. is_blank b ≡ true) at.1 (blank at.0))

-- a blank is left out
pub blank_at : (rest : List ℕ) → 0 < length rest → is_blank (slice_index rest 0) ≡ true → line_words rest ≡ line_words (drop 1 rest)
blank_at [] some blank = absurd (omega (arith, some))
blank_at (byte ∷ bytes) some blank = words_behind byte bytes blank

-- one more word is read
pub one_word : (line rest front word : List ℕ) (before words : List (List ℕ)) (next count : ℕ) → before ++ line_words (drop next line) ≡ line_words line
    → rest ≡ drop next line → front ≡ take count rest → word ≡ front → words ≡ before ++ word ∷ []
    → 0 < count → count ≤ length rest → All (λ byte. is_blank byte ≡ false) (take count rest) → (count < length rest → is_blank (slice_index rest count) ≡ true)
    → words ++ line_words (drop (next + count) line) ≡ line_words line
one_word line rest front word before words next count so_far rest_is front_is word_is words_are some within none blank =
    let at : drop count rest ≡ drop (next + count) line = ap (drop count) rest_is ∙ drop-drop count next line in
    let one : word ≡ take count rest = word_is ∙ front_is in
    ap (λ w. w ++ line_words (drop (next + count) line)) words_are
    ∙ append_assoc before (word ∷ []) (line_words (drop (next + count) line))
    ∙ ap (λ w. before ++ w ∷ line_words (drop (next + count) line)) one
    ∙ ap (λ r. before ++ take count rest ∷ line_words r) (sym at)
    ∙ ap (λ w. before ++ w) (sym (words_at rest count some within none blank))
    ∙ ap (λ r. before ++ line_words r) rest_is
    ∙ so_far

-- a blank is passed over
pub one_blank : (line rest : List ℕ) (words : List (List ℕ)) (next count : ℕ) → words ++ line_words (drop next line) ≡ line_words line
    → rest ≡ drop next line → count ≡ 0 → 0 < length rest → (count < length rest → is_blank (slice_index rest count) ≡ true)
    → words ++ line_words (drop (next + 1) line) ≡ line_words line
one_blank line rest words next count so_far rest_is none some blank =
    let at : drop 1 rest ≡ drop (next + 1) line = ap (drop 1) rest_is ∙ drop-drop 1 next line in
    let is : is_blank (slice_index rest 0) ≡ true = subst (λ n. n < length rest → is_blank (slice_index rest n) ≡ true) none blank some in
    ap (λ r. words ++ line_words r) (sym at) ∙ ap (λ w. words ++ w) (sym (blank_at rest some is)) ∙ ap (λ r. words ++ line_words r) rest_is ∙ so_far

-- a word that isn't text
pub bad_word : (line rest front : List ℕ) (before : List (List ℕ)) (next count : ℕ) → before ++ line_words (drop next line) ≡ line_words line
    → rest ≡ drop next line → front ≡ take count rest
    → 0 < count → count ≤ length rest → All (λ byte. is_blank byte ≡ false) (take count rest) → (count < length rest → is_blank (slice_index rest count) ≡ true)
    → (IsUtf8 front → ⊥) → IsText line → ⊥
bad_word line rest front before next count so_far rest_is front_is some within none blank bad =
    no_text line before (line_words (drop count rest)) (take count rest)
    (ap (λ w. before ++ w) (sym (words_at rest count some within none blank)) ∙ ap (λ r. before ++ line_words r) rest_is ∙ so_far)
    (subst (λ f. IsUtf8 f → ⊥) front_is bad)

-- all words are read
pub all_words : (line : List ℕ) (words : List (List ℕ)) (next : ℕ) → words ++ line_words (drop next line) ≡ line_words line → length line ≤ next → words ≡ line_words line
all_words line words next so_far done =
    sym (append-nil words) ∙ ap (λ r. words ++ line_words r) (sym (drop_all next line done)) ∙ so_far

pub all_text : (line : List ℕ) (words : List (List ℕ)) → words ≡ line_words line → All IsUtf8 words → IsText line
all_text line words are text = subst (All IsUtf8) are text
