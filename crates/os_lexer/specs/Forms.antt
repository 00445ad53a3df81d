-- The forms: what a slice of a text may be, by the slice alone. They are those of C11, sections 6.4 and 6.10, as far
-- as the language has them.
use Rattle.std.specs.Prelude.{◌≡◌, ◌≢◌, ℕ, ◌+◌, ◌<◌, ◌≤◌, ◌⊎◌, List, [], ◌∷◌, length, take, drop, codes, slice_index, IsTrue, IsFalse, EachIndex}
use Rattle.os_lexer.specs.Bytes.{is_white, is_blank, is_letter, is_digit, is_word_byte, IsPairAt}
use Rattle.os_lexer.specs.Lines.{StaysOnLine}
use Rattle.os_lexer.specs.Marks.{mark_spelling}
use Rattle.os_lexer.specs.declared.form.Form.{Form}
use Rattle.os_lexer.specs.declared.form.Form.TheVariants as form

-- a run of letters, digits and `_`
abbrev pub IsWordBytes : List ℕ → Type 0
IsWordBytes s = (0 < length s) × EachIndex s (λ i. IsTrue (is_word_byte (slice_index s i)))

-- a run that begins with a letter or `_`: a keyword or a name (C11, 6.4.1 and 6.4.2)
pub record IsWord (s : List ℕ) : Type 0 where
  pub word_bytes : IsWordBytes s
  pub begins : IsTrue (is_letter (slice_index s 0))

-- `#`, and then spaces and tabs up to point k: the start of a directive (C11, 6.10)
pub record IsHashTo (s : List ℕ) (k : ℕ) : Type 0 where
  pub hash : slice_index s 0 ≡ 35
  pub behind : 1 ≤ k
  pub within : k ≤ length s
  pub blank : (i : ℕ) → 1 ≤ i → i < k → IsTrue (is_blank (slice_index s i))

-- the slice is of the form
abbrev pub IsForm : Form → List ℕ → Type 0
-- one byte of white space (C11, 6.4, paragraph 3)
IsForm form.Space s = (length s ≡ 1) × IsTrue (is_white (slice_index s 0))
-- A backslash followed at once by a line feed, or by a carriage return and a line feed. C11, 5.1.1.2, takes it out
-- before there are tokens; here it is white space, so that no token goes on behind it.
IsForm form.JoinedLine s = (s ≡ 92 ∷ 10 ∷ []) ⊎ (s ≡ 92 ∷ 13 ∷ 10 ∷ [])
-- `//` to the line's end, which a joined line isn't (C11, 6.4.9)
IsForm form.LineComment s = IsPairAt s 0 47 47 × StaysOnLine s
-- `/*` to the next `*/`, which comes after the whole `/*` (C11, 6.4.9)
IsForm form.BlockComment s = IsPairAt s 0 47 42 × ((i : ℕ) × (2 ≤ i) × IsPairAt s i 42 47) × ((i : ℕ) → 2 ≤ i → IsPairAt s i 42 47 → i + 2 ≡ length s)
-- `/*` with no `*/` after it
IsForm form.OpenComment s = IsPairAt s 0 47 42 × ((i : ℕ) → 2 ≤ i → IsPairAt s i 42 47 → ⊥)
-- a `#` line with the whole word `include`: comments aren't looked for in it
IsForm form.IncludeLine s = (name_at : ℕ) × IsHashTo s name_at × (take 7 (drop name_at s) ≡ codes "include")
    × (name_at + 7 < length s → IsFalse (is_word_byte (slice_index s (name_at + 7)))) × StaysOnLine s
-- from `#` to the end of the word `pragma`
IsForm form.PragmaStart s = (name_at : ℕ) × IsHashTo s name_at × (drop name_at s ≡ codes "pragma")
-- from `#` to the end of another word
IsForm form.OtherDirective s =
    (name_at : ℕ) × IsHashTo s name_at × IsWord (drop name_at s) × (drop name_at s ≢ codes "pragma") × (drop name_at s ≢ codes "include")
IsForm form.Word s = IsWord s
-- a run that begins with a digit: a number, or none (C11, 6.4.4.1)
IsForm form.Number s = IsWordBytes s × IsTrue (is_digit (slice_index s 0))
-- a mark, as it is spelled
IsForm (form.Mark mark) s = s ≡ mark_spelling mark

-- The first n bytes of rest are of the form, and no form is longer there.
pub record IsLexeme (rest : List ℕ) (form : Form) (n : ℕ) : Type 0 where
  pub within : n ≤ length rest
  pub of_form : IsForm form (take n rest)
  pub longest : (other : Form) (m : ℕ) → m ≤ length rest → IsForm other (take m rest) → m ≤ n
