-- What is found at the front of the bytes is there, and is of its form.
use Rattle.std.proofs.Common.{◌≡◌, ℕ, ◌+◌, ◌-◌, ◌<◌, ◌≤◌, Bool, true, false, not, ◌&&◌, List, [], ◌∷◌, length, take, drop, Option, Some, None, codes, bytes_eq, refl, sym, ap, ap₂, ◌∙◌, subst, inl, inr, ⊎_elim, arith, length-take-le, length-drop, get_or-take, get_or-drop, take-take, add-zero, ltb-true, ltb-false, eqb-true}
use Rattle.std.proofs.lemmas.Bool.{cases_lt, cond_both, false≢true, and_parts, or_cases, not_from_true}
use Rattle.std.proofs.lemmas.Bool.Decides.{nat_tests}
use Rattle.std.proofs.lemmas.List.{get_or_past}
use Rattle.std.proofs.lemmas.Slice.{between_is}
use Rattle.std.proofs.lemmas.Slice.Eq.{bytes_eq-Decides}
use Rattle.std.specs.Prelude.{slice_index, slice_range, nat_lt, ◌==◌}
use Rattle.os_lexer.specs.Bytes.{is_white, is_blank, is_letter, is_digit, is_word_byte, IsPairAt}
use Rattle.os_lexer.specs.Lines.{EndsJoinedLine}
use Rattle.os_lexer.specs.Forms.{IsWordBytes, IsWord, IsHashTo, IsForm}
use Rattle.os_lexer.specs.Marks.{mark_spelling}
use Rattle.os_lexer.specs.Reading.{class_of, ends_run, ends_blanks, ends_line, is_joined, closes, run_end, blanks_end, line_end, comment_end, lexeme, joined_line_at, mark_at, comment_at, slash_at, named_directive, directive_at, lexeme_of, lexeme_at}
use Rattle.os_lexer.specs.declared.bytes.Class.{Class}
use Rattle.os_lexer.specs.declared.bytes.Class.TheVariants.{White, Letter, Digit, Backslash, Slash, Hash, Other}
use Rattle.os_lexer.specs.declared.form.Form.TheVariants as form
use Rattle.os_lexer.specs.declared.form.Lexeme.{Lexeme}
use Rattle.os_lexer.proofs.Classes.{is_white-of_class, is_letter-of_class, is_digit-of_class, backslash-of_class, slash-of_class, hash-of_class, letter_is_word_byte, digit_is_word_byte}
use Rattle.os_lexer.proofs.FirstPoints.{IsFirst}
use Rattle.os_lexer.proofs.Longest.{run_end-first, blanks_end-first, line_end-first, comment_end-first, has_second}
use Rattle.os_lexer.proofs.MarkSpellings.{length-spelling, mark_at-is}

-- what a lexeme that is found says of the bytes
pub record IsFound (bytes : List ℕ) (p : Lexeme) : Type 0 where
  pub some : 0 < p.length
  pub within : p.length ≤ length bytes
  pub of_form : IsForm p.form (take p.length bytes)

-- the answer is such a lexeme, if it is one
abbrev Finds : List ℕ → Option Lexeme → Type 0
Finds bytes found = (p : Lexeme) → found ≡ Some p → IsFound bytes p

finds_none : (bytes : List ℕ) → Finds bytes None
finds_none bytes p e = cc

finds_lexeme : (bytes : List ℕ) (p : Lexeme) → IsFound bytes p → Finds bytes (Some p)
finds_lexeme bytes p found q e = let same : p ≡ q = cc in subst (IsFound bytes) same found

two_bytes : (bytes : List ℕ) (a b : ℕ) → 2 ≤ length bytes → slice_index bytes 0 ≡ a → slice_index bytes 1 ≡ b → take 2 bytes ≡ a ∷ b ∷ []
two_bytes [] a b long e f = absurd (omega arith)
two_bytes (x ∷ []) a b long e f = absurd (omega arith)
two_bytes (x ∷ y ∷ zs) a b long e f = ap₂ (λ p q. p ∷ q ∷ []) e f

three_bytes : (bytes : List ℕ) (a b c : ℕ) → 3 ≤ length bytes → slice_index bytes 0 ≡ a → slice_index bytes 1 ≡ b → slice_index bytes 2 ≡ c → take 3 bytes ≡ a ∷ b ∷ c ∷ []
three_bytes [] a b c long e f g = absurd (omega arith)
three_bytes (x ∷ []) a b c long e f g = absurd (omega arith)
three_bytes (x ∷ y ∷ []) a b c long e f g = absurd (omega arith)
three_bytes (x ∷ y ∷ z ∷ zs) a b c long e f g = ap₂ (λ p q. p ∷ q ∷ z ∷ []) e f ∙ ap (λ r. a ∷ b ∷ r ∷ []) g

has_third : (bytes : List ℕ) (b : ℕ) → slice_index bytes 2 ≡ b → 0 < b → 3 ≤ length bytes
has_third bytes b e some = ⊎_elim (λ short. absurd (let zero_is : slice_index bytes 2 ≡ 0 = get_or_past bytes 2 0 (omega (arith, short)) in omega arith)) (λ l. l) (cases_lt (length bytes) 3)

not_true : {b : Bool} → not b ≡ false → b ≡ true
not_true {b = true} e = refl
not_true {b = false} e = sym e

true_not : {b : Bool} → not b ≡ true → b ≡ false
true_not {b = true} e = sym e
true_not {b = false} e = refl

-- the first two bytes of a comment are no line feed
early_feed : (bytes : List ℕ) (i : ℕ) → i < 2 → slice_index bytes 0 ≡ 47 → slice_index bytes 1 ≡ 47 → slice_index bytes i ≡ 10 → ⊥
early_feed bytes i early first second feed =
    ⊎_elim
    (λ at_start. let zero_is : i ≡ 0 = omega (arith, at_start) in let e : slice_index bytes 0 ≡ 10 = ap (λ j. slice_index bytes j) (sym zero_is) ∙ feed in omega arith)
    (λ behind. let one_is : i ≡ 1 = omega (arith, behind, early) in let e : slice_index bytes 1 ≡ 10 = ap (λ j. slice_index bytes j) (sym one_is) ∙ feed in omega arith)
    (cases_lt i 1)

module _ (bytes : List ℕ) (nonempty : 0 < length bytes) where
  front_length : (m : ℕ) → m ≤ length bytes → length (take m bytes) ≡ m
  front_length m within = length-take-le m bytes within

  front_at : (m i : ℕ) → i < m → slice_index (take m bytes) i ≡ slice_index bytes i
  front_at m i below = get_or-take m bytes i 0 below

  finds-white : is_white (slice_index bytes 0) ≡ true → IsFound bytes (lexeme form.Space 1)
  finds-white white = record {
    some = omega arith;
    within = omega arith;
    of_form = (front_length 1 (omega arith), ap is_white (front_at 1 0 (omega arith)) ∙ white);
  }

  -- the bytes to the end of a run from its second byte on
  run_to : is_word_byte (slice_index bytes 0) ≡ true → IsWordBytes (take (run_end bytes 1) bytes)
  run_to begins =
      let first = run_end-first bytes 1 (omega arith) in
      let n = run_end bytes 1 in
      let is_length : length (take n bytes) ≡ n = front_length n first.high in (
        omega (arith, first.low),
        λ i below. ap is_word_byte (front_at n i (omega arith)) ∙ ⊎_elim
            (λ at_start. let zero_is : i ≡ 0 = omega (arith, at_start) in ap (λ j. is_word_byte (slice_index bytes j)) zero_is ∙ begins)
            (λ later. not_true (first.before i later (omega arith)))
            (cases_lt i 1),
      )

  finds-letter : is_letter (slice_index bytes 0) ≡ true → IsFound bytes (lexeme form.Word (run_end bytes 1))
  finds-letter letter =
      let first = run_end-first bytes 1 (omega arith) in
      record {
        some = omega (arith, first.low);
        within = first.high;
        of_form = record { word_bytes = run_to (letter_is_word_byte (slice_index bytes 0) letter); begins = ap is_letter (front_at (run_end bytes 1) 0 (omega (arith, first.low))) ∙ letter };
      }

  finds-digit : is_digit (slice_index bytes 0) ≡ true → IsFound bytes (lexeme form.Number (run_end bytes 1))
  finds-digit digit =
      let first = run_end-first bytes 1 (omega arith) in
      record {
        some = omega (arith, first.low);
        within = first.high;
        of_form = (run_to (digit_is_word_byte (slice_index bytes 0) digit), ap is_digit (front_at (run_end bytes 1) 0 (omega (arith, first.low))) ∙ digit);
      }

  finds-backslash : slice_index bytes 0 ≡ 92 → Finds bytes (joined_line_at bytes)
  unfolding joined_line_at
  finds-backslash first =
      cond_both (slice_index bytes 1 == 10) _ _ (Finds bytes)
      (λ e.
      let second : slice_index bytes 1 ≡ 10 = eqb-true _ _ e in
      let long = has_second bytes 10 second (omega arith) in
      finds_lexeme bytes (lexeme form.JoinedLine 2) (record { some = omega arith; within = long; of_form = inl (two_bytes bytes 92 10 long first second) }))
      (λ no_feed. cond_both (slice_index bytes 1 == 13 && slice_index bytes 2 == 10) _ _ (Finds bytes)
      (λ e.
      let second : slice_index bytes 1 ≡ 13 = eqb-true (slice_index bytes 1) 13 (and_parts (slice_index bytes 1 == 13) (slice_index bytes 2 == 10) e).0 in
      let third : slice_index bytes 2 ≡ 10 = eqb-true (slice_index bytes 2) 10 (and_parts (slice_index bytes 1 == 13) (slice_index bytes 2 == 10) e).1 in
      let long = has_third bytes 10 third (omega arith) in
      finds_lexeme bytes (lexeme form.JoinedLine 3) (record { some = omega arith; within = long; of_form = inr (three_bytes bytes 92 13 10 long first second third) }))
      (λ no_return. finds_none bytes))

  finds-mark : Finds bytes (mark_at bytes)
  finds-mark p e =
      let found = mark_at-is bytes p e in
      let n = found.0 in
      let m = found.1.mark in
      let is_length : length (mark_spelling m) ≡ n = sym (ap length found.1.spelled) ∙ front_length n found.1.within in
      subst (IsFound bytes) (sym found.1.is_lexeme) (record { some = omega (arith, (length-spelling m).0); within = found.1.within; of_form = found.1.spelled })

  -- two bytes at the front
  pair_at_front : (m b : ℕ) → m ≤ length bytes → 2 ≤ m → slice_index bytes 0 ≡ 47 → slice_index bytes 1 ≡ b → IsPairAt (take m bytes) 0 47 b
  pair_at_front m b within two first second = record {
    within = omega (arith, front_length m within);
    first = front_at m 0 (omega arith) ∙ first;
    second = front_at m 1 (omega arith) ∙ second;
  }

  -- a line feed before the line's end is that of a joined line
  joined_from : (m i : ℕ) → i < m → ends_line bytes i ≡ false → slice_index (take m bytes) i ≡ 10 → EndsJoinedLine (take m bytes) i
  joined_from m i below stays is_feed =
      let feed : slice_index bytes i ≡ 10 = sym (front_at m i below) ∙ is_feed in
      let joined : is_joined bytes i ≡ true = grind (arith, nat_tests) in
      ⊎_elim
      (λ backslash. inl (front_at m (i - 1) (omega arith) ∙ eqb-true _ _ backslash))
      (λ return. inr (front_at m (i - 1) (omega arith) ∙ eqb-true _ _ (and_parts _ _ return).0, front_at m (i - 2) (omega arith) ∙ eqb-true _ _ (and_parts _ _ return).1))
      (or_cases _ _ joined)

  finds-line_comment : slice_index bytes 0 ≡ 47 → slice_index bytes 1 ≡ 47 → IsFound bytes (lexeme form.LineComment (line_end bytes 2))
  finds-line_comment first second =
      let long = has_second bytes 47 second (omega arith) in
      let line = line_end-first bytes 2 long in
      let n = line_end bytes 2 in
      record {
        some = omega (arith, line.low);
        within = line.high;
        of_form = (
          pair_at_front n 47 line.high line.low first second,
          λ i below feed.
              let inside : i < n = omega (arith, front_length n line.high) in
              ⊎_elim
              (λ early. absurd (early_feed bytes i early first second (sym (front_at n i inside) ∙ feed)))
              (λ late. joined_from n i inside (line.before i late inside) feed)
              (cases_lt i 2),
        );
      }

  -- a `*/` at a point of the bytes is within them
  closes_within : (i : ℕ) → closes bytes i ≡ true → i + 2 ≤ length bytes
  closes_within i e =
      let second : slice_index bytes (i + 1) ≡ 47 = eqb-true (slice_index bytes (i + 1)) 47 (and_parts (slice_index bytes i == 42) (slice_index bytes (i + 1) == 47) e).1 in
      ⊎_elim (λ short. absurd (let zero_is : slice_index bytes (i + 1) ≡ 0 = get_or_past bytes (i + 1) 0 (omega (arith, short)) in omega arith)) (λ l. l) (cases_lt (length bytes) (i + 2))

  closes_in_front : (m i : ℕ) → m ≤ length bytes → i + 2 ≤ m → closes bytes i ≡ true → IsPairAt (take m bytes) i 42 47
  closes_in_front m i within fits e = record {
    within = omega (arith, front_length m within);
    first = front_at m i (omega arith) ∙ eqb-true (slice_index bytes i) 42 (and_parts _ _ e).0;
    second = front_at m (i + 1) (omega arith) ∙ eqb-true (slice_index bytes (i + 1)) 47 (and_parts _ _ e).1;
  }

  closes_from_front : (m i : ℕ) → m ≤ length bytes → IsPairAt (take m bytes) i 42 47 → closes bytes i ≡ true
  closes_from_front m i within pair =
      let first : slice_index bytes i ≡ 42 = sym (front_at m i (omega (arith, pair.within, front_length m within))) ∙ pair.first in
      let second : slice_index bytes (i + 1) ≡ 47 = sym (front_at m (i + 1) (omega (arith, pair.within, front_length m within))) ∙ pair.second in
      grind (arith, nat_tests)

  finds-comment : slice_index bytes 0 ≡ 47 → slice_index bytes 1 ≡ 42 → IsFound bytes (comment_at bytes)
  unfolding comment_at
  finds-comment first second =
      let long = has_second bytes 42 second (omega arith) in
      let search_is = comment_end-first bytes 2 long in
      let end = comment_end bytes 2 in
      cond_both (nat_lt end (length bytes)) (lexeme form.BlockComment (end + 2)) (lexeme form.OpenComment (length bytes)) (IsFound bytes)
      (λ below.
      let inside : end < length bytes = ltb-true _ _ below in
      let passes = search_is.here inside in
      let fits = closes_within end passes in
      let s_length = front_length (end + 2) fits in
      record {
        some = omega arith;
        within = fits;
        of_form = (
          pair_at_front (end + 2) 42 fits (omega arith) first second,
          (end, search_is.low, closes_in_front (end + 2) end fits (omega arith) passes),
          λ i low pair. ⊎_elim
              (λ early. absurd (false≢true (sym (search_is.before i low early) ∙ closes_from_front (end + 2) i fits pair)))
              (λ late. omega (arith, late, pair.within, s_length))
              (cases_lt i end),
        );
      })
      (λ not_below.
      let over : length bytes ≤ end = ltb-false _ _ not_below in
      let s_length = front_length (length bytes) (omega arith) in
      record {
        some = omega arith;
        within = omega arith;
        of_form = (
          pair_at_front (length bytes) 42 (omega arith) long first second,
          λ i low pair. false≢true (sym (search_is.before i low (omega (arith, pair.within, s_length, over))) ∙ closes_from_front (length bytes) i (omega arith) pair),
        );
      })

  finds-slash : slice_index bytes 0 ≡ 47 → Finds bytes (slash_at bytes)
  unfolding slash_at
  finds-slash first =
      cond_both (slice_index bytes 1 == 47) _ _ (Finds bytes)
      (λ e. finds_lexeme bytes _ (finds-line_comment first (eqb-true _ _ e)))
      (λ no_line. cond_both (slice_index bytes 1 == 42) _ _ (Finds bytes)
      (λ e. finds_lexeme bytes _ (finds-comment first (eqb-true _ _ e)))
      (λ no_comment. finds-mark))

  -- the word behind a `#`
  module _ (hash_first : slice_index bytes 0 ≡ 35) (k : ℕ) (blanks : IsFirst (ends_blanks bytes) 1 (length bytes) k) (letter : is_letter (slice_index bytes k) ≡ true) where
    word_inside : k < length bytes
    word_inside = ⊎_elim (λ l. l) (λ past. absurd (false≢true (ap is_letter (sym (get_or_past bytes k 0 past)) ∙ letter))) (cases_lt k (length bytes))

    the_run : IsFirst (ends_run bytes) k (length bytes) (run_end bytes k)
    the_run = run_end-first bytes k blanks.high

    run_byte : (i : ℕ) → k ≤ i → i < run_end bytes k → is_word_byte (slice_index bytes i) ≡ true
    run_byte i low below = not_true (the_run.before i low below)

    word_some : k < run_end bytes k
    word_some =
        ⊎_elim (λ l. l)
        (λ over.
        let e : run_end bytes k ≡ k = omega (arith, over, the_run.low) in
        let ends : ends_run bytes k ≡ true = ap (ends_run bytes) (sym e) ∙ the_run.here (omega (arith, word_inside)) in
        absurd (false≢true (sym (not_from_true _ (letter_is_word_byte (slice_index bytes k) letter)) ∙ ends)))
        (cases_lt k (run_end bytes k))

    hash_to : (n : ℕ) → k ≤ n → n ≤ length bytes → IsHashTo (take n bytes) k
    hash_to n low within = record {
      hash = front_at n 0 (omega (arith, blanks.low)) ∙ hash_first;
      behind = blanks.low;
      within = omega (arith, front_length n within);
      blank = λ i from below. ap is_blank (front_at n i (omega arith)) ∙ not_true (blanks.before i from below);
    }

    name_word : IsWord (drop k (take (run_end bytes k) bytes))
    name_word =
        let e = run_end bytes k in
        let is_length : length (drop k (take e bytes)) ≡ e - k = length-drop k (take e bytes) ∙ ap (λ n. n - k) (front_length e the_run.high) in
        let some = word_some in
        let at : (i : ℕ) → i < e - k → slice_index (drop k (take e bytes)) i ≡ slice_index bytes (k + i) = λ i below. get_or-drop k (take e bytes) i 0 ∙ front_at e (k + i) (omega arith) in
        record {
          word_bytes = (omega arith, λ i below. ap is_word_byte (at i (omega arith)) ∙ run_byte (k + i) (omega arith) (omega arith));
          begins = ap is_letter (at 0 (omega arith) ∙ ap (λ i. slice_index bytes i) (add-zero k)) ∙ letter;
        }

    -- no line feed stands before the end of the word
    no_feed : (i : ℕ) → i < run_end bytes k → slice_index bytes i ≡ 10 → ⊥
    no_feed i below feed =
        ⊎_elim
        (λ at_start. let zero_is : i ≡ 0 = omega (arith, at_start) in let e : slice_index bytes 0 ≡ 10 = ap (λ j. slice_index bytes j) (sym zero_is) ∙ feed in omega arith)
        (λ behind. ⊎_elim
        (λ early. false≢true (ap is_blank (sym feed) ∙ not_true (blanks.before i behind early)))
        (λ late. false≢true (ap is_word_byte (sym feed) ∙ run_byte i late below))
        (cases_lt i k))
        (cases_lt i 1)

    finds-include : slice_range bytes k (run_end bytes k) ≡ codes "include" → IsFound bytes (lexeme form.IncludeLine (line_end bytes (run_end bytes k)))
    finds-include named =
        let e = run_end bytes k in
        let line = line_end-first bytes e the_run.high in
        let n = line_end bytes e in
        let some = word_some in
        let range_length : length (take (e - k) (drop k bytes)) ≡ e - k = length-take-le (e - k) (drop k bytes) (omega (arith, length-drop k bytes, the_run.high)) in
        let seven : e - k ≡ 7 = sym range_length ∙ ap length named in
        let name_is : take 7 (drop k (take n bytes)) ≡ codes "include" =
        ap (λ l. take 7 l) (sym (between_is bytes k n)) ∙ take-take 7 (n - k) (drop k bytes) (omega (arith, line.low)) ∙ ap (λ j. take j (drop k bytes)) (sym seven) ∙ named
        in
        let n_length = front_length n line.high in
        record {
          some = omega (arith, line.low);
          within = line.high;
          of_form = (
            k,
            hash_to n (omega (arith, line.low)) line.high,
            name_is,
            λ inside.
                let point : e ≡ k + 7 = omega arith in
                ap is_word_byte (front_at n (k + 7) (omega arith) ∙ ap (λ j. slice_index bytes j) (sym point)) ∙ true_not (the_run.here (omega (arith, line.high))),
            λ i below feed.
                let inside : i < n = omega arith in
                ⊎_elim
                (λ early. absurd (no_feed i early (sym (front_at n i inside) ∙ feed)))
                (λ late. joined_from n i inside (line.before i late inside) feed)
                (cases_lt i e),
          );
        }

    finds-named : IsFound bytes (named_directive bytes k)
    unfolding named_directive
    finds-named =
        let e = run_end bytes k in
        let some = word_some in
        let same_name : slice_range bytes k e ≡ drop k (take e bytes) = between_is bytes k e in
        cond_both (bytes_eq (slice_range bytes k e) (codes "pragma")) (lexeme form.PragmaStart e) _ (IsFound bytes)
        (λ is_pragma. record {
          some = omega arith;
          within = the_run.high;
          of_form = (k, hash_to e the_run.low the_run.high, sym same_name ∙ (bytes_eq-Decides _ _).0 is_pragma);
        })
        (λ no_pragma. cond_both (bytes_eq (slice_range bytes k e) (codes "include")) (lexeme form.IncludeLine (line_end bytes e)) (lexeme form.OtherDirective e) (IsFound bytes)
        (λ is_include. finds-include ((bytes_eq-Decides _ _).0 is_include))
        (λ no_include. record {
          some = omega arith;
          within = the_run.high;
          of_form = (
            k,
            hash_to e the_run.low the_run.high,
            name_word,
            λ same. false≢true (sym no_pragma ∙ (bytes_eq-Decides _ _).1 (same_name ∙ same)),
            λ same. false≢true (sym no_include ∙ (bytes_eq-Decides _ _).1 (same_name ∙ same)),
          );
        }))

  finds-hash : slice_index bytes 0 ≡ 35 → Finds bytes (directive_at bytes)
  unfolding directive_at
  finds-hash first =
      let k = blanks_end bytes 1 in
      cond_both (is_letter (slice_index bytes k)) (Some (named_directive bytes k)) None (Finds bytes)
      (λ letter. finds_lexeme bytes _ (finds-named first k (blanks_end-first bytes 1 nonempty) letter))
      (λ no_word. finds_none bytes)

  finds-class : (c : Class) → class_of (slice_index bytes 0) ≡ c → Finds bytes (lexeme_of c bytes)
  finds-class White e = finds_lexeme bytes _ (finds-white (is_white-of_class (slice_index bytes 0) e))
  finds-class Letter e = finds_lexeme bytes _ (finds-letter (is_letter-of_class (slice_index bytes 0) e))
  finds-class Digit e = finds_lexeme bytes _ (finds-digit (is_digit-of_class (slice_index bytes 0) e))
  finds-class Backslash e = finds-backslash (backslash-of_class (slice_index bytes 0) e)
  finds-class Slash e = finds-slash (slash-of_class (slice_index bytes 0) e)
  finds-class Hash e = finds-hash (hash-of_class (slice_index bytes 0) e)
  finds-class Other e = finds-mark

  pub found_is : (p : Lexeme) → lexeme_at bytes ≡ Some p → IsFound bytes p
  unfolding lexeme_at
  found_is p e = finds-class (class_of (slice_index bytes 0)) refl p e
