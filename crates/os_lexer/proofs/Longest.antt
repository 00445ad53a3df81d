-- A form at the front of the bytes is found, or a longer one.
use Rattle.std.proofs.Common.{◌≡◌, ℕ, zero, suc, min, ◌+◌, ◌-◌, ◌<◌, ◌≤◌, ◌⊎◌, Bool, true, false, cond, ◌&&◌, List, [], ◌∷◌, length, take, drop, Option, Some, None, codes, bytes_eq, refl, sym, ap, ap₂, ◌∙◌, subst, inl, inr, ⊎_elim, arith, length-take-le, length-take, length-drop, take-take, add-zero, get_or-take, get_or-drop, le-ltb, lt-ltb, eqb-true, eq-eqb}
use Rattle.std.proofs.lemmas.Bool.{cond-true, cond-false, cases_lt, false≢true, false_from_ne_true, not_from_true, not_from_false, cond_both, and_parts}
use Rattle.std.proofs.lemmas.Bool.Decides.{nat_tests}
use Rattle.std.proofs.lemmas.Slice.Eq.{bytes_eq-Decides}
use Rattle.std.specs.List.{list_all}
use Rattle.std.proofs.lemmas.List.{drop-take, get_or_past}
use Rattle.std.proofs.lemmas.Slice.{between_is}
use Rattle.std.specs.Prelude.{slice_index, slice_range, nat_lt, ◌==◌}
use Rattle.os_lexer.specs.Bytes.{is_white, is_blank, is_letter, is_digit, is_word_byte, IsPairAt}
use Rattle.os_lexer.specs.Lines.{EndsJoinedLine, StaysOnLine}
use Rattle.os_lexer.specs.Forms.{IsWordBytes, IsWord, IsHashTo, IsForm}
use Rattle.os_lexer.specs.Marks.{mark_spelling}
use Rattle.os_lexer.specs.Reading.{class_of, ends_run, ends_blanks, ends_line, is_joined, closes, run_end, blanks_end, line_end, comment_end, lexeme, joined_line_at, mark_at, comment_at, slash_at, named_directive, directive_at, lexeme_of, lexeme_at}
use Rattle.os_lexer.specs.declared.bytes.Class.{Class}
use Rattle.os_lexer.specs.declared.bytes.Class.TheVariants.{White, Letter, Digit, Backslash, Slash, Hash, Other}
use Rattle.os_lexer.specs.declared.form.Form.{Form}
use Rattle.os_lexer.specs.declared.form.Form.TheVariants as form
use Rattle.os_lexer.specs.declared.form.Lexeme.{Lexeme}
use Rattle.os_lexer.specs.declared.token.Punct.{Punct}
use Rattle.os_lexer.specs.declared.token.Punct.TheVariants as mark
use Rattle.os_lexer.proofs.Classes.{class_of-white, class_of-letter, class_of-digit}
use Rattle.os_lexer.proofs.FirstPoints.{IsFirst, IsFirst-in, IsFirst-passes, IsFirst-is}
use Rattle.os_lexer.proofs.MarkSpellings.{FindsAtLeast, length-spelling, mark_at-finds}

-- the searches in a slice
module _ (bytes : List ℕ) (from : ℕ) (within : from ≤ length bytes) where
  pub run_end-first : IsFirst (ends_run bytes) from (length bytes) (run_end bytes from)
  unfolding run_end
  run_end-first = IsFirst-in (ends_run bytes) from (length bytes) within

  pub blanks_end-first : IsFirst (ends_blanks bytes) from (length bytes) (blanks_end bytes from)
  unfolding blanks_end
  blanks_end-first = IsFirst-in (ends_blanks bytes) from (length bytes) within

  pub line_end-first : IsFirst (ends_line bytes) from (length bytes) (line_end bytes from)
  unfolding line_end
  line_end-first = IsFirst-in (ends_line bytes) from (length bytes) within

  pub comment_end-first : IsFirst (closes bytes) from (length bytes) (comment_end bytes from)
  unfolding comment_end
  comment_end-first = IsFirst-in (closes bytes) from (length bytes) within

letter_unblank : (b : ℕ) → is_letter b ≡ true → is_blank b ≡ false
letter_unblank b e = grind (arith, nat_tests)

-- the words of the directives
each_from_all : (p : ℕ → Bool) (xs : List ℕ) → list_all p xs ≡ true → (i : ℕ) → i < length xs → p (slice_index xs i) ≡ true
each_from_all p [] e i below = absurd (omega arith)
each_from_all p (x ∷ xs) e zero below = (and_parts _ _ e).0
each_from_all p (x ∷ xs) e (suc i) below = each_from_all p xs (and_parts _ _ e).1 i (omega arith)

pragma_word : IsWord (codes "pragma")
pragma_word = record { word_bytes = (omega arith, each_from_all is_word_byte (codes "pragma") refl); begins = refl }

include_word : IsWord (codes "include")
include_word = record { word_bytes = (omega arith, each_from_all is_word_byte (codes "include") refl); begins = refl }

include_fits : (xs : List ℕ) → take 7 xs ≡ codes "include" → 7 ≤ length xs
include_fits xs e = let n : min 7 (length xs) ≡ 7 = sym (length-take 7 xs) ∙ ap length e in omega arith

-- a byte that isn't 0 is within the bytes
pub has_second : (bytes : List ℕ) (b : ℕ) → slice_index bytes 1 ≡ b → 0 < b → 2 ≤ length bytes
has_second bytes b e some = ⊎_elim (λ short. absurd (let zero_is : slice_index bytes 1 ≡ 0 = get_or_past bytes 1 0 (omega (arith, short)) in omega arith)) (λ l. l) (cases_lt (length bytes) 2)

-- a directive is as long as to the end of its word
named_directive-as_long : (bytes : List ℕ) (k : ℕ) → k ≤ length bytes → run_end bytes k ≤ (named_directive bytes k).length
unfolding named_directive
named_directive-as_long bytes k within =
    let end = run_end bytes k in
    let line = line_end-first bytes end (run_end-first bytes k within).high in
    let P : Lexeme → Type 0 = λ p. end ≤ p.length in
    cond_both (bytes_eq (slice_range bytes k end) (codes "pragma")) _ _ P (λ _. omega arith)
    (λ _. cond_both (bytes_eq (slice_range bytes k end) (codes "include")) _ _ P (λ _. line.low) (λ _. omega arith))

-- the class of the first byte says what is found
pub lexeme_at-of_class : (bytes : List ℕ) (c : Class) → class_of (slice_index bytes 0) ≡ c → lexeme_at bytes ≡ lexeme_of c bytes
unfolding lexeme_at
lexeme_at-of_class bytes c e = ap (λ k. lexeme_of k bytes) e

-- a lexeme of the same form that is as long or longer
found_longer : (found : Option Lexeme) (form : Form) (n m : ℕ) → found ≡ Some (lexeme form m) → n ≤ m → FindsAtLeast found n (lexeme form n)
found_longer found form n m e longer = record { lexeme_found = lexeme form m; is_found = e; as_long = longer; same = λ same. ap (lexeme form) (sym same) }

-- a mark begins with a slash, or with a byte that begins no other form
mark_class : (m : Punct) → (class_of (slice_index (mark_spelling m) 0) ≡ Other) ⊎ ((m ≡ mark.Slash) ⊎ (m ≡ mark.DivideSet))
mark_class mark.ShiftLeftSet = inl refl
mark_class mark.ShiftRightSet = inl refl
mark_class mark.AddSet = inl refl
mark_class mark.SubtractSet = inl refl
mark_class mark.MultiplySet = inl refl
mark_class mark.DivideSet = inr (inr refl)
mark_class mark.RemainderSet = inl refl
mark_class mark.BitAndSet = inl refl
mark_class mark.BitXorSet = inl refl
mark_class mark.BitOrSet = inl refl
mark_class mark.Up = inl refl
mark_class mark.Down = inl refl
mark_class mark.ShiftLeft = inl refl
mark_class mark.ShiftRight = inl refl
mark_class mark.LessEqual = inl refl
mark_class mark.GreaterEqual = inl refl
mark_class mark.Equal = inl refl
mark_class mark.Unequal = inl refl
mark_class mark.And = inl refl
mark_class mark.Or = inl refl
mark_class mark.Plus = inl refl
mark_class mark.Minus = inl refl
mark_class mark.Star = inl refl
mark_class mark.Slash = inr (inl refl)
mark_class mark.Percent = inl refl
mark_class mark.Less = inl refl
mark_class mark.Greater = inl refl
mark_class mark.Set = inl refl
mark_class mark.BitAnd = inl refl
mark_class mark.BitXor = inl refl
mark_class mark.BitOr = inl refl
mark_class mark.Not = inl refl
mark_class mark.Invert = inl refl
mark_class mark.Question = inl refl
mark_class mark.Colon = inl refl
mark_class mark.Semicolon = inl refl
mark_class mark.Comma = inl refl
mark_class mark.OpenParen = inl refl
mark_class mark.CloseParen = inl refl
mark_class mark.OpenBracket = inl refl
mark_class mark.CloseBracket = inl refl
mark_class mark.OpenBrace = inl refl
mark_class mark.CloseBrace = inl refl

finds_along : {found other : Option Lexeme} {n : ℕ} {p : Lexeme} → found ≡ other → FindsAtLeast other n p → FindsAtLeast found n p
finds_along e finds = record { lexeme_found = finds.lexeme_found; is_found = e ∙ finds.is_found; as_long = finds.as_long; same = finds.same }

-- the first m bytes
module _ (bytes : List ℕ) (m : ℕ) (within : m ≤ length bytes) where
  front_length : length (take m bytes) ≡ m
  front_length = length-take-le m bytes within

  front_at : (i : ℕ) → i < m → slice_index (take m bytes) i ≡ slice_index bytes i
  front_at i below = get_or-take m bytes i 0 below

  longest-space : IsForm form.Space (take m bytes) → FindsAtLeast (lexeme_at bytes) m (lexeme form.Space m)
  longest-space s =
      let one : m ≡ 1 = sym front_length ∙ s.0 in
      let white : is_white (slice_index bytes 0) ≡ true = ap is_white (sym (front_at 0 (omega arith))) ∙ s.1 in
      found_longer _ form.Space m 1 (lexeme_at-of_class bytes White (class_of-white (slice_index bytes 0) white)) (omega arith)

  longest-run : (form : Form) → IsWordBytes (take m bytes) → lexeme_at bytes ≡ Some (lexeme form (run_end bytes 1)) → FindsAtLeast (lexeme_at bytes) m (lexeme form m)
  longest-run form run is_found =
      let some : 1 ≤ m = omega (arith, run.0, front_length) in
      let passes : m ≤ run_end bytes 1 = IsFirst-passes (run_end-first bytes 1 (omega arith)) m within
      (λ i low high. not_from_true _ (ap is_word_byte (sym (front_at i high)) ∙ run.1 i (omega (arith, front_length))))
      in
      found_longer _ form m _ is_found passes

  longest-word : IsWord (take m bytes) → FindsAtLeast (lexeme_at bytes) m (lexeme form.Word m)
  longest-word s =
      let some : 0 < m = omega (arith, s.word_bytes.0, front_length) in
      let begins : is_letter (slice_index bytes 0) ≡ true = ap is_letter (sym (front_at 0 some)) ∙ s.begins in
      longest-run form.Word s.word_bytes (lexeme_at-of_class bytes Letter (class_of-letter (slice_index bytes 0) begins))

  longest-number : IsForm form.Number (take m bytes) → FindsAtLeast (lexeme_at bytes) m (lexeme form.Number m)
  longest-number s =
      let some : 0 < m = omega (arith, s.0.0, front_length) in
      let begins : is_digit (slice_index bytes 0) ≡ true = ap is_digit (sym (front_at 0 some)) ∙ s.1 in
      longest-run form.Number s.0 (lexeme_at-of_class bytes Digit (class_of-digit (slice_index bytes 0) begins))

  -- a slice that is known byte by byte
  known_at : (s : List ℕ) → take m bytes ≡ s → (i : ℕ) → i < length s → slice_index bytes i ≡ slice_index s i
  known_at s e i below = sym (front_at i (omega (arith, front_length, ap length e))) ∙ ap (λ l. slice_index l i) e

  known_length : (s : List ℕ) → take m bytes ≡ s → m ≡ length s
  known_length s e = sym front_length ∙ ap length e

  longest-joined_short : take m bytes ≡ 92 ∷ 10 ∷ [] → FindsAtLeast (lexeme_at bytes) m (lexeme form.JoinedLine m)
  unfolding joined_line_at
  longest-joined_short e =
      let first : slice_index bytes 0 ≡ 92 = known_at _ e 0 (omega arith) in
      let second : slice_index bytes 1 ≡ 10 = known_at _ e 1 (omega arith) in
      let two : m ≡ 2 = known_length _ e in
      found_longer _ form.JoinedLine m 2
      (lexeme_at-of_class bytes Backslash (ap class_of first) ∙ cond-true (slice_index bytes 1 == 10) _ _ (eq-eqb _ _ second)) (omega arith)

  longest-joined_long : take m bytes ≡ 92 ∷ 13 ∷ 10 ∷ [] → FindsAtLeast (lexeme_at bytes) m (lexeme form.JoinedLine m)
  unfolding joined_line_at
  longest-joined_long e =
      let first : slice_index bytes 0 ≡ 92 = known_at _ e 0 (omega arith) in
      let second : slice_index bytes 1 ≡ 13 = known_at _ e 1 (omega arith) in
      let third : slice_index bytes 2 ≡ 10 = known_at _ e 2 (omega arith) in
      let three : m ≡ 3 = known_length _ e in
      found_longer _ form.JoinedLine m 3
      (lexeme_at-of_class bytes Backslash (ap class_of first) ∙ cond-false (slice_index bytes 1 == 10) _ _ (ap (λ b. b == 10) second) ∙ ap₂ (λ a b. cond (a == 13 && b == 10) (Some (lexeme form.JoinedLine 3)) None) second third) (omega arith)

  longest-joined : IsForm form.JoinedLine (take m bytes) → FindsAtLeast (lexeme_at bytes) m (lexeme form.JoinedLine m)
  longest-joined s = ⊎_elim longest-joined_short longest-joined_long s

  -- the two bytes at the front
  pair_first : (a b : ℕ) → IsPairAt (take m bytes) 0 a b → slice_index bytes 0 ≡ a
  pair_first a b pair = sym (front_at 0 (omega (arith, pair.within, front_length))) ∙ pair.first

  pair_second : (a b : ℕ) → IsPairAt (take m bytes) 0 a b → slice_index bytes 1 ≡ b
  pair_second a b pair = sym (front_at 1 (omega (arith, pair.within, front_length))) ∙ pair.second

  -- a joined line in the slice is one in the bytes
  joined_at : (i : ℕ) → i < m → EndsJoinedLine (take m bytes) i → is_joined bytes i ≡ true
  joined_at i below (inl backslash) =
      let e : slice_index bytes (i - 1) ≡ 92 = sym (front_at (i - 1) (omega arith)) ∙ backslash in
      grind (arith, nat_tests)
  joined_at i below (inr return) =
      let e : slice_index bytes (i - 1) ≡ 13 = sym (front_at (i - 1) (omega arith)) ∙ return.0 in
      let f : slice_index bytes (i - 2) ≡ 92 = sym (front_at (i - 2) (omega arith)) ∙ return.1 in
      grind (arith, nat_tests)

  stays_here : StaysOnLine (take m bytes) → (i : ℕ) → i < m → ends_line bytes i ≡ false
  stays_here stays i below =
      false_from_ne_true _ (λ ends.
      let is_feed : slice_index bytes i ≡ 10 = grind (arith, nat_tests) in
      let joined = joined_at i below (stays i (omega (arith, front_length)) (front_at i below ∙ is_feed)) in
      let unjoined : is_joined bytes i ≡ false = grind (arith, nat_tests) in
      false≢true (sym unjoined ∙ joined))

  -- what a slash begins
  at_slash : slice_index bytes 0 ≡ 47 → lexeme_at bytes ≡ slash_at bytes
  at_slash e = lexeme_at-of_class bytes Slash (ap class_of e)

  longest-line_comment : IsForm form.LineComment (take m bytes) → FindsAtLeast (lexeme_at bytes) m (lexeme form.LineComment m)
  unfolding slash_at
  longest-line_comment s =
      let two : 2 ≤ m = omega (arith, s.0.within, front_length) in
      let second : slice_index bytes 1 ≡ 47 = pair_second 47 47 s.0 in
      let passes : m ≤ line_end bytes 2 = IsFirst-passes (line_end-first bytes 2 (omega arith)) m within (λ i low high. stays_here s.1 i high) in
      found_longer _ form.LineComment m _ (at_slash (pair_first 47 47 s.0) ∙ cond-true (slice_index bytes 1 == 47) _ _ (eq-eqb _ _ second)) passes

  at_comment : IsPairAt (take m bytes) 0 47 42 → lexeme_at bytes ≡ Some (comment_at bytes)
  unfolding slash_at
  at_comment opened =
      let second : slice_index bytes 1 ≡ 42 = pair_second 47 42 opened in
      at_slash (pair_first 47 42 opened) ∙ ap (λ b. cond (b == 47) (Some (lexeme form.LineComment (line_end bytes 2))) (cond (b == 42) (Some (comment_at bytes)) (mark_at bytes))) second

  -- a `*/` in the slice is one in the bytes, and the other way round
  closes_from : (i : ℕ) → IsPairAt (take m bytes) i 42 47 → closes bytes i ≡ true
  closes_from i pair =
      let first : slice_index bytes i ≡ 42 = sym (front_at i (omega (arith, pair.within, front_length))) ∙ pair.first in
      let second : slice_index bytes (i + 1) ≡ 47 = sym (front_at (i + 1) (omega (arith, pair.within, front_length))) ∙ pair.second in
      grind (arith, nat_tests)

  closes_to : (i : ℕ) → i + 2 ≤ m → closes bytes i ≡ true → IsPairAt (take m bytes) i 42 47
  closes_to i fits e =
      let first : slice_index bytes i ≡ 42 = grind (arith, nat_tests) in
      let second : slice_index bytes (i + 1) ≡ 47 = grind (arith, nat_tests) in
      record {
        within = omega (arith, front_length);
        first = front_at i (omega arith) ∙ first;
        second = front_at (i + 1) (omega arith) ∙ second;
      }

  longest-block_comment : IsForm form.BlockComment (take m bytes) → FindsAtLeast (lexeme_at bytes) m (lexeme form.BlockComment m)
  unfolding comment_at
  longest-block_comment s =
      let end = s.1.0 in
      let ends : end + 2 ≡ m = s.2 end s.1.1 s.1.2 ∙ front_length in
      let low : 2 ≤ end = s.1.1 in
      let open_until : (i : ℕ) → 2 ≤ i → i < end → closes bytes i ≡ false = λ i from below. false_from_ne_true _ (λ e.
      let same : i + 2 ≡ m = s.2 i from (closes_to i (omega arith) e) ∙ front_length in omega arith)
      in
      let end_is : comment_end bytes 2 ≡ end = IsFirst-is (comment_end-first bytes 2 (omega arith)) end low (omega arith) open_until (closes_from end s.1.2) in
      found_longer _ form.BlockComment m (comment_end bytes 2 + 2)
      (at_comment s.0 ∙ ap Some (cond-true (nat_lt (comment_end bytes 2) (length bytes)) _ _ (lt-ltb _ _ (omega arith)))) (omega arith)

  longest-open_comment : IsForm form.OpenComment (take m bytes) → FindsAtLeast (lexeme_at bytes) m (lexeme form.OpenComment m)
  unfolding comment_at
  longest-open_comment s =
      let two : 2 ≤ m = omega (arith, s.0.within, front_length) in
      let first = comment_end-first bytes 2 (omega arith) in
      let end = comment_end bytes 2 in
      ⊎_elim
      (λ closed.
      let later : m < end + 2 = ⊎_elim (λ l. l) (λ early. absurd (s.1 end first.low (closes_to end early (first.here closed)))) (cases_lt m (end + 2)) in
      record {
        lexeme_found = lexeme form.BlockComment (end + 2);
        is_found = at_comment s.0 ∙ ap Some (cond-true (nat_lt end (length bytes)) _ _ (lt-ltb _ _ closed));
        as_long = omega arith;
        same = λ e. absurd (omega (arith, e));
      })
      (λ open_to_end. found_longer _ form.OpenComment m (length bytes)
      (at_comment s.0 ∙ ap Some (cond-false (nat_lt end (length bytes)) _ _ (le-ltb end (length bytes) open_to_end))) within)
      (cases_lt end (length bytes))

  -- what a `#` begins: the blanks end at point k, where a word begins
  blanks_end-hash : (k : ℕ) → IsHashTo (take m bytes) k → k < m → is_letter (slice_index bytes k) ≡ true → blanks_end bytes 1 ≡ k
  blanks_end-hash k hash below letter =
      let unblank : is_blank (slice_index bytes k) ≡ false = letter_unblank (slice_index bytes k) letter in
      IsFirst-is (blanks_end-first bytes 1 (omega (arith, hash.behind))) k hash.behind (omega arith)
      (λ i low high. not_from_true _ (ap is_blank (sym (front_at i (omega arith))) ∙ hash.blank i low high))
      (not_from_false _ unblank)

  at_hash : (k : ℕ) → IsHashTo (take m bytes) k → k < m → is_letter (slice_index bytes k) ≡ true → lexeme_at bytes ≡ Some (named_directive bytes k)
  unfolding directive_at
  at_hash k hash below letter =
      let first : slice_index bytes 0 ≡ 35 = sym (front_at 0 (omega arith)) ∙ hash.hash in
      lexeme_at-of_class bytes Hash (ap class_of first) ∙ ap (λ i. cond (is_letter (slice_index bytes i)) (Some (named_directive bytes i)) None) (blanks_end-hash k hash below letter) ∙ cond-true (is_letter (slice_index bytes k)) _ _ letter

  -- the bytes of a word behind the hash
  name_at : (k : ℕ) → k ≤ m → (i : ℕ) → k ≤ i → i < m → slice_index (drop k (take m bytes)) (i - k) ≡ slice_index bytes i
  name_at k low i from below =
      let point : k + (i - k) ≡ i = omega arith in
      get_or-drop k (take m bytes) (i - k) 0 ∙ ap (λ j. slice_index (take m bytes) j) point ∙ front_at i below

  name_length : (k : ℕ) → length (drop k (take m bytes)) ≡ m - k
  name_length k = length-drop k (take m bytes) ∙ ap (λ n. n - k) front_length

  word_letter : (k : ℕ) → k ≤ m → IsWord (drop k (take m bytes)) → is_letter (slice_index bytes k) ≡ true
  word_letter k low word =
      let here : slice_index (drop k (take m bytes)) (k - k) ≡ slice_index bytes k = name_at k low k (omega arith) (omega (arith, word.word_bytes.0, name_length k)) in
      let zero_is : k - k ≡ 0 = omega arith in
      ap is_letter (sym here ∙ ap (λ i. slice_index (drop k (take m bytes)) i) zero_is) ∙ word.begins

  word_reaches : (k : ℕ) → k ≤ m → IsWord (drop k (take m bytes)) → m ≤ run_end bytes k
  word_reaches k low word = IsFirst-passes (run_end-first bytes k (omega arith)) m within
      (λ i from below. not_from_true _ (ap is_word_byte (sym (name_at k low i from below)) ∙ word.word_bytes.1 (i - k) (omega (arith, name_length k))))

  word_some : (k : ℕ) → k ≤ m → IsWord (drop k (take m bytes)) → k < m
  word_some k low word = omega (arith, word.word_bytes.0, name_length k)

  -- the name that is read is the word, where it ends with the slice
  name_is : (k : ℕ) → run_end bytes k ≡ m → slice_range bytes k (run_end bytes k) ≡ drop k (take m bytes)
  name_is k e = ap (λ j. slice_range bytes k j) e ∙ between_is bytes k m

  finds_directive : (k : ℕ) (form : Form) → k ≤ m → lexeme_at bytes ≡ Some (named_directive bytes k) → m ≤ run_end bytes k → (run_end bytes k ≡ m → named_directive bytes k ≡ lexeme form m) → FindsAtLeast (lexeme_at bytes) m (lexeme form m)
  finds_directive k form low is_found reaches at_end =
      let longer = named_directive-as_long bytes k (omega arith) in
      ⊎_elim
      (λ below. record { lexeme_found = named_directive bytes k; is_found = is_found; as_long = omega (arith, longer, reaches); same = λ e. absurd (omega (arith, e, longer, below)) })
      (λ over. let e : run_end bytes k ≡ m = omega (arith, over, reaches) in found_longer _ form m m (is_found ∙ ap Some (at_end e)) (omega arith))
      (cases_lt m (run_end bytes k))

  longest-pragma_start : IsForm form.PragmaStart (take m bytes) → FindsAtLeast (lexeme_at bytes) m (lexeme form.PragmaStart m)
  unfolding named_directive
  longest-pragma_start s =
      let k = s.0 in
      let low : k ≤ m = omega (arith, s.1.within, front_length) in
      let word : IsWord (drop k (take m bytes)) = subst IsWord (sym s.2) pragma_word in
      finds_directive k form.PragmaStart low (at_hash k s.1 (word_some k low word) (word_letter k low word)) (word_reaches k low word)
      (λ e. cond-true (bytes_eq (slice_range bytes k (run_end bytes k)) (codes "pragma")) _ _ (ap (λ n. bytes_eq n (codes "pragma")) (name_is k e ∙ s.2)) ∙ ap (lexeme form.PragmaStart) e)

  longest-other_directive : IsForm form.OtherDirective (take m bytes) → FindsAtLeast (lexeme_at bytes) m (lexeme form.OtherDirective m)
  unfolding named_directive
  longest-other_directive s =
      let k = s.0 in
      let low : k ≤ m = omega (arith, s.1.within, front_length) in
      let word = s.2 in
      finds_directive k form.OtherDirective low (at_hash k s.1 (word_some k low word) (word_letter k low word)) (word_reaches k low word)
      (λ e.
      let no_pragma = false_from_ne_true (bytes_eq (slice_range bytes k (run_end bytes k)) (codes "pragma")) (λ t. s.3 (sym (name_is k e) ∙ (bytes_eq-Decides _ _).0 t)) in
      let no_include = false_from_ne_true (bytes_eq (slice_range bytes k (run_end bytes k)) (codes "include")) (λ t. s.4 (sym (name_is k e) ∙ (bytes_eq-Decides _ _).0 t)) in
      cond-false _ _ _ no_pragma ∙ cond-false _ _ _ no_include ∙ ap (lexeme form.OtherDirective) e)

  -- the word `include` behind the hash
  include_at : (k : ℕ) → k ≤ m → take 7 (drop k (take m bytes)) ≡ codes "include" → (i : ℕ) → i < 7 → slice_index bytes (k + i) ≡ slice_index (codes "include") i
  include_at k low named i below =
      let seven : 7 ≤ length (drop k (take m bytes)) = include_fits (drop k (take m bytes)) named in
      let there : slice_index (drop k (take m bytes)) i ≡ slice_index bytes (k + i) = get_or-drop k (take m bytes) i 0 ∙ front_at (k + i) (omega (arith, name_length k)) in
      sym there ∙ sym (get_or-take 7 (drop k (take m bytes)) i 0 below) ∙ ap (λ l. slice_index l i) named

  longest-include_line : IsForm form.IncludeLine (take m bytes) → FindsAtLeast (lexeme_at bytes) m (lexeme form.IncludeLine m)
  unfolding named_directive
  longest-include_line s =
      let k = s.0 in
      let low : k ≤ m = omega (arith, s.1.within, front_length) in
      let seven : 7 ≤ length (drop k (take m bytes)) = include_fits (drop k (take m bytes)) s.2 in
      let fits : k + 7 ≤ m = omega (arith, name_length k) in
      let bytes_are = include_at k low s.2 in
      let first_is : slice_index bytes (k + 0) ≡ slice_index (codes "include") 0 = bytes_are 0 (omega arith) in
      let letter : is_letter (slice_index bytes k) ≡ true = ap is_letter (ap (λ i. slice_index bytes i) (sym (add-zero k)) ∙ first_is) in
      let is_found = at_hash k s.1 (omega arith) letter in
      let passes_word : (i : ℕ) → k ≤ i → i < k + 7 → ends_run bytes i ≡ false = λ i from below. not_from_true _
      (let point : k + (i - k) ≡ i = omega arith in
      ap is_word_byte (ap (λ j. slice_index bytes j) (sym point) ∙ bytes_are (i - k) (omega arith)) ∙ include_word.word_bytes.1 (i - k) (omega arith))
      in
      let first = run_end-first bytes k (omega arith) in
      let reaches : k + 7 ≤ run_end bytes k = IsFirst-passes first (k + 7) (omega arith) passes_word in
      let longer = named_directive-as_long bytes k (omega arith) in
      ⊎_elim
      (λ over.
      let no_more : m ≤ k + 7 = ⊎_elim
      (λ inside. absurd (false≢true (sym (first.before (k + 7) (omega arith) over) ∙ not_from_false _ (ap is_word_byte (sym (front_at (k + 7) inside)) ∙ s.3 (omega (arith, front_length))))))
      (λ l. l) (cases_lt (k + 7) m)
      in
      record { lexeme_found = named_directive bytes k; is_found = is_found; as_long = omega (arith, longer); same = λ e. absurd (omega (arith, e, longer)) })
      (λ exact.
      let end_is : run_end bytes k ≡ k + 7 = omega (arith, exact, reaches) in
      let name : slice_range bytes k (run_end bytes k) ≡ codes "include" =
      ap (λ j. slice_range bytes k j) end_is ∙ between_is bytes k (k + 7) ∙ drop-take k 7 bytes ∙ sym (ap (λ l. take 7 l) (sym (between_is bytes k m)) ∙ take-take 7 (m - k) (drop k bytes) (omega arith)) ∙ s.2
      in
      let is_include : named_directive bytes k ≡ lexeme form.IncludeLine (line_end bytes (run_end bytes k)) =
      ap (λ n. cond (bytes_eq n (codes "pragma")) (lexeme form.PragmaStart (run_end bytes k)) (cond (bytes_eq n (codes "include")) (lexeme form.IncludeLine (line_end bytes (run_end bytes k))) (lexeme form.OtherDirective (run_end bytes k)))) name
      in
      let passes : m ≤ line_end bytes (run_end bytes k) = IsFirst-passes (line_end-first bytes (run_end bytes k) (omega arith)) m within (λ i from below. stays_here s.4 i below) in
      found_longer _ form.IncludeLine m _ (is_found ∙ ap Some is_include) passes)
      (cases_lt (k + 7) (run_end bytes k))

  -- a longer lexeme in place of a slash
  longer_than_slash : (found : Option Lexeme) (p : Lexeme) → found ≡ Some p → 2 ≤ p.length → FindsAtLeast found 1 (lexeme (form.Mark mark.Slash) 1)
  longer_than_slash found p e two = record { lexeme_found = p; is_found = e; as_long = omega arith; same = λ one. absurd (omega (arith, one)) }

  comment_two : 2 ≤ length bytes → 2 ≤ (comment_at bytes).length
  unfolding comment_at
  comment_two two =
      let P : Lexeme → Type 0 = λ p. 2 ≤ p.length in
      cond_both (nat_lt (comment_end bytes 2) (length bytes)) _ _ P (λ _. omega arith) (λ _. two)

  longest-slash : m ≡ 1 → take m bytes ≡ mark_spelling mark.Slash → FindsAtLeast (lexeme_at bytes) 1 (lexeme (form.Mark mark.Slash) 1)
  unfolding slash_at
  longest-slash one spelled =
      let first : slice_index bytes 0 ≡ 47 = known_at _ spelled 0 (omega arith) in
      let P : Option Lexeme → Type 0 = λ found. FindsAtLeast found 1 (lexeme (form.Mark mark.Slash) 1) in
      finds_along (at_slash first)
      (cond_both (slice_index bytes 1 == 47) _ _ P
      (λ e. let two : 2 ≤ length bytes = has_second bytes 47 (eqb-true _ _ e) (omega arith) in longer_than_slash _ _ refl (line_end-first bytes 2 two).low)
      (λ no_line. cond_both (slice_index bytes 1 == 42) _ _ P
      (λ e. let two : 2 ≤ length bytes = has_second bytes 42 (eqb-true _ _ e) (omega arith) in longer_than_slash _ _ refl (comment_two two))
      (λ no_comment. mark_at-finds bytes 1 mark.Slash (omega arith) (ap (λ n. take n bytes) (sym one) ∙ spelled))))

  longest-divide_set : m ≡ 2 → take m bytes ≡ mark_spelling mark.DivideSet → FindsAtLeast (lexeme_at bytes) m (lexeme (form.Mark mark.DivideSet) m)
  unfolding slash_at
  longest-divide_set two spelled =
      let first : slice_index bytes 0 ≡ 47 = known_at _ spelled 0 (omega arith) in
      let second : slice_index bytes 1 ≡ 61 = known_at _ spelled 1 (omega arith) in
      finds_along (at_slash first ∙ ap (λ b. cond (b == 47) (Some (lexeme form.LineComment (line_end bytes 2))) (cond (b == 42) (Some (comment_at bytes)) (mark_at bytes))) second)
      (mark_at-finds bytes m mark.DivideSet within spelled)

  longest-mark : (k : Punct) → take m bytes ≡ mark_spelling k → FindsAtLeast (lexeme_at bytes) m (lexeme (form.Mark k) m)
  longest-mark k spelled =
      let some : 0 < length (mark_spelling k) = omega (arith, (length-spelling k).0) in
      let first : slice_index bytes 0 ≡ slice_index (mark_spelling k) 0 = known_at _ spelled 0 some in
      let P : Punct → Type 0 = λ j. take m bytes ≡ mark_spelling j → FindsAtLeast (lexeme_at bytes) m (lexeme (form.Mark j) m) in
      ⊎_elim
      (λ other. finds_along (lexeme_at-of_class bytes Other (ap class_of first ∙ other)) (mark_at-finds bytes m k within spelled))
      (λ slashes. ⊎_elim
      (λ is_slash. subst P (sym is_slash) (λ e. let one : m ≡ 1 = known_length _ e in subst (λ n. FindsAtLeast (lexeme_at bytes) n (lexeme (form.Mark mark.Slash) n)) (sym one) (longest-slash one e)) spelled)
      (λ is_set. subst P (sym is_set) (λ e. longest-divide_set (known_length _ e) e) spelled)
      slashes)
      (mark_class k)

  -- whatever form the first m bytes have, it is found, or a longer one
  pub longest : (f : Form) → IsForm f (take m bytes) → FindsAtLeast (lexeme_at bytes) m (lexeme f m)
  longest form.Space s = longest-space s
  longest form.JoinedLine s = longest-joined s
  longest form.LineComment s = longest-line_comment s
  longest form.BlockComment s = longest-block_comment s
  longest form.OpenComment s = longest-open_comment s
  longest form.IncludeLine s = longest-include_line s
  longest form.PragmaStart s = longest-pragma_start s
  longest form.OtherDirective s = longest-other_directive s
  longest form.Word s = longest-word s
  longest form.Number s = longest-number s
  longest (form.Mark k) s = longest-mark k s
