-- The marks by their spellings, and the longest mark at the front of a slice.
use Rattle.std.proofs.Common.{◌≡◌, ℕ, ◌<◌, ◌≤◌, ◌⊎◌, Bool, true, false, ◌&&◌, ◌||◌, cond, List, [], ◌∷◌, length, take, Option, Some, None, bytes_eq, refl, sym, ap, ap₂, ◌∙◌, subst, inl, inr, ⊎_elim, arith, length-take-le, ltb-false, le-ltb, lt-ltb}
use Rattle.std.proofs.lemmas.Bool.{cond-true, cond-false, cases_lt, false≢true, and_parts}
use Rattle.std.proofs.lemmas.List.{get_or_past}
use Rattle.std.proofs.lemmas.Bool.Decides.{nat_tests}
use Rattle.std.proofs.lemmas.Slice.Eq.{bytes_eq-Decides}
use Rattle.std.specs.Prelude.{slice_index, nat_lt, ◌==◌}
use Rattle.std.specs.List.{list_all}
use Rattle.os_lexer.specs.Marks.{mark_spelling}
use Rattle.os_lexer.specs.Reading.{all_marks, mark_from, mark_of, mark_front, mark_or, mark_lexeme, mark_at, lexeme}
use Rattle.os_lexer.specs.declared.form.Form.TheVariants as form
use Rattle.os_lexer.specs.declared.form.Lexeme.{Lexeme}
use Rattle.os_lexer.specs.declared.token.Punct.{Punct}
use Rattle.os_lexer.specs.declared.token.Punct.TheVariants as mark

-- each mark is found by its spelling
pub mark_of-spelling : (m : Punct) → mark_of (mark_spelling m) ≡ Some m
unfolding mark_of
mark_of-spelling mark.ShiftLeftSet = refl
mark_of-spelling mark.ShiftRightSet = refl
mark_of-spelling mark.AddSet = refl
mark_of-spelling mark.SubtractSet = refl
mark_of-spelling mark.MultiplySet = refl
mark_of-spelling mark.DivideSet = refl
mark_of-spelling mark.RemainderSet = refl
mark_of-spelling mark.BitAndSet = refl
mark_of-spelling mark.BitXorSet = refl
mark_of-spelling mark.BitOrSet = refl
mark_of-spelling mark.Up = refl
mark_of-spelling mark.Down = refl
mark_of-spelling mark.ShiftLeft = refl
mark_of-spelling mark.ShiftRight = refl
mark_of-spelling mark.LessEqual = refl
mark_of-spelling mark.GreaterEqual = refl
mark_of-spelling mark.Equal = refl
mark_of-spelling mark.Unequal = refl
mark_of-spelling mark.And = refl
mark_of-spelling mark.Or = refl
mark_of-spelling mark.Plus = refl
mark_of-spelling mark.Minus = refl
mark_of-spelling mark.Star = refl
mark_of-spelling mark.Slash = refl
mark_of-spelling mark.Percent = refl
mark_of-spelling mark.Less = refl
mark_of-spelling mark.Greater = refl
mark_of-spelling mark.Set = refl
mark_of-spelling mark.BitAnd = refl
mark_of-spelling mark.BitXor = refl
mark_of-spelling mark.BitOr = refl
mark_of-spelling mark.Not = refl
mark_of-spelling mark.Invert = refl
mark_of-spelling mark.Question = refl
mark_of-spelling mark.Colon = refl
mark_of-spelling mark.Semicolon = refl
mark_of-spelling mark.Comma = refl
mark_of-spelling mark.OpenParen = refl
mark_of-spelling mark.CloseParen = refl
mark_of-spelling mark.OpenBracket = refl
mark_of-spelling mark.CloseBracket = refl
mark_of-spelling mark.OpenBrace = refl
mark_of-spelling mark.CloseBrace = refl

-- a mark has one to three bytes
pub length-spelling : (m : Punct) → (1 ≤ length (mark_spelling m)) × (length (mark_spelling m) ≤ 3)
length-spelling mark.ShiftLeftSet = (omega arith, omega arith)
length-spelling mark.ShiftRightSet = (omega arith, omega arith)
length-spelling mark.AddSet = (omega arith, omega arith)
length-spelling mark.SubtractSet = (omega arith, omega arith)
length-spelling mark.MultiplySet = (omega arith, omega arith)
length-spelling mark.DivideSet = (omega arith, omega arith)
length-spelling mark.RemainderSet = (omega arith, omega arith)
length-spelling mark.BitAndSet = (omega arith, omega arith)
length-spelling mark.BitXorSet = (omega arith, omega arith)
length-spelling mark.BitOrSet = (omega arith, omega arith)
length-spelling mark.Up = (omega arith, omega arith)
length-spelling mark.Down = (omega arith, omega arith)
length-spelling mark.ShiftLeft = (omega arith, omega arith)
length-spelling mark.ShiftRight = (omega arith, omega arith)
length-spelling mark.LessEqual = (omega arith, omega arith)
length-spelling mark.GreaterEqual = (omega arith, omega arith)
length-spelling mark.Equal = (omega arith, omega arith)
length-spelling mark.Unequal = (omega arith, omega arith)
length-spelling mark.And = (omega arith, omega arith)
length-spelling mark.Or = (omega arith, omega arith)
length-spelling mark.Plus = (omega arith, omega arith)
length-spelling mark.Minus = (omega arith, omega arith)
length-spelling mark.Star = (omega arith, omega arith)
length-spelling mark.Slash = (omega arith, omega arith)
length-spelling mark.Percent = (omega arith, omega arith)
length-spelling mark.Less = (omega arith, omega arith)
length-spelling mark.Greater = (omega arith, omega arith)
length-spelling mark.Set = (omega arith, omega arith)
length-spelling mark.BitAnd = (omega arith, omega arith)
length-spelling mark.BitXor = (omega arith, omega arith)
length-spelling mark.BitOr = (omega arith, omega arith)
length-spelling mark.Not = (omega arith, omega arith)
length-spelling mark.Invert = (omega arith, omega arith)
length-spelling mark.Question = (omega arith, omega arith)
length-spelling mark.Colon = (omega arith, omega arith)
length-spelling mark.Semicolon = (omega arith, omega arith)
length-spelling mark.Comma = (omega arith, omega arith)
length-spelling mark.OpenParen = (omega arith, omega arith)
length-spelling mark.CloseParen = (omega arith, omega arith)
length-spelling mark.OpenBracket = (omega arith, omega arith)
length-spelling mark.CloseBracket = (omega arith, omega arith)
length-spelling mark.OpenBrace = (omega arith, omega arith)
length-spelling mark.CloseBrace = (omega arith, omega arith)

choice_is : {A : Type 0} (b : Bool) (m : A) (rest : Option A) (x : A) (P : A → Type 0) → (b ≡ true → P m) → (rest ≡ Some x → P x) → cond b (Some m) rest ≡ Some x → P x
choice_is true m rest x P here later e = let same : m ≡ x = cc in subst P same (here refl)
choice_is false m rest x P here later e = later e

mark_from-is : (ms : List Punct) (s : List ℕ) (m : Punct) → mark_from ms s ≡ Some m → s ≡ mark_spelling m
mark_from-is [] s m e = cc
mark_from-is (n ∷ ms) s m e =
    choice_is (bytes_eq s (mark_spelling n)) n (mark_from ms s) m (λ k. s ≡ mark_spelling k) (λ equal. (bytes_eq-Decides s (mark_spelling n)).0 equal) (mark_from-is ms s m) e

-- what is found has this spelling
pub mark_of-is : (s : List ℕ) (m : Punct) → mark_of s ≡ Some m → s ≡ mark_spelling m
unfolding mark_of
mark_of-is s m e = mark_from-is all_marks s m e

-- at the front of a slice, at one length
pub record IsMarkLexeme (bytes : List ℕ) (n : ℕ) (p : Lexeme) : Type 0 where
  pub mark : Punct
  pub is_lexeme : p ≡ lexeme (form.Mark mark) n
  pub within : n ≤ length bytes
  pub spelled : take n bytes ≡ mark_spelling mark

front_cases : (bytes : List ℕ) (n : ℕ) (m : Punct) (b : Bool) → nat_lt (length bytes) n ≡ b → cond b None (mark_of (take n bytes)) ≡ Some m → (n ≤ length bytes) × (take n bytes ≡ mark_spelling m)
front_cases bytes n m true short e = cc
front_cases bytes n m false long e = (ltb-false _ _ long, mark_of-is (take n bytes) m e)

pub mark_front-is : (bytes : List ℕ) (n : ℕ) (m : Punct) → mark_front bytes n ≡ Some m → (n ≤ length bytes) × (take n bytes ≡ mark_spelling m)
unfolding mark_front
mark_front-is bytes n m e = front_cases bytes n m (nat_lt (length bytes) n) refl e

-- where there are `n` bytes, and where there are fewer
pub mark_front-long : (bytes : List ℕ) (n : ℕ) → n ≤ length bytes → mark_front bytes n ≡ mark_of (take n bytes)
unfolding mark_front
mark_front-long bytes n within = cond-false (nat_lt (length bytes) n) _ _ (le-ltb (length bytes) n within)

pub mark_front-short : (bytes : List ℕ) (n : ℕ) → length bytes < n → mark_front bytes n ≡ None
unfolding mark_front
mark_front-short bytes n short = cond-true (nat_lt (length bytes) n) _ _ (lt-ltb (length bytes) n short)

mark_lexeme-cases : (bytes : List ℕ) (n : ℕ) (other : Option Lexeme) (p : Lexeme) (found : Option Punct) → mark_front bytes n ≡ found → mark_lexeme found n other ≡ Some p → IsMarkLexeme bytes n p ⊎ (other ≡ Some p)
mark_lexeme-cases bytes n other p None was e = inr e
mark_lexeme-cases bytes n other p (Some m) was e =
    let there = mark_front-is bytes n m was in inl (record { mark = m; is_lexeme = cc; within = there.0; spelled = there.1 })

pub mark_or-is : (bytes : List ℕ) (n : ℕ) (other : Option Lexeme) (p : Lexeme) → mark_or bytes n other ≡ Some p → IsMarkLexeme bytes n p ⊎ (other ≡ Some p)
mark_or-is bytes n other p e = mark_lexeme-cases bytes n other p (mark_front bytes n) refl e

-- a mark of this length is found
pub mark_or-here : (bytes : List ℕ) (n : ℕ) (other : Option Lexeme) (m : Punct) → n ≤ length bytes → take n bytes ≡ mark_spelling m → mark_or bytes n other ≡ Some (lexeme (form.Mark m) n)
mark_or-here bytes n other m within spelled =
    ap (λ found. mark_lexeme found n other) (mark_front-long bytes n within ∙ ap mark_of spelled ∙ mark_of-spelling m)

mark_lexeme-goes : (n : ℕ) (other : Option Lexeme) (found : Option Punct) → ((m : Punct) × (mark_lexeme found n other ≡ Some (lexeme (form.Mark m) n))) ⊎ (mark_lexeme found n other ≡ other)
mark_lexeme-goes n other None = inr refl
mark_lexeme-goes n other (Some m) = inl (m, refl)

-- a mark of this length or the other answer
pub mark_or-goes : (bytes : List ℕ) (n : ℕ) (other : Option Lexeme) → ((m : Punct) × (mark_or bytes n other ≡ Some (lexeme (form.Mark m) n))) ⊎ (mark_or bytes n other ≡ other)
mark_or-goes bytes n other = mark_lexeme-goes n other (mark_front bytes n)

-- A mark at the front is found, or a longer one.
pub record FindsAtLeast (found : Option Lexeme) (n : ℕ) (p : Lexeme) : Type 0 where
  pub lexeme_found : Lexeme
  pub is_found : found ≡ Some lexeme_found
  pub as_long : n ≤ lexeme_found.length
  pub same : n ≡ lexeme_found.length → lexeme_found ≡ p

finds_longer : (bytes : List ℕ) (n k : ℕ) (other : Option Lexeme) (p : Lexeme) → n < k → FindsAtLeast other n p → FindsAtLeast (mark_or bytes k other) n p
finds_longer bytes n k other p below finds =
    ⊎_elim
    (λ longer. record { lexeme_found = lexeme (form.Mark longer.0) k; is_found = longer.1; as_long = omega arith; same = λ e. absurd (omega (arith, e)) })
    (λ goes. record { lexeme_found = finds.lexeme_found; is_found = goes ∙ finds.is_found; as_long = finds.as_long; same = finds.same })
    (mark_or-goes bytes k other)

finds_here : (bytes : List ℕ) (n : ℕ) (other : Option Lexeme) (m : Punct) → n ≤ length bytes → take n bytes ≡ mark_spelling m → FindsAtLeast (mark_or bytes n other) n (lexeme (form.Mark m) n)
finds_here bytes n other m within spelled = record {
  lexeme_found = lexeme (form.Mark m) n;
  is_found = mark_or-here bytes n other m within spelled;
  as_long = omega arith;
  same = λ e. refl;
}

pub mark_at-finds : (bytes : List ℕ) (n : ℕ) (m : Punct) → n ≤ length bytes → take n bytes ≡ mark_spelling m → FindsAtLeast (mark_at bytes) n (lexeme (form.Mark m) n)
unfolding mark_at
mark_at-finds bytes n m within spelled =
    let n_is : length (mark_spelling m) ≡ n = sym (ap length spelled) ∙ length-take-le n bytes within in
    let low : 1 ≤ n = omega (arith, (length-spelling m).0) in
    let high : n ≤ 3 = omega (arith, (length-spelling m).1) in
    let F : ℕ → Type 0 = λ k. (k ≤ length bytes → take k bytes ≡ mark_spelling m → FindsAtLeast (mark_at bytes) k (lexeme (form.Mark m) k)) in
    let one : F 1 = λ w s. finds_longer bytes 1 3 _ _ (omega arith) (finds_longer bytes 1 2 _ _ (omega arith) (finds_here bytes 1 None m w s)) in
    let two : F 2 = λ w s. finds_longer bytes 2 3 _ _ (omega arith) (finds_here bytes 2 _ m w s) in
    let three : F 3 = λ w s. finds_here bytes 3 _ m w s in
    ⊎_elim
    (λ below. ⊎_elim (λ lower. subst F (omega (arith, lower, low)) one within spelled) (λ upper. subst F (omega (arith, upper, below)) two within spelled) (cases_lt n 2))
    (λ above. subst F (omega (arith, above, high)) three within spelled)
    (cases_lt n 3)

-- what is found is a mark at the front
pub mark_at-is : (bytes : List ℕ) (p : Lexeme) → mark_at bytes ≡ Some p → (n : ℕ) × IsMarkLexeme bytes n p
unfolding mark_at
mark_at-is bytes p e =
    ⊎_elim (λ found. (3, found)) (λ goes. ⊎_elim (λ found. (2, found)) (λ again. ⊎_elim (λ found. (1, found)) (λ none. cc) (mark_or-is bytes 1 _ p again)) (mark_or-is bytes 2 _ p goes)) (mark_or-is bytes 3 _ p e)

-- ---- which bytes a mark may have
pub tested : (t : List ℕ → Bool) (ms : List Punct) (s : List ℕ) (m : Punct) → list_all (λ k. t (mark_spelling k)) ms ≡ true → mark_from ms s ≡ Some m → t s ≡ true
tested t [] s m all e = cc
tested t (n ∷ ms) s m all e =
    let parts = and_parts (t (mark_spelling n)) (list_all (λ k. t (mark_spelling k)) ms) all in
    choice_is (bytes_eq s (mark_spelling n)) n (mark_from ms s) m (λ k. t s ≡ true) (λ equal. ap t ((bytes_eq-Decides s (mark_spelling n)).0 equal) ∙ parts.0) (tested t ms s m parts.1) e

none_from : {A : Type 0} {found : Option A} → ((x : A) → found ≡ Some x → ⊥) → found ≡ None
none_from {found = None} never = refl
none_from {found = Some x} never = absurd (never x refl)

-- a slice that fails a test of every spelling is no mark
no_mark : (t : List ℕ → Bool) → list_all (λ k. t (mark_spelling k)) all_marks ≡ true → (s : List ℕ) → t s ≡ false → mark_of s ≡ None
unfolding mark_of
no_mark t all s fails = none_from (λ m e. false≢true (sym fails ∙ tested t all_marks s m all e))

-- three bytes are a byte twice and `=`
triple_test : List ℕ → Bool
triple_test (a ∷ b ∷ c ∷ []) = b == a && c == 61
triple_test s = true

-- two bytes are a byte and `=`, or a byte twice
pair_test : List ℕ → Bool
pair_test (a ∷ b ∷ []) = b == 61 || b == a
pair_test s = true

triples_pass : list_all (λ k. triple_test (mark_spelling k)) all_marks ≡ true
unfolding triple_test
triples_pass = refl

pairs_pass : list_all (λ k. pair_test (mark_spelling k)) all_marks ≡ true
unfolding pair_test
pairs_pass = refl

pub no_triple : (a b c : ℕ) → (b == a && c == 61) ≡ false → mark_of (a ∷ b ∷ c ∷ []) ≡ None
unfolding triple_test
no_triple a b c e = no_mark triple_test triples_pass (a ∷ b ∷ c ∷ []) e

pub no_pair : (a b : ℕ) → (b == 61 || b == a) ≡ false → mark_of (a ∷ b ∷ []) ≡ None
unfolding pair_test
no_pair a b e = no_mark pair_test pairs_pass (a ∷ b ∷ []) e

no_zeros : mark_of (0 ∷ 0 ∷ []) ≡ None
unfolding mark_of
no_zeros = refl

-- the first three bytes of a slice, the first two and the first one, where it has as many
front_three : (bytes : List ℕ) → 3 ≤ length bytes → take 3 bytes ≡ slice_index bytes 0 ∷ slice_index bytes 1 ∷ slice_index bytes 2 ∷ []
front_three [] long = absurd (omega arith)
front_three (x ∷ []) long = absurd (omega arith)
front_three (x ∷ y ∷ []) long = absurd (omega arith)
front_three (x ∷ y ∷ z ∷ zs) long = refl

front_two : (bytes : List ℕ) → 2 ≤ length bytes → take 2 bytes ≡ slice_index bytes 0 ∷ slice_index bytes 1 ∷ []
front_two [] long = absurd (omega arith)
front_two (x ∷ []) long = absurd (omega arith)
front_two (x ∷ y ∷ zs) long = refl

front_one : (bytes : List ℕ) → 1 ≤ length bytes → take 1 bytes ≡ slice_index bytes 0 ∷ []
front_one [] long = absurd (omega arith)
front_one (x ∷ zs) long = refl

module _ (bytes : List ℕ) where
  pub mark_front-triple : slice_index bytes 1 ≡ slice_index bytes 0 → slice_index bytes 2 ≡ 61 → mark_front bytes 3 ≡ mark_of (slice_index bytes 0 ∷ slice_index bytes 0 ∷ 61 ∷ [])
  mark_front-triple twice equals =
      let long : 3 ≤ length bytes = ⊎_elim (λ short. absurd (let zero_is : slice_index bytes 2 ≡ 0 = get_or_past bytes 2 0 (omega (arith, short)) in omega arith)) (λ l. l) (cases_lt (length bytes) 3) in
      mark_front-long bytes 3 long ∙ ap mark_of (front_three bytes long ∙ ap₂ (λ b c. slice_index bytes 0 ∷ b ∷ c ∷ []) twice equals)

  pub mark_front-no_triple : (slice_index bytes 1 == slice_index bytes 0 && slice_index bytes 2 == 61) ≡ false → mark_front bytes 3 ≡ None
  mark_front-no_triple fails =
      ⊎_elim (mark_front-short bytes 3)
      (λ long. mark_front-long bytes 3 long ∙ ap mark_of (front_three bytes long) ∙ no_triple _ _ _ fails)
      (cases_lt (length bytes) 3)

  pub mark_front-set : slice_index bytes 1 ≡ 61 → mark_front bytes 2 ≡ mark_of (slice_index bytes 0 ∷ 61 ∷ [])
  mark_front-set equals =
      let long : 2 ≤ length bytes = ⊎_elim (λ short. absurd (let zero_is : slice_index bytes 1 ≡ 0 = get_or_past bytes 1 0 (omega (arith, short)) in omega arith)) (λ l. l) (cases_lt (length bytes) 2) in
      mark_front-long bytes 2 long ∙ ap mark_of (front_two bytes long ∙ ap (λ b. slice_index bytes 0 ∷ b ∷ []) equals)

  pub mark_front-doubled : slice_index bytes 1 ≡ slice_index bytes 0 → mark_front bytes 2 ≡ mark_of (slice_index bytes 0 ∷ slice_index bytes 0 ∷ [])
  mark_front-doubled twice =
      ⊎_elim
      (λ short.
      let zero_is : slice_index bytes 0 ≡ 0 = sym twice ∙ get_or_past bytes 1 0 (omega (arith, short)) in
      mark_front-short bytes 2 short ∙ sym no_zeros ∙ ap (λ b. mark_of (b ∷ b ∷ [])) (sym zero_is))
      (λ long. mark_front-long bytes 2 long ∙ ap mark_of (front_two bytes long ∙ ap (λ b. slice_index bytes 0 ∷ b ∷ []) twice))
      (cases_lt (length bytes) 2)

  pub mark_front-no_pair : (slice_index bytes 1 == 61 || slice_index bytes 1 == slice_index bytes 0) ≡ false → mark_front bytes 2 ≡ None
  mark_front-no_pair fails =
      ⊎_elim (mark_front-short bytes 2)
      (λ long. mark_front-long bytes 2 long ∙ ap mark_of (front_two bytes long) ∙ no_pair _ _ fails)
      (cases_lt (length bytes) 2)

  pub mark_front-single : 0 < length bytes → mark_front bytes 1 ≡ mark_of (slice_index bytes 0 ∷ [])
  mark_front-single long = mark_front-long bytes 1 long ∙ ap mark_of (front_one bytes long)

pub ruleset triples = (mark_front-triple, mark_front-no_triple, nat_tests)

pub ruleset pairs = (mark_front-set, mark_front-doubled, mark_front-no_pair, nat_tests)

pub ruleset singles = (mark_front-single)
