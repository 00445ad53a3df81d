-- The walk over the points of a text, and its cut told by the tokens alone, are the same.
use Rattle.std.proofs.Common.{◌≡◌, ℕ, suc, ◌+◌, ◌-◌, ◌<◌, ◌≤◌, ◌⊎◌, Bool, true, false, cond, List, [], ◌∷◌, ◌++◌, length, take, drop, Option, Some, None, unwrap_or, refl, sym, ap, ap₂, ◌∙◌, subst, inl, inr, ⊎_elim, arith, All, length-take-le, length-drop, add-zero, get_or-take, get_or-drop, lt-ltb, ltb-true, le-ltb, eqb-true}
use Rattle.std.proofs.lemmas.Bool.{cond-true, cond-false, cond_both, cases_lt, and_parts, false≢true}
use Rattle.std.proofs.lemmas.Bool.Decides.{nat_tests}
use Rattle.std.proofs.lemmas.List.Elements.{All-push, All-from_get_or}
use Rattle.std.proofs.lemmas.List.Folds.{list_all-append, list_any_none}
use Rattle.std.proofs.lemmas.List.Sums.{fold_push, sum_by-append}
use Rattle.std.specs.List.{list_all, list_any}
use Rattle.std.specs.Prelude.{count_by, nat_le, nat_lt, not, ◌&&◌, ◌||◌, ◌==◌, slice_index}
use Rattle.os_lexer.specs.Bytes.{is_line_feed, is_word_byte}
use Rattle.os_lexer.specs.Cover.{Point, text_start, token_of, effect_at, LexemeStep, skips, gives, Leads, here, on, tokens_at_end, IsTokenCover, IsFaultAt, IsFirstFault}
use Rattle.os_lexer.specs.Cover as walk
use Rattle.os_lexer.specs.Cut.{opens_pragma, is_in_pragma, is_first_on_line, mode_at, does, IsSkip, IsGive, IsFail, IsCutTo, start, gap, token, pragma_end, IsCut, StandsAt, formless, faulty, IsFaultPoint}
use Rattle.os_lexer.specs.Effects.{effect, directive_effect, space_effect, number_effect, word_kind, mode_after_token, mode_after_gap}
use Rattle.os_lexer.specs.Forms.{IsWordBytes, IsForm, IsLexeme}
use Rattle.os_lexer.specs.Keywords.{key_of}
use Rattle.os_lexer.specs.Laws.{CoverCuts, FaultPoints}
use Rattle.os_lexer.specs.Lines.{line_of}
use Rattle.os_lexer.specs.Marks.{mark_spelling}
use Rattle.os_lexer.specs.Names.{name_number}
use Rattle.os_lexer.specs.Numbers.{may_be_int, may_be_unsigned, number_value}
use Rattle.os_lexer.specs.Reading.{class_of, lexeme, lexeme_at, all_marks, mark_of}
use Rattle.os_lexer.specs.declared.bytes.Class.TheVariants.{White}
use Rattle.os_lexer.specs.declared.effect.Effect.{Effect}
use Rattle.os_lexer.specs.declared.effect.Effect.TheVariants.{Skip, Give, Fail}
use Rattle.os_lexer.specs.declared.fault.Fault.{Fault}
use Rattle.os_lexer.specs.declared.fault.Fault.TheVariants as fault
use Rattle.os_lexer.specs.declared.form.Form.{Form}
use Rattle.os_lexer.specs.declared.form.Form.TheVariants as form
use Rattle.os_lexer.specs.declared.mode.Mode.{Mode}
use Rattle.os_lexer.specs.declared.mode.Mode.TheVariants.{LineStart, InLine, InPragma}
use Rattle.os_lexer.specs.declared.token.Key.{Key}
use Rattle.os_lexer.specs.declared.token.Kind.{Kind}
use Rattle.os_lexer.specs.declared.token.Kind.TheVariants as kind
use Rattle.os_lexer.specs.declared.token.Punct.{Punct}
use Rattle.os_lexer.specs.declared.token.Token.{Token}
use Rattle.os_lexer.proofs.Advance.{line_of-later}
use Rattle.os_lexer.proofs.Cuts.{IsLexeme-some, lexeme_at-is, leads_on}
use Rattle.os_lexer.proofs.Longest.{lexeme_at-of_class}
use Rattle.os_lexer.proofs.MarkSpellings.{mark_of-spelling, tested}
use Rattle.os_lexer.proofs.NumberEffects.{and_false}

-- ---- line feeds
any_from : (b rest : Bool) (n : ℕ) → (rest ≡ true → 1 ≤ n) → (b || rest) ≡ true → 1 ≤ cond b 1 0 + n
any_from true rest n later e = omega arith
any_from false rest n later e = omega (arith, later e)

any_count : (s : List ℕ) → list_any is_line_feed s ≡ true → 1 ≤ count_by is_line_feed s
any_count [] e = absurd (cc e)
any_count (x ∷ xs) e =
    let split = sum_by-append (λ b. cond (is_line_feed b) 1 0) (x ∷ []) xs in
    let some = any_from (is_line_feed x) (list_any is_line_feed xs) (count_by is_line_feed xs) (any_count xs) e in
    omega (arith, split, some)

none_from : (b rest : Bool) (n : ℕ) → (rest ≡ false → n ≡ 0) → (b || rest) ≡ false → cond b 1 0 + n ≡ 0
none_from true rest n later e = absurd (cc e)
none_from false rest n later e = omega (arith, later e)

none_count : (s : List ℕ) → list_any is_line_feed s ≡ false → count_by is_line_feed s ≡ 0
none_count [] e = refl
none_count (x ∷ xs) e =
    let split = sum_by-append (λ b. cond (is_line_feed b) 1 0) (x ∷ []) xs in
    let none = none_from (is_line_feed x) (list_any is_line_feed xs) (count_by is_line_feed xs) (none_count xs) e in
    omega (arith, split, none)

any_head : (s : List ℕ) → 0 < length s → slice_index s 0 ≡ 10 → list_any is_line_feed s ≡ true
any_head [] some e = absurd (omega arith)
any_head (x ∷ xs) some e = ap (λ b. (b == 10) || list_any is_line_feed xs) e

word_unfeed : (b : ℕ) → is_word_byte b ≡ true → is_line_feed b ≡ false
word_unfeed b e = grind (arith, nat_tests)

run_unfeed : (s : List ℕ) → IsWordBytes s → list_any is_line_feed s ≡ false
run_unfeed s run =
    list_any_none is_line_feed s (All-from_get_or (λ b. is_line_feed b ≡ false) s 0 (λ i below. word_unfeed (slice_index s i) (run.1 i below)))

unnot : (b : Bool) → not b ≡ true → b ≡ false
unnot true e = absurd (cc e)
unnot false e = refl

mark_unfeed : (m : Punct) → list_any is_line_feed (mark_spelling m) ≡ false
unfolding mark_of
mark_unfeed m = unnot _ (tested (λ s. not (list_any is_line_feed s)) all_marks (mark_spelling m) m refl (mark_of-spelling m))

-- ---- tokens and lines
are_later : (ts : List Token) (l m : ℕ) → l ≤ m → All (λ (t : Token). t.line ≤ l) ts → All (λ (t : Token). t.line ≤ m) ts
are_later ts l m low all k d below = omega (arith, low, all k d below)

all_first : (ts : List Token) (l m : ℕ) → l < m → All (λ (t : Token). t.line ≤ l) ts → list_all (λ (t : Token). nat_lt t.line m) ts ≡ true
all_first [] l m below all = refl
all_first (t ∷ ts) l m below all =
    let first : t.line ≤ l = all 0 t (omega arith) in
    ap₂ (λ a b. a && b) (lt-ltb t.line m (omega (arith, below, first))) (all_first ts l m below (λ k d low. all (suc k) d (omega (arith, low))))

first_kept : (ts : List Token) (l m : ℕ) → l ≤ m → list_all (λ (t : Token). nat_lt t.line l) ts ≡ true → list_all (λ (t : Token). nat_lt t.line m) ts ≡ true
first_kept [] l m low e = refl
first_kept (t ∷ ts) l m low e =
    let both = and_parts (nat_lt t.line l) (list_all (λ (u : Token). nat_lt u.line l) ts) e in
    let below : t.line < l = ltb-true t.line l both.0 in
    ap₂ (λ a b. a && b) (lt-ltb t.line m (omega (arith, low, below))) (first_kept ts l m low both.1)

not_first : (ts : List Token) (t : Token) (l : ℕ) → l ≤ t.line → list_all (λ (u : Token). nat_lt u.line l) (ts ++ t ∷ []) ≡ false
not_first ts t l over =
    list_all-append (λ (u : Token). nat_lt u.line l) ts (t ∷ [])
    ∙ ap (λ b. list_all (λ (u : Token). nat_lt u.line l) ts && (b && true)) (le-ltb t.line l over)
    ∙ and_false (list_all (λ (u : Token). nat_lt u.line l) ts)

pragma_push : (ts : List Token) (t : Token) → is_in_pragma (ts ++ t ∷ []) ≡ opens_pragma t.kind (is_in_pragma ts)
pragma_push ts t = fold_push (λ inside token. opens_pragma token.kind inside) false ts t

-- ---- what a lexeme does to the mode
pragma_skip : (m : Mode) (b : Bool) → cond b (Give kind.PragmaEnd LineStart) (Skip InPragma) ≡ Skip m → m ≡ InPragma
pragma_skip m true e = absurd (cc e)
pragma_skip m false e = cc e

space_skip : (mode m : Mode) (s : List ℕ) → space_effect mode s ≡ Skip m → m ≡ mode_after_gap mode s
space_skip LineStart m s e = cc e
space_skip InLine m s e = cc e
space_skip InPragma m s e = pragma_skip m (list_any is_line_feed s) e

include_skip : (mode m : Mode) (s : List ℕ) → directive_effect mode (Skip LineStart) ≡ Skip m → m ≡ mode_after_gap mode s
include_skip LineStart m s e = cc e
include_skip InLine m s e = absurd (cc e)
include_skip InPragma m s e = absurd (cc e)

pragma_unskipped : (mode m : Mode) → directive_effect mode (Give kind.PragmaStart InPragma) ≡ Skip m → ⊥
pragma_unskipped LineStart m e = cc
pragma_unskipped InLine m e = cc
pragma_unskipped InPragma m e = cc

-- a number by its value, where it may be an `int` and where it may be an `unsigned`
abbrev given_number : Mode → ℕ → Bool → Bool → Effect
given_number mode v is_int is_unsigned =
    cond is_int (Give (kind.Number v) (mode_after_token mode)) (cond is_unsigned (Give (kind.Wide v) (mode_after_token mode)) (Fail fault.BigNumber))

number_kept : (mode m : Mode) (v : ℕ) (is_int is_unsigned : Bool) → given_number mode v is_int is_unsigned ≡ Skip m → ⊥
number_kept mode m v true is_unsigned e = cc
number_kept mode m v false true e = cc
number_kept mode m v false false e = cc

number_unskipped : (mode m : Mode) (s : List ℕ) (v : Option ℕ) → number_effect mode s v ≡ Skip m → ⊥
number_unskipped mode m s None e = cc
number_unskipped mode m s (Some v) e =
    number_kept mode m v (may_be_int s && nat_le v 2147483647) (may_be_unsigned s && nat_le v 4294967295) e

-- a gap's line feed ends the line, but that of a joined line in a line comment
skip_mode : (mode m : Mode) (name : ℕ) (f : Form) (s : List ℕ) → effect mode name f s ≡ Skip m →
    (m ≡ mode_after_gap mode s) ⊎ ((f ≡ form.LineComment) × (m ≡ mode))
skip_mode mode m name form.Space s e = inl (space_skip mode m s e)
skip_mode mode m name form.JoinedLine s e = inl (cc e)
skip_mode mode m name form.LineComment s e = inr (refl, cc e)
skip_mode mode m name form.BlockComment s e = inl (cc e)
skip_mode mode m name form.OpenComment s e = absurd (cc e)
skip_mode mode m name form.IncludeLine s e = inl (include_skip mode m s e)
skip_mode mode m name form.PragmaStart s e = absurd (pragma_unskipped mode m e)
skip_mode mode m name form.OtherDirective s e = absurd (cc e)
skip_mode mode m name form.Word s e = absurd (cc e)
skip_mode mode m name form.Number s e = absurd (number_unskipped mode m s (number_value s) e)
skip_mode mode m name (form.Mark k) s e = absurd (cc e)

-- a token begins a pragma's line, ends it by its line feed, or stands on one line
data Gives (mode : Mode) (s : List ℕ) : Kind → Mode → Type 0 where
  ends : list_any is_line_feed s ≡ true → Gives mode s kind.PragmaEnd LineStart
  begins : Gives mode s kind.PragmaStart InPragma
  plain : {k : Kind} → ((b : Bool) → opens_pragma k b ≡ b) → list_any is_line_feed s ≡ false → Gives mode s k (mode_after_token mode)

gives_along : {mode a b : Mode} {s : List ℕ} {k l : Kind} → Give k a ≡ Give l b → Gives mode s k a → Gives mode s l b
gives_along {mode = mode} {a = a} {b = b} {s = s} {k = k} {l = l} e g =
    let kinds : k ≡ l = cc e in
    let modes : a ≡ b = cc e in
    subst (λ x. Gives mode s l x) modes (subst (λ x. Gives mode s x a) kinds g)

space_ends : (m : Mode) (s : List ℕ) (k : Kind) (b : Bool) → list_any is_line_feed s ≡ b →
    cond b (Give kind.PragmaEnd LineStart) (Skip InPragma) ≡ Give k m → Gives InPragma s k m
space_ends m s k true any e = gives_along e (ends any)
space_ends m s k false any e = absurd (cc e)

space_gives : (mode m : Mode) (s : List ℕ) (k : Kind) → space_effect mode s ≡ Give k m → Gives mode s k m
space_gives LineStart m s k e = absurd (cc e)
space_gives InLine m s k e = absurd (cc e)
space_gives InPragma m s k e = space_ends m s k (list_any is_line_feed s) refl e

include_gives : (mode m : Mode) (s : List ℕ) (k : Kind) → directive_effect mode (Skip LineStart) ≡ Give k m → Gives mode s k m
include_gives LineStart m s k e = absurd (cc e)
include_gives InLine m s k e = absurd (cc e)
include_gives InPragma m s k e = absurd (cc e)

pragma_gives : (mode m : Mode) (s : List ℕ) (k : Kind) → directive_effect mode (Give kind.PragmaStart InPragma) ≡ Give k m → Gives mode s k m
pragma_gives LineStart m s k e = gives_along e begins
pragma_gives InLine m s k e = absurd (cc e)
pragma_gives InPragma m s k e = absurd (cc e)

word_opens : (key : Option Key) (name : ℕ) (b : Bool) → opens_pragma (word_kind key name) b ≡ b
word_opens None name b = refl
word_opens (Some key) name b = refl

number_stays : (mode m : Mode) (s : List ℕ) (k : Kind) (v : ℕ) (is_int is_unsigned : Bool) → list_any is_line_feed s ≡ false →
    given_number mode v is_int is_unsigned ≡ Give k m → Gives mode s k m
number_stays mode m s k v true is_unsigned none e = gives_along e (plain (λ b. refl) none)
number_stays mode m s k v false true none e = gives_along e (plain (λ b. refl) none)
number_stays mode m s k v false false none e = absurd (cc e)

number_gives : (mode m : Mode) (s : List ℕ) (k : Kind) (v : Option ℕ) → list_any is_line_feed s ≡ false → number_effect mode s v ≡ Give k m → Gives mode s k m
number_gives mode m s k None none e = absurd (cc e)
number_gives mode m s k (Some v) none e =
    number_stays mode m s k v (may_be_int s && nat_le v 2147483647) (may_be_unsigned s && nat_le v 4294967295) none e

give_mode : (mode m : Mode) (name : ℕ) (f : Form) (s : List ℕ) (k : Kind) → IsForm f s → effect mode name f s ≡ Give k m → Gives mode s k m
give_mode mode m name form.Space s k p e = space_gives mode m s k e
give_mode mode m name form.JoinedLine s k p e = absurd (cc e)
give_mode mode m name form.LineComment s k p e = absurd (cc e)
give_mode mode m name form.BlockComment s k p e = absurd (cc e)
give_mode mode m name form.OpenComment s k p e = absurd (cc e)
give_mode mode m name form.IncludeLine s k p e = include_gives mode m s k e
give_mode mode m name form.PragmaStart s k p e = pragma_gives mode m s k e
give_mode mode m name form.OtherDirective s k p e = absurd (cc e)
give_mode mode m name form.Word s k p e = gives_along e (plain (word_opens (key_of s) name) (run_unfeed s p.word_bytes))
give_mode mode m name form.Number s k p e = number_gives mode m s k (number_value s) (run_unfeed s p.0) e
give_mode mode m name (form.Mark mark) s k p e = gives_along e (plain (λ b. refl) (ap (list_any is_line_feed) p ∙ mark_unfeed mark))

module _ (text : List ℕ) where
  -- the point is the end of the text, or has a line feed
  abbrev pub IsAtFeed : ℕ → Type 0
  IsAtFeed at = at < length text → slice_index text at ≡ 10

  -- what the mode says is what the tokens say, but behind a line comment
  abbrev pub Agrees : Mode → List Token → ℕ → Type 0
  Agrees LineStart ts at = (is_in_pragma ts ≡ false) × (is_first_on_line text ts at ≡ true)
  Agrees InLine ts at = (is_in_pragma ts ≡ false) × ((is_first_on_line text ts at ≡ false) ⊎ IsAtFeed at)
  Agrees InPragma ts at = is_in_pragma ts ≡ true

  pub record Knows (p : Point) : Type 0 where
    pub before : All (λ (t : Token). t.line ≤ line_of text p.at) p.tokens
    pub agrees : Agrees p.mode p.tokens p.at

  -- ---- a lexeme at a line feed, and the end of a line comment
  feed_space : (at n : ℕ) (f : Form) → IsLexeme (drop at text) f n → IsAtFeed at → f ≡ form.Space
  feed_space at n f is_lexeme feed =
      let rest = drop at text in
      let some = IsLexeme-some rest f n is_lexeme in
      let byte : slice_index rest 0 ≡ 10 = get_or-drop at text 0 0 ∙ ap (λ i. slice_index text i) (add-zero at) ∙ feed (omega
      (arith, some, length-drop at text)) in
      let found : lexeme_at rest ≡ Some (lexeme form.Space 1) = lexeme_at-of_class rest White (ap class_of byte) in
      ap (λ o. (unwrap_or o (lexeme f 0)).form) (sym (lexeme_at-is rest f n is_lexeme) ∙ found)

  feed_in_slice : (at n : ℕ) (f : Form) → IsLexeme (drop at text) f n → IsAtFeed at → list_any is_line_feed (take n (drop at text)) ≡ true
  feed_in_slice at n f is_lexeme feed =
      let rest = drop at text in
      let some = IsLexeme-some rest f n is_lexeme in
      let byte : slice_index rest 0 ≡ 10 = get_or-drop at text 0 0 ∙ ap (λ i. slice_index text i) (add-zero at) ∙ feed (omega
      (arith, some, length-drop at text)) in
      any_head (take n rest) (omega (arith, some, length-take-le n rest some.1)) (get_or-take n rest 0 0 some.0 ∙ byte)

  -- one byte more, that is no line feed, would be of the comment too
  longer_comment : (rest : List ℕ) (n : ℕ) → n < length rest → IsForm form.LineComment (take n rest) → (slice_index rest n == 10) ≡ false →
      IsForm form.LineComment (take (n + 1) rest)
  longer_comment rest n inside c apart =
      let short : length (take n rest) ≡ n = length-take-le n rest (omega arith) in
      let long : length (take (n + 1) rest) ≡ n + 1 = length-take-le (n + 1) rest (omega arith) in
      let two : 2 ≤ n = omega (arith, c.0.within, short) in
      let same : (i : ℕ) → i < n → slice_index (take (n + 1) rest) i ≡ slice_index (take n rest) i = λ i low. get_or-take (n + 1) rest i 0
      (omega arith) ∙ sym (get_or-take n rest i 0 low) in (
        record { within = omega arith; first = same 0 (omega arith) ∙ c.0.first; second = same 1 (omega arith) ∙ c.0.second },
        λ i below feed. ⊎_elim
            (λ low. ⊎_elim
            (λ slash. inl (same (i - 1) (omega arith) ∙ slash))
            (λ return. inr (same (i - 1) (omega arith) ∙ return.0, same (i - 2) (omega arith) ∙ return.1))
            (c.1 i (omega (arith, low, short)) (sym (same i low) ∙ feed)))
            (λ over. let last : i ≡ n = omega (arith, over, below, long) in
            let byte : slice_index rest n ≡ 10 = sym (get_or-take (n + 1) rest n 0 (omega arith)) ∙ ap (λ j. slice_index (take (n + 1) rest) j)
            (sym last) ∙ feed in
            absurd (false≢true (sym apart ∙ ap (λ b. b == 10) byte)))
            (cases_lt i n),
      )

  comment_feed : (at n : ℕ) → IsLexeme (drop at text) form.LineComment n → IsAtFeed (at + n)
  comment_feed at n is_lexeme inside =
      let rest = drop at text in
      let room : n < length rest = omega (arith, inside, length-drop at text) in
      let there : slice_index rest n ≡ slice_index text (at + n) = get_or-drop at text n 0 in
      by_test (slice_index rest n == 10) refl room there
    where
      by_test : (b : Bool) → (slice_index (drop at text) n == 10) ≡ b → n < length (drop at text) →
          slice_index (drop at text) n ≡ slice_index text (at + n) → slice_index text (at + n) ≡ 10
      by_test true e room there = sym there ∙ eqb-true _ _ e
      by_test false e room there =
          absurd (let over = is_lexeme.longest form.LineComment (n + 1) (omega (arith, room)) (longer_comment
          (drop at text) n room is_lexeme.of_form e) in omega (arith, over))

  -- ---- lines go on
  module _ (at n : ℕ) (f : Form) (is_lexeme : IsLexeme (drop at text) f n) where
    abbrev slice : List ℕ
    slice = take n (drop at text)

    line_is : line_of text (at + n) ≡ line_of text at + count_by is_line_feed slice
    line_is =
        let some = IsLexeme-some (drop at text) f n is_lexeme in
        line_of-later text at n (omega (arith, some, length-drop at text))

    gap_agrees : (mode : Mode) (ts : List Token) → All (λ (t : Token). t.line ≤ line_of text at) ts → Agrees mode ts at →
        Agrees (mode_after_gap mode slice) ts (at + n)
    gap_agrees LineStart ts all a = (a.0, first_kept ts (line_of text at) (line_of text (at + n)) (omega (arith, line_is)) a.1)
    gap_agrees InLine ts all a =
        cond_both (list_any is_line_feed slice) LineStart InLine (λ m. Agrees m ts (at + n))
        (λ any. (a.0, all_first ts (line_of text at) (line_of text (at + n)) (omega (arith, line_is, any_count slice any)) all))
        (λ none. (
          a.0,
          ⊎_elim
              (λ e. let line : line_of text (at + n) ≡ line_of text at = omega (arith, line_is, none_count slice none) in
              inl (ap (λ l. list_all (λ (t : Token). nat_lt t.line l) ts) line ∙ e))
              (λ feed. absurd (false≢true (sym none ∙ feed_in_slice at n f is_lexeme feed)))
              a.1,
        ))
    gap_agrees InPragma ts all a = a

    comment_agrees : f ≡ form.LineComment → (mode : Mode) (ts : List Token) → Agrees mode ts at → Agrees mode ts (at + n)
    comment_agrees e LineStart ts a = (a.0, first_kept ts (line_of text at) (line_of text (at + n)) (omega (arith, line_is)) a.1)
    comment_agrees e InLine ts a = (a.0, inr (comment_feed at n (subst (λ g. IsLexeme (drop at text) g n) e is_lexeme)))
    comment_agrees e InPragma ts a = a

    give_agrees : {mode m : Mode} {k : Kind} (ts : List Token) → Gives mode slice k m → All (λ (t : Token). t.line ≤ line_of text at) ts → Agrees mode ts at →
        Agrees m (ts ++ token_of text k at (at + n) ∷ []) (at + n)
    give_agrees ts (ends any) all a =
        let t = token_of text kind.PragmaEnd at (at + n) in (
          pragma_push ts t,
          all_first (ts ++ t ∷ []) (line_of text at) (line_of text (at + n)) (omega (arith, line_is, any_count slice any)) (All-push (λ
              (u : Token). u.line ≤ line_of text at) ts t all (omega arith)),
        )
    give_agrees ts begins all a = pragma_push ts (token_of text kind.PragmaStart at (at + n))
    give_agrees {mode = LineStart} {k = k} ts (plain same none) all a =
        let t = token_of text k at (at + n) in
        (pragma_push ts t ∙ same (is_in_pragma ts) ∙ a.0, inl (not_first ts t (line_of text (at + n)) (omega (arith, line_is, none_count slice none))))
    give_agrees {mode = InLine} {k = k} ts (plain same none) all a =
        let t = token_of text k at (at + n) in
        (pragma_push ts t ∙ same (is_in_pragma ts) ∙ a.0, inl (not_first ts t (line_of text (at + n)) (omega (arith, line_is, none_count slice none))))
    give_agrees {mode = InPragma} {k = k} ts (plain same none) all a =
        let t = token_of text k at (at + n) in pragma_push ts t ∙ same (is_in_pragma ts) ∙ a

  gap_knows : (p : Point) (f : Form) (n : ℕ) (m : Mode) → Knows p → IsLexeme (drop p.at text) f n → effect_at text p f n ≡ Skip m → Knows (record { at = p.at + n; mode = m; tokens = p.tokens })
  gap_knows p f n m k is_lexeme e = record {
    before = are_later p.tokens (line_of text p.at) (line_of text (p.at + n)) (omega (arith, line_is p.at n f is_lexeme)) k.before;
    agrees = ⊎_elim
        (λ same. subst (λ x. Agrees x p.tokens (p.at + n)) (sym same) (gap_agrees p.at n f is_lexeme p.mode p.tokens k.before k.agrees))
        (λ comment. subst (λ x. Agrees x p.tokens (p.at + n)) (sym comment.1) (comment_agrees p.at n f is_lexeme comment.0 p.mode p.tokens k.agrees))
        (skip_mode p.mode m _ f _ e);
  }

  give_knows : (p : Point) (f : Form) (n : ℕ) (k : Kind) (m : Mode) → Knows p → IsLexeme (drop p.at text) f n → effect_at text p f n ≡ Give k m →
      Knows (record { at = p.at + n; mode = m; tokens = p.tokens ++ token_of text k p.at (p.at + n) ∷ [] })
  give_knows p f n k m known is_lexeme e =
      let t = token_of text k p.at (p.at + n) in
      let later = are_later p.tokens (line_of text p.at) (line_of text (p.at + n)) (omega (arith, line_is p.at n f is_lexeme)) known.before in
      record {
        before = All-push (λ (u : Token). u.line ≤ line_of text (p.at + n)) p.tokens t later (omega (arith, line_is p.at n f is_lexeme));
        agrees = give_agrees p.at n f is_lexeme p.tokens (give_mode p.mode m _ f _ k is_lexeme.of_form e) known.before known.agrees;
      }

  -- ---- the lexeme does the same by the mode and by the tokens, but where a line feed is skipped
  abbrev ModeIs : Mode → List Token → ℕ → Type 0
  ModeIs mode ts at = (mode_at text ts at ≡ mode) ⊎ ((mode ≡ InLine) × (mode_at text ts at ≡ LineStart) × IsAtFeed at)

  mode_of_line : (ts : List Token) (at : ℕ) (b : Bool) → is_in_pragma ts ≡ false → is_first_on_line text ts at ≡ b → IsAtFeed at → ModeIs InLine ts at
  mode_of_line ts at true out first feed = inr (refl, cond-false (is_in_pragma ts) _ _ out ∙ cond-true (is_first_on_line text ts at) _ _ first, feed)
  mode_of_line ts at false out first feed = inl (cond-false (is_in_pragma ts) _ _ out ∙ cond-false (is_first_on_line text ts at) _ _ first)

  mode_is : (mode : Mode) (ts : List Token) (at : ℕ) → Agrees mode ts at → ModeIs mode ts at
  mode_is LineStart ts at a = inl (cond-false (is_in_pragma ts) _ _ a.0 ∙ cond-true (is_first_on_line text ts at) _ _ a.1)
  mode_is InLine ts at a =
      ⊎_elim
      (λ e. inl (cond-false (is_in_pragma ts) _ _ a.0 ∙ cond-false (is_first_on_line text ts at) _ _ e))
      (λ feed. mode_of_line ts at (is_first_on_line text ts at) a.0 refl feed)
      a.1
  mode_is InPragma ts at a = inl (cond-true (is_in_pragma ts) _ _ a)

  -- a fact that doesn't look at the mode behind what is skipped
  abbrev IsBlind : (Effect → Type 0) → Type 0
  IsBlind P = (a b : Mode) → P (Skip a) → P (Skip b)

  module _ (p : Point) (f : Form) (n : ℕ) (known : Knows p) (is_lexeme : IsLexeme (drop p.at text) f n) (P : Effect → Type 0) (blind : IsBlind P) where
    number : ℕ
    number = name_number text p.tokens (take n (drop p.at text))

    to_cut : P (effect_at text p f n) → P (does text p.tokens p.at f n)
    to_cut h =
        let s = take n (drop p.at text) in
        let i = name_number text p.tokens s in
        ⊎_elim
        (λ same. subst P (sym (ap (λ m. effect m i f s) same)) h)
        (λ (x : (p.mode ≡ InLine) × (mode_at text p.tokens p.at ≡ LineStart) × IsAtFeed p.at).
        let is_space = feed_space p.at n f is_lexeme x.2 in
        let skipped : effect_at text p f n ≡ Skip (mode_after_gap InLine s) = ap₂ (λ m g. effect m i g s) x.0 is_space in
        let cut : does text p.tokens p.at f n ≡ Skip LineStart = ap₂ (λ m g. effect m i g s) x.1 is_space in
        subst P (sym cut) (blind (mode_after_gap InLine s) LineStart (subst P skipped h)))
        (mode_is p.mode p.tokens p.at known.agrees)

    to_walk : P (does text p.tokens p.at f n) → P (effect_at text p f n)
    to_walk h =
        let s = take n (drop p.at text) in
        let i = name_number text p.tokens s in
        ⊎_elim
        (λ same. subst P (ap (λ m. effect m i f s) same) h)
        (λ (x : (p.mode ≡ InLine) × (mode_at text p.tokens p.at ≡ LineStart) × IsAtFeed p.at).
        let is_space = feed_space p.at n f is_lexeme x.2 in
        let skipped : effect_at text p f n ≡ Skip (mode_after_gap InLine s) = ap₂ (λ m g. effect m i g s) x.0 is_space in
        let cut : does text p.tokens p.at f n ≡ Skip LineStart = ap₂ (λ m g. effect m i g s) x.1 is_space in
        subst P (sym skipped) (blind LineStart (mode_after_gap InLine s) (subst P cut h)))
        (mode_is p.mode p.tokens p.at known.agrees)

  skip_blind : IsBlind IsSkip
  skip_blind a b h = tt

  give_blind : (k : Kind) → IsBlind (IsGive k)
  give_blind k a b h = absurd h

  fail_blind : (w : Fault) → IsBlind (IsFail w)
  fail_blind w a b h = absurd h

  is_skip : (e : Effect) → IsSkip e → (m : Mode) × (e ≡ Skip m)
  is_skip (Skip m) h = (m, refl)
  is_skip (Give k m) h = absurd h
  is_skip (Fail w) h = absurd h

  is_give : (k : Kind) (e : Effect) → IsGive k e → (m : Mode) × (e ≡ Give k m)
  is_give k (Skip m) h = absurd h
  is_give k (Give l m) h = (m, ap (λ x. Give x m) h)
  is_give k (Fail w) h = absurd h

  is_fail : (w : Fault) (e : Effect) → IsFail w e → e ≡ Fail w
  is_fail w (Skip m) h = absurd h
  is_fail w (Give k m) h = absurd h
  is_fail w (Fail v) h = ap Fail h

  -- ---- from the walk to the cut
  abbrev pub CutAt : Point → Type 0
  CutAt p = IsCutTo text p.tokens p.at × Knows p

  step_cut : {p q : Point} → LexemeStep text p q → CutAt p → CutAt q
  step_cut (skips {p = p} {form = form} {n = n} {mode = mode} is_lexeme e) c = (
    gap c.0 is_lexeme (to_cut p form n c.1 is_lexeme IsSkip skip_blind (subst IsSkip (sym e) tt)),
    gap_knows p form n mode c.1 is_lexeme e,
  )
  step_cut (gives {p = p} {form = form} {n = n} {kind = kind} {mode = mode} is_lexeme e) c = (
    token kind c.0 is_lexeme (to_cut p form n c.1 is_lexeme (IsGive kind) (give_blind kind) (subst (IsGive kind) (sym e) refl)),
    give_knows p form n kind mode c.1 is_lexeme e,
  )

  walk_cut : {p q : Point} → Leads text p q → CutAt p → CutAt q
  walk_cut here c = c
  walk_cut (on s l) c = walk_cut l (step_cut s c)

  at_start : Knows text_start
  at_start = record { before = λ k d below. absurd (omega arith); agrees = (refl, refl) }

  pub reached_cut : {q : Point} → Leads text text_start q → CutAt q
  reached_cut l = walk_cut l (start, at_start)

  -- ---- and back
  abbrev pub point_at : List Token → ℕ → Mode → Point
  point_at ts at mode = record { at = at; mode = mode; tokens = ts }

  pub cut_walk : {ts : List Token} {at : ℕ} → IsCutTo text ts at → (mode : Mode) × Leads text text_start (point_at ts at mode) × Knows (point_at ts at mode)
  cut_walk start = (LineStart, here, at_start)
  cut_walk (gap {tokens = ts} {at = at} {n = n} {form = form} c is_lexeme h) =
      let w = cut_walk c in
      let p = point_at ts at w.0 in
      let e = is_skip _ (to_walk p form n w.2 is_lexeme IsSkip skip_blind h) in
      (e.0, leads_on text w.1 (skips {p = p} is_lexeme e.1), gap_knows p form n e.0 w.2 is_lexeme e.1)
  cut_walk (token {tokens = ts} {at = at} {n = n} {form = form} kind c is_lexeme h) =
      let w = cut_walk c in
      let p = point_at ts at w.0 in
      let e = is_give kind _ (to_walk p form n w.2 is_lexeme (IsGive kind) (give_blind kind) h) in
      (e.0, leads_on text w.1 (gives {p = p} is_lexeme e.1), give_knows p form n kind e.0 w.2 is_lexeme e.1)

  -- ---- the end, and faults
  end_same : (mode : Mode) (ts : List Token) (at : ℕ) → Agrees mode ts at → tokens_at_end text mode ≡ pragma_end text ts
  end_same LineStart ts at a = sym (cond-false (is_in_pragma ts) _ _ a.0)
  end_same InLine ts at a = sym (cond-false (is_in_pragma ts) _ _ a.0)
  end_same InPragma ts at a = sym (cond-true (is_in_pragma ts) _ _ a)

  fault_cut : {p : Point} {w : Fault} → Knows p → IsFaultAt text p w → StandsAt text p.tokens p.at w
  fault_cut k (walk.formless inside none) = formless inside none
  fault_cut {p = p} k (walk.faulty {form = form} {n = n} {wrong = wrong} is_lexeme e) =
      faulty is_lexeme (to_cut p form n k is_lexeme (IsFail wrong) (fail_blind wrong) (subst (IsFail wrong) (sym e) refl))

  fault_walk : {ts : List Token} {at : ℕ} {w : Fault} (mode : Mode) → Knows (point_at ts at mode) → StandsAt text ts at w →
      IsFaultAt text (point_at ts at mode) w
  fault_walk mode k (formless inside none) = walk.formless inside none
  fault_walk {ts = ts} {at = at} mode k (faulty {form = form} {n = n} {wrong = wrong} is_lexeme h) =
      let p = point_at ts at mode in
      walk.faulty is_lexeme (is_fail wrong _ (to_walk p form n k is_lexeme (IsFail wrong) (fail_blind wrong) h))

  pub cover_to_cut : (tokens : List Token) → IsTokenCover text tokens → IsCut text tokens
  cover_to_cut tokens p =
      let c = reached_cut p.reached in
      record {
        before = p.point.tokens;
        to_end = subst (λ at. IsCutTo text p.point.tokens at) p.ends c.0;
        all_tokens = p.all_tokens ∙ ap (λ ts. p.point.tokens ++ ts) (end_same p.point.mode p.point.tokens p.point.at c.1.agrees);
      }

  pub cut_to_cover : (tokens : List Token) → IsCut text tokens → IsTokenCover text tokens
  cut_to_cover tokens c =
      let w = cut_walk c.to_end in
      record {
        point = point_at c.before (length text) w.0;
        reached = w.1;
        ends = refl;
        all_tokens = c.all_tokens ∙ ap (λ ts. c.before ++ ts) (sym (end_same w.0 c.before (length text) w.2.agrees));
      }

  pub fault_to_point : (code line : ℕ) (f : IsFirstFault text code line) → IsFaultPoint text code f.point.at
  fault_to_point code line f =
      let c = reached_cut f.reached in
      record { before = f.point.tokens; wrong = f.wrong; cut = c.0; stands = fault_cut c.1 f.stands; coded = f.coded }

  pub point_to_fault : (code point : ℕ) (f : IsFaultPoint text code point) → IsFirstFault text code (line_of text point)
  point_to_fault code point f =
      let w = cut_walk f.cut in
      record {
        point = point_at f.before point w.0;
        wrong = f.wrong;
        reached = w.1;
        stands = fault_walk w.0 w.2 f.stands;
        coded = f.coded;
        lined = refl;
      }

  pub point_kept : (code point : ℕ) (f : IsFaultPoint text code point) → (point_to_fault code point f).point.at ≡ point
  unfolding point_to_fault
  point_kept code point f = refl

pub cover_cuts : CoverCuts
cover_cuts text tokens = (cover_to_cut text tokens, cut_to_cover text tokens)

pub fault_points : FaultPoints
fault_points text code line = (
  (λ f. (f.point.at, fault_to_point text code line f, f.lined)),
  (λ x. subst (λ l. IsFirstFault text code l) (sym x.2) (point_to_fault text code x.0 x.1)),
)
