-- What one lexeme makes of what the reader knows.
use Rattle.std.proofs.Common.{◌≡◌, ℕ, ◌+◌, ◌-◌, ◌<◌, ◌≤◌, cond, List, [], ◌∷◌, ◌++◌, length, take, drop, Some, position, unwrap_or, bytes_eq, refl, sym, ap, ap₂, ◌∙◌, subst, arith, All, length-take-le, length-drop, length-append, take-add}
use Rattle.std.proofs.lemmas.Bool.Decides.{same_from_decides}
use Rattle.std.proofs.lemmas.List.Sums.{sum_by-append}
use Rattle.std.proofs.lemmas.List.Elements.{All-push}
use Rattle.std.proofs.lemmas.Slice.Eq.{bytes_eq-Decides}
use Rattle.std.specs.Prelude.{count_by, ◌&&◌, slice_range}
use Rattle.os_lexer.specs.Bytes.{is_line_feed}
use Rattle.os_lexer.specs.Cover.{Point, token_of, effect_at, LexemeStep, skips, gives, IsFaultAt, faulty}
use Rattle.os_lexer.specs.Effects.{effect}
use Rattle.os_lexer.specs.Forms.{IsLexeme}
use Rattle.os_lexer.specs.Lines.{line_of}
use Rattle.os_lexer.specs.Names.{spelling}
use Rattle.os_lexer.specs.Spellings.{first_of}
use Rattle.os_lexer.specs.States.{point_of, is_name, is_named, KnowsSpellings, IsNameWhereSpelledSo, IsState, number_by_map, IsFaultHere}
use Rattle.os_lexer.specs.Answer.{error_of}
use Rattle.os_lexer.proofs.Cuts.{IsLexeme-some}
use Rattle.os_lexer.proofs.NamedTokens.{effect_by_name, named_by_form}
use Rattle.os_lexer.proofs.Positions.{position-push}
use Rattle.os_lexer.specs.declared.effect.Effect.TheVariants.{Skip, Give, Fail}
use Rattle.os_lexer.specs.declared.fault.Fault.{Fault}
use Rattle.os_lexer.specs.declared.fault.Fault.TheVariants as fault
use Rattle.os_lexer.specs.declared.form.Form.{Form}
use Rattle.os_lexer.specs.declared.lexer.Lexer.{Lexer}
use Rattle.os_lexer.specs.declared.mode.Mode.{Mode}
use Rattle.os_lexer.specs.declared.spellings.Spellings.{Spellings}
use Rattle.os_lexer.specs.declared.token.Kind.{Kind}
use Rattle.os_lexer.specs.declared.token.Token.{Token}

-- ---- the map of spellings
bytes_eq-flip : (xs ys : List ℕ) → bytes_eq xs ys ≡ bytes_eq ys xs
bytes_eq-flip xs ys =
    same_from_decides _ _ (bytes_eq-Decides xs ys) ((λ t. sym ((bytes_eq-Decides ys xs).0 t)), λ e. (bytes_eq-Decides ys xs).1 (sym e))

-- the map after one more token
pub known_push : (text : List ℕ) (tokens : List Token) (old new : Spellings) (t : Token) (s : List ℕ) → KnowsSpellings text tokens old → spelling text t ≡ s → ((name : List ℕ) → first_of new name ≡ cond (is_name t.kind && bytes_eq s name) (Some (unwrap_or (first_of old name) (length tokens))) (first_of old name)) → KnowsSpellings text (tokens ++ t ∷ []) new
known_push text tokens old new t s known spelled noted name =
    let same : (is_name t.kind && bytes_eq s name) ≡ is_named text name t =
    ap (λ b. is_name t.kind && b) (bytes_eq-flip s name ∙ ap (bytes_eq name) (sym spelled))
    in
    noted name ∙ ap₂ (λ b o. cond b (Some (unwrap_or o (length tokens))) o) same (known name) ∙ sym (position-push (is_named text name) tokens t)

-- the line of a later point
pub line_of-later : (text : List ℕ) (at n : ℕ) → at + n ≤ length text → line_of text (at + n) ≡ line_of text at + count_by is_line_feed (take n (drop at text))
line_of-later text at n within =
    ap (λ l. 1 + count_by is_line_feed l) (take-add at n text) ∙ ap (λ k. 1 + k) (sum_by-append (λ b. cond (is_line_feed b) 1 0) (take at text) (take n (drop at text))) ∙ omega arith

-- a lexeme at the point
module _ (text : List ℕ) (old : Lexer) (f : Form) (n : ℕ) (state : IsState text old) (is_lexeme : IsLexeme (drop old.at text) f n) where
  pub slice_is : slice_range text old.at (old.at + n) ≡ take n (drop old.at text)
  slice_is = let count : old.at + n - old.at ≡ n = omega arith in ap (λ k. take k (drop old.at text)) count

  pub fits : old.at + n ≤ length text
  fits = omega (arith, is_lexeme.within, length-drop old.at text, state.within)

  pub slice_length : length (slice_range text old.at (old.at + n)) ≡ n
  slice_length = ap length slice_is ∙ length-take-le n (drop old.at text) is_lexeme.within

  pub effect_is : effect old.mode (number_by_map old.spellings (length old.tokens.items) (slice_range text old.at (old.at + n))) f (slice_range text old.at (old.at + n)) ≡ effect_at text (point_of old) f n
  effect_is =
      ap (λ s. effect old.mode (number_by_map old.spellings (length old.tokens.items) s) f s) slice_is
      ∙ effect_by_name text old.tokens.items old.spellings state.known state.named old.mode f (take n (drop old.at text)) is_lexeme.of_form

  line_is : (line : ℕ) → line ≡ old.line + count_by is_line_feed (slice_range text old.at (old.at + n)) → line ≡ line_of text (old.at + n)
  line_is line e =
      e ∙ ap₂ (λ a s. a + count_by is_line_feed s) state.lined slice_is ∙ sym (line_of-later text old.at n fits)

  -- the lexeme is skipped
  module _ (new : Lexer) (mode : Mode) (does : effect old.mode (number_by_map old.spellings (length old.tokens.items) (slice_range text old.at (old.at + n))) f (slice_range text old.at (old.at + n)) ≡ Skip mode) (at_is : new.at ≡ old.at + length (slice_range text old.at (old.at + n))) (tokens_are : new.tokens.items ≡ old.tokens.items) where
    pub step_skip : new.mode ≡ mode → LexemeStep text (point_of old) (point_of new)
    step_skip mode_is =
        let at_end : new.at ≡ old.at + n = at_is ∙ ap (λ k. old.at + k) slice_length in
        let there : LexemeStep text (point_of old) (record { at = old.at + n; mode = mode; tokens = old.tokens.items }) = skips is_lexeme (sym effect_is ∙ does) in
        let point_is : ◌≡◌ {A = Point} (record { at = old.at + n; mode = mode; tokens = old.tokens.items }) (point_of new) = λ i. record { at = sym at_end i; mode = sym mode_is i; tokens = sym tokens_are i } in
        subst (λ p. LexemeStep text (point_of old) p) point_is there

    pub state_skip : new.line ≡ old.line + count_by is_line_feed (slice_range text old.at (old.at + n)) → new.spellings ≡ old.spellings → IsState text new
    state_skip lines same =
        let at_end : new.at ≡ old.at + n = at_is ∙ ap (λ k. old.at + k) slice_length in
        record {
          short = state.short;
          within = omega (arith, at_end, fits);
          lined = line_is new.line lines ∙ ap (line_of text) (sym at_end);
          few = omega (arith, state.few, at_end, ap length tokens_are);
          named = subst (All (IsNameWhereSpelledSo text)) (sym tokens_are) state.named;
          known = λ name. ap (λ m. first_of m name) same ∙ state.known name ∙ ap (position (is_named text name)) (sym tokens_are);
        }

  -- the lexeme is a token
  module _ (new : Lexer) (kind : Kind) (mode : Mode) (does : effect old.mode (number_by_map old.spellings (length old.tokens.items) (slice_range text old.at (old.at + n))) f (slice_range text old.at (old.at + n)) ≡ Give kind mode) (at_is : new.at ≡ old.at + length (slice_range text old.at (old.at + n))) (tokens_are : new.tokens.items ≡ old.tokens.items ++ record { kind = kind; start = old.at; end = old.at + length (slice_range text old.at (old.at + n)); line = old.line } ∷ []) where
    given_tokens : new.tokens.items ≡ old.tokens.items ++ token_of text kind old.at (old.at + n) ∷ []
    given_tokens = tokens_are ∙ ap₂ (λ k line. old.tokens.items ++ record { kind = kind; start = old.at; end = old.at + k; line = line } ∷ []) slice_length state.lined

    pub step_give : new.mode ≡ mode → LexemeStep text (point_of old) (point_of new)
    step_give mode_is =
        let at_end : new.at ≡ old.at + n = at_is ∙ ap (λ k. old.at + k) slice_length in
        let there : LexemeStep text (point_of old) (record { at = old.at + n; mode = mode; tokens = old.tokens.items ++ token_of text kind old.at (old.at + n) ∷ [] }) = gives is_lexeme (sym effect_is ∙ does) in
        let point_is : ◌≡◌ {A = Point} (record { at = old.at + n; mode = mode; tokens = old.tokens.items ++ token_of text kind old.at (old.at + n) ∷ [] }) (point_of new) = λ i. record { at = sym at_end i; mode = sym mode_is i; tokens = sym given_tokens i } in
        subst (λ p. LexemeStep text (point_of old) p) point_is there

    pub state_give : new.line ≡ old.line + count_by is_line_feed (slice_range text old.at (old.at + n)) → ((name : List ℕ) → first_of new.spellings name ≡ cond (is_name kind && bytes_eq (slice_range text old.at (old.at + n)) name) (Some (unwrap_or (first_of old.spellings name) (length old.tokens.items))) (first_of old.spellings name)) → IsState text new
    state_give lines noted =
        let at_end : new.at ≡ old.at + n = at_is ∙ ap (λ k. old.at + k) slice_length in
        let some : 0 < n = (IsLexeme-some (drop old.at text) f n is_lexeme).0 in
        record {
          short = state.short;
          within = omega (arith, at_end, fits);
          lined = line_is new.line lines ∙ ap (line_of text) (sym at_end);
          few = omega (arith, state.few, at_end, some, ap length given_tokens, length-append old.tokens.items (token_of text kind old.at (old.at + n) ∷ []));
          named = subst (All (IsNameWhereSpelledSo text)) (sym given_tokens)
              (All-push (IsNameWhereSpelledSo text) old.tokens.items (token_of text kind old.at (old.at + n)) state.named
              (named_by_form text old.at n f old.mode mode kind (number_by_map old.spellings (length old.tokens.items) (slice_range text old.at (old.at + n))) slice_is is_lexeme.of_form does));
          known = λ name. known_push text old.tokens.items old.spellings new.spellings (token_of text kind old.at (old.at + n)) (slice_range text old.at (old.at + n)) state.known refl noted name ∙ ap (position (is_named text name)) (sym given_tokens);
        }

  -- the lexeme is a fault
  pub fault_take : (wrong : Fault) → effect old.mode (number_by_map old.spellings (length old.tokens.items) (slice_range text old.at (old.at + n))) f (slice_range text old.at (old.at + n)) ≡ Fail wrong → IsFaultAt text (point_of old) wrong
  fault_take wrong does = faulty is_lexeme (sym effect_is ∙ does)

-- the error for a fault that stands at the point
pub fault_here : (text : List ℕ) (p : Point) (wrong : Fault) (line : ℕ) → IsFaultAt text p wrong → line ≡ line_of text p.at → IsFaultHere text p (error_of wrong line)
fault_here text p fault.BadByte line stands lined = (stands, lined)
fault_here text p fault.OpenComment line stands lined = (stands, lined)
fault_here text p fault.BigNumber line stands lined = (stands, lined)
