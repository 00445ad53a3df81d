-- The text before a fault.
use Rattle.std.proofs.Common.{◌≡◌, ℕ, ◌+◌, ◌-◌, ◌<◌, ◌≤◌, cond, List, [], ◌∷◌, ◌++◌, length, take, drop, refl, sym, ap, ap₂, ◌∙◌, subst, ⊎_elim, arith, length-take-le, length-drop, take-take}
use Rattle.std.proofs.lemmas.Bool.{cases_lt}
use Rattle.std.proofs.lemmas.List.{drop-take}
use Rattle.std.specs.Prelude.{count_by, bytes_eq, position, unwrap_or, not}
use Rattle.os_lexer.specs.Bytes.{is_line_feed}
use Rattle.os_lexer.specs.Cover.{Point, token_of, effect_at, LexemeStep, skips, gives, Leads, here, on, tokens_at_end, IsTokenCover, IsFirstFault}
use Rattle.os_lexer.specs.Effects.{effect}
use Rattle.os_lexer.specs.Forms.{IsForm, IsLexeme}
use Rattle.os_lexer.specs.Laws.{CoverBeforeFault}
use Rattle.os_lexer.specs.Lines.{line_of}
use Rattle.os_lexer.specs.Names.{fixed_names, spelling, first_index, name_number}
use Rattle.os_lexer.specs.declared.form.Form.{Form}
use Rattle.os_lexer.specs.declared.token.Token.{Token}
use Rattle.os_lexer.proofs.Cuts.{leads_within, fault_within, last_at_fault, one_way}
use Rattle.os_lexer.proofs.PointCuts.{point_to_fault, point_kept}

-- the tokens stand in the first c bytes
abbrev AreWithin : ℕ → List Token → Type 0
AreWithin c [] = Unit {0}
AreWithin c (t ∷ ts) = (t.start ≤ c) × (t.end ≤ c) × AreWithin c ts

AreWithin-push : (c : ℕ) (ts : List Token) (t : Token) → AreWithin c ts → t.start ≤ c → t.end ≤ c → AreWithin c (ts ++ t ∷ [])
AreWithin-push c [] t within low high = (low, high, tt)
AreWithin-push c (x ∷ xs) t within low high = (within.0, within.1, AreWithin-push c xs t within.2 low high)

-- the first c bytes of a text
module _ (text : List ℕ) (c : ℕ) (inside : c ≤ length text) where
  before_length : length (take c text) ≡ c
  before_length = length-take-le c text inside

  drop_before : (at : ℕ) → at ≤ c → drop at (take c text) ≡ take (c - at) (drop at text)
  drop_before at low =
      let sum_is : at + (c - at) ≡ c = omega arith in
      ap (λ k. drop at (take k text)) (sym sum_is) ∙ drop-take at (c - at) text

  slice_before : (at n : ℕ) → at ≤ c → at + n ≤ c → take n (drop at (take c text)) ≡ take n (drop at text)
  slice_before at n low high = ap (λ l. take n l) (drop_before at low) ∙ take-take n (c - at) (drop at text) (omega arith)

  line_before : (at : ℕ) → at ≤ c → line_of (take c text) at ≡ line_of text at
  line_before at low = ap (λ l. 1 + count_by is_line_feed l) (take-take at c text low)

  spelling_before : (t : Token) → t.start ≤ c → t.end ≤ c → spelling (take c text) t ≡ spelling text t
  spelling_before t low high =
      ⊎_elim
      (λ ordered. slice_before t.start (t.end - t.start) low (omega arith))
      (λ empty. let none : t.end - t.start ≡ 0 = omega (arith, empty) in ap₂ (λ k l. take k l) none (drop_before t.start low) ∙ ap (λ k. take k (drop t.start text)) (sym none))
      (cases_lt t.start t.end)

  index_before : (name : List ℕ) (tokens : List Token) → AreWithin c tokens → first_index (take c text) tokens name ≡ first_index text tokens name
  index_before name [] within = refl
  index_before name (t ∷ ts) within =
      ap₂ (λ b k. cond (not b) (1 + k) 0) (ap (bytes_eq name) (spelling_before t within.0 within.1)) (index_before name ts within.2)

  number_before : (name : List ℕ) (tokens : List Token) → AreWithin c tokens → name_number (take c text) tokens name ≡ name_number text tokens name
  number_before name tokens within = ap (λ i. unwrap_or (position (bytes_eq name) fixed_names) (12 + i)) (index_before name tokens within)

  effect_before : (p : Point) (f : Form) (n : ℕ) → AreWithin c p.tokens → p.at + n ≤ c → effect_at (take c text) p f n ≡ effect_at text p f n
  effect_before p f n within high =
      let slice = slice_before p.at n (omega arith) high in
      ap (λ s. effect p.mode (name_number (take c text) p.tokens s) f s) slice ∙ ap (λ k. effect p.mode k f (take n (drop p.at text))) (number_before (take n (drop p.at text)) p.tokens within)

  lexeme_before : (at n : ℕ) (f : Form) → at + n ≤ c → IsLexeme (drop at text) f n → IsLexeme (drop at (take c text)) f n
  lexeme_before at n f high is_lexeme =
      let low : at ≤ c = omega arith in
      let rest_is : length (drop at (take c text)) ≡ c - at = length-drop at (take c text) ∙ ap (λ k. k - at) before_length in
      record {
        within = omega arith;
        of_form = subst (IsForm f) (sym (slice_before at n low high)) is_lexeme.of_form;
        longest = λ other m within is_form. is_lexeme.longest other m (omega (arith, length-drop at text)) (subst (IsForm other) (slice_before at m low (omega arith)) is_form);
      }

  -- a step within the first bytes is one of theirs
  step_before : {p q : Point} → LexemeStep text p q → AreWithin c p.tokens → q.at ≤ c → LexemeStep (take c text) p q × AreWithin c q.tokens
  step_before (skips {p = p} {form = form} {n = n} {mode = mode} is_lexeme e) within high =
      (skips (lexeme_before p.at n form high is_lexeme) (effect_before p form n within high ∙ e), within)
  step_before (gives {p = p} {form = form} {n = n} {kind = kind} {mode = mode} is_lexeme e) within high =
      let low : p.at ≤ c = omega arith in (
        subst (λ line. LexemeStep (take c text) p (record { at = p.at + n; mode = mode; tokens = p.tokens ++ record { kind = kind; start = p.at; end = p.at + n; line = line } ∷ [] }))
            (line_before p.at low)
            (gives (lexeme_before p.at n form high is_lexeme) (effect_before p form n within high ∙ e)),
        AreWithin-push c p.tokens (token_of text kind p.at (p.at + n)) within low high,
      )

  leads_before : {p q : Point} → Leads text p q → AreWithin c p.tokens → q.at ≤ c → Leads (take c text) p q
  leads_before here within high = here
  leads_before (on s l) within high =
      let first = step_before s within (omega (arith, leads_within text l)) in
      on first.0 (leads_before l first.1 high)

before_fault : (text : List ℕ) (code line : ℕ) (f : IsFirstFault text code line) →
    (f.point.at < length text) × ((tokens : List Token) × IsTokenCover (take f.point.at text) tokens)
before_fault text code line f =
    let p = f.point in
    let inside = fault_within text f.stands in (
      inside,
      (
        p.tokens ++ tokens_at_end (take p.at text) p.mode,
        record {
          point = p;
          reached = leads_before text p.at (omega (arith, inside)) f.reached tt (omega arith);
          ends = sym (before_length text p.at (omega (arith, inside)));
          all_tokens = refl;
        },
      ),
    )

one_point : (text : List ℕ) (code line code' line' : ℕ) (f : IsFirstFault text code line) (g : IsFirstFault text code' line') → f.point ≡ g.point
one_point text code line code' line' f g =
    one_way text f.reached g.reached (last_at_fault text f.point f.wrong f.stands) (last_at_fault text g.point g.wrong g.stands)

pub cover_before_fault : CoverBeforeFault
cover_before_fault text code point f =
    let first = point_to_fault text code point f in
    let here : first.point.at ≡ point = point_kept text code point f in
    let before = before_fault text code (line_of text point) first in (
      omega (arith, before.0, here),
      subst (λ at. (tokens : List Token) × IsTokenCover (take at text) tokens) here before.1,
      (λ other code' g.
          let second = point_to_fault text code' other g in
          let there : second.point.at ≡ other = point_kept text code' other g in
          let same : first.point ≡ second.point = one_point text code (line_of text point) code' (line_of text other) first second in
          let at_same : first.point.at ≡ second.point.at = ap (λ p. p.at) same in
          omega (arith, at_same, here, there)),
    )
