-- A text has at least as many bytes as tokens.
use Rattle.std.proofs.Common.{◌≡◌, ℕ, ◌+◌, ◌≤◌, cond, ◌&&◌, List, [], ◌∷◌, length, take, drop, Option, Some, None, refl, ap, subst, arith, ◌<◌, length-append, length-take-le, length-drop}
use Rattle.std.proofs.lemmas.Bool.{cond_both}
use Rattle.std.specs.List.{list_any}
use Rattle.std.specs.Prelude.{nat_le}
use Rattle.os_lexer.specs.Bytes.{is_line_feed}
use Rattle.os_lexer.specs.Cover.{Point, token_of, effect_at, LexemeStep, skips, gives, Leads, here, on, tokens_at_end}
use Rattle.os_lexer.specs.Effects.{effect, directive_effect, space_effect, number_effect, word_kind, mode_after_token, mode_after_gap}
use Rattle.os_lexer.specs.Forms.{IsForm, IsLexeme}
use Rattle.os_lexer.specs.Keywords.{key_of}
use Rattle.os_lexer.specs.Laws.{FewTokens}
use Rattle.os_lexer.specs.Names.{name_number}
use Rattle.os_lexer.specs.Numbers.{may_be_int, may_be_unsigned, number_value}
use Rattle.os_lexer.specs.declared.effect.Effect.{Effect}
use Rattle.os_lexer.specs.declared.effect.Effect.TheVariants.{Skip, Give, Fail}
use Rattle.os_lexer.specs.declared.fault.Fault.TheVariants as fault
use Rattle.os_lexer.specs.declared.form.Form.{Form}
use Rattle.os_lexer.specs.declared.form.Form.TheVariants as form
use Rattle.os_lexer.specs.declared.mode.Mode.{Mode}
use Rattle.os_lexer.specs.declared.mode.Mode.TheVariants.{LineStart, InLine, InPragma}
use Rattle.os_lexer.specs.declared.token.Kind.{Kind}
use Rattle.os_lexer.specs.declared.token.Kind.TheVariants as kind
use Rattle.os_lexer.proofs.Cuts.{IsLexeme-some}

-- within a pragma's line one more token is to come, its end
abbrev owed : Mode → ℕ
owed LineStart = 0
owed InLine = 0
owed InPragma = 1

-- what an effect owes behind n bytes
abbrev OwesNoMore : ℕ → ℕ → Effect → Type 0
OwesNoMore before n (Skip mode) = owed mode ≤ before + n
OwesNoMore before n (Give kind mode) = owed mode + 1 ≤ before + n
OwesNoMore before n (Fail wrong) = Unit {0}

gap_owes : (mode : Mode) (n : ℕ) (s : List ℕ) → OwesNoMore (owed mode) n (Skip (mode_after_gap mode s))
gap_owes LineStart n s = omega arith
gap_owes InLine n s = cond_both (list_any is_line_feed s) LineStart InLine (λ m. owed m ≤ 0 + n) (λ _. omega arith) (λ _. omega arith)
gap_owes InPragma n s = omega arith

space_owes : (mode : Mode) (n : ℕ) (s : List ℕ) → 0 < n → OwesNoMore (owed mode) n (space_effect mode s)
space_owes LineStart n s some = gap_owes LineStart n s
space_owes InLine n s some = gap_owes InLine n s
space_owes InPragma n s some = cond_both (list_any is_line_feed s) (Give kind.PragmaEnd LineStart) (Skip InPragma) (OwesNoMore 1 n) (λ _. omega arith) (λ _. omega arith)

token_owes : (mode : Mode) (n : ℕ) (k : Kind) → 0 < n → OwesNoMore (owed mode) n (Give k (mode_after_token mode))
token_owes LineStart n k some = omega arith
token_owes InLine n k some = omega arith
token_owes InPragma n k some = omega arith

directive_owes : (mode : Mode) (n : ℕ) (lawful : Effect) → OwesNoMore 0 n lawful → OwesNoMore (owed mode) n (directive_effect mode lawful)
directive_owes LineStart n lawful owes = owes
directive_owes InLine n lawful owes = tt
directive_owes InPragma n lawful owes = tt

number_owes : (mode : Mode) (n : ℕ) (s : List ℕ) (v : Option ℕ) → 0 < n → OwesNoMore (owed mode) n (number_effect mode s v)
number_owes mode n s None some = tt
number_owes mode n s (Some v) some =
    let number = Give (kind.Number v) (mode_after_token mode) in
    let wide = Give (kind.Wide v) (mode_after_token mode) in
    let is_unsigned = may_be_unsigned s && nat_le v 4294967295 in
    cond_both (may_be_int s && nat_le v 2147483647) number (cond is_unsigned wide (Fail fault.BigNumber)) (OwesNoMore (owed mode) n) (λ _. token_owes mode n (kind.Number v) some)
    (λ _. cond_both is_unsigned wide (Fail fault.BigNumber) (OwesNoMore (owed mode) n) (λ _. token_owes mode n (kind.Wide v) some) (λ _. tt))

-- `#pragma` has more than one byte
pragma_long : (s : List ℕ) → IsForm form.PragmaStart s → 2 ≤ length s
pragma_long s p = omega (arith, p.1.behind, p.1.within, ap length p.2, length-drop p.0 s)

effect_owes : (mode : Mode) (name n : ℕ) (f : Form) (s : List ℕ) → 0 < n → length s ≡ n → IsForm f s → OwesNoMore (owed mode) n (effect mode name f s)
effect_owes mode name n form.Space s some long p = space_owes mode n s some
effect_owes mode name n form.JoinedLine s some long p = gap_owes mode n s
effect_owes mode name n form.LineComment s some long p = omega arith
effect_owes mode name n form.BlockComment s some long p = gap_owes mode n s
effect_owes mode name n form.OpenComment s some long p = tt
effect_owes mode name n form.IncludeLine s some long p = directive_owes mode n (Skip LineStart) (omega arith)
effect_owes mode name n form.PragmaStart s some long p = directive_owes mode n (Give kind.PragmaStart InPragma) (omega (arith, pragma_long s p, long))
effect_owes mode name n form.OtherDirective s some long p = tt
effect_owes mode name n form.Word s some long p = token_owes mode n (word_kind (key_of s) name) some
effect_owes mode name n form.Number s some long p = number_owes mode n s (number_value s) some
effect_owes mode name n (form.Mark k) s some long p = token_owes mode n (kind.Punct k) some

-- there are at least as many bytes as tokens, the one that is owed included
abbrev Pays : Point → Type 0
Pays p = length p.tokens + owed p.mode ≤ p.at

module _ (text : List ℕ) where
  lexeme_owes : (p : Point) (f : Form) (n : ℕ) (e : Effect) → IsLexeme (drop p.at text) f n → effect_at text p f n ≡ e → OwesNoMore (owed p.mode) n e
  lexeme_owes p f n e is_lexeme is =
      let some = IsLexeme-some (drop p.at text) f n is_lexeme in
      subst (OwesNoMore (owed p.mode) n) is (effect_owes p.mode (name_number text p.tokens (take n (drop p.at text))) n f (take n (drop p.at text)) some.0 (length-take-le n (drop p.at text) some.1) is_lexeme.of_form)

  step_pays : {p q : Point} → LexemeStep text p q → Pays p → Pays q
  step_pays (skips {p = p} {form = form} {n = n} {mode = mode} is_lexeme e) pays = omega (arith, pays, lexeme_owes p form n (Skip mode) is_lexeme e)
  step_pays (gives {p = p} {form = form} {n = n} {kind = kind} {mode = mode} is_lexeme e) pays =
      omega (arith, pays, lexeme_owes p form n (Give kind mode) is_lexeme e, length-append p.tokens (token_of text kind p.at (p.at + n) ∷ []))

  leads_pays : {p q : Point} → Leads text p q → Pays p → Pays q
  leads_pays here pays = pays
  leads_pays (on s l) pays = leads_pays l (step_pays s pays)

  length-end : (mode : Mode) → length (tokens_at_end text mode) ≡ owed mode
  length-end LineStart = refl
  length-end InLine = refl
  length-end InPragma = refl

pub few_tokens : FewTokens
few_tokens text tokens cover =
    let pays = leads_pays text cover.reached (omega arith) in
    omega (arith, pays, cover.ends, ap length cover.all_tokens, length-append cover.point.tokens (tokens_at_end text cover.point.mode), length-end text cover.point.mode)
