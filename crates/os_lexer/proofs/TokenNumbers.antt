-- The numbers of tokens have values of their types.
use Rattle.std.proofs.Common.{ℕ, ◌+◌, ◌&&◌, cond, List, [], length, take, drop, Option, Some, None, sym, subst, arith, All, leb-true}
use Rattle.std.proofs.lemmas.Bool.{cond_both, and_parts}
use Rattle.std.proofs.lemmas.List.Elements.{All-append, All-push}
use Rattle.std.specs.List.{list_any}
use Rattle.std.specs.Prelude.{nat_le}
use Rattle.os_lexer.specs.Bytes.{is_line_feed}
use Rattle.os_lexer.specs.Cover.{Point, token_of, LexemeStep, skips, gives, Leads, here, on, tokens_at_end}
use Rattle.os_lexer.specs.Effects.{effect, directive_effect, space_effect, number_effect, word_kind, mode_after_token}
use Rattle.os_lexer.specs.Keywords.{key_of}
use Rattle.os_lexer.specs.Laws.{HasFittingNumber, NumbersFit}
use Rattle.os_lexer.specs.Names.{name_number}
use Rattle.os_lexer.specs.Numbers.{may_be_int, may_be_unsigned, number_value}
use Rattle.os_lexer.specs.declared.effect.Effect.{Effect}
use Rattle.os_lexer.specs.declared.effect.Effect.TheVariants.{Skip, Give, Fail}
use Rattle.os_lexer.specs.declared.fault.Fault.TheVariants as fault
use Rattle.os_lexer.specs.declared.form.Form.{Form}
use Rattle.os_lexer.specs.declared.form.Form.TheVariants as form
use Rattle.os_lexer.specs.declared.mode.Mode.{Mode}
use Rattle.os_lexer.specs.declared.mode.Mode.TheVariants.{LineStart, InLine, InPragma}
use Rattle.os_lexer.specs.declared.token.Key.{Key}
use Rattle.os_lexer.specs.declared.token.Kind.TheVariants as kind
use Rattle.os_lexer.specs.declared.token.Token.{Token}

-- what an effect gives has such a number
abbrev GivesFitting : Effect → Type 0
GivesFitting (Skip mode) = Unit {0}
GivesFitting (Give kind mode) = HasFittingNumber kind
GivesFitting (Fail wrong) = Unit {0}

space_fits : (mode : Mode) (s : List ℕ) → GivesFitting (space_effect mode s)
space_fits LineStart s = tt
space_fits InLine s = tt
space_fits InPragma s = cond_both (list_any is_line_feed s) (Give kind.PragmaEnd LineStart) (Skip InPragma) GivesFitting (λ _. tt) (λ _. tt)

directive_fits : (mode : Mode) (lawful : Effect) → GivesFitting lawful → GivesFitting (directive_effect mode lawful)
directive_fits LineStart lawful fits = fits
directive_fits InLine lawful fits = tt
directive_fits InPragma lawful fits = tt

word_fits : (key : Option Key) (name : ℕ) → HasFittingNumber (word_kind key name)
word_fits None name = tt
word_fits (Some key) name = tt

number_fits : (mode : Mode) (bytes : List ℕ) (v : Option ℕ) → GivesFitting (number_effect mode bytes v)
number_fits mode bytes None = tt
number_fits mode bytes (Some v) =
    let number = Give (kind.Number v) (mode_after_token mode) in
    let wide = Give (kind.Wide v) (mode_after_token mode) in
    let is_int = may_be_int bytes && nat_le v 2147483647 in
    let is_unsigned = may_be_unsigned bytes && nat_le v 4294967295 in
    cond_both is_int number (cond is_unsigned wide (Fail fault.BigNumber)) GivesFitting
    (λ e. omega (arith, leb-true v 2147483647 (and_parts (may_be_int bytes) (nat_le v 2147483647) e).1))
    (λ _. cond_both is_unsigned wide (Fail fault.BigNumber) GivesFitting
    (λ e. omega (arith, leb-true v 4294967295 (and_parts (may_be_unsigned bytes) (nat_le v 4294967295) e).1)) (λ _. tt))

effect_fits : (mode : Mode) (name : ℕ) (f : Form) (s : List ℕ) → GivesFitting (effect mode name f s)
effect_fits mode name form.Space s = space_fits mode s
effect_fits mode name form.JoinedLine s = tt
effect_fits mode name form.LineComment s = tt
effect_fits mode name form.BlockComment s = tt
effect_fits mode name form.OpenComment s = tt
effect_fits mode name form.IncludeLine s = directive_fits mode (Skip LineStart) tt
effect_fits mode name form.PragmaStart s = directive_fits mode (Give kind.PragmaStart InPragma) tt
effect_fits mode name form.OtherDirective s = tt
effect_fits mode name form.Word s = word_fits (key_of s) name
effect_fits mode name form.Number s = number_fits mode s (number_value s)
effect_fits mode name (form.Mark k) s = tt

abbrev AllFit : List Token → Type 0
AllFit tokens = All (λ token. HasFittingNumber token.kind) tokens

module _ (text : List ℕ) where
  step_fits : {p q : Point} → LexemeStep text p q → AllFit p.tokens → AllFit q.tokens
  step_fits (skips {p = p} {form = form} {n = n} {mode = mode} is_lexeme e) fits = fits
  step_fits (gives {p = p} {form = form} {n = n} {kind = kind} {mode = mode} is_lexeme e) fits =
      let slice = take n (drop p.at text) in
      All-push (λ token. HasFittingNumber token.kind) p.tokens (token_of text kind p.at (p.at + n)) fits (subst GivesFitting e (effect_fits p.mode (name_number text p.tokens slice) form slice))

  leads_fit : {p q : Point} → Leads text p q → AllFit p.tokens → AllFit q.tokens
  leads_fit here fits = fits
  leads_fit (on s l) fits = leads_fit l (step_fits s fits)

  none_fits : AllFit []
  none_fits k d below = absurd (omega arith)

  end_fits : (mode : Mode) → AllFit (tokens_at_end text mode)
  end_fits LineStart = none_fits
  end_fits InLine = none_fits
  end_fits InPragma = All-push (λ token. HasFittingNumber token.kind) [] (token_of text kind.PragmaEnd (length text) (length text)) none_fits tt

pub numbers_fit : NumbersFit
numbers_fit text tokens cover =
    let P : Token → Type 0 = λ token. HasFittingNumber token.kind in
    subst AllFit (sym cover.all_tokens) (All-append P cover.point.tokens (tokens_at_end text cover.point.mode) (leads_fit text cover.reached (none_fits text)) (end_fits text cover.point.mode))
