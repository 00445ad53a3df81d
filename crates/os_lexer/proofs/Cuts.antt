-- The lexemes of a text by what is found, and where they lead.
use Rattle.std.proofs.Common.{◌≡◌, ℕ, ◌+◌, ◌-◌, ◌<◌, ◌≤◌, List, [], ◌∷◌, ◌++◌, length, take, drop, Option, Some, None, Result, Ok, Err, refl, ap, ◌∙◌, subst, ⊎_elim, arith, length-take-le, length-drop}
use Rattle.os_lexer.specs.Cover.{Point, token_of, effect_at, IsFormless, LexemeStep, skips, gives, Leads, here, on, IsFaultAt, formless, faulty}
use Rattle.os_lexer.specs.Forms.{IsForm, IsLexeme}
use Rattle.os_lexer.specs.Reading.{lexeme, lexeme_at}
use Rattle.os_lexer.specs.declared.effect.Effect.{Effect}
use Rattle.os_lexer.specs.declared.effect.Effect.TheVariants.{Skip, Give, Fail}
use Rattle.os_lexer.specs.declared.fault.Fault.{Fault}
use Rattle.os_lexer.specs.declared.fault.Fault.TheVariants as fault
use Rattle.os_lexer.specs.declared.form.Form.{Form}
use Rattle.os_lexer.specs.declared.form.Form.TheVariants as form
use Rattle.os_lexer.specs.declared.form.Lexeme.{Lexeme}
use Rattle.os_lexer.proofs.Found.{found_is}
use Rattle.os_lexer.proofs.Longest.{longest}
use Rattle.os_lexer.proofs.MarkSpellings.{length-spelling}

-- every form has at least one byte
pub form_nonempty : (f : Form) (s : List ℕ) → IsForm f s → 0 < length s
form_nonempty form.Space s p = omega (arith, p.0)
form_nonempty form.JoinedLine s p = ⊎_elim (λ e. omega (arith, ap length e)) (λ e. omega (arith, ap length e)) p
form_nonempty form.LineComment s p = omega (arith, p.0.within)
form_nonempty form.BlockComment s p = omega (arith, p.0.within)
form_nonempty form.OpenComment s p = omega (arith, p.0.within)
form_nonempty form.IncludeLine s p = omega (arith, p.1.behind, p.1.within)
form_nonempty form.PragmaStart s p = omega (arith, p.1.behind, p.1.within)
form_nonempty form.OtherDirective s p = omega (arith, p.1.behind, p.1.within)
form_nonempty form.Word s p = p.word_bytes.0
form_nonempty form.Number s p = p.0.0
form_nonempty (form.Mark m) s p = omega (arith, ap length p, (length-spelling m).0)

module _ (rest : List ℕ) where
  -- what is found is the lexeme at the front
  pub IsLexeme-found : (p : Lexeme) → 0 < length rest → lexeme_at rest ≡ Some p → IsLexeme rest p.form p.length
  IsLexeme-found p nonempty e =
      let found = found_is rest nonempty p e in
      record {
        within = found.within;
        of_form = found.of_form;
        longest = λ other m within is_form.
            let finds = longest rest m within other is_form in
            let same : finds.lexeme_found ≡ p = cc (finds.is_found, e) in
            omega (arith, finds.as_long, ap (λ q. q.length) same);
      }

  some_form : (f : Form) (n : ℕ) → n ≤ length rest → IsForm f (take n rest) → 0 < n
  some_form f n within is_form = omega (arith, form_nonempty f (take n rest) is_form, length-take-le n rest within)

  -- the lexeme at the front is found
  pub lexeme_at-is : (f : Form) (n : ℕ) → IsLexeme rest f n → lexeme_at rest ≡ Some (lexeme f n)
  lexeme_at-is f n p =
      let some = some_form f n p.within p.of_form in
      let finds = longest rest n p.within f p.of_form in
      let found = found_is rest (omega (arith, some, p.within)) finds.lexeme_found finds.is_found in
      let same : n ≡ finds.lexeme_found.length = omega (arith, finds.as_long, p.longest finds.lexeme_found.form finds.lexeme_found.length found.within found.of_form) in
      finds.is_found ∙ ap Some (finds.same same)

  pub IsLexeme-some : (f : Form) (n : ℕ) → IsLexeme rest f n → (0 < n) × (n ≤ length rest)
  IsLexeme-some f n p = (some_form f n p.within p.of_form, p.within)

  -- where nothing is found, no form stands
  pub formless_from : lexeme_at rest ≡ None → IsFormless rest
  formless_from e f n within is_form = let finds = longest rest n within f is_form in cc (finds.is_found, e)

  nothing_found : (found : Option Lexeme) → lexeme_at rest ≡ found → 0 < length rest → IsFormless rest → lexeme_at rest ≡ None
  nothing_found None e nonempty none = e
  nothing_found (Some p) e nonempty none =
      let found = found_is rest nonempty p e in absurd (none p.form p.length found.within found.of_form)

  pub lexeme_at-formless : 0 < length rest → IsFormless rest → lexeme_at rest ≡ None
  lexeme_at-formless nonempty none = nothing_found (lexeme_at rest) refl nonempty none

-- where a lexeme of this effect leads, or its fault
abbrev pub outcome : List ℕ → Point → ℕ → Effect → Result Point Fault
outcome text p n (Skip mode) = Ok (record { at = p.at + n; mode = mode; tokens = p.tokens })
outcome text p n (Give kind mode) = Ok (record { at = p.at + n; mode = mode; tokens = p.tokens ++ token_of text kind p.at (p.at + n) ∷ [] })
outcome text p n (Fail wrong) = Err wrong

abbrev pub outcome_of : List ℕ → Point → Option Lexeme → Result Point Fault
outcome_of text p None = Err fault.BadByte
outcome_of text p (Some q) = outcome text p q.length (effect_at text p q.form q.length)

-- where the point leads, or the fault that stands there
pub move : List ℕ → Point → Result Point Fault
move text p = outcome_of text p (lexeme_at (drop p.at text))

module _ (text : List ℕ) where
  rest_length : (p : Point) → length (drop p.at text) ≡ length text - p.at
  rest_length p = length-drop p.at text

  pub move-step : {p q : Point} → LexemeStep text p q → move text p ≡ Ok q
  unfolding move
  move-step (skips {p = p} {form = form} {n = n} is_lexeme e) =
      ap (outcome_of text p) (lexeme_at-is (drop p.at text) form n is_lexeme) ∙ ap (outcome text p n) e
  move-step (gives {p = p} {form = form} {n = n} is_lexeme e) =
      ap (outcome_of text p) (lexeme_at-is (drop p.at text) form n is_lexeme) ∙ ap (outcome text p n) e

  -- a step goes on within the text
  pub step_within : {p q : Point} → LexemeStep text p q → (p.at < q.at) × (q.at ≤ length text)
  step_within (skips {p = p} {form = form} {n = n} is_lexeme e) =
      let some = IsLexeme-some (drop p.at text) form n is_lexeme in (omega (arith, some), omega (arith, some, rest_length p))
  step_within (gives {p = p} {form = form} {n = n} is_lexeme e) =
      let some = IsLexeme-some (drop p.at text) form n is_lexeme in (omega (arith, some), omega (arith, some, rest_length p))

  pub move-fault : {p : Point} {wrong : Fault} → IsFaultAt text p wrong → move text p ≡ Err wrong
  unfolding move
  move-fault {p = p} (formless inside none) =
      ap (outcome_of text p) (lexeme_at-formless (drop p.at text) (omega (arith, rest_length p)) none)
  move-fault {p = p} (faulty {form = form} {n = n} is_lexeme e) =
      ap (outcome_of text p) (lexeme_at-is (drop p.at text) form n is_lexeme) ∙ ap (outcome text p n) e

  pub fault_within : {p : Point} {wrong : Fault} → IsFaultAt text p wrong → p.at < length text
  fault_within {p = p} (formless inside none) = inside
  fault_within {p = p} (faulty {form = form} {n = n} is_lexeme e) =
      let some = IsLexeme-some (drop p.at text) form n is_lexeme in omega (arith, some, rest_length p)

  -- the point is no fault, or one
  abbrev pub Goes : Point → Result Point Fault → Type 0
  Goes p (Ok q) = LexemeStep text p q
  Goes p (Err wrong) = IsFaultAt text p wrong

  goes_by : (p : Point) (q : Lexeme) → IsLexeme (drop p.at text) q.form q.length → (e : Effect) → effect_at text p q.form q.length ≡ e → Goes p (outcome text p q.length e)
  goes_by p q is_lexeme (Skip mode) e = skips is_lexeme e
  goes_by p q is_lexeme (Give kind mode) e = gives is_lexeme e
  goes_by p q is_lexeme (Fail wrong) e = faulty is_lexeme e

  goes_from : (p : Point) → p.at < length text → (found : Option Lexeme) → lexeme_at (drop p.at text) ≡ found → Goes p (outcome_of text p found)
  goes_from p inside None e = formless inside (formless_from (drop p.at text) e)
  goes_from p inside (Some q) e = goes_by p q (IsLexeme-found (drop p.at text) q (omega (arith, rest_length p)) e) (effect_at text p q.form q.length) refl

  pub goes : (p : Point) → p.at < length text → Goes p (move text p)
  unfolding move
  goes p inside = goes_from p inside (lexeme_at (drop p.at text)) refl

  -- nothing leads on from a point
  abbrev pub IsLast : Point → Type 0
  IsLast p = (q : Point) → LexemeStep text p q → ⊥

  pub last_at_end : (p : Point) → p.at ≡ length text → IsLast p
  last_at_end p e q step = let w = step_within step in omega (arith, w)

  pub last_at_fault : (p : Point) (wrong : Fault) → IsFaultAt text p wrong → IsLast p
  last_at_fault p wrong f q step = cc (move-fault f, move-step step)

  one_step : {p q r : Point} → LexemeStep text p q → LexemeStep text p r → q ≡ r
  one_step s t = let a = move-step s in let b = move-step t in cc

  -- two ways to a last point are one
  pub one_way : {p q r : Point} → Leads text p q → Leads text p r → IsLast q → IsLast r → q ≡ r
  one_way here here last_q last_r = refl
  one_way here (on s l) last_q last_r = absurd (last_q _ s)
  one_way (on s l) here last_q last_r = absurd (last_r _ s)
  one_way {r = r} (on s l) (on t k) last_q last_r = one_way l (subst (λ x. Leads text x r) (one_step t s) k) last_q last_r

  pub leads_on : {p q r : Point} → Leads text p q → LexemeStep text q r → Leads text p r
  leads_on here s = on s here
  leads_on (on t l) s = on t (leads_on l s)

  pub leads_within : {p q : Point} → Leads text p q → p.at ≤ q.at
  leads_within here = omega arith
  leads_within (on s l) = omega (arith, step_within s, leads_within l)
