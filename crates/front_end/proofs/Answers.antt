-- A text has one answer.
use Rattle.std.proofs.Common.{◌≡◌, ℕ, ◌⊎◌, inl, inr, List, [], ◌∷◌, All, Contains, Result, Err, refl, ap, ◌∙◌, sym, subst, arith}
use Rattle.std.proofs.lemmas.List.Elements.{All-cons, All-contains, All-nil}
use Rattle.front_end.proofs.Lines.{KindsAreSpelled, MarksAreOfTokens, least_is_one}
use Rattle.front_end.specs.Codes.{no_program}
use Rattle.front_end.specs.Texts.{AcceptedOrRefused, IsProgramOf, IsAccepted, IsNoProgram, IsRefused, has_fault, is_no_program, has_violation, IsTrueOf, NeverBoth, OneProgram, OneRefusal}
use Rattle.front_end.specs.Told.{HasRule, IsToldViolation, told_fault, told_syntax}
use Rattle.front_end.specs.declared.text_error.TextError.{TextError}
use Rattle.os_ast.specs.Codes.{code as code_of}
use Rattle.os_ast.specs.Fronts.{HasPlace, IsPlace, IsRefusedAt, OnePlace, line_at}
use Rattle.os_ast.specs.Means.{Means, OneReading, placed_from}
use Rattle.os_ast.specs.Trees.{ProgramTree}
use Rattle.os_ast.specs.Violations.{violations, IsNotAbove, IsRefusal}
use Rattle.os_ast.specs.declared.violation.Violation.{Violation}
use Rattle.os_ast.specs.declared.program.Program.{Program}
use Rattle.os_lexer.specs.Answer.{IsFaultOf}
use Rattle.os_lexer.specs.Cover.{IsFirstFault, IsTokenCover}
use Rattle.os_lexer.specs.Laws as laws
use Rattle.os_lexer.specs.declared.fault.LexError.{LexError}
use Rattle.os_lexer.specs.declared.fault.LexError.TheVariants as lex
use Rattle.os_lexer.specs.declared.token.Token.{Token}
use Rattle.os_parser_grammar.proofs.Programs.{never, whole}
use Rattle.os_parser_grammar.specs.Reading.{Read, fails, got}
use Rattle.os_parser_grammar.specs.Statements.{inner, program}
use Rattle.os_parser.specs.declared.parse_error.ParseError.{ParseError}
use Rattle.os_parser.specs.declared.parse_error.ParseError.TheVariants as parse
use Rattle.window_check.proofs.Least.{contains-tail, least-among, least-first, least-others, least_among}
use Rattle.window_check.specs.Refusal.{IsAnswer}
use Rattle.window_check.specs.declared.check_error.CheckError.{CheckError}
use Rattle.window_check.specs.declared.check_error.CheckError.TheVariants as check

-- the tokens of one cover mean what those of the other one do
moved : laws.OneCover → (text : List ℕ) (a b : List Token) (p : ProgramTree) → IsTokenCover text a → IsTokenCover text b → Means b p → Means a p
moved one text a b p x y m = subst (λ (ts : List Token). Means ts p) (one text b a y x) m

same : laws.OneCover → OneReading → (text : List ℕ) (p q : ProgramTree) → IsProgramOf text p → IsProgramOf text q → p ≡ q
same one reading text p q a b = reading a.0 p q a.2 (moved one text a.0 b.0 q a.1 b.1 b.2)

pub one_program : laws.OneCover → OneReading → OneProgram
one_program one reading text p q a b = same one reading text p q a.0 b.0

none : (vs : List Violation) (v : Violation) → vs ≡ [] → Contains vs v → ⊥
none vs v e c = All-contains (λ w. ⊥) [] v (All-nil (λ w. ⊥)) (subst (λ (xs : List Violation). Contains xs v) e c)

pub never_both : laws.OneCover → laws.NeverBoth → OneReading → NeverBoth
never_both one never reading text p code line a (has_fault f) = never text a.0.0 code line a.0.1 f
never_both one never reading text p code line a (is_no_program n) = n.3.none p (moved one text n.0 a.0.0 p n.2 a.0.1 a.0.2)
never_both one never reading text p code line a (has_violation v) =
    none (violations v.0) _ (ap violations (same one reading text v.0 p v.2 a.0) ∙ a.1) v.3.among

-- the tokens of one cover are refused in one line
one_line : laws.OneCover → OnePlace → (text : List ℕ) (line there : ℕ) → IsNoProgram text line → IsNoProgram text there → line ≡ there
one_line one place text line there n m =
    let tokens : n.0 ≡ m.0 = one text n.0 m.0 n.2 m.2 in
    let places : n.1 ≡ m.1 = place m.0 n.1 m.1 (subst (λ ts. IsPlace ts n.1) tokens n.3.at) m.3.at in
    n.3.of_line ∙ ap (λ ts. line_at ts n.1) tokens ∙ ap (line_at m.0) places ∙ sym m.3.of_line

pub one_refusal : MarksAreOfTokens → KindsAreSpelled → laws.OneCover → laws.OneFault → laws.NeverBoth → OneReading → OnePlace → OneRefusal
one_refusal marks kinds one fault never reading place text code line other there (has_fault x) (has_fault y) = fault text code line other there x y
one_refusal marks kinds one fault never reading place text code line other there (has_fault x) (is_no_program n) = absurd (never text n.0 _ _ n.2 x)
one_refusal marks kinds one fault never reading place text code line other there (has_fault x) (has_violation v) = absurd (never text v.2.0 _ _ v.2.1 x)
one_refusal marks kinds one fault never reading place text code line other there (is_no_program n) (has_fault y) = absurd (never text n.0 _ _ n.2 y)
one_refusal marks kinds one fault never reading place text code line other there (is_no_program n) (is_no_program m) =
    (refl, one_line one place text line there n m)
one_refusal marks kinds one fault never reading place text code line other there (is_no_program n) (has_violation v) =
    absurd (n.3.none v.0 (moved one text n.0 v.2.0 v.0 n.2 v.2.1 v.2.2))
one_refusal marks kinds one fault never reading place text code line other there (has_violation v) (has_fault y) = absurd (never text v.2.0 _ _ v.2.1 y)
one_refusal marks kinds one fault never reading place text code line other there (has_violation v) (is_no_program n) =
    absurd (n.3.none v.0 (moved one text n.0 v.2.0 v.0 n.2 v.2.1 v.2.2))
one_refusal marks kinds one fault never reading place text code line other there (has_violation v) (has_violation w) =
    let both = least_is_one marks kinds v.2.0 v.0 v.2.2 v.1 w.1 v.3
    (subst (λ (p : ProgramTree). IsRefusal p w.1) (same one reading text w.0 v.0 w.2 v.2) w.3) in
    (sym v.4 ∙ both.0 ∙ w.4, sym v.5 ∙ both.1 ∙ w.5)

-- tokens mean a program or none
abbrev IsDecided : List Token → Type 0
IsDecided tokens = ((p : ProgramTree) × Means tokens p) ⊎ ((p : ProgramTree) → Means tokens p → ⊥)

decided : (tokens : List Token) → IsDecided tokens
decided tokens = by (program (inner 199) (placed_from 0 tokens)) refl
  where
    by : (r : Read ProgramTree) → program (inner 199) (placed_from 0 tokens) ≡ r → IsDecided tokens
    by (got p rest) is = inl (p, whole tokens p rest is)
    by (fails rest) is = inr (never tokens rest is)

-- a program has a least violation or none
abbrev IsJudged : ProgramTree → Type 0
IsJudged p = (violations p ≡ []) ⊎ ((v : Violation) × IsRefusal p v)

judged : (p : ProgramTree) → IsJudged p
judged p = by (violations p) refl
  where
    among : (u : Violation) (us : List Violation) → (least_among u us ≡ u) ⊎ Contains us (least_among u us) → Contains (u ∷ us) (least_among u us)
    among u us (inl first) = (0, omega arith, sym first)
    among u us (inr other) = contains-tail u (least_among u us) us other

    by : (vs : List Violation) → violations p ≡ vs → IsJudged p
    by [] is = inl is
    by (u ∷ us) is =
        let least = least_among u us in
        inr (
          least,
          record {
            among = subst (λ vs. Contains vs least) (sym is) (among u us (least-among u us));
            least = subst (λ vs. All (IsNotAbove least) vs) (sym is) (All-cons (IsNotAbove least) u us (least-first u us) (least-others u us));
          },
        )

-- a text is accepted or refused
abbrev IsAnswered : List ℕ → Type 0
IsAnswered text = ((q : ProgramTree) × IsAccepted text q) ⊎ ((code : ℕ) × (line : ℕ) × IsRefused text code line)

pub accepted_or_refused : laws.CoverOrFault → HasPlace → AcceptedOrRefused
accepted_or_refused some place text = by_cover (some text)
  where
    by_program : (tokens : List Token) (p : ProgramTree) → IsTokenCover text tokens → Means tokens p → IsJudged p → IsAnswered text
    by_program tokens p cover means (inl none) = inl (p, ((tokens, cover, means), none))
    by_program tokens p cover means (inr (v, least)) = inr (code_of v.rule, v.line, has_violation (p, v, (tokens, cover, means), least, refl, refl))

    by_tokens : (tokens : List Token) → IsTokenCover text tokens → IsDecided tokens → IsAnswered text
    by_tokens tokens cover (inl (p, means)) = by_program tokens p cover means (judged p)
    by_tokens tokens cover (inr none) =
        let at = place tokens none in
        inr (no_program, line_at tokens at.0, is_no_program (tokens, at.0, cover, record { none = none; at = at.1; of_line = refl }))

    by_cover : ((tokens : List Token) × IsTokenCover text tokens) ⊎ ((code : ℕ) × (line : ℕ) × IsFirstFault text code line) → IsAnswered text
    by_cover (inl (tokens, cover)) = by_tokens tokens cover (decided tokens)
    by_cover (inr (code, line, fault)) = inr (code, line, has_fault fault)

-- what each stop answers is true of the text
pub true_fault : (text : List ℕ) (e : LexError) → IsFaultOf text e → IsTrueOf text (told_fault e)
true_fault text (lex.BadByte line) h = has_fault h
true_fault text (lex.OpenComment line) h = has_fault h
true_fault text (lex.BigNumber line) h = has_fault h
true_fault text lex.Memory h = tt

pub true_syntax : (text : List ℕ) (tokens : List Token) (r : Result Program ParseError) (e : ParseError) → IsTokenCover text tokens → r ≡ Err e →
    ((place line : ℕ) → r ≡ Err (parse.Syntax place line) → IsRefusedAt tokens place line) → IsTrueOf text (told_syntax e)
true_syntax text tokens r (parse.Syntax place line) cover is refused = is_no_program (tokens, place, cover, refused place line is)
true_syntax text tokens r parse.Memory cover is refused = tt

-- what a program is refused for has the code of a rule
pub has_rule : (p : ProgramTree) (e : CheckError) → IsAnswer p e → HasRule e
has_rule p (check.Fault code line) h = (h.0.rule, h.2)
has_rule p check.Memory h = tt

pub true_violation : (text : List ℕ) (p : ProgramTree) (e : CheckError) (told : TextError) → IsProgramOf text p → IsAnswer p e
    → IsToldViolation e told → IsTrueOf text told
true_violation text p (check.Fault code line) told means h is =
    subst (λ (error : TextError). IsTrueOf text error) (sym is.2) (has_violation (p, h.0, means, h.1, h.2 ∙ sym is.1, h.3))
true_violation text p check.Memory told means h is = subst (λ (error : TextError). IsTrueOf text error) (sym is) tt
