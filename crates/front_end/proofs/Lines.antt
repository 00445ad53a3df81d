-- A violation has the line of its token, so that the least one has one line.
use Rattle.std.proofs.Common.{◌≡◌, ℕ, suc, ◌+◌, ◌<◌, ◌≤◌, ◌⊎◌, inl, inr, Bool, true, false, List, [], ◌∷◌, length, map, All, Some, refl, ap, ◌∙◌, sym, subst, arith, zero-add}
use Rattle.std.specs.Prelude.{slice_get, get_or}
use Rattle.std.proofs.lemmas.List.{length-map}
use Rattle.std.proofs.lemmas.List.Elements.{All-append, All-cons, All-contains, All-nil}
use Rattle.std.proofs.lemmas.Option.{slice_get-get_or}
use Rattle.os_ast.specs.Codes.{code}
use Rattle.os_ast.specs.Marks.{HasMark, IsMarkOf}
use Rattle.os_ast.specs.Means.{Means}
use Rattle.os_ast.specs.Notes.Kinds.{Note, mark_of}
use Rattle.os_ast.specs.Notes.Programs.{file, program_notes}
use Rattle.os_ast.specs.Rules.{broken}
use Rattle.os_ast.specs.Spelling.{Symbol, bare, kind_of, marked, symbols, spell}
use Rattle.os_ast.specs.Trees.{ProgramTree}
use Rattle.os_ast.specs.Violations.{IsNotAbove, IsRefusal, earlier, violations_of, violations_at, has_main, no_main, same_place, violated, violations}
use Rattle.os_ast.specs.declared.expr.Mark.{Mark}
use Rattle.os_ast.specs.declared.violation.Violation.{Violation}
use Rattle.os_lexer.specs.declared.token.Kind.TheVariants as kind
use Rattle.os_lexer.specs.declared.token.Token.{Token}
use Rattle.window_check_laws.proofs.Placed.{AreOf, HasKept, of-program}
use Rattle.os_ast.specs.declared.rule.Rule.{Rule}
use Rattle.os_ast.specs.declared.rule.Rule.TheVariants as rule

one_on : (from i : ℕ) → from + suc i ≡ suc from + i
one_on from i = omega arith

module _ (tokens : List Token) where
  -- there is a token at the place, and the line is its line
  record IsLineAt (place line : ℕ) : Type 0 where
    within : place < length tokens
    line_is : (token : Token) → slice_get tokens place ≡ Some token → line ≡ token.line

  abbrev Stands : Mark → Type 0
  Stands m = IsLineAt m.place m.line

  -- a violation stands at a token, or behind all of them
  abbrev IsLined : Violation → Type 0
  IsLined v = IsLineAt v.place v.line ⊎ ((v.place ≡ length tokens) × (v.line ≡ 1))

  marks_stand : (ps : List Symbol) (from : ℕ) → from + length ps ≤ length tokens
      → ((i : ℕ) (m : Mark) → HasMark ps i m → IsMarkOf tokens (from + i) m) → HasKept Stands ps
  marks_stand [] from h f = tt
  marks_stand (bare k ∷ ps) from h f =
      marks_stand ps (suc from) (omega (arith, h)) (λ i m is. subst (λ n. IsMarkOf tokens n m) (one_on from i) (f (suc i) m is))
  marks_stand (marked k m ∷ ps) from h f = (
    record { within = omega (arith, h, own.place); line_is = λ token at. own.line token (ap (slice_get tokens) (sym own.place) ∙ at) },
    marks_stand ps (suc from) (omega (arith, h)) (λ i q is. subst (λ n. IsMarkOf tokens n q) (one_on from i) (f (suc i) q is)),
  )
    where
      own : IsMarkOf tokens (from + 0) m
      own = f 0 m (k, refl)

  lined_at : (m : Mark) (rs : List Rule) → Stands m → All IsLined (violations_at m rs)
  lined_at m [] h = All-nil IsLined
  lined_at m (r ∷ rs) h = All-cons IsLined (violated m.place r m.line) (violations_at m rs) (inl h) (lined_at m rs h)

  all_lined : (ns : List Note) → AreOf Stands ns → All IsLined (violations_of ns)
  all_lined [] h = All-nil IsLined
  all_lined (n ∷ ns) h = All-append IsLined (violations_at (mark_of n) (broken n)) (violations_of ns) (lined_at (mark_of n) (broken n) h.0) (all_lined ns h.1)

  -- two violations at one place have one line
  one_line : (v w : Violation) → IsLined v → IsLined w → v.place ≡ w.place → v.line ≡ w.line
  one_line v w (inl a) (inl b) same =
      let token = get_or tokens v.place (record { kind = kind.PragmaEnd; start = 0; end = 0; line = 0 }) in
      let at : slice_get tokens v.place ≡ Some token = slice_get-get_or tokens v.place _ a.within in
      a.line_is token at ∙ sym (b.line_is token (ap (slice_get tokens) (sym same) ∙ at))
  one_line v w (inl a) (inr b) same = absurd (omega (arith, a.within, b.0, same))
  one_line v w (inr a) (inl b) same = absurd (omega (arith, a.0, b.within, same))
  one_line v w (inr a) (inr b) same = a.1 ∙ sym b.1

-- what the marks and kinds of a program's tokens are, as a law of the trees says
abbrev pub MarksAreOfTokens : Type 0
MarksAreOfTokens = (tokens : List Token) (p : ProgramTree) (place : ℕ) (mark : Mark) → Means tokens p → HasMark (symbols p) place mark
    → IsMarkOf tokens place mark

abbrev pub KindsAreSpelled : Type 0
KindsAreSpelled = (tokens : List Token) (p : ProgramTree) → Means tokens p → spell p ≡ map (λ (t : Token). t.kind) tokens

module _ (marks : MarksAreOfTokens) (kinds : KindsAreSpelled) (tokens : List Token) (p : ProgramTree) (means : Means tokens p) where
  as_long : length (spell p) ≡ length tokens
  as_long = ap length (kinds tokens p means) ∙ length-map tokens (λ (t : Token). t.kind)

  violations_lined : All (IsLined tokens) (violations p)
  violations_lined =
      All-append (IsLined tokens) (violations_of (program_notes p)) (no_main p)
      (all_lined tokens (program_notes p)
      (of-program (Stands tokens) file p []
      (marks_stand tokens (symbols p) 0 (omega (arith, as_long, length-map (symbols p) kind_of))
      (λ i m is. subst (λ n. IsMarkOf tokens n m) (sym (zero-add i)) (marks tokens p i m means is)))).0)
      (end_lined (has_main p) refl)
    where
      end_lined : (b : Bool) → has_main p ≡ b → All (IsLined tokens) (no_main p)
      end_lined true e = rw e (All-nil (IsLined tokens))
      end_lined false e = rw e (All-cons (IsLined tokens) (violated (length (spell p)) rule.NoMain 1) [] (inr (as_long, refl)) (All-nil (IsLined tokens)))

  same_both : {v w : Violation} → IsNotAbove v w → IsNotAbove w v → (v.place ≡ w.place) × (code v.rule ≡ code w.rule)
  same_both (earlier a) (earlier b) = absurd (omega (arith, a, b))
  same_both (earlier a) (same_place b c) = absurd (omega (arith, a, b))
  same_both (same_place a c) (earlier b) = absurd (omega (arith, a, b))
  same_both (same_place a c) (same_place b d) = (a, omega (arith, c, d))

  -- two least violations are one but for nothing that is told
  pub least_is_one : (v w : Violation) → IsRefusal p v → IsRefusal p w → (code v.rule ≡ code w.rule) × (v.line ≡ w.line)
  least_is_one v w a b =
      let both = same_both
      (All-contains (IsNotAbove v) (violations p) w a.least b.among)
      (All-contains (IsNotAbove w) (violations p) v b.least a.among) in (
        both.1,
        one_line tokens v w (All-contains (IsLined tokens) (violations p) v violations_lined a.among)
            (All-contains (IsLined tokens) (violations p) w violations_lined b.among) both.0,
      )
