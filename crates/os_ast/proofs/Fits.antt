-- What it says, place by place, that a spelling fits the tokens.
use Rattle.std.proofs.Common.{◌≡◌, ℕ, zero, suc, ◌+◌, List, [], ◌∷◌, Some, refl, sym, ap, ◌∙◌, subst, arith, map, add-zero}
use Rattle.std.specs.List.{slice_get}
use Rattle.os_ast.specs.Leveled.{IsLeveled}
use Rattle.os_ast.specs.Marks.{HasMark, IsMarkOf}
use Rattle.os_ast.specs.Means as means
use Rattle.os_ast.specs.Means.{Fit, Means, placed_from, placed, Placed}
use Rattle.os_ast.specs.Spelling.{Symbol, bare, marked, kind_of, symbols, spell}
use Rattle.os_ast.specs.Trees.{ProgramTree}
use Rattle.os_ast.specs.declared.expr.Mark.{Mark}
use Rattle.os_lexer.specs.declared.token.Kind.{Kind}
use Rattle.os_lexer.specs.declared.token.Token.{Token}

fit-kinds : {ps : List Symbol} (k : ℕ) (ts : List Token) → Fit ps (placed_from k ts) → map kind_of ps ≡ map (λ (t : Token). t.kind) ts
fit-kinds k [] means.none = refl
fit-kinds k (t ∷ ts) (means.bare f) = ap (λ ks. t.kind ∷ ks) (fit-kinds (suc k) ts f)
fit-kinds k (t ∷ ts) (means.marked f) = ap (λ ks. t.kind ∷ ks) (fit-kinds (suc k) ts f)

-- a mark counted from a place on
record IsMarkFrom (k : ℕ) (tokens : List Token) (i : ℕ) (mark : Mark) : Type 0 where
  pub place : mark.place ≡ k + i
  pub line : (token : Token) → slice_get tokens i ≡ Some token → mark.line ≡ token.line

fit-marks : {ps : List Symbol} (k : ℕ) (ts : List Token) → Fit ps (placed_from k ts) → (i : ℕ) (m : Mark) (kind : Kind) →
    slice_get ps i ≡ Some (marked kind m) → IsMarkFrom k ts i m
fit-marks k [] means.none i m kind e = absurd (cc e)
fit-marks k (t ∷ ts) (means.bare f) zero m kind e = absurd (cc e)
fit-marks k (t ∷ ts) (means.bare f) (suc i) m kind e =
    let h = fit-marks (suc k) ts f i m kind e in
    record { place = omega (arith, h.place); line = h.line }
fit-marks k (t ∷ ts) (means.marked f) zero m kind e =
    let same : ◌≡◌ {A = Mark} (record { place = k; line = t.line }) m = cc e in
    record {
      place = sym (ap (λ (n : Mark). n.place) same) ∙ sym (add-zero k);
      line = λ u is. let this : t ≡ u = cc is in sym (ap (λ (n : Mark). n.line) same) ∙ ap (λ (v : Token). v.line) this;
    }
fit-marks k (t ∷ ts) (means.marked f) (suc i) m kind e =
    let h = fit-marks (suc k) ts f i m kind e in
    record { place = omega (arith, h.place); line = h.line }

fit-made : (k : ℕ) (ps : List Symbol) (ts : List Token) → map kind_of ps ≡ map (λ (t : Token). t.kind) ts →
    ((i : ℕ) (m : Mark) (kind : Kind) → slice_get ps i ≡ Some (marked kind m) → IsMarkFrom k ts i m) →
    Fit ps (placed_from k ts)
fit-made k [] [] e marks = means.none
fit-made k [] (t ∷ ts) e marks = absurd (cc e)
fit-made k (p ∷ ps) [] e marks = absurd (cc e)
fit-made k (bare kind ∷ ps) (t ∷ ts) e marks =
    let same : kind ≡ t.kind = cc e in
    let rest : map kind_of ps ≡ map (λ (t : Token). t.kind) ts = cc e in
    let here : Mark = record { place = k; line = t.line } in
    subst (λ c. Fit (bare kind ∷ ps) (placed c here ∷ placed_from (suc k) ts)) same
    (means.bare (fit-made (suc k) ps ts rest
    (λ i m c is. let h = marks (suc i) m c is in record { place = omega (arith, h.place); line = h.line })))
fit-made k (marked kind m ∷ ps) (t ∷ ts) e marks =
    let same : kind ≡ t.kind = cc e in
    let rest : map kind_of ps ≡ map (λ (t : Token). t.kind) ts = cc e in
    let h = marks zero m kind refl in
    let p : m.place ≡ k = h.place ∙ add-zero k in
    let q : m.line ≡ t.line = h.line t refl in
    let here : m ≡ record { place = k; line = t.line } = λ j. record { place = p j; line = q j } in
    subst (λ c. Fit (marked kind m ∷ ps) (placed c (record { place = k; line = t.line }) ∷ placed_from (suc k) ts)) same
    (subst (λ n. Fit (marked kind m ∷ ps) (placed kind n ∷ placed_from (suc k) ts)) here
    (means.marked (fit-made (suc k) ps ts rest
    (λ i n c is. let r = marks (suc i) n c is in record { place = omega (arith, r.place); line = r.line }))))

pub means-kinds : (tokens : List Token) (p : ProgramTree) → Means tokens p → spell p ≡ map (λ (t : Token). t.kind) tokens
means-kinds tokens p h = fit-kinds 0 tokens h.spelled

pub means-marks : (tokens : List Token) (p : ProgramTree) (place : ℕ) (mark : Mark) →
    Means tokens p → HasMark (symbols p) place mark → IsMarkOf tokens place mark
means-marks tokens p place mark h has =
    let from = fit-marks 0 tokens h.spelled place mark has.0 has.1 in
    record { place = omega (arith, from.place); line = from.line }

pub means-made : (tokens : List Token) (p : ProgramTree) → IsLeveled p →
    spell p ≡ map (λ (t : Token). t.kind) tokens →
    ((place : ℕ) (mark : Mark) → HasMark (symbols p) place mark → IsMarkOf tokens place mark) →
    Means tokens p
means-made tokens p leveled spelled marks = record {
  leveled = leveled;
  spelled = fit-made 0 (symbols p) tokens spelled
      (λ i m kind is. let h = marks i m (kind, is) in record { place = omega (arith, h.place); line = h.line });
}

-- the symbols with the kinds and marks of the tokens in place of their own
unfoldable pub replaced : List Symbol → List Placed → List Symbol
replaced [] [] = []
replaced [] (placed k m ∷ ts) = bare k ∷ []
replaced (p ∷ ps) [] = []
replaced (bare k ∷ ps) (placed l n ∷ ts) = bare l ∷ replaced ps ts
replaced (marked k m ∷ ps) (placed l n ∷ ts) = marked l n ∷ replaced ps ts

-- for a spelling and tokens that are written out
pub fit-computed : (ps : List Symbol) (ts : List Placed) → ps ≡ replaced ps ts → Fit ps ts
unfolding replaced
fit-computed [] [] same = means.none
fit-computed [] (placed k m ∷ ts) same = absurd (cc same)
fit-computed (p ∷ ps) [] same = absurd (cc same)
fit-computed (bare k ∷ ps) (placed l n ∷ ts) same =
    let kind : k ≡ l = cc same in
    let rest : ps ≡ replaced ps ts = cc same in
    subst (λ c. Fit (bare k ∷ ps) (placed c n ∷ ts)) kind (means.bare (fit-computed ps ts rest))
fit-computed (marked k m ∷ ps) (placed l n ∷ ts) same =
    let kind : k ≡ l = cc same in
    let mark : m ≡ n = cc same in
    let rest : ps ≡ replaced ps ts = cc same in
    subst (λ c. Fit (marked k m ∷ ps) (placed c n ∷ ts)) kind
    (subst (λ n. Fit (marked k m ∷ ps) (placed k n ∷ ts)) mark (means.marked (fit-computed ps ts rest)))
