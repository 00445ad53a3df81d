-- The place of a refusal: some program begins with the tokens before it, and none with its own token too.
use Rattle.std.proofs.Common.{◌≡◌, ℕ, zero, suc, ◌+◌, ◌-◌, ◌<◌, ◌≤◌, List, [], ◌∷◌, ◌++◌, length, map, take, drop, append_assoc, refl, sym, ap, ◌∙◌, subst, arith}
use Rattle.std.proofs.Math.Seq.{take-append-add}
use Rattle.std.proofs.lemmas.List.{take-append-le, take-append-drop, length-append, map-append}
use Rattle.os_ast.specs.Fronts.{Begun, kinds_of, IsPlace}
use Rattle.os_ast.specs.Means as means
use Rattle.os_ast.specs.Means.{Placed, placed, Fit, placed_from, Means}
use Rattle.os_ast.specs.Spelling.{Symbol, bare, marked, kind_of, symbols}
use Rattle.os_ast.specs.Trees.{ProgramTree}
use Rattle.os_lexer.specs.declared.token.Kind.{Kind}
use Rattle.os_lexer.specs.declared.token.Token.{Token}
use Rattle.os_parser_grammar.specs.Reading.{Read, Reader, got, fails}
use Rattle.os_parser_grammar.specs.Statements.{inner, program}
use Rattle.os_parser_grammar.proofs.BackPrograms.{back-program}
use Rattle.os_parser_grammar.proofs.Programs.{whole}
use Rattle.os_parser_grammar.proofs.Tokens.{length-placed_from}
use Rattle.os_parser_completions.specs.Completions.{kind_in}
use Rattle.os_parser_completions.proofs.FrontOfRefusal as completions
use Rattle.os_parser_places.proofs.Alike.{Alike, last, more, left, flat}
use Rattle.os_parser_places.proofs.PairStmts.{pair-program}
use Rattle.os_parser_places.proofs.Pairs.{Pair, Goes, past}

-- tokens that a spelling is of
abbrev tokens_of : List Symbol → List Placed
tokens_of [] = []
tokens_of (bare k ∷ ps) = placed k (record { place = 0; line = 0 }) ∷ tokens_of ps
tokens_of (marked k m ∷ ps) = placed k m ∷ tokens_of ps

fit-tokens : (ps : List Symbol) → Fit ps (tokens_of ps)
fit-tokens [] = means.none
fit-tokens (bare k ∷ ps) = means.bare (fit-tokens ps)
fit-tokens (marked k m ∷ ps) = means.marked (fit-tokens ps)

kinds-tokens : (ps : List Symbol) → map kind_in (tokens_of ps) ≡ map kind_of ps
kinds-tokens [] = refl
kinds-tokens (bare k ∷ ps) = ap (λ ks. k ∷ ks) (kinds-tokens ps)
kinds-tokens (marked k m ∷ ps) = ap (λ ks. k ∷ ks) (kinds-tokens ps)

record Other (xs ts us : List Placed) : Type 0 where
  ys : List Placed
  many : ℕ
  alike : Alike xs ys many ts us

-- tokens whose kinds begin alike
alike-made : (front : List Placed) (t : Placed) (xs us : List Placed) (ks : List Kind) → map kind_in us ≡ map kind_in front ++ kind_in t ∷ ks →
    Other xs (front ++ t ∷ xs) us
alike-made [] t xs [] ks e = absurd (cc e)
alike-made [] (placed k m) xs (placed l n ∷ us) ks e =
    let same : k ≡ l = cc e in
    record { ys = us; many = 0; alike = subst (λ z. Alike xs us 0 (placed k m ∷ xs) (placed z n ∷ us)) same last }
alike-made (f ∷ front) t xs [] ks e = absurd (cc e)
alike-made (placed k m ∷ front) t xs (placed l n ∷ us) ks e =
    let same : k ≡ l = cc e in
    let rest : map kind_in us ≡ map kind_in front ++ kind_in t ∷ ks = cc e in
    let o = alike-made front t xs us ks rest in
    record { ys = o.ys; many = suc o.many; alike = subst (λ z. Alike xs o.ys (suc o.many) (placed k m ∷ front ++ t ∷ xs) (placed z n ∷ us)) same (more o.alike) }

clash : {A : Type 0} {S : A → ℕ} {xs ys : List Placed} {k d : ℕ} {t : Placed} {y : A} {vs : List Placed} → Goes S xs ys k d (fails (t ∷ xs)) (got y vs) → ⊥
clash (past h) = absurd (omega (arith, h))

-- where a reader refuses a token, it gives nothing of any tokens that begin alike
refused-alike : {A : Type 0} {S : A → ℕ} (r : Reader A) → Pair S 0 r r → (front : List Placed) (t : Placed) (xs : List Placed) → r (front ++ t ∷ xs) ≡ fails (t ∷ xs) →
    (ps : List Symbol) (ks : List Kind) → map kind_of ps ≡ map kind_in front ++ kind_in t ∷ ks → (y : A) (vs : List Placed) → r (tokens_of ps) ≡ got y vs → ⊥
refused-alike {S = S} r p front t xs fail ps ks e y vs read =
    let o = alike-made front t xs (tokens_of ps) ks (kinds-tokens ps ∙ e) in
    let g : Goes S xs o.ys 0 o.many (r (front ++ t ∷ xs)) (r (tokens_of ps)) = p.goes o.alike in
    let h : Goes S xs o.ys 0 o.many (fails (t ∷ xs)) (r (tokens_of ps)) = subst (λ z. Goes S xs o.ys 0 o.many z (r (tokens_of ps))) fail g in
    clash (subst (λ z. Goes S xs o.ys 0 o.many (fails (t ∷ xs)) z) read h)

kinds-placed : (k : ℕ) (tokens : List Token) → map kind_in (placed_from k tokens) ≡ kinds_of tokens
kinds-placed k [] = refl
kinds-placed k (t ∷ ts) = ap (λ ks. t.kind ∷ ks) (kinds-placed (suc k) ts)

length-kinds : (ts : List Placed) → length (map kind_in ts) ≡ length ts
length-kinds [] = refl
length-kinds (t ∷ ts) = ap suc (length-kinds ts)

-- a front of what is begun is begun
pub begun-front : (n : ℕ) (kinds : List Kind) → Begun kinds → Begun (take n kinds)
begun-front n kinds b = record {
  whole = b.whole;
  leveled = b.leveled;
  more = drop n kinds ++ b.more;
  spelled = b.spelled ∙ ap (λ ks. ks ++ b.more) (sym (take-append-drop n kinds)) ∙ append_assoc (take n kinds) (drop n kinds) b.more;
}

program-none : (front : List Placed) (t : Placed) (xs : List Placed) → program (inner 199) (front ++ t ∷ xs) ≡ fails (t ∷ xs) →
    Begun (map kind_in front ++ kind_in t ∷ []) → ⊥
program-none front t xs fail b =
    let ps = symbols b.whole in
    let r = back-program 199 (tokens_of ps) b.leveled.items b.leveled.depth (fit-tokens ps) in
    refused-alike {S = flat} (program (inner 199)) (pair-program 199) front t xs fail ps b.more
    (b.spelled ∙ append_assoc (map kind_in front) (kind_in t ∷ []) b.more) b.whole r.rest r.read

-- all that is said of a front and the rest
place-of : (tokens : List Token) (front rest : List Placed) → placed_from 0 tokens ≡ front ++ rest → program (inner 199) (front ++ rest) ≡ fails rest →
    Begun (map kind_in front) → IsPlace tokens (length front)
place-of tokens front [] e fail b =
    let kinds : kinds_of tokens ≡ map kind_in front ++ [] = sym (kinds-placed 0 tokens) ∙ ap (map kind_in) e ∙ map-append kind_in front [] in
    let many : length tokens ≡ length front + 0 = sym (length-placed_from 0 tokens) ∙ ap length e ∙ length-append front [] in
    record {
      within = omega (arith, many);
      before = λ p less. subst Begun (sym (ap (take (suc p)) kinds ∙ take-append-le (suc p) (map kind_in front) [] (omega (arith, less, length-kinds front)))) (begun-front (suc p) (map kind_in front) b);
      refused = λ less c. absurd (omega (arith, less, many));
    }
place-of tokens front (t ∷ xs) e fail b =
    let kinds : kinds_of tokens ≡ map kind_in front ++ map kind_in (t ∷ xs) = sym (kinds-placed 0 tokens) ∙ ap (map kind_in) e ∙ map-append kind_in front (t ∷ xs) in
    let many : length tokens ≡ length front + suc (length xs) = sym (length-placed_from 0 tokens) ∙ ap length e ∙ length-append front (t ∷ xs) in
    let next : suc (length front) ≡ length (map kind_in front) + 1 = omega (arith, length-kinds front) in
    record {
      within = omega (arith, many);
      before = λ p less. subst Begun (sym (ap (take (suc p)) kinds ∙ take-append-le (suc p) (map kind_in front) (map kind_in (t ∷ xs)) (omega (arith, less, length-kinds front)))) (begun-front (suc p) (map kind_in front) b);
      refused = λ less c. program-none front t xs fail (subst Begun
          (ap (λ n. take n (kinds_of tokens)) next ∙ ap (take (length (map kind_in front) + 1)) kinds ∙ take-append-add (map kind_in front) (map kind_in (t ∷ xs)) 1) c);
    }

pub place : (tokens : List Token) (rest : List Placed) → program (inner 199) (placed_from 0 tokens) ≡ fails rest → IsPlace tokens (length tokens - length rest)
place tokens rest fail =
    let b = completions.front (placed_from 0 tokens) rest fail in
    let front = b.0 in
    let many : length tokens ≡ length front + length rest = sym (length-placed_from 0 tokens) ∙ ap length b.1 ∙ length-append front rest in
    let at : length front ≡ length tokens - length rest = omega (arith, many) in
    subst (IsPlace tokens) at (place-of tokens front rest b.1 (subst (λ ts. program (inner 199) ts ≡ fails rest) b.1 fail) b.2)

before-other : (tokens : List Token) (p q : ℕ) → IsPlace tokens p → IsPlace tokens q → p < q → ⊥
before-other tokens p q a b less = a.refused (omega (arith, less, b.within)) (b.before p less)

one-by : (p q : ℕ) → (p < q → ⊥) → (q < p → ⊥) → p ≡ q
one-by zero zero f g = refl
one-by zero (suc q) f g = absurd (f (omega arith))
one-by (suc p) zero f g = absurd (g (omega arith))
one-by (suc p) (suc q) f g = ap suc (one-by p q (λ h. f (omega (arith, h))) (λ h. g (omega (arith, h))))

pub one : (tokens : List Token) (p q : ℕ) → IsPlace tokens p → IsPlace tokens q → p ≡ q
one tokens p q a b = one-by p q (before-other tokens p q a b) (before-other tokens q p b a)

-- no more tokens are left than there were
pub rest-within : (tokens : List Token) (rest : List Placed) → program (inner 199) (placed_from 0 tokens) ≡ fails rest → length rest ≤ length tokens
rest-within tokens rest fail =
    let small = (pair-program 199).small (placed_from 0 tokens) in
    let h : length rest ≤ length (placed_from 0 tokens) = subst (λ r. left r ≤ length (placed_from 0 tokens)) fail small in
    omega (arith, h, length-placed_from 0 tokens)

somewhere-by : (tokens : List Token) (r : Read ProgramTree) → program (inner 199) (placed_from 0 tokens) ≡ r → ((p : ProgramTree) → Means tokens p → ⊥) →
    (n : ℕ) × IsPlace tokens n
somewhere-by tokens (got p rest) e none = absurd (none p (whole tokens p rest e))
somewhere-by tokens (fails rest) e none = (length tokens - length rest, place tokens rest e)

-- tokens that mean no program have a place of refusal
pub somewhere : (tokens : List Token) → ((p : ProgramTree) → Means tokens p → ⊥) → (n : ℕ) × IsPlace tokens n
somewhere tokens none = somewhere-by tokens (program (inner 199) (placed_from 0 tokens)) refl none
