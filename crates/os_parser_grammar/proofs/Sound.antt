-- What a reader gives is spelled by the tokens that it took.
use Rattle.std.proofs.Common.{◌≡◌, Bool, true, false, List, [], ◌∷◌, cond, refl, sym, subst}
use Rattle.os_ast.specs.Means as means
use Rattle.os_ast.specs.Means.{Placed, placed, Fit}
use Rattle.os_ast.specs.Spelling as spelling
use Rattle.os_ast.specs.Spelling.{Symbol, Printer, bare, marked}
use Rattle.os_ast.specs.declared.expr.Mark.{Mark}
use Rattle.os_lexer.specs.declared.token.Kind.{Kind}
use Rattle.os_parser_grammar.specs.Reading.{Read, Reader, got, fails, ◌>>=◌, after, mark_at, begins, expect}
use Rattle.os_parser_grammar.proofs.SameKinds.{same-equal}

-- the tokens up to the rest fit what the printer puts in front
abbrev pub Takes : Printer → List Placed → List Placed → Type 0
Takes p ts rest = (ps : List Symbol) → Fit ps rest → Fit (p ps) ts

-- what holds of what was read and of the tokens that are left
abbrev pub Sound : {A : Type 0} → (A → List Placed → Type 0) → Read A → Type 0
Sound P (got x rest) = P x rest
Sound P (fails rest) = Unit {0}

pub sound-then : {A B : Type 0} (P : A → List Placed → Type 0) (Q : B → List Placed → Type 0) (r : Read A) (f : A → Reader B) →
    Sound P r → ((x : A) (rest : List Placed) → P x rest → Sound Q (f x rest)) → Sound Q (r >>= f)
sound-then P Q (got x rest) f h k = k x rest h
sound-then P Q (fails rest) f h k = tt

pub sound-if : {A : Type 0} (P : A → List Placed → Type 0) (b : Bool) (r s : Read A) →
    (b ≡ true → Sound P r) → (b ≡ false → Sound P s) → Sound P (cond b r s)
sound-if P true r s f g = f refl
sound-if P false r s f g = g refl

pub begins-bare : (k : Kind) (ts : List Placed) → begins k ts ≡ true → Takes (spelling.token k) ts (after ts)
begins-bare k [] e = absurd (cc e)
begins-bare k (placed l m ∷ ts) e =
    let is : l ≡ k = same-equal l k e in
    λ ps f. subst (λ x. Fit (bare k ∷ ps) (placed x m ∷ ts)) (sym is) (means.bare f)

pub begins-marked : (k : Kind) (ts : List Placed) → begins k ts ≡ true → Takes (spelling.token_at k (mark_at ts)) ts (after ts)
begins-marked k [] e = absurd (cc e)
begins-marked k (placed l m ∷ ts) e =
    let is : l ≡ k = same-equal l k e in
    λ ps f. subst (λ x. Fit (marked k m ∷ ps) (placed x m ∷ ts)) (sym is) (means.marked f)

-- a token that was expected
pub record Expected (k : Kind) (ts : List Placed) (m : Mark) (rest : List Placed) : Type 0 where
  pub plain : Takes (spelling.token k) ts rest
  pub noted : Takes (spelling.token_at k m) ts rest

pub expect-sound : (k : Kind) (ts : List Placed) → Sound (Expected k ts) (expect k ts)
unfolding expect
expect-sound k ts =
    sound-if (Expected k ts) (begins k ts) _ _
    (λ e. record { plain = begins-bare k ts e; noted = begins-marked k ts e })
    (λ e. tt)
