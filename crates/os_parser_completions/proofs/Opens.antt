-- Symbols that fit the tokens up to where they were refused.
use Rattle.std.proofs.Common.{◌≡◌, Bool, true, false, List, [], ◌∷◌, ◌++◌, cond, refl, sym, ap, subst}
use Rattle.os_ast.specs.Means as means
use Rattle.os_ast.specs.Means.{Placed, placed, Fit}
use Rattle.os_ast.specs.Spelling as spelling
use Rattle.os_ast.specs.Spelling.{Symbol, Printer, bare, marked}
use Rattle.os_ast.specs.declared.expr.Mark.{Mark}
use Rattle.os_lexer.specs.declared.token.Kind.{Kind}
use Rattle.os_ast.proofs.Prints.{Prints}
use Rattle.os_parser_grammar.specs.Reading.{Read, Reader, got, fails, ◌>>=◌, after, mark_at, begins, expect}
use Rattle.os_parser_grammar.proofs.SameKinds.{same-equal}
use Rattle.os_parser_grammar.proofs.Sound.{Takes, Sound, Expected, expect-sound}

-- the symbols fit the tokens, one by one, up to the rest
pub data Opens : List Symbol → List Placed → List Placed → Type 0 where
  here : {ps : List Symbol} {ts : List Placed} → Opens ps ts ts
  plain : {k : Kind} {m : Mark} {ps : List Symbol} {ts rest : List Placed} → Opens ps ts rest → Opens (bare k ∷ ps) (placed k m ∷ ts) rest
  noted : {k : Kind} {m : Mark} {ps : List Symbol} {ts rest : List Placed} → Opens ps ts rest → Opens (marked k m ∷ ps) (placed k m ∷ ts) rest

-- whatever the printer stands before
abbrev pub OpensAll : Printer → List Placed → List Placed → Type 0
OpensAll p ts rest = (ps : List Symbol) → Opens (p ps) ts rest

abbrev pub marks_of : List Placed → List Symbol
marks_of [] = []
marks_of (placed k m ∷ ts) = marked k m ∷ marks_of ts

pub fit-marks_of : (ts : List Placed) → Fit (marks_of ts) ts
fit-marks_of [] = means.none
fit-marks_of (placed k m ∷ ts) = means.marked (fit-marks_of ts)

pub fit-same : (us ts : List Placed) → Fit (marks_of us) ts → ts ≡ us
fit-same [] [] means.none = refl
fit-same [] (_ ∷ ts) f = elim f [ ]
fit-same (placed k m ∷ us) [] f = elim f [ ]
fit-same (placed k m ∷ us) (placed l n ∷ ts) (means.marked f) = ap (λ xs. placed k m ∷ xs) (fit-same us ts f)

opens-front : (qs : List Symbol) (ts us rest : List Placed) (s : List Symbol) → Fit (qs ++ marks_of us) ts → Opens s us rest → Opens (qs ++ s) ts rest
opens-front [] ts us rest s f o = subst (λ xs. Opens s xs rest) (sym (fit-same us ts f)) o
opens-front (bare k ∷ qs) [] us rest s f o = elim f [ ]
opens-front (marked k m ∷ qs) [] us rest s f o = elim f [ ]
opens-front (bare k ∷ qs) (placed l n ∷ ts) us rest s (means.bare f) o = plain (opens-front qs ts us rest s f o)
opens-front (marked k m ∷ qs) (placed l n ∷ ts) us rest s (means.marked f) o = noted (opens-front qs ts us rest s f o)

pub takes-opens : (p : Printer) {ts us rest : List Placed} {s : List Symbol} → Prints p → Takes p ts us → Opens s us rest → Opens (p s) ts rest
takes-opens p {ts} {us} {rest} {s} prints takes o =
    let f : Fit (p [] ++ marks_of us) ts = subst (λ ps. Fit ps ts) (prints.in_front (marks_of us)) (takes (marks_of us) (fit-marks_of us)) in
    subst (λ ps. Opens ps ts rest) (sym (prints.in_front s)) (opens-front (p []) ts us rest s f o)

pub prints_token : {k : Kind} → Prints (spelling.token k)
prints_token = record { in_front = λ rest. refl }

pub prints_mark : {k : Kind} {m : Mark} → Prints (spelling.token_at k m)
prints_mark = record { in_front = λ rest. refl }

pub opens-bare : (k : Kind) (ts : List Placed) {rest : List Placed} {s : List Symbol} → begins k ts ≡ true → Opens s (after ts) rest → Opens (bare k ∷ s) ts rest
opens-bare k [] e o = absurd (cc e)
opens-bare k (placed l m ∷ ts) {rest} {s} e o =
    let is : l ≡ k = same-equal l k e in
    subst (λ x. Opens (bare k ∷ s) (placed x m ∷ ts) rest) (sym is) (plain o)

pub opens-marked : (k : Kind) (ts : List Placed) {rest : List Placed} {s : List Symbol} → begins k ts ≡ true → Opens s (after ts) rest → Opens (marked k (mark_at ts) ∷ s) ts rest
opens-marked k [] e o = absurd (cc e)
opens-marked k (placed l m ∷ ts) {rest} {s} e o =
    let is : l ≡ k = same-equal l k e in
    subst (λ x. Opens (marked k m ∷ s) (placed x m ∷ ts) rest) (sym is) (noted o)

-- what holds of the tokens from the one that was refused on
abbrev pub Refused : {A : Type 0} → (List Placed → Type 0) → Read A → Type 0
Refused F (got x rest) = Unit {0}
Refused F (fails rest) = F rest

pub refused-then : {A B : Type 0} (P : A → List Placed → Type 0) (F G : List Placed → Type 0) (r : Read A) (f : A → Reader B) →
    Sound P r → Refused F r → ((rest : List Placed) → F rest → G rest) →
    ((x : A) (rest : List Placed) → P x rest → Refused G (f x rest)) → Refused G (r >>= f)
refused-then P F G (got x rest) f h g up k = k x rest h
refused-then P F G (fails rest) f h g up k = up rest g

pub refused-if : {A : Type 0} (G : List Placed → Type 0) (b : Bool) (r s : Read A) →
    (b ≡ true → Refused G r) → (b ≡ false → Refused G s) → Refused G (cond b r s)
refused-if G true r s f g = f refl
refused-if G false r s f g = g refl

expect-at : (k : Kind) (ts : List Placed) → Refused (λ rest. rest ≡ ts) (expect k ts)
unfolding expect
expect-at k ts = refused-if (λ rest. rest ≡ ts) (begins k ts) _ _ (λ e. tt) (λ e. refl)

pub refused-expect : {B : Type 0} (k : Kind) (G : List Placed → Type 0) (ts : List Placed) (f : Mark → Reader B) → G ts →
    ((m : Mark) (us : List Placed) → Expected k ts m us → Refused G (f m us)) → Refused G (expect k ts >>= f)
refused-expect k G ts f g h =
    refused-then (Expected k ts) (λ rest. rest ≡ ts) G (expect k ts) f (expect-sound k ts) (expect-at k ts) (λ rest e. subst G (sym e) g) h
