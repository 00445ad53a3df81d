-- Names that are taken away, and those of a list that are among others.
use Rattle.std.proofs.Common.{◌≡◌, ℕ, suc, ◌+◌, ◌<◌, ◌==◌, Bool, true, false, not, if◌then◌else◌, List, [], ◌∷◌, ◌++◌, length, get_or, drop, filter, refl, add-one, ap, sym, ◌∙◌}
use Rattle.std.proofs.Math.Seq.{drop-cons}
use Rattle.std.proofs.lemmas.List.{append_assoc, append-nil}
use Rattle.cddf_meaning.specs.Tasks.{among, others}
use Rattle.os_ast.specs.ClauseMembers.{is_in}

filter-step : (b : Bool) (i : ℕ) (xs ys : List ℕ) → xs ≡ ys → (if not b then i ∷ xs else xs) ≡ (if b then ys else i ∷ ys)
filter-step true i xs ys h = h
filter-step false i xs ys h = ap (λ zs. i ∷ zs) h

-- what is left of a list where a name is taken away
pub others_filter : (id : ℕ) (is : List ℕ) → filter (λ i. not (i == id)) is ≡ others id is
others_filter id [] = refl
others_filter id (i ∷ is) = filter-step (i == id) i (filter (λ i. not (i == id)) is) (others id is) (others_filter id is)

among-if : (b : Bool) (before : List ℕ) (id : ℕ) (rest : List ℕ) →
    before ++ (if b then id ∷ [] else []) ++ rest ≡ before ++ (if b then id ∷ rest else rest)
among-if true before id rest = append_assoc before (id ∷ []) rest
among-if false before id rest = ap (λ is. is ++ rest) (append-nil before)

pub among-next : (names before ids : List ℕ) (i d id : ℕ) → i < length ids → id ≡ get_or ids i d →
    before ++ (if is_in id names then id ∷ [] else []) ++ among names (drop (i + 1) ids) ≡ before ++ among names (drop i ids)
among-next names before ids i d id inside is =
    among-if (is_in id names) before id (among names (drop (i + 1) ids))
    ∙ ap (λ xs. before ++ among names xs)
    (ap (λ k. id ∷ drop k ids) (add-one i) ∙ ap (λ x. x ∷ drop (suc i) ids) is ∙ sym (drop-cons ids i d inside))
