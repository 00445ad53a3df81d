-- What a list of names in order tells of a place.
use Rattle.std.proofs.Common.{◌≡◌, ◌≢◌, ◌∙◌, false, ℕ, zero, suc, ◌<◌, if◌then◌else◌, List, [], ◌∷◌, length, ap, refl, arith, pos}
use Rattle.std.proofs.lemmas.Bool.{ne_eqb, eq-eqb}
use Rattle.lowering_draft.specs.Ascending.{Ascends, name_at}
use Rattle.os_ast.specs.declared.names.Resolved.{Resolved}
use Rattle.os_ast.specs.declared.names.What.TheVariants as what
use Rattle.lowering_relation.specs.Names.{told_at}

-- a name at another place tells nothing
told_other : (r : Resolved) (rs : List Resolved) (place : ℕ) → r.place ≢ place → told_at (r ∷ rs) place ≡ told_at rs place
told_other r rs place other = ap (λ b. if b then r else told_at rs place) (ne_eqb r.place place other)

-- the order of what is behind the first name
ascends_rest : (r : Resolved) (rs : List Resolved) → Ascends (r ∷ rs) → Ascends rs
ascends_rest r rs ascends i j below within = ascends (suc i) (suc j) (omega (arith, below)) (omega (arith, within))

-- the name that is there tells
pub told_found : (names : List Resolved) (i place : ℕ) → Ascends names → i < length names → (name_at names i).place ≡ place
    → told_at names place ≡ name_at names i
told_found [] i place ascends within at = absurd (omega (arith, within))
told_found (r ∷ rs) zero place ascends within at = ap (λ b. if b then r else told_at rs place) (eq-eqb r.place place at)
told_found (r ∷ rs) (suc i) place ascends within at =
    let lower : r.place < (name_at rs i).place = ascends 0 (suc i) (omega arith) within in
    told_other r rs place (λ same. absurd (omega (arith, same, lower, at))) ∙ told_found rs i place (ascends_rest r rs ascends) (omega (arith, within)) at

-- a place that no name has
pub told_absent : (names : List Resolved) (place : ℕ) → ((i : ℕ) → i < length names → (name_at names i).place ≢ place)
    → told_at names place ≡ record { place = place; what = what.Constant (pos 0); unsigned = false }
told_absent [] place absent = refl
told_absent (r ∷ rs) place absent =
    told_other r rs place (absent 0 (omega arith)) ∙ told_absent rs place (λ i within. absent (suc i) (omega (arith, within)))
