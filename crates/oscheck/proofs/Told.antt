-- Findings that are told one after another.
use Rattle.std.proofs.Common.{◌+◌, ◌++◌, ◌∷◌, ◌<◌, [], ℕ, List, get_or, length, subst, sym, take}
use Rattle.std.proofs.lemmas.List.{take_more}
use Rattle.oscheck.specs.Findings.{EachTold, and_one}
use Rattle.oscheck_reports.specs.declared.finding.Finding.{Finding}

-- one more
pub one_more : {A : Type 0} (Tells : A → Finding → Type 0) (xs : List A) (i : ℕ) (d : A) (fs : List Finding) (f : Finding) → i < length xs
    → EachTold Tells (take i xs) fs → Tells (get_or xs i d) f → EachTold Tells (take (i + 1) xs) (fs ++ f ∷ [])
one_more Tells xs i d fs f within so_far tells =
    subst (λ ys. EachTold Tells ys (fs ++ f ∷ [])) (sym (take_more xs i d within)) (and_one (get_or xs i d) f so_far tells)
