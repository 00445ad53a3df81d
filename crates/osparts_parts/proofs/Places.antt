-- Lists to which one more is added at the end.
use Rattle.std.proofs.Common.{◌≡◌, ℕ, suc, List, [], ◌∷◌, ◌++◌, length, refl, ap}
use Rattle.std.proofs.lemmas.List.{map-append}
use Rattle.osparts_parts.specs.declared.place.PartPlace.TheVariants.{Later}
use Rattle.osparts_parts.specs.Parts.{but_first, place_after}

-- after one more there is one before
pub place_after_one_more : (xs : List (List ℕ)) (x : List ℕ) → place_after (xs ++ x ∷ []) ≡ Later
place_after_one_more [] x = refl
place_after_one_more (y ∷ ys) x = refl

pub length_one_more : (xs : List (List ℕ)) (x : List ℕ) → length (xs ++ x ∷ []) ≡ suc (length xs)
length_one_more [] x = refl
length_one_more (y ∷ ys) x = ap suc (length_one_more ys x)

-- one more after some is changed as the others are
pub but_first_one_more : (change : List ℕ → List ℕ) (xs : List (List ℕ)) (x : List ℕ) → place_after xs ≡ Later
    → but_first change (xs ++ x ∷ []) ≡ but_first change xs ++ change x ∷ []
but_first_one_more change [] x h = absurd cc
but_first_one_more change (y ∷ ys) x h = ap (λ (zs : List (List ℕ)). y ∷ zs) (map-append change ys (x ∷ []))
