-- Whether a name is in a list that is put together of two.
use Rattle.std.proofs.Common.{◌≡◌, ℕ, ◌==◌, ◌||◌, Bool, true, false, List, [], ◌∷◌, ◌++◌, ap, refl, ◌∙◌}
use Rattle.os_ast.specs.ClauseMembers.{is_in}

or-assoc : (a b c : Bool) → (a || (b || c)) ≡ ((a || b) || c)
or-assoc true b c = refl
or-assoc false b c = refl

pub in-append : (id : ℕ) (xs ys : List ℕ) → is_in id (xs ++ ys) ≡ (is_in id xs || is_in id ys)
in-append id [] ys = refl
in-append id (x ∷ xs) ys = ap (λ b. (x == id) || b) (in-append id xs ys) ∙ or-assoc (x == id) (is_in id xs) (is_in id ys)
