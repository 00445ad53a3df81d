-- Texts that are added one after another.
use Rattle.std.proofs.Common.{◌≡◌, ◌∙◌, ◌+◌, ◌<◌, ◌++◌, ◌∷◌, [], ℕ, List, ap, append_assoc, get_or, length, sym, take}
use Rattle.std.specs.List.{flat_map}
use Rattle.std.proofs.lemmas.List.{flat_map_more, take_more}

-- one more text
pub more : (old a b : List ℕ) {s : List ℕ} → s ≡ old ++ a → s ++ b ≡ old ++ (a ++ b)
more old a b is = ap (λ (x : List ℕ). x ++ b) is ∙ append_assoc old a b

-- one more of the texts of a list
pub one_more : {X : Type 0} (f : X → List ℕ) (xs : List X) (i : ℕ) (x : X) (old so_far : List ℕ) → i < length xs → x ≡ get_or xs i x
    → so_far ≡ old ++ flat_map f (take i xs) → so_far ++ f x ≡ old ++ flat_map f (take (i + 1) xs)
one_more f xs i x old so_far lt is so =
    ap (λ (t : List ℕ). t ++ f x) so ∙ flat_map_more f old (take i xs) x
    ∙ ap (λ l. old ++ flat_map f l) (ap (λ y. take i xs ++ y ∷ []) is ∙ sym (take_more xs i x lt))
