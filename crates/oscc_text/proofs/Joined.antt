-- Texts that are added one after another.
use Rattle.std.proofs.Common.{◌≡◌, ◌∙◌, ◌+◌, ◌++◌, ℕ, List, ap, append_assoc, sym, zero-add}
use Rattle.std.specs.List.{flat_map, range_with_len}
use Rattle.flow_core_laws.proofs.Stretches.{flat_map-range_more}

-- one more text
pub more : (old a b : List ℕ) {s : List ℕ} → s ≡ old ++ a → s ++ b ≡ old ++ (a ++ b)
more old a b is = ap (λ (x : List ℕ). x ++ b) is ∙ append_assoc old a b

-- one more of a list of texts
pub one_more : (f : ℕ → List ℕ) (from n : ℕ) (old so_far : List ℕ) → so_far ≡ old ++ flat_map f (range_with_len from n)
    → so_far ++ f (from + n) ≡ old ++ flat_map f (range_with_len from (n + 1))
one_more f from n old so_far is = more old (flat_map f (range_with_len from n)) (f (from + n)) is ∙ ap (λ (x : List ℕ). old ++ x) (sym (flat_map-range_more f from n))

pub one_more_from_none : (f : ℕ → List ℕ) (n : ℕ) (old so_far : List ℕ) → so_far ≡ old ++ flat_map f (range_with_len 0 n)
    → so_far ++ f n ≡ old ++ flat_map f (range_with_len 0 (n + 1))
one_more_from_none f n old so_far is = ap (λ (j : ℕ). so_far ++ f j) (sym (zero-add n)) ∙ one_more f 0 n old so_far is

-- the third of three texts, and the fourth of four
pub three : (old a b d : List ℕ) {s t : List ℕ} → s ≡ old ++ a → t ≡ s ++ b → t ++ d ≡ old ++ (a ++ b ++ d)
three old a b d first second = more old (a ++ b) d (second ∙ more old a b first)

pub four : (old a b d e : List ℕ) {s t u : List ℕ} → s ≡ old ++ a → t ≡ s ++ b → u ≡ t ++ d → u ++ e ≡ old ++ (a ++ b ++ d ++ e)
four old a b d e first second third = more old (a ++ b ++ d) e (third ∙ three old a b d first second)
