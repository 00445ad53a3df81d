-- Parts of a list, one for each number.
use Rattle.std.proofs.Common.{◌≡◌, ◌∙◌, ℕ, ◌+◌, List, [], ◌++◌, ap, append-nil, zero-add}
use Rattle.std.specs.List.{flat_map, range_with_len}
use Rattle.flow_core_laws.proofs.Stretches.{flat_map-range-add}

-- one more part
pub one_more : {A : Type 0} (f : ℕ → List A) (k : ℕ) → flat_map f (range_with_len 0 (k + 1)) ≡ flat_map f (range_with_len 0 k) ++ f k
one_more f k =
    flat_map-range-add f 0 k 1 ∙ ap (λ j. flat_map f (range_with_len 0 k) ++ (f j ++ [])) (zero-add k)
    ∙ ap (λ xs. flat_map f (range_with_len 0 k) ++ xs) (append-nil (f k))
