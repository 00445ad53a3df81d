-- The complete prefix of a list of elements.
use Rattle.std.proofs.Common.{◌≡◌, ℕ, ℤ, zero, suc, ◌<◌, ◌⊎◌, inl, inr, List, [], ◌∷◌, Option, Some, None, map, length, slice_get, refl, ap, arith}
use Rattle.flow_core_laws.specs.declared.elem.Elem.{Elem}
use Rattle.flow_core_laws.specs.declared.elem.Elem.TheVariants.{Value, Poison}
use Rattle.collector.specs.Written.{byte_of, complete_prefix}
use Rattle.collector.specs.Laws.{IsLongestPrefix}

-- one more element in front, which is a value
prefix_behind : (value : ℤ) (rest : List (Option Elem)) (bytes : List ℕ) → IsLongestPrefix rest bytes → IsLongestPrefix (Some (Value value) ∷ rest) (byte_of value ∷ bytes)
prefix_behind value rest bytes behind = record { has_values = there; is_longest = longest behind.is_longest }
  where
    there : (k : ℕ) → k < length (byte_of value ∷ bytes)
        → (v : ℤ) × (slice_get (Some (Value value) ∷ rest) k ≡ Some (Some (Value v))) × (slice_get (byte_of value ∷ bytes) k ≡ Some (byte_of v))
    there zero within = (value, refl, refl)
    there (suc k) within = behind.has_values k (omega arith)

    longest : (slice_get rest (length bytes) ≡ Some None) ⊎ ((root : ℕ) × (slice_get rest (length bytes) ≡ Some (Some (Poison root)))) ⊎ (length bytes ≡ length rest)
        → (slice_get (Some (Value value) ∷ rest) (length (byte_of value ∷ bytes)) ≡ Some None)
        ⊎ ((root : ℕ) × (slice_get (Some (Value value) ∷ rest) (length (byte_of value ∷ bytes)) ≡ Some (Some (Poison root))))
        ⊎ (length (byte_of value ∷ bytes) ≡ length (Some (Value value) ∷ rest))
    longest (inl gap) = inl gap
    longest (inr (inl poison)) = inr (inl poison)
    longest (inr (inr whole)) = inr (inr (ap suc whole))

pub longest_prefix : (elements : List (Option Elem)) → IsLongestPrefix elements (map byte_of (complete_prefix elements))
longest_prefix [] = record { has_values = λ k within. absurd (omega arith); is_longest = inr (inr refl) }
longest_prefix (None ∷ rest) = record { has_values = λ k within. absurd (omega arith); is_longest = inl refl }
longest_prefix (Some (Poison root) ∷ rest) = record { has_values = λ k within. absurd (omega arith); is_longest = inr (inl (root, refl)) }
longest_prefix (Some (Value value) ∷ rest) = prefix_behind value rest (map byte_of (complete_prefix rest)) (longest_prefix rest)
