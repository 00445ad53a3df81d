-- Two bytes and the length that they are.
use Rattle.std.proofs.Common.{◌≡◌, ℕ, ◌+◌, ◌*◌, ◌/◌, ◌%◌, ◌<◌, ◌≤◌, List, [], ◌∷◌, ◌++◌, length, slice_index_or, ap, ◌∙◌, arith}
use Rattle.ospack_slots.specs.Slots.{HasLength, length_bytes}

two_bytes : (low high : ℕ) (rest : List ℕ) → low < 256 → high < 256
    → low ∷ high ∷ rest ≡ length_bytes (low + 256 * high) ++ rest
two_bytes low high rest l h =
    let first : low ≡ (low + 256 * high) % 256 = omega arith in
    let second : high ≡ (low + 256 * high) / 256 = omega arith in
    ap (λ x. x ∷ high ∷ rest) first ∙ ap (λ x. (low + 256 * high) % 256 ∷ x ∷ rest) second

pub has_length : (bytes : List ℕ) → 2 ≤ length bytes → slice_index_or bytes 0 0 < 256 → slice_index_or bytes 1 0 < 256
    → HasLength bytes (slice_index_or bytes 0 0 + 256 * slice_index_or bytes 1 0)
has_length [] long l h = absurd (omega arith)
has_length (low ∷ []) long l h = absurd (omega arith)
has_length (low ∷ high ∷ rest) long l h = record { behind = rest; holds = two_bytes low high rest l h }
