-- Parts that were read in part.
use Rattle.std.proofs.Common.{◌≡◌, ℕ, ◌+◌, ◌<◌, ◌≤◌, inl, inr, List, [], ◌∷◌, ◌++◌, length, take, refl, ap, ◌∙◌, length-append, arith}
use Rattle.ospack_slots.specs.Formats.{IsUnended, packing, unpacking}
use Rattle.ospack_slots.specs.Laws.{UnendedIsShort}
use Rattle.ospack_slots.specs.Slots.{HasLength, length_bytes}

-- the front of a slot
pub of_slot : (size : ℕ) (read : List ℕ) → length read < size → IsUnended (packing size) read
of_slot size [] short = inl refl
of_slot size (b ∷ bs) short = inr (omega arith, short)

-- less than a length
pub of_length : (size : ℕ) (read : List ℕ) → length read < 2 → IsUnended (unpacking size) read
of_length size [] short = inl refl
of_length size (b ∷ []) short = inr (inl refl)
of_length size (b ∷ c ∷ bs) short = absurd (omega (arith, short))

-- a length, and less than as many bytes as that says
pub of_piece : (size n begun : ℕ) (one read : List ℕ) → HasLength one n → begun ≡ 2 → n + 2 ≤ size → length read < n
    → IsUnended (unpacking size) (take begun one ++ read)
of_piece size n begun one read h two fits short =
    let front : take begun one ≡ length_bytes n = ap (λ (k : ℕ). take k one) two ∙ ap (take 2) h.holds in
    let long : length (take begun one ++ read) ≡ length (take begun one) + length read = length-append (take begun one) read in
    let first : length (take begun one) ≡ 2 = ap length front in
    inr (inr (n, record { behind = read; holds = ap (λ (x : List ℕ). x ++ read) front }, fits, omega (arith, long, first, short)))

pub slots_short : UnendedIsShort packing
slots_short size least bytes (inl none) = omega (arith, ap length none, least)
slots_short size least bytes (inr begun) = begun.1

pub pieces_short : UnendedIsShort unpacking
pieces_short size least bytes (inl none) = omega (arith, ap length none, least)
pieces_short size least bytes (inr (inl one)) = omega (arith, one, least)
pieces_short size least bytes (inr (inr (n, has, fits, short))) = omega (arith, fits, short)
