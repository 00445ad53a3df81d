-- One item, as often as is wanted.
use Rattle.std.proofs.Common.{◌≡◌, ℕ, zero, suc, get_or, replicate, refl}

-- it stands at every place, and past the last one it is what stands for no item
pub get_or-repeated : {A : Type 0} (n k : ℕ) (a : A) → get_or (replicate n a) k a ≡ a
get_or-repeated zero k a = refl
get_or-repeated (suc n) zero a = refl
get_or-repeated (suc n) (suc k) a = get_or-repeated n k a
