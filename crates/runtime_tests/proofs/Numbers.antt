-- Numbers of activations that ascend.
use Rattle.std.proofs.Common.{ℕ, ◌<◌, List, get_or}

-- The first ones of a list ascend; each lies below a bound, and below the next one that may come.
pub record AscendTo (numbers : List ℕ) (bound next count : ℕ) : Type 0 where
  pub exist : (i : ℕ) → i < count → get_or numbers i 0 < bound
  pub below : (i : ℕ) → i < count → get_or numbers i 0 < next
  pub ascend : (i j : ℕ) → i < j → j < count → get_or numbers i 0 < get_or numbers j 0
