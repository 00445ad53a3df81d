-- Bursts of output items that are constants and that trap.
use Rattle.std.specs.Prelude.{◌≡◌, ◌≢◌, ◌<◌, ◌≤◌, ◌==◌, ℕ, Bool, true, false, if◌then◌else◌, List, [], ◌∷◌, Option, Some, None}
use Rattle.std.specs.List.{slice_get}
use Rattle.flow_core_laws.specs.Limits.{horizon_limit}
use Rattle.os_ast.specs.declared.names.What.{What}
use Rattle.os_ast.specs.declared.names.What.TheVariants as what
use Rattle.oscheck_warnings.specs.Places.{has}
use Rattle.oscheck_warnings.specs.declared.extent.Amount.{Amount}
use Rattle.oscheck_warnings.specs.declared.extent.Amount.TheVariants as amount
use Rattle.oscheck_warnings.specs.declared.extent.Bracket.{Bracket}
use Rattle.oscheck_warnings.specs.declared.extent.Bracket.TheVariants as bracket
use Rattle.oscheck_warnings.specs.declared.extent.Extent.{Extent}
use Rattle.oscheck_warnings.specs.declared.places.Places.{Places}

-- the slot of the window that a name means
abbrev pub window_of : Option What → Option ℕ
window_of None = None
window_of (Some (what.Window slot)) = Some slot
window_of (Some _) = None

-- the slot of the window whose size stands in some brackets
abbrev pub sized_window : Bracket → Option What → Option ℕ
sized_window bracket.Size w = window_of w
sized_window bracket.Burst w = None

abbrev pub is_slot : Option ℕ → ℕ → Bool
is_slot None slot = false
is_slot (Some k) slot = k == slot

-- what the size of a window is behind some constants, where it was this before them
abbrev pub size_behind : (ℕ → Option What) → Option Amount → List Extent → ℕ → Option Amount
size_behind means before [] slot = before
size_behind means before (e ∷ es) slot =
    size_behind means (if is_slot (sized_window e.bracket (means e.place)) slot then Some e.amount else before) es slot

-- The size of the window in a slot, where it is a constant. A slot has one window, with one size.
abbrev pub size_of : List Extent → (ℕ → Option What) → ℕ → Option Amount
size_of list means slot = size_behind means None list slot

-- At a place an output item has a window with a burst: a constant other than the window's size, which is one from 1 to 65,536. So a run
-- that comes to this pragma traps there with code 8, unless something before it in the pragma traps.
pub record IsWrongBurst (list : List Extent) (means : ℕ → Option What) (place : ℕ) : Type 0 where
  pub index : ℕ
  pub burst : Extent
  pub slot : ℕ
  pub size : ℕ
  pub stands : slice_get list index ≡ Some burst
  pub is_burst : burst.bracket ≡ bracket.Burst
  pub there : burst.place ≡ place
  pub is : means place ≡ Some (what.Window slot)
  pub sized : size_of list means slot ≡ Some (amount.Number size)
  pub some : 0 < size
  pub fits : size ≤ horizon_limit
  pub differs : burst.amount ≢ amount.Number size

-- the marked places are those where a burst is wrong
pub record AreWrongBursts (list : List Extent) (means : ℕ → Option What) (places : Places) : Type 0 where
  pub sound : (place : ℕ) → has places place ≡ true → IsWrongBurst list means place
  pub complete : (place : ℕ) → IsWrongBurst list means place → has places place ≡ true
