-- Windows whose size is a constant that no window has.
use Rattle.std.specs.Prelude.{◌≡◌, ◌<◌, ◌≤◌, ℕ, true, List, Option, Some}
use Rattle.std.specs.List.{slice_get}
use Rattle.flow_core_laws.specs.Limits.{horizon_limit}
use Rattle.os_ast.specs.declared.names.What.{What}
use Rattle.os_ast.specs.declared.names.What.TheVariants as what
use Rattle.oscheck_warnings.specs.Places.{has}
use Rattle.oscheck_warnings.specs.declared.extent.Amount.TheVariants as amount
use Rattle.oscheck_warnings.specs.declared.extent.Bracket.TheVariants as bracket
use Rattle.oscheck_warnings.specs.declared.extent.Extent.{Extent}
use Rattle.oscheck_warnings.specs.declared.places.Places.{Places}

-- At a place a window is declared whose size is a constant, and none from 1 to 65,536. So a run that comes to this declaration traps
-- there with code 6.
pub record IsWrongSize (list : List Extent) (means : ℕ → Option What) (place : ℕ) : Type 0 where
  pub index : ℕ
  pub size : Extent
  pub slot : ℕ
  pub stands : slice_get list index ≡ Some size
  pub is_size : size.bracket ≡ bracket.Size
  pub there : size.place ≡ place
  pub is : means place ≡ Some (what.Window slot)
  pub none : (n : ℕ) → size.amount ≡ amount.Number n → 0 < n → n ≤ horizon_limit → ⊥

-- the marked places are those where a size is wrong
pub record AreWrongSizes (list : List Extent) (means : ℕ → Option What) (places : Places) : Type 0 where
  pub sound : (place : ℕ) → has places place ≡ true → IsWrongSize list means place
  pub complete : (place : ℕ) → IsWrongSize list means place → has places place ≡ true
