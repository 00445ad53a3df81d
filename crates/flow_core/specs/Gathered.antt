-- Cells whose elements were gathered, as far as a run has come with them.
use Rattle.std.specs.Prelude.{◌≡◌, ℕ, ℤ, List, Option, Some}
use Rattle.flow_core_laws.specs.Round.{gathered}
use Rattle.flow_core_laws.specs.Poisoning.{values_of, least_root}
use Rattle.flow_core_laws.specs.declared.elem.Elem.{Elem}

-- The elements of a list of cells were gathered: their values, and the least root among them.
pub record AreGathered (cells : List (Option Elem)) (least : Option ℕ) (values : List ℤ) : Type 0 where
  pub elements : List Elem
  pub are_there : gathered cells ≡ Some elements
  pub least_is : least ≡ least_root elements
  pub values_are : values ≡ values_of elements
