-- How many brackets of an item are open.
use Rattle.std.specs.Prelude.{ℕ}
use Rattle.oscheck_warnings.specs.declared.clause_place.ClausePlace.{ClausePlace}
use Rattle.oscheck_warnings.specs.declared.clause_place.ClausePlace.TheVariants as places

abbrev pub open_in : ClausePlace → ℕ
open_in (places.Within word deep) = deep
open_in _ = 0
