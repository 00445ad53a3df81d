-- Places that are kept.
use Rattle.std.specs.Prelude.{ℕ, Bool}
use Rattle.std.specs.BTreeSet.{contains}
use Rattle.std.specs.Ordering.{nat_cmp}
use Rattle.oscheck_warnings.specs.declared.places.Places.{Places}

-- a place is among those that are kept
abbrev pub has : Places → ℕ → Bool
has p place = contains nat_cmp p.places place
