-- The test of a window's size.
use Rattle.std.specs.Prelude.{◌&&◌, ltb, not, ℕ, suc, Bool, true, false, Option, Some, None}
use Rattle.flow_core_laws.specs.Limits.{horizon_limit}
use Rattle.os_ast.specs.declared.names.What.{What}
use Rattle.oscheck_warnings.specs.Sizes.{size_slot}
use Rattle.oscheck_warnings.specs.declared.extent.Amount.{Amount}
use Rattle.oscheck_warnings.specs.declared.extent.Amount.TheVariants as amount
use Rattle.oscheck_warnings.specs.declared.extent.Extent.{Extent}

abbrev pub is_no_size : Amount → Bool
is_no_size (amount.Number n) = not (ltb 0 n && ltb n (suc horizon_limit))
is_no_size amount.BelowZero = true

abbrev pub is_wrong_for : Option ℕ → Amount → Bool
is_wrong_for None a = false
is_wrong_for (Some slot) a = is_no_size a

-- whether the size of a window is one that no window has
abbrev pub is_wrong_size : (ℕ → Option What) → Extent → Bool
is_wrong_size means e = is_wrong_for (size_slot means e) e.amount
