-- Sizes of windows as they are kept, and the test of a burst.
use Rattle.std.specs.Prelude.{◌≡◌, ◌==◌, ◌&&◌, ltb, not, ℕ, suc, Bool, true, false, List, Option, Some, None}
use Rattle.std.specs.BTreeMap.{get}
use Rattle.std.specs.Ordering.{nat_cmp}
use Rattle.flow_core_laws.specs.Limits.{horizon_limit}
use Rattle.os_ast.specs.declared.names.What.{What}
use Rattle.oscheck_warnings.specs.Bursts.{window_of, sized_window, size_of}
use Rattle.oscheck_warnings.specs.declared.bursts.Sizes.{Sizes}
use Rattle.oscheck_warnings.specs.declared.extent.Amount.{Amount}
use Rattle.oscheck_warnings.specs.declared.extent.Amount.TheVariants as amount
use Rattle.oscheck_warnings.specs.declared.extent.Bracket.{Bracket}
use Rattle.oscheck_warnings.specs.declared.extent.Bracket.TheVariants as bracket
use Rattle.oscheck_warnings.specs.declared.extent.Extent.{Extent}

abbrev pub sized : Sizes → ℕ → Option Amount
sized sizes slot = get nat_cmp sizes.by_slot slot

abbrev pub size_slot : (ℕ → Option What) → Extent → Option ℕ
size_slot means e = sized_window e.bracket (means e.place)

abbrev pub burst_window : Bracket → Option What → Option ℕ
burst_window bracket.Size w = None
burst_window bracket.Burst w = window_of w

abbrev pub burst_slot : (ℕ → Option What) → Extent → Option ℕ
burst_slot means e = burst_window e.bracket (means e.place)

-- whether an amount is another number than the size
abbrev pub is_other : ℕ → Amount → Bool
is_other size (amount.Number n) = not (size == n)
is_other size amount.BelowZero = true

abbrev pub differs_from : ℕ → Amount → Bool
differs_from size burst = ltb 0 size && (ltb size (suc horizon_limit) && is_other size burst)

abbrev pub differs : Option Amount → Amount → Bool
differs None burst = false
differs (Some (amount.Number size)) burst = differs_from size burst
differs (Some amount.BelowZero) burst = false

abbrev pub is_wrong_for : (ℕ → Option Amount) → Option ℕ → Amount → Bool
is_wrong_for sizes None burst = false
is_wrong_for sizes (Some slot) burst = differs (sizes slot) burst

abbrev pub is_wrong : (ℕ → Option Amount) → (ℕ → Option What) → Extent → Bool
is_wrong sizes means e = is_wrong_for sizes (burst_slot means e) e.amount

-- each slot has the size that the list gives the window there
abbrev pub AreSizes : List Extent → (ℕ → Option What) → Sizes → Type 0
AreSizes list means sizes = (slot : ℕ) → sized sizes slot ≡ size_of list means slot
