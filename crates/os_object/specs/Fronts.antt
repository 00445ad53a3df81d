-- Why a reader refuses what stands at the front of numbers, and what can be written of a site.
use Rattle.std.specs.Prelude.{◌≡◌, ℕ, ◌+◌, ◌^◌, ◌<◌, length, Some, slice_get}
use Rattle.os_code.specs.declared.site.Site.{Site}
use Rattle.os_code.specs.declared.site.SiteItem.{SiteItem}
use Rattle.os_object.specs.declared.object_error.ObjectError.{ObjectError}
use Rattle.os_object.specs.declared.object_error.ObjectError.TheVariants.{Format, Invalid, Memory}

-- nothing that it could read stands there, or memory is wanting
abbrev pub IsObjectRefused : ObjectError → Type 0 → Type 0
IsObjectRefused Format Nothing = Nothing
IsObjectRefused Invalid Nothing = ⊥
IsObjectRefused Memory Nothing = Unit {0}

-- the numbers of an item, and those of a site, are of 32 bits
abbrev pub IsSmallItem : SiteItem → Type 0
IsSmallItem item = (slot : ℕ) → item.window ≡ Some slot → slot + 1 < 2 ^ 32

pub record IsSmallSite (site : Site) : Type 0 where
  pub captured : length site.captured < 2 ^ 32
  pub items : length site.items < 2 ^ 32
  pub windows : (index : ℕ) (item : SiteItem) → slice_get site.items index ≡ Some item → IsSmallItem item
