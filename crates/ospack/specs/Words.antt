-- What words ask for.
use Rattle.std.specs.Prelude.{◌≤◌}
use Rattle.ospack_slots.specs.Limits.{slot_limit}
use Rattle.ospack.specs.declared.request.Conversion.{Conversion}
use Rattle.ospack.specs.declared.request.Request.{Request}
use Rattle.ospack.specs.declared.request.Request.TheVariants as request

-- a slot holds its two bytes of length, and has no more bytes than a slot may have
pub record IsWithin (asked : Conversion) : Type 0 where
  pub low : 2 ≤ asked.size
  pub high : asked.size ≤ slot_limit

-- the size of the slots of a conversion is within its bounds
abbrev pub IsLawful : Request → Type 0
IsLawful (request.Convert asked) = IsWithin asked
IsLawful request.Help = Unit {0}
IsLawful request.Version = Unit {0}
