-- Lines and columns of places. What stands at no line counts as the first one, and what stands in no column as its first.
use Rattle.std.specs.Prelude.{ℕ}
use Rattle.oscheck_reports.specs.declared.finding.Place.{Place}
use Rattle.oscheck_reports.specs.declared.finding.Place.TheVariants as place

abbrev pub line_of : Place → ℕ
line_of place.File = 1
line_of (place.Line line) = line
line_of (place.Column line byte character) = line

-- the column in bytes
abbrev pub byte_of : Place → ℕ
byte_of place.File = 1
byte_of (place.Line line) = 1
byte_of (place.Column line byte character) = byte

-- the column in characters
abbrev pub character_of : Place → ℕ
character_of place.File = 1
character_of (place.Line line) = 1
character_of (place.Column line byte character) = character
