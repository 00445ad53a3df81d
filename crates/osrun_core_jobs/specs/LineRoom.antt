-- How long a line may be that is put together.
use Rattle.std.specs.Prelude.{ℕ}

-- how many bytes a line has room for: of what is added, it keeps the front that fits
abbrev pub line_room : ℕ
line_room = 64
