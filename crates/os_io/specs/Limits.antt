-- How long a file may be.
use Rattle.std.specs.Prelude.{ℕ}

-- the bytes of a file that is read whole
abbrev pub read_limit : ℕ
read_limit = 67108864
