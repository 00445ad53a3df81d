-- How long a slot may be.
use Rattle.std.specs.Prelude.{ℕ, ◌^◌}

-- a slot has at most `slot_limit` bytes, those of its length with them: as many as a window has elements
abbrev pub slot_limit : ℕ
slot_limit = 2 ^ 16
