-- Elements that are bytes.
use Rattle.std.specs.Prelude.{ℤ, pos, negsuc, ◌≤ℤ◌, Bool, false, nat_lt}

-- a number from 0 to 255
abbrev pub IsByte : ℤ → Type 0
IsByte value = (pos 0 ≤ℤ value) × (value ≤ℤ pos 255)

-- whether a number is a byte
abbrev pub is_byte : ℤ → Bool
is_byte (pos number) = nat_lt number 256
is_byte (negsuc number) = false
