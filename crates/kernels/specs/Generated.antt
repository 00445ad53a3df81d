-- The bytes of a linear congruential generator.
use Rattle.std.specs.Prelude.{ℕ, zero, suc, ◌+◌, ◌*◌, ◌/◌, ◌%◌, ◌^◌, List, map}
use Rattle.std.specs.List.{range_with_len}

-- x(0) is the seed, and x(k + 1) is 1103515245 times x(k) plus 12345, modulo 2^32.
abbrev pub generator_state : ℕ → ℕ → ℕ
generator_state seed zero = seed
generator_state seed (suc k) = (1103515245 * generator_state seed k + 12345) % 2 ^ 32

-- Byte k is x(k + 1) divided by 65536, modulo 256.
abbrev pub byte : ℕ → ℕ → ℕ
byte seed k = generator_state seed (suc k) / 65536 % 256

-- the first `count` bytes from a seed
abbrev pub generated : ℕ → ℕ → List ℕ
generated seed count = map (byte seed) (range_with_len 0 count)
