-- What writing all bytes leaves behind.
use Rattle.std.specs.Prelude.{◌≡◌, ℕ, ◌<◌, List, length, take, Option}
use Rattle.std.specs.Io.KnownBytes.{append_known}

-- between two moments a sink took a front of the bytes, and not all of them
abbrev pub TookProperPrefix : Option (List ℕ) → Option (List ℕ) → List ℕ → Type 0
TookProperPrefix before after bytes =
    (n : ℕ) × (n < length bytes) × (after ≡ append_known before (take n bytes))
