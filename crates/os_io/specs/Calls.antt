-- Calls that are counted from 0, some of which were named to fail.
use Rattle.std.specs.Prelude.{ℕ, Bool, List, ◌==◌}
use Rattle.std.specs.List.{list_any}

-- whether the call with this number was named
abbrev pub is_named : List ℕ → ℕ → Bool
is_named failing call = list_any (λ number. number == call) failing
