-- The words that stand behind numbers.
use Rattle.std.specs.Prelude.{ℕ, ◌==◌, List, codes, if◌then◌else◌}

-- one activation, or several
abbrev pub activation_word : ℕ → List ℕ
activation_word count = if count == 1 then codes " activation" else codes " activations"
