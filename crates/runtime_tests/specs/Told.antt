-- Lines that answer as they are told.
use Rattle.std.specs.Prelude.{ℕ, ◌+◌, List, [], ◌∷◌, None}
use Rattle.steal_pool.specs.Lines.{LineState}
use Rattle.runtime_tests.specs.declared.told.Told.{Told}
use Rattle.runtime_tests.specs.declared.told.Answer.{Answer}
use Rattle.runtime_tests.specs.declared.told.Answer.TheVariants.{Number, Given, Empty, Raced}

-- what was given before an answer
abbrev pub given_before : Answer → ℕ → List ℕ
given_before Number number = []
given_before Given number = number ∷ []
given_before Empty number = []
given_before Raced number = []

abbrev pub told_shows : Told → LineState
told_shows line = record { finds = line.finds; races = line.races; bound = line.number + 1; handed_out = given_before line.answer line.number; left = None }
