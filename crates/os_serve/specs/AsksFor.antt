-- What words ask for.
use Rattle.std.specs.Prelude.{◌≡◌, true, false, List, None, Some}
use Rattle.os_serve.specs.Command.{Text, is_serve, named_jobs}
use Rattle.os_serve.specs.declared.asked.Asked.{Asked}
use Rattle.os_serve.specs.declared.asked.Asked.TheVariants as asked

-- what words ask for
abbrev pub AsksFor : List Text → Asked → Type 0
AsksFor words asked.Otherwise = is_serve words ≡ false
AsksFor words asked.Wrongly = (is_serve words ≡ true) × (named_jobs words ≡ None)
AsksFor words (asked.Jobs name) = (is_serve words ≡ true) × (named_jobs words ≡ Some name.now)
