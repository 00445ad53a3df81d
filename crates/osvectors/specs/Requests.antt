-- What the words ask for.
use Rattle.std.specs.Prelude.{◌≤◌}
use Rattle.osvectors.specs.declared.request.Request.{Request}
use Rattle.osvectors.specs.declared.request.Request.TheVariants as requests

-- one case is run at a time, or several
abbrev pub IsLawful : Request → Type 0
IsLawful (requests.Run asked) = 1 ≤ asked.jobs
IsLawful requests.Help = Unit {0}
IsLawful requests.Version = Unit {0}
