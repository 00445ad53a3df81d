use Rattle.std.proofs.Common.{◌≡◌, ◌++◌, drop}
use Rattle.cddf_meaning.specs.Tasks.{ids}
use Rattle.cddf_meaning_plain_tasks.proofs.sites.ids.Given as goal

abbrev pub invariant-loop-name : goal.invariant-loop-name
invariant-loop-name l = l.list ++ ids (drop l.name-index l.names) ≡ ids l.names
