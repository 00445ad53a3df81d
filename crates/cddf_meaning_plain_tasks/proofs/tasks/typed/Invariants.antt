use Rattle.std.proofs.Common.{◌≡◌, ◌++◌, drop, map}
use Rattle.cddf_meaning.specs.Tasks.{typed_known}
use Rattle.cddf_meaning_plain_tasks.proofs.tasks.typed.Given as goal

abbrev pub invariant-loop-id : goal.invariant-loop-id
invariant-loop-id l = l.names ++ map (typed_known l.known) (drop l.id-index l.ids) ≡ map (typed_known l.known) l.ids
