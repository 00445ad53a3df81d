use Rattle.std.proofs.Common.{◌≡◌, false, drop}
use Rattle.cddf_meaning.specs.Tasks.{known_flag}
use Rattle.cddf_meaning_plain_tasks.proofs.tasks.is_unsigned.Given as goal

abbrev pub invariant-loop-next : goal.invariant-loop-next
invariant-loop-next l = known_flag l.unsigned (drop l.next-index l.known) l.id ≡ known_flag false l.known l.id
