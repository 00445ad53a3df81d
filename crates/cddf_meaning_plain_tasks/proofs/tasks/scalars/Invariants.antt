use Rattle.std.proofs.Common.{◌≡◌, [], drop}
use Rattle.cddf_meaning.specs.Tasks.{with_all_known}
use Rattle.cddf_meaning_plain_tasks.proofs.tasks.scalars.Given as goal

abbrev pub invariant-loop-next : goal.invariant-loop-next
invariant-loop-next l =
    with_all_known l.ids.items (drop l.next-index l.known) ≡ with_all_known [] l.known
