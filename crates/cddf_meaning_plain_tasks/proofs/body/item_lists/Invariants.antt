use Rattle.std.proofs.Common.{◌≡◌, ◌++◌, drop}
use Rattle.cddf_meaning.specs.Body.{item_lists}
use Rattle.cddf_meaning_plain_tasks.proofs.body.item_lists.Given as goal

abbrev pub invariant-loop-claim : goal.invariant-loop-claim
invariant-loop-claim l =
    l.items.items ++ item_lists (drop l.claim-index l.claims) l.inputs ≡ item_lists l.claims l.initial.inputs
