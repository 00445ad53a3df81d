use Rattle.std.proofs.Common.{◌≡◌, drop}
use Rattle.cddf_meaning.specs.Body.{bind_items}
use Rattle.cddf_meaning_plain_tasks.proofs.body.bind_items.Given as goal

abbrev pub invariant-loop-item : goal.invariant-loop-item
invariant-loop-item l =
    (l.state ≡ record l.initial.state { bound = l.state.bound })
    × (bind_items 0 l.names l.initial.state.bound ≡ bind_items l.item (drop l.item l.names) l.state.bound)
