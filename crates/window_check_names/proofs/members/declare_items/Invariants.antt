use Rattle.std.proofs.Common.{◌≡◌, drop}
use Rattle.window_check_names.specs.Members.{after_names}
use Rattle.window_check_names.proofs.members.declare_items.Given as goal

-- the scope so far, with the names of the rest
abbrev pub invariant-loop-item : goal.invariant-loop-item
invariant-loop-item l = after_names l.scopes (drop l.item-index l.items) ≡ after_names l.fn.scopes l.fn.items
