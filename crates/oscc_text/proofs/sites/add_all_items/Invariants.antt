use Rattle.std.proofs.Common.{◌≡◌, ◌++◌, take}
use Rattle.std.specs.List.{flat_map}
use Rattle.oscc_text.specs.Sites.{item_text}
use Rattle.oscc_text.proofs.sites.add_all_items.Given as goal

-- those so far were added
abbrev pub invariant-loop-item : goal.invariant-loop-item
invariant-loop-item l = l.told ≡ l.initial.told ++ flat_map item_text (take l.item-index l.items)
