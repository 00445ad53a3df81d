use Rattle.std.proofs.Common.{◌≡◌, ◌∷◌, ◌++◌, length, take}
use Rattle.std.specs.List.{flat_map}
use Rattle.os_object.specs.Object.{number, item_numbers}
use Rattle.os_object.proofs.writing.write_items.Given as goal

abbrev pub invariant-loop-item : goal.invariant-loop-item
invariant-loop-item l = l.object.items ≡ l.fn.object.items ++ flat_map number (length l.items ∷ flat_map item_numbers (take l.item-index l.items))
