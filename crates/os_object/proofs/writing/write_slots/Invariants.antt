use Rattle.std.proofs.Common.{◌≡◌, ◌∷◌, ◌++◌, length, take}
use Rattle.std.specs.List.{flat_map}
use Rattle.os_object.specs.Object.{number, slot_numbers}
use Rattle.os_object.proofs.writing.write_slots.Given as goal

abbrev pub invariant-loop-slot : goal.invariant-loop-slot
invariant-loop-slot l = l.object.items ≡ l.fn.object.items ++ flat_map number (length l.slots ∷ flat_map slot_numbers (take l.slot-index l.slots))
