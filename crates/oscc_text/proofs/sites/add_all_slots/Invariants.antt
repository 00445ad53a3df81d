use Rattle.std.proofs.Common.{◌≡◌, ◌++◌, take}
use Rattle.std.specs.List.{flat_map}
use Rattle.oscc_text.specs.Sites.{slot_text}
use Rattle.oscc_text.proofs.sites.add_all_slots.Given as goal

-- those so far were added
abbrev pub invariant-loop-slot : goal.invariant-loop-slot
invariant-loop-slot l = l.told ≡ l.initial.told ++ flat_map slot_text (take l.slot-index l.slots)
