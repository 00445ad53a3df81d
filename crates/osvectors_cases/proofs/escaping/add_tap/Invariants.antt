use Rattle.std.proofs.Common.{◌≡◌, ◌++◌, take}
use Rattle.std.specs.List.{flat_map}
use Rattle.osvectors_cases.specs.Tap.{tap_byte}
use Rattle.osvectors_cases.proofs.escaping.add_tap.Given as goal

-- those so far were added
abbrev pub invariant-loop-byte : goal.invariant-loop-byte
invariant-loop-byte l = l.told ≡ l.initial.told ++ flat_map tap_byte (take l.byte-index l.text)
