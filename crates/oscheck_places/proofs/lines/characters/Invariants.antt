use Rattle.std.proofs.Common.{◌≡◌, ◌≤◌, take}
use Rattle.oscheck_places.specs.Lines.{characters}
use Rattle.oscheck_places.proofs.lines.characters.Given as goal

-- those of the bytes so far were counted
abbrev pub invariant-loop-byte : goal.invariant-loop-byte
invariant-loop-byte l = (l.count ≡ characters (take l.byte-index l.bytes)) × (l.count ≤ l.byte-index)
