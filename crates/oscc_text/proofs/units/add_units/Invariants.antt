use Rattle.std.proofs.Common.{◌≡◌, ◌++◌}
use Rattle.std.specs.List.{flat_map, range_with_len}
use Rattle.os_code.specs.Codes.{parts_of}
use Rattle.oscc_text.specs.Units.{unit_text_at}
use Rattle.oscc_text.proofs.units.add_units.Given as goal

-- those so far were added
abbrev pub invariant-loop-number : goal.invariant-loop-number
invariant-loop-number l = l.told ≡ l.initial.told ++ flat_map (unit_text_at (parts_of l.code)) (range_with_len 0 l.number)
