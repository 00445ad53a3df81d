use Rattle.std.proofs.Common.{◌≡◌, ◌++◌}
use Rattle.std.specs.List.{flat_map, range_with_len}
use Rattle.oscc_text.specs.Units.{stored_argument}
use Rattle.oscc_text.proofs.lists.add_stored_arguments.Given as goal

-- those so far were added
abbrev pub invariant-loop-number : goal.invariant-loop-number
invariant-loop-number l = l.told ≡ l.initial.told ++ flat_map stored_argument (range_with_len 0 l.number)
