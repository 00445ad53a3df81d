use Rattle.std.proofs.Common.{◌≡◌, ◌++◌}
use Rattle.std.specs.List.{flat_map, range_with_len}
use Rattle.oscc_text.specs.Sites.{scalar}
use Rattle.oscc_text.proofs.lists.add_scalars.Given as goal

-- those so far were added
abbrev pub invariant-loop-number : goal.invariant-loop-number
invariant-loop-number l = l.told ≡ l.initial.told ++ flat_map scalar (range_with_len 0 l.number)
