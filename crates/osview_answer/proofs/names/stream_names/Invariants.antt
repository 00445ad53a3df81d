use Rattle.std.proofs.Common.{◌≡◌, ◌++◌, drop}
use Rattle.std.specs.List.{flat_map}
use Rattle.osview_answer.specs.StreamNames.{named_in}
use Rattle.osview_answer.proofs.names.stream_names.Given as goal

-- those so far were added, and those of the rest come behind them
abbrev pub invariant-loop-name : goal.invariant-loop-name
invariant-loop-name l = l.found.items ++ flat_map (named_in l.tokens) (drop l.name-index l.names) ≡ flat_map (named_in l.tokens) l.names
