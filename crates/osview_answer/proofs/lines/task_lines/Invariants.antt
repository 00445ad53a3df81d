use Rattle.std.proofs.Common.{◌≡◌, ◌++◌, drop, map}
use Rattle.os_code.specs.Codes.{parts_of}
use Rattle.osview_answer.specs.Source.{site_line}
use Rattle.osview_answer.proofs.lines.task_lines.Given as goal

-- those so far were found, and those of the rest come behind them
abbrev pub invariant-loop-activation : goal.invariant-loop-activation
invariant-loop-activation l = l.lines.items ++ map (site_line (parts_of l.code)) (drop l.activation-index l.activations)
    ≡ map (site_line (parts_of l.code)) l.activations
