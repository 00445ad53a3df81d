use Rattle.std.proofs.Common.{sym, ◌∙◌}
use Rattle.control_run.proofs.AtOnce.{ends-at-once}
use Rattle.control_run.proofs.control.run_control.Goals as goal

pub unreachable-requires : goal.unreachable-requires
unreachable-requires c =
    ends-at-once c.args.code.now c.args.input_len c.args.budget c.requires.budget _ _ c.in_ok-run.ensures c.in_ok-advance.ensures.run (sym c.end.ensures ∙ c.in-None.is)
