use Rattle.std.proofs.Common.{◌∙◌}
use Rattle.epoch_run.proofs.LaidBehind.{joined-none}
use Rattle.epoch_run.proofs.next_spans.NextSpans.behind.Goals as goal

pub returns : goal.returns
returns c =
    joined-none c.args.layout.now (record { spans = c.reserve.new.self; starts = c.reserve-2.new.self; cursors = c.in_ok-copy.field-0 })
    (c.reserve.ensures ∙ c.new.ensures) (c.reserve-2.ensures ∙ c.new-2.ensures) c.in_ok-copy.ensures
