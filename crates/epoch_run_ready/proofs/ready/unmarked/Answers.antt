use Rattle.std.proofs.Common.{◌∙◌}
use Rattle.epoch_run_ready.proofs.Marks.{mark_both}
use Rattle.epoch_run_ready.proofs.ready.unmarked.Goals as goal

pub others-requires-clause-one_each : goal.others-requires-clause-one_each
others-requires-clause-one_each c = c.mark_back.ensures.marked.as_many ∙ c.requires.one_each

pub returns : goal.returns
returns c = record {
  waits = c.others.new.waits;
  are_marked = mark_both c.args.layout.now c.args.readers.now c.args.waits.now c.mark_back.new.waits c.others.new.waits c.mark_back.ensures.marked c.others.ensures.marked;
  others = c.in_ok-frames.ensures.others;
}
