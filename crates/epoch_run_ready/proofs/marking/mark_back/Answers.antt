use Rattle.std.proofs.Common.{◌∙◌, arith}
use Rattle.epoch_run_ready.proofs.Marks.{mark_both, mark_same}
use Rattle.epoch_run_ready.proofs.marking.mark_back.Goals as goal

pub gets_mark-requires-clause-exists : goal.gets_mark-requires-clause-exists
gets_mark-requires-clause-exists c = omega (arith, c.marking-test.true, c.marking.invariant.within)

pub gets_mark-requires-clause-one_each : goal.gets_mark-requires-clause-one_each
gets_mark-requires-clause-one_each c = c.marking.invariant.marked.as_many ∙ c.requires.one_each

pub marking-init : goal.marking-init
marking-init c = record {
  within = c.requires.count;
  marked = mark_same c.args.layout.now c.args.readers.now c.args.waits.now;
  missing = c.requires.missing;
}

pub marking-preserved : goal.marking-preserved
marking-preserved c = record {
  within = omega (arith, c.marking-test.true, c.marking.invariant.within);
  marked = mark_both c.args.layout.now c.args.readers.now c.args.waits.now c.marking.waits c.gets_mark.new.waits c.marking.invariant.marked c.gets_mark.ensures.marked;
  missing = c.gets_mark.ensures.missing;
}
