use Rattle.std.proofs.Common.{rules}
use Rattle.epoch_run_ready.proofs.Judged.{judged_none}
use Rattle.epoch_run_ready.proofs.unreached.marks.Goals as goal

pub are_judged-requires-clause-none : goal.are_judged-requires-clause-none
are_judged-requires-clause-none c = judged_none c.args.layout.now c.args.readers.now c.args.first c.args.low.now c.as_mut_slice.result.now (search rules)
