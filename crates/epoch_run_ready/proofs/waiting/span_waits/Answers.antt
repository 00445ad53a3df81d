use Rattle.std.proofs.Common.{arith, get_or}
use Rattle.epoch_run_ready.proofs.waiting.span_waits.Goals as goal

pub returns-then-span-first : goal.returns-then-span-first
returns-then-span-first c = λ e. record {
  reads = c.if-span.false;
  position = get_or c.args.missing.now c.args.span.stream 0;
  from = omega arith;
  to = omega (arith, c.from.ensures);
  cannot_come = c.requires.missing.cannot_come c.args.span.stream c.requires.exists;
}
