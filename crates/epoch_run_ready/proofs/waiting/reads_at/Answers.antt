use Rattle.std.proofs.Common.{◌≡◌, arith, false, get_or, rules}
use Rattle.epoch_run_ready.proofs.waiting.reads_at.Goals as goal

pub returns-then-not-span : goal.returns-then-not-span
returns-then-not-span c = λ covers layout waits are.
    let reads_is : c.args.span.write ≡ false = search rules in
    let within = c.covers.ensures covers in
    record {
      reads = reads_is;
      position = get_or c.args.missing.now c.args.span.stream 0;
      from = within.0;
      to = within.1;
      cannot_come = are.cannot_come c.args.span.stream (omega (arith, c.requires, are.one_each));
    }
