use Rattle.std.proofs.Common.{◌≡◌, ◌+◌, drop, length}
use Rattle.epoch_run.specs.NextSpans.{with_writers}
use Rattle.epoch_run.proofs.next_spans.add_writers.Given as goal

-- with the spans that are left they are the writers with all
abbrev pub invariant-loop-span : goal.invariant-loop-span
invariant-loop-span l = record {
  number_is : l.number ≡ l.first + l.span-index;
  rest : with_writers l.writers l.number (drop l.span-index l.spans) ≡ with_writers l.initial.writers l.first l.spans;
  streams : length l.writers ≡ length l.initial.writers;
}
