use Rattle.std.proofs.Common.{◌≡◌, drop, length}
use Rattle.epoch_run_in_order.specs.Writing.{with_spans}
use Rattle.epoch_run_in_order.proofs.streams.Streams.write_all.Given as goal

-- with what is written through the spans that are left the streams hold what they hold with all
abbrev pub invariant-loop-span : goal.invariant-loop-span
invariant-loop-span l = record {
  rest : with_spans l.root l.outputs l.self.elements (drop l.span-index l.spans) ≡ with_spans l.root l.outputs l.initial.self.elements l.spans;
  streams : length l.self.elements ≡ length l.initial.self.elements;
  firsts : l.self.firsts ≡ l.initial.self.firsts;
}
