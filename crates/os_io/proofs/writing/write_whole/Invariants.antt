use Rattle.std.proofs.Common.{◌≡◌, ◌≤◌, ◌-◌, length, take}
use Rattle.std.specs.Io.KnownBytes.{append_known}
use Rattle.os_io.proofs.writing.write_whole.Given as goal

abbrev pub invariant-loop-written : goal.invariant-loop-written
invariant-loop-written g l = record {
  within : l.written ≤ length l.bytes;
  taken : g.S.Sink.taken l.sink ≡ append_known (g.S.Sink.taken l.initial.sink) (take l.written l.bytes);
  no_fault : g.S.Sink.faults l.sink ≡ g.S.Sink.faults l.initial.sink;
  empty_takes : g.S.Sink.empty_takes l.sink ≡ g.S.Sink.empty_takes l.initial.sink;
}

abbrev pub decreases-loop-written : goal.decreases-loop-written
decreases-loop-written g l = length l.bytes - l.written
