use Rattle.std.proofs.Common.{◌≡◌, ◌+◌, ◌-◌, ◌≤◌, take, vec_len}
use Rattle.std.specs.Io.KnownBytes.{prepend_known}
use Rattle.os_io.proofs.reading.read_rest.Given as goal

abbrev pub invariant-loop-buffer : goal.invariant-loop-buffer
invariant-loop-buffer g l = record {
  filled : l.filled ≤ l.limit;
  room : l.filled ≤ vec_len l.buffer;
  within : vec_len l.buffer ≤ l.limit + 1;
  bytes : g.F.Files.rest l.initial.files ≡ prepend_known (take l.filled l.buffer.items) (g.F.Files.rest l.files);
  given : g.F.Files.given l.files ≡ l.filled;
  no_fault : g.F.Files.faults l.files ≡ g.F.Files.faults l.initial.files;
  opens : g.F.Files.opens l.files ≡ g.F.Files.opens l.initial.files;
  holds : g.F.Files.holds l.files ≡ g.F.Files.holds l.initial.files;
  may : g.F.Files.may l.files ≡ g.F.Files.may l.initial.files;
}

abbrev pub decreases-loop-buffer : goal.decreases-loop-buffer
decreases-loop-buffer g l = l.limit + 1 - l.filled
