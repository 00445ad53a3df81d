use Rattle.std.proofs.Common.{◌≡◌, ◌-◌, ◌≤◌, take, drop}
use Rattle.std.specs.Io.KnownBytes.{prepend_known}
use Rattle.os_io.specs.Counts.{raised}
use Rattle.ospack_slots.proofs.filling.fill_part.Given as goal

abbrev pub invariant-loop-past : goal.invariant-loop-past
invariant-loop-past g l = record {
  low : l.from ≤ l.past;
  high : l.past ≤ l.to;
  front : take l.from l.buffer ≡ take l.from l.initial.buffer;
  bytes : g.F.Files.rest l.initial.files ≡ prepend_known (drop l.from (take l.past l.buffer)) (g.F.Files.rest l.files);
  given : raised (g.F.Files.given l.files) 0 ≡ raised (g.F.Files.given l.initial.files) (l.past - l.from);
  no_fault : g.F.Files.faults l.files ≡ g.F.Files.faults l.initial.files;
  opens : g.F.Files.opens l.files ≡ g.F.Files.opens l.initial.files;
  holds : g.F.Files.holds l.files ≡ g.F.Files.holds l.initial.files;
  may : g.F.Files.may l.files ≡ g.F.Files.may l.initial.files;
}

abbrev pub decreases-loop-past : goal.decreases-loop-past
decreases-loop-past g l = l.to - l.past
