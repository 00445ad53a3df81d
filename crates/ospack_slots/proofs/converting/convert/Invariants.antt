use Rattle.std.proofs.Common.{◌≡◌, length}
use Rattle.ospack_slots.specs.Formats.{format_of}
use Rattle.ospack_slots.specs.Turns.{WentSoFar}
use Rattle.ospack_slots.proofs.converting.convert.Given as goal

abbrev pub invariant-loop-number : goal.invariant-loop-number
invariant-loop-number g l = record {
  so_far : WentSoFar (format_of l.initial.way (length l.initial.slot)) l.number
      (record { left = g.F.Files.rest l.initial.files; given = g.F.Files.given l.initial.files; taken = g.S.Sink.taken l.initial.out })
      (record { left = g.F.Files.rest l.files; given = g.F.Files.given l.files; taken = g.S.Sink.taken l.out });
  no_read : g.F.Files.faults l.files ≡ g.F.Files.faults l.initial.files;
  not_failed : g.S.Sink.faults l.out ≡ g.S.Sink.faults l.initial.out;
  not_stuck : g.S.Sink.empty_takes l.out ≡ g.S.Sink.empty_takes l.initial.out;
  opens : g.F.Files.opens l.files ≡ g.F.Files.opens l.initial.files;
  holds : g.F.Files.holds l.files ≡ g.F.Files.holds l.initial.files;
  may : g.F.Files.may l.files ≡ g.F.Files.may l.initial.files;
}
