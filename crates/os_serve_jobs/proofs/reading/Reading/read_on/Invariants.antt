use Rattle.std.proofs.Common.{◌≡◌, ◌≤◌, vec_len}
use Rattle.std.specs.Prelude.{max}
use Rattle.os_serve_jobs.specs.Cutting.{left_to_do}
use Rattle.os_serve_jobs.specs.Reading.{IsReading, ReadsOn, waiting_lines}
use Rattle.os_serve_jobs.proofs.reading.Reading.read_on.Given as goal

-- so far it was read on
abbrev pub invariant-reading : goal.invariant-reading
invariant-reading g l = record {
  is_reading : IsReading l.self;
  given : g.J.Files.given l.jobs ≡ l.self.total;
  reads : ReadsOn g.J.Files l.initial.jobs l.jobs l.initial.self l.self (waiting_lines l.initial.waiting.items) (waiting_lines l.waiting.items);
  few : vec_len l.waiting ≤ max l.most (vec_len l.initial.waiting);
}

abbrev pub decreases-reading : goal.decreases-reading
decreases-reading g l = left_to_do l.self
