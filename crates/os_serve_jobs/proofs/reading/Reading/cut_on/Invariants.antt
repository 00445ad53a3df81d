use Rattle.std.proofs.Common.{◌≤◌, vec_len}
use Rattle.std.specs.Prelude.{max}
use Rattle.os_serve_jobs.specs.Cutting.{left_to_do}
use Rattle.os_serve_jobs.specs.Reading.{CutsOn, IsReading, waiting_lines}
use Rattle.os_serve_jobs.proofs.reading.Reading.cut_on.Given as goal

-- so far lines were cut off
abbrev pub invariant-cutting : goal.invariant-cutting
invariant-cutting l = record {
  is_reading : IsReading l.self;
  cuts : CutsOn l.initial.self l.self (waiting_lines l.initial.waiting.items) (waiting_lines l.waiting.items);
  few : vec_len l.waiting ≤ max l.most (vec_len l.initial.waiting);
}

abbrev pub decreases-cutting : goal.decreases-cutting
decreases-cutting l = left_to_do l.self
