use Rattle.std.proofs.Common.{◌≡◌, ◌≤◌, ◌-◌, vec_len}
use Rattle.os_serve_answers.specs.Between.{IsServing}
use Rattle.os_serve_jobs.specs.Reading.{IsReading, waiting_lines}
use Rattle.os_serve.specs.Commands.{IsReplyTo}
use Rattle.os_serve.proofs.answering.answer_all.Given as goal

-- the first jobs were answered, and at most 15 wait behind them
abbrev pub invariant-serving : goal.invariant-serving
invariant-serving g l = record {
  is_reading : IsReading l.reading;
  given : g.J.Files.given l.jobs ≡ l.reading.total;
  may : g.F.Files.may l.files ≡ g.F.Files.may l.initial.files;
  few : vec_len l.waiting ≤ 15;
  serving : IsServing g.J.Files (g.J.Files.holds l.fn.jobs l.name) (g.J.Files.faults l.fn.jobs) l.jobs l.reading (waiting_lines l.waiting.items)
      (IsReplyTo g.F.Files) l.initial.files l.files g.O.Sink l.initial.out l.out l.number;
}

-- how many jobs may still come
abbrev pub decreases-serving : goal.decreases-serving
decreases-serving g l = 4194306 - l.number
