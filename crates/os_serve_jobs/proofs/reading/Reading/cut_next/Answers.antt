use Rattle.std.proofs.Common.{arith}
use Rattle.os_serve_jobs.specs.Reading.{waiting_lines}
use Rattle.os_serve_jobs.proofs.ReadOn.{same_cut}
use Rattle.os_serve_jobs.proofs.reading.Reading.cut_next.Goals as goal

pub returns-clause-same : goal.returns-clause-same
returns-clause-same c =
    let s = c.args.self.now in
    same_cut (waiting_lines c.args.waiting.now.items) (waiting_lines c.cut.new.waiting.items) s.line.items c.cut.new.line.items c.deref.result.now s.piece.items
    s.next s.filled c.in_ok-count.count c.in_ok-count.ensures.cut c.deref.ensures.value (omega (arith, c.requires.some))
    (omega (arith, c.deref.ensures.len, c.requires.is_reading.filled_within))
