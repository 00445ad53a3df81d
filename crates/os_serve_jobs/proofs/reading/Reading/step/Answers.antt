use Rattle.os_serve_jobs.specs.Reading.{waiting_lines}
use Rattle.os_serve_jobs.proofs.ReadOn.{cuts_more, cuts_none, cuts_on}
use Rattle.os_serve_jobs.proofs.reading.Reading.step.Goals as goal

pub returns-then-self-clause-reads : goal.returns-then-self-clause-reads
returns-then-self-clause-reads g c told faults before has =
    let e = c.cut_next.ensures in
    let old = waiting_lines c.args.waiting.now.items in
    let now = waiting_lines c.cut_next.new.waiting.items in
    cuts_on g.J.Files told faults c.args.jobs.now c.args.self.now c.cut_next.new.self before old now
    (cuts_more c.args.self.now c.args.self.now c.cut_next.new.self old old now (cuts_none c.args.self.now old) c.if-self.true
    c.requires.is_reading.filled_within e.same e.each e.source e.total)
    has
