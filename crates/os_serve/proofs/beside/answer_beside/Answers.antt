use Rattle.os_serve_jobs.specs.Reading.{waiting_lines}
use Rattle.os_serve_jobs.proofs.ReadOn.{cuts_on}
use Rattle.os_serve.proofs.beside.answer_beside.Goals as goal

pub returns-then-is_err-clause-reads : goal.returns-then-is_err-clause-reads
returns-then-is_err-clause-reads g c told faults before has =
    let cut = c.cut_on-cut in
    cuts_on g.J.Files told faults c.args.jobs.now c.args.reading.now cut.new.self before (waiting_lines c.args.waiting.now.items)
    (waiting_lines cut.new.waiting.items) cut.ensures.cuts has

pub returns-clause-reads : goal.returns-clause-reads
returns-clause-reads g c told faults before has =
    let cut = c.cut_on-cut in
    c.both.ensures.reads told faults before
    (cuts_on g.J.Files told faults c.args.jobs.now c.args.reading.now cut.new.self before (waiting_lines c.args.waiting.now.items)
    (waiting_lines cut.new.waiting.items) cut.ensures.cuts has)
