use Rattle.std.proofs.Common.{refl}
use Rattle.os_serve_answers.proofs.Ends.{served_all, served_stopped}
use Rattle.os_serve.specs.Commands.{IsReplyTo}
use Rattle.os_serve.proofs.serving.serve.Goals as goal

pub returns-in-Ok : goal.returns-in-Ok
returns-in-Ok g c =
    let a = c.answer_all in
    let e = c.in-Ok.ensures in
    served_all g.J.Files c.args.jobs.now a.new.jobs (IsReplyTo g.F.Files) c.args.files.now a.new.files g.O.Sink c.args.out.now a.new.out g.E.Sink
    c.args.report.now c.end.new.report c.args.name.now a.new.reading c.end.result e.2 e.1 e.0 c.end.ensures

pub returns : goal.returns
returns g c =
    let a = c.answer_all in
    rw c.status.ensures (served_stopped g.J.Files c.args.jobs.now a.new.jobs (IsReplyTo g.F.Files) c.args.files.now a.new.files g.O.Sink c.args.out.now
    a.new.out g.E.Sink c.args.report.now c.args.report.now c.args.name.now a.new.reading c.in-Err.stop c.in-Err.ensures refl)
