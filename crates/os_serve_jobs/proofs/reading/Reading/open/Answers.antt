use Rattle.std.proofs.Common.{◌∙◌, sym}
use Rattle.os_serve_jobs.proofs.ReadOn.{opened}
use Rattle.os_serve_jobs.proofs.reading.Reading.open.Goals as goal

pub returns-else-is_err-clause-begun : goal.returns-else-is_err-clause-begun
returns-else-is_err-clause-begun g c =
    opened g.J.Files (g.J.Files.holds c.args.jobs.now c.args.name.now) (g.J.Files.faults c.args.jobs.now) c.open.result (g.J.Files.rest c.args.jobs.now) c.open.new.self c.args.self.now
    (sym c.is_err.ensures.value ∙ c.if-is_err.false) c.open.ensures.rest c.open.ensures.no_fault c.open.ensures.given c.requires.fresh.none_left c.requires.fresh.is_open
