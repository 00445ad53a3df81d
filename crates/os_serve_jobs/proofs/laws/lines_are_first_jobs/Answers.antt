use Rattle.os_serve_jobs.proofs.FirstJobs.{are_first_jobs}
use Rattle.os_serve_jobs.proofs.laws.lines_are_first_jobs.Goals as goal

pub returns : goal.returns
returns g c told faults lines = are_first_jobs g.J.Files told faults c.args.jobs.now c.args.reading.now lines
