use Rattle.osrun_core_run.proofs.Telling.{never_empty}
use Rattle.osrun_core_run.proofs.reporting.MadeRunLines.write_to.Goals as goal

pub returns-clause-nothing : goal.returns-clause-nothing
returns-clause-nothing g c told = absurd (never_empty c.args.self.now told)
