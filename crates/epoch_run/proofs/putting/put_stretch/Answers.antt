use Rattle.epoch_run.proofs.Over.{over_other}
use Rattle.epoch_run.proofs.putting.put_stretch.Goals as goal

pub returns-else-leaving-eq1 : goal.returns-else-leaving-eq1
returns-else-leaving-eq1 c = over_other c.args.output.now c.args.values.now c.args.leaving.stream c.args.leaving.first c.args.leaving.count c.if-leaving-eq1.false
