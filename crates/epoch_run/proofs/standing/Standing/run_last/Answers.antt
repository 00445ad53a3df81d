use Rattle.epoch_run.proofs.Going.{whole_layout}
use Rattle.epoch_run.proofs.standing.Standing.run_last.Goals as goal

pub runs_all-requires : goal.runs_all-requires
runs_all-requires g c = whole_layout c.args.code.now c.args.input.now c.args.budgets c.args.self.now c.requires.budgets c.requires.stands
