use Rattle.std.proofs.Common.{refl}
use Rattle.epoch_run_portions.proofs.Passing.{none_passed}
use Rattle.epoch_run_portions.proofs.positions.Positions.new.Goals as goal

pub returns : goal.returns
returns c = none_passed c.args.streams _ c.in_ok-new.ensures refl
