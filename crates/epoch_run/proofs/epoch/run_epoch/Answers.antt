use Rattle.std.proofs.Common.{arith, ◌∙◌, sym}
use Rattle.std.proofs.lemmas.List.{length-take}
use Rattle.os_code.specs.Codes.{parts_of}
use Rattle.os_code.specs.Outcomes.{main_control}
use Rattle.epoch_run.specs.Bodies.{all_of}
use Rattle.epoch_run.proofs.Step.{stays}
use Rattle.epoch_run.proofs.epoch.run_epoch.Goals as goal

pub returns-else-has_new : goal.returns-else-has_new
returns-else-has_new g c =
    let b = c.args.bodies.now in
    stays (parts_of b.code.now) (all_of b) c.args.input.now b.budgets.task c.args.held.now b.count
    (omega (arith, length-take b.count (main_control (parts_of b.code.now) b.input_len b.budgets.control).activations))
    c.requires.open.stands (sym c.has_new.ensures ∙ c.if-has_new.false)
