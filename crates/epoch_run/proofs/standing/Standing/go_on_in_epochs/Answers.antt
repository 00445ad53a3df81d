use Rattle.std.proofs.Common.{refl, []}
use Rattle.epoch_run.proofs.Going.{all_created, end_is, grows}
use Rattle.epoch_run.proofs.standing.Standing.go_on_in_epochs.Goals as goal

pub returns-clause-grows : goal.returns-clause-grows
returns-clause-grows g c =
    let m = c.in_ok-run_and_create.ensures.advanced in
    grows c.args.code.now c.args.input.now c.args.budgets c.args.self.now c.requires.budgets c.requires.stands c.args.size.activations c.run_and_create.new.self.control
    [] m.next refl m.advanced c.end.result c.end.ensures

pub returns-clause-all : goal.returns-clause-all
returns-clause-all g c =
    let m = c.in_ok-run_and_create.ensures.advanced in
    all_created c.args.code.now c.args.input.now c.args.budgets c.args.self.now c.requires.budgets c.requires.stands c.args.size.activations c.run_and_create.new.self.control
    [] m.next refl m.advanced c.end.result c.end.ensures

pub returns-clause-end : goal.returns-clause-end
returns-clause-end g c =
    let m = c.in_ok-run_and_create.ensures.advanced in
    end_is c.args.code.now c.args.input.now c.args.budgets c.args.self.now c.requires.budgets c.requires.stands c.args.size.activations c.run_and_create.new.self.control
    [] m.next refl m.advanced c.end.result c.end.ensures
