use Rattle.std.proofs.Common.{rules}
use Rattle.std.specs.Prelude.{IsTrue}
use Rattle.control_run.specs.Stretches.{created_so_far}
use Rattle.epoch_run.proofs.InOrder.{gave_up_in_order, next_stretch}
use Rattle.epoch_run.proofs.in_order.run_stretch.Goals as goal

pub run_created-requires-clause-goes : goal.run_created-requires-clause-goes
run_created-requires-clause-goes g c κs within =
    let e = c.in_ok-create_stretch.ensures in
    (next_stretch c.args.code.now c.args.input.now c.args.budgets c.args.standing.now c.args.order.now c.requires.ran 256 c.create_stretch.new.standing
    e.created e.first (e.laid (created_so_far c.args.standing.now.control) c.requires.ran.goes.laid_out.laid) e.streams e.input).0

pub run_created-requires-clause-none_ran : goal.run_created-requires-clause-none_ran
run_created-requires-clause-none_ran g c κs within =
    let e = c.in_ok-create_stretch.ensures in
    (next_stretch c.args.code.now c.args.input.now c.args.budgets c.args.standing.now c.args.order.now c.requires.ran 256 c.create_stretch.new.standing
    e.created e.first (e.laid (created_so_far c.args.standing.now.control) c.requires.ran.goes.laid_out.laid) e.streams e.input).1

pub returns-clause-goes : goal.returns-clause-goes
returns-clause-goes g c =
    let on : IsTrue c.in_ok-all.all = search rules in
    let e = c.in_ok-give_up.ensures in
    (gave_up_in_order c.args.code.now c.args.input.now c.args.budgets c.run_created.new.standing c.run_created.new.order c.give_up.new.self (c.in_ok-all.ensures.all on)
    e.same e.ready e.stands).goes

pub returns-clause-all : goal.returns-clause-all
returns-clause-all g c = λ more.
    let on : IsTrue c.in_ok-all.all = search rules in
    let e = c.in_ok-give_up.ensures in
    gave_up_in_order c.args.code.now c.args.input.now c.args.budgets c.run_created.new.standing c.run_created.new.order c.give_up.new.self (c.in_ok-all.ensures.all on)
    e.same e.ready e.stands
