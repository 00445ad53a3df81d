use Rattle.epoch_run.proofs.PortionedOut.{first_ones_ran, portioned_out}
use Rattle.epoch_run.proofs.portions.lead.Goals as goal

pub lay_out_rest-requires : goal.lay_out_rest-requires
lay_out_rest-requires c = record { laid = record { code = c.args.code.now; input = c.args.input.now; budgets = c.args.budgets; are = c.requires.ran.goes.laid_out } }

pub returns : goal.returns
returns c =
    let e = c.in_ok-lay_out_rest.ensures in
    record {
      portioned = portioned_out c.args.code.now c.args.input.now c.args.budgets c.lay_out_rest.new.standing.control c.lay_out_rest.new.standing.layout c.join_one.new.order
          (e.laid c.args.code.now c.args.input.now c.args.budgets c.requires.ran.goes.laid_out) e.ended e.told
          (c.in_ok-join_one.ensures.ran c.args.code.now c.args.input.now c.args.budgets c.in_ok-apart.ensures.ready c.in_ok-apart.ensures.portion
          (first_ones_ran c.args.code.now c.args.input.now c.args.budgets c.args.standing.now c.args.order.now c.requires.ran));
      no_fewer = c.in_ok-join_one.ensures.no_fewer;
    }
