use Rattle.os_code.specs.Codes.{parts_of}
use Rattle.epoch_run_in_order.proofs.NextApart.{begins_apart}
use Rattle.epoch_run_in_order.proofs.apart.Apart.behind.Goals as goal

pub returns-clause-stands : goal.returns-clause-stands
returns-clause-stands c = λ all before input budget is writes_are.
    begins_apart (parts_of c.args.code.now) all before input budget c.args.first c.args.code.now.streams c.args.writes.now _ is c.requires.streams writes_are
    c.new-2.ensures c.in_ok-streams.ensures.elements c.in_ok-streams.ensures.firsts
