use Rattle.std.proofs.Common.{List, Option, map, subst}
use Rattle.flow_core_laws.specs.declared.elem.Elem.{Elem}
use Rattle.stream_match.specs.Kept.{kept_of}
use Rattle.os_code.specs.Codes.{parts_of}
use Rattle.epoch_run_in_order.specs.Behind.{AreBehind}
use Rattle.epoch_run_in_order.proofs.StreamsBehind.{stands_behind}
use Rattle.epoch_run_in_order.proofs.in_order.InOrder.behind.Goals as goal

pub returns-clause-stands : goal.returns-clause-stands
returns-clause-stands c = λ all before input budget is held ended.
    stands_behind c.in_order_and_in_epochs.ensures.from_held (parts_of c.args.code.now) all before input budget c.args.layout.now c.args.ends.ends (map kept_of c.args.kept.now)
    c.args.ends.output _ c.requires.layout is c.reserve.ensures
    (subst (λ (output : List (Option Elem)). AreBehind c.args.layout.now output (map kept_of c.args.kept.now) c.in_ok-streams.streams) c.reserve-2.ensures c.in_ok-streams.ensures)
    held ended
