use Rattle.std.proofs.Common.{◌-◌, ◌++◌, ◌∙◌, List, Option, drop, length, refl, ap}
use Rattle.std.proofs.lemmas.List.{take_rest}
use Rattle.flow_core_laws.specs.declared.task_end.TaskEnd.{TaskEnd}
use Rattle.epoch_run_in_order.proofs.Joined.{joined_stands}
use Rattle.epoch_run_in_order.proofs.in_order.InOrder.join.Goals as goal

pub returns-clause-stands : goal.returns-clause-stands
returns-clause-stands c = λ code all before input budget many stands stands_apart.
    let first = c.args.apart.now.first in
    let past = c.len.result - first in
    joined_stands c.apart_and_joined.ensures.join code all before input budget first (length c.args.self.now.ends) c.args.self.now c.args.apart.now.order _
    refl c.requires.reaches c.requires.goes_on many
    (c.in_ok-extend_from_slice.ensures.ok
    ∙ ap (λ (es : List (Option TaskEnd)). c.args.self.now.ends ++ es)
    (take_rest c.as_slice.result.now past
    ∙ ap (λ (es : List (Option TaskEnd)). drop past es) c.as_slice.ensures
    ∙ ap (λ n. drop (n - first) c.args.apart.now.order.ends) c.len.ensures))
    c.in_ok-join.ensures stands stands_apart
