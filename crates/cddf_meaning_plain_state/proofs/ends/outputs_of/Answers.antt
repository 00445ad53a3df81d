use Rattle.std.proofs.Common.{rules, ◌≤◌, length, drop, sym, ◌∙◌}
use Rattle.cddf_meaning_plain_state.proofs.Outputs.{outputs_of-end}
use Rattle.cddf_meaning_plain_state.proofs.ends.outputs_of.Goals as goal

pub returns-in_default : goal.returns-in_default
returns-in_default c =
    let items = c.args.items.now in
    let place = c.loop-place.place in
    let past : length items ≤ place = search (rules, c.get.ensures.lookup, c.in_default.is) in
    sym (outputs_of-end place (drop place c.args.claims.now) items c.loop-place.outputs.items past) ∙ c.loop-place.invariant
