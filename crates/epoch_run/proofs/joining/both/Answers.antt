use Rattle.std.proofs.Common.{◌≡◌, ◌+◌, ◌∙◌, ap, arith}
use Rattle.flow_core_laws.specs.Place.{places_from}
use Rattle.epoch_run.proofs.Both.{places_of_both}
use Rattle.epoch_run.proofs.joining.both.Goals as goal

pub returns : goal.returns
returns c =
    let one = c.args.one in
    let next = c.args.next in
    let same : one.stream ≡ next.stream = omega (arith, c.if-one-next.false) in
    let on : one.first + one.count ≡ next.first = omega (arith, c.if-one-from.false) in
    let more : c.in_ok-count.count ≡ one.count + next.count = omega (arith, c.in_ok-count.ensures) in
    record {
      places = ap (places_from one.stream one.first) more ∙ places_of_both one.stream next.stream one.first next.first one.count next.count same on;
      small = omega arith;
    }
