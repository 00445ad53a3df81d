use Rattle.std.proofs.Common.{◌+◌, List, subst, sym}
use Rattle.oscheck.specs.Warned.{AreWarned, and_here, not_here}
use Rattle.oscheck.specs.declared.warning.Warned.{Warned}
use Rattle.oscheck.proofs.warning.add_warned.Goals as goal

pub returns-in_ok-push : goal.returns-in_ok-push
returns-in_ok-push c = λ p means marked so_far.
    let w = c.in-Some.warned in
    subst (λ (ws : List Warned). AreWarned c.args.text.now c.args.tokens.now p means (c.args.place + 1) ws) (sym c.in_ok-push.ensures.items)
    (and_here w so_far c.in-Some.ensures.place c.in-Some.ensures.token (c.in-Some.ensures.some p means marked))

pub returns-in_default : goal.returns-in_default
returns-in_default c = λ p means marked so_far. not_here so_far (c.in_default.ensures.none p means marked)
