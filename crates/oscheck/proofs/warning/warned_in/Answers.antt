use Rattle.std.proofs.Common.{List, subst, sym}
use Rattle.oscheck.specs.Warned.{AreWarned, at_the_front}
use Rattle.oscheck.specs.declared.warning.Warned.{Warned}
use Rattle.oscheck.proofs.warning.warned_in.Goals as goal

pub loop-place-init : goal.loop-place-init
loop-place-init c = λ p means marked. subst (λ (ws : List Warned). AreWarned c.args.text.now c.args.tokens.now p means 0 ws) (sym c.new-all.ensures.items) at_the_front
