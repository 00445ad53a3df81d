use Rattle.std.proofs.Common.{◌≡◌, ◌∙◌, ◌++◌, List, OnOk, ap, codes, subst, ℕ}
use Rattle.os_io.specs.Lines.{ended_line}
use Rattle.osview_steps.specs.Lines.{hundredths}
use Rattle.osview_steps.specs.Tallies.{ratio}
use Rattle.osview_steps.proofs.Told.{joined}
use Rattle.osview_steps.proofs.telling.add_speed.Goals as goal

pub returns : goal.returns
returns c =
    subst (λ (x : List ℕ). OnOk c.add-2.result (c.add-2.new.self ≡ x))
    (joined c.args.told.now (codes "more workers can make the tasks ") (hundredths (ratio c.args.all c.args.longest)) (ended_line (codes " times as fast at most"))
    c.add.new.self c.add_hundredths.new.told c.in_ok-add.ensures
    (c.in_ok-add_hundredths.ensures ∙ ap (λ (n : ℕ). c.add.new.self ++ hundredths n) c.ratio.ensures))
    c.add-2.ensures
