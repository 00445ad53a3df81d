use Rattle.std.proofs.Common.{◌≡◌, List, OnOk, codes, subst, ℕ}
use Rattle.osview_steps.specs.Lines.{tenths}
use Rattle.osview_steps.proofs.Told.{joined}
use Rattle.osview_steps.proofs.telling.add_share.Goals as goal

pub returns : goal.returns
returns c =
    subst (λ (x : List ℕ). OnOk c.add-2.result (c.add-2.new.self ≡ x))
    (joined c.args.told.now (codes ", ") (tenths c.args.share) (codes " % of the steps of the run") c.add.new.self c.add_tenths.new.told c.in_ok-add.ensures c.in_ok-add_tenths.ensures)
    c.add-2.ensures
